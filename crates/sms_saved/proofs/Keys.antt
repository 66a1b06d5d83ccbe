-- Keys are read as they are spelled.
use Rattle.std.proofs.Common.{◌≡◌, ℕ, zero, suc, ◌-◌, ◌^◌, ◌<◌, true, List, [], ◌∷◌, ◌++◌, length, take, Ok, refl, sym, ap, subst, ◌∙◌, append_assoc, arith}
use Rattle.std.specs.Prelude.{IfSome}
use Rattle.std.specs.Int.{w16}
use Rattle.std.proofs.lemmas.List.{take_at, length-append}
use Rattle.std.proofs.lemmas.Bool.{leb-true, le-leb}
use Rattle.sms_saved.specs.declared.fault.StateFault.TheVariants.{LongAddress}
use Rattle.sms_saved.specs.declared.state.Message.{Message}
use Rattle.sms_saved.specs.declared.state.Message.TheVariants.{Single, Segmented}
use Rattle.sms_saved.specs.declared.state.Width.{Width}
use Rattle.sms_saved.specs.declared.state.Width.TheVariants.{Eight, Sixteen}
use Rattle.sms_saved.specs.declared.state.Key.{Key}
use Rattle.sms_saved.specs.Fits.{MessageFits, AddressFits, KeyFits}
use Rattle.sms_saved.specs.Spelling.{octet, two, string, address, optional, form_of, message, key}
use Rattle.sms_saved.specs.Reading.Fields.{octet_at, number_at, octets_at, string_at, optional_at}
use Rattle.sms_saved.specs.Reading.Keys.{is_address, address_at, segmented_at, message_at, key_at}
use Rattle.sms_saved.proofs.TakenFields.{IsBytes, IsBytes-rest, bind_ok, ok_is, Takes, Takes-then, Reads, reads_as, reads_tested}
use Rattle.sms_saved.proofs.Numbers.{reads_octet, reads_two, reads_octets}
use Rattle.sms_saved.proofs.Strings.{reads_string, reads_optional}

reads_short : Reads (string_at octet_at) (string octet) (λ octets. length octets < 2 ^ 8)
reads_short = reads_string octet_at octet (2 ^ 8) reads_octet

pub reads_address : Reads address_at address AddressFits
reads_address = reads_as address_at address (λ octets. (length octets < 2 ^ 8) × (is_address octets ≡ true)) AddressFits
    (λ octets fits. leb-true _ _ fits.1) (λ octets fits. (omega (arith, fits), le-leb _ _ fits)) (reads_tested is_address LongAddress (string_at octet_at) (string octet) (λ octets. length octets < 2 ^ 8) reads_short)

-- ---- which message it is

abbrev pub rest_of_segmented : ℕ → ℕ → List ℕ
rest_of_segmented reference maximum = two reference ++ octet maximum

abbrev SegmentedSo : Width → List ℕ → Message × List ℕ → Type 0
SegmentedSo width bytes x = (reference : ℕ) × (maximum : ℕ) × (x.0 ≡ Segmented width reference maximum) × Takes bytes (rest_of_segmented reference maximum) x.1 × MessageFits (Segmented width reference maximum)

segmented_takes : (width : Width) (bytes : List ℕ) (x : Message × List ℕ) → IsBytes bytes → segmented_at width bytes ≡ Ok x → SegmentedSo width bytes x
unfolding segmented_at
segmented_takes width bytes x fits e =
    let a = bind_ok (number_at w16 bytes) _ x e in
    let b = bind_ok (octet_at a.0.1) _ x a.2 in
    let t0 = reads_two.takes bytes a.0 fits a.1 in
    let t1 = reads_octet.takes a.0.1 b.0 t0.0.rest_fits b.1 in
    let both = Takes-then bytes (two a.0.0) a.0.1 (octet b.0.0) b.0.1 t0.0 t1.0 in
    let made : Message × List ℕ = (Segmented width a.0.0 b.0.0, b.0.1) in
    subst (SegmentedSo width bytes) (ok_is made x b.2) (a.0.0, b.0.0, refl, both, (t0.1, t1.1))

segmented_again : (width : Width) (reference maximum : ℕ) (rest : List ℕ) → MessageFits (Segmented width reference maximum) → segmented_at width (rest_of_segmented reference maximum ++ rest) ≡ Ok (Segmented width reference maximum, rest)
unfolding segmented_at
segmented_again width reference maximum rest fits =
    ap (segmented_at width) (append_assoc (two reference) (octet maximum) rest)
    ∙ rw (reads_two.again reference (octet maximum ++ rest) fits.0) refl

-- behind the octet that says its form
behind : (width : Width) (bytes : List ℕ) (x : Message × List ℕ) → SegmentedSo width bytes x → Takes (form_of width ∷ bytes) (message x.0) x.1 × MessageFits x.0
behind width bytes x s =
    let t : Takes (form_of width ∷ bytes) (message (Segmented width s.0 s.1)) x.1 = record { parts = ap (λ (w : List ℕ). form_of width ∷ w) s.3.parts; rest_fits = s.3.rest_fits } in
    subst (λ (m : Message). Takes (form_of width ∷ bytes) (message m) x.1 × MessageFits m) (sym s.2) (t, s.4)

message_takes : (bytes : List ℕ) (x : Message × List ℕ) → IsBytes bytes → message_at bytes ≡ Ok x → Takes bytes (message x.0) x.1 × MessageFits x.0
unfolding message_at
message_takes [] x fits e = absurd cc
message_takes (zero ∷ bytes) x fits e =
    let b = bind_ok (octets_at 7 bytes) (λ n. Ok (Single n.0, n.1)) x e in
    let t = (reads_octets 7).takes bytes b.0 (IsBytes-rest 0 bytes fits) b.1 in
    let made : Message × List ℕ = (Single b.0.0, b.0.1) in
    subst (λ (y : Message × List ℕ). Takes (0 ∷ bytes) (message y.0) y.1 × MessageFits y.0) (ok_is made x b.2) (record { parts = ap (λ (w : List ℕ). 0 ∷ w) t.0.parts; rest_fits = t.0.rest_fits }, t.1)
message_takes (suc zero ∷ bytes) x fits e = behind Eight bytes x (segmented_takes Eight bytes x (IsBytes-rest 1 bytes fits) e)
message_takes (suc (suc zero) ∷ bytes) x fits e = behind Sixteen bytes x (segmented_takes Sixteen bytes x (IsBytes-rest 2 bytes fits) e)
message_takes (suc (suc (suc b)) ∷ bytes) x fits e = absurd cc

message_again : (m : Message) (rest : List ℕ) → MessageFits m → message_at (message m ++ rest) ≡ Ok (m, rest)
unfolding message_at
message_again (Single stamp) rest fits = rw ((reads_octets 7).again stamp rest fits) refl
message_again (Segmented Eight reference maximum) rest fits = segmented_again Eight reference maximum rest fits
message_again (Segmented Sixteen reference maximum) rest fits = segmented_again Sixteen reference maximum rest fits

reads_message : Reads message_at message MessageFits
reads_message = record { takes = message_takes; again = message_again }

-- ---- keys

reads_recipient : Reads (optional_at address_at) (optional address) (λ o. IfSome o AddressFits)
reads_recipient = reads_optional address_at address AddressFits reads_address

-- the texts of several fields, and what follows
pub regroup3 : (a b c rest : List ℕ) → (a ++ b ++ c) ++ rest ≡ a ++ (b ++ (c ++ rest))
regroup3 a b c rest = append_assoc (a ++ b) c rest ∙ append_assoc a b (c ++ rest)

key_takes : (bytes : List ℕ) (x : Key × List ℕ) → IsBytes bytes → key_at bytes ≡ Ok x → Takes bytes (key x.0) x.1 × KeyFits x.0
unfolding key_at key
key_takes bytes x fits e =
    let a = bind_ok (address_at bytes) _ x e in
    let b = bind_ok (optional_at address_at a.0.1) _ x a.2 in
    let c = bind_ok (message_at b.0.1) _ x b.2 in
    let t0 = reads_address.takes bytes a.0 fits a.1 in
    let t1 = reads_recipient.takes a.0.1 b.0 t0.0.rest_fits b.1 in
    let t2 = reads_message.takes b.0.1 c.0 t1.0.rest_fits c.1 in
    let e1 = Takes-then bytes (address a.0.0) a.0.1 (optional address b.0.0) b.0.1 t0.0 t1.0 in
    let e2 = Takes-then bytes (address a.0.0 ++ optional address b.0.0) b.0.1 (message c.0.0) c.0.1 e1 t2.0 in
    let made : Key × List ℕ = (record { origin = a.0.0; recipient = b.0.0; message = c.0.0 }, c.0.1) in
    subst (λ (y : Key × List ℕ). Takes bytes (key y.0) y.1 × KeyFits y.0) (ok_is made x c.2) (e2, record { origin = t0.1; recipient = t1.1; message = t2.1 })

key_again : (k : Key) (rest : List ℕ) → KeyFits k → key_at (key k ++ rest) ≡ Ok (k, rest)
unfolding key_at key
key_again k rest fits =
    let r2 : List ℕ = message k.message ++ rest in
    let r1 : List ℕ = optional address k.recipient ++ r2 in
    ap key_at (regroup3 (address k.origin) (optional address k.recipient) (message k.message) rest)
    ∙ rw (reads_address.again k.origin r1 fits.origin, reads_recipient.again k.recipient r2 fits.recipient, reads_message.again k.message rest fits.message) refl

pub reads_key : Reads key_at key KeyFits
reads_key = record { takes = key_takes; again = key_again }

-- the octets of a key that was read
pub key_octets : (bytes rest : List ℕ) (k : Key) (count : ℕ) → IsBytes bytes → key_at bytes ≡ Ok (k, rest) → count ≡ length bytes - length rest → take count bytes ≡ key k
key_octets bytes rest k count fits e len =
    let t = reads_key.takes bytes (k, rest) fits e in
    ap (take count) t.0.parts ∙ take_at (key k) rest count (omega (arith, length-append (key k) rest, ap (λ (l : List ℕ). length l) t.0.parts))

pub own_octets : (a b : Key) (x y : List ℕ) → KeyFits a → KeyFits b → key a ++ x ≡ key b ++ y → (a ≡ b) × (x ≡ y)
own_octets a b x y fa fb e =
    let p : Key × List ℕ = (a, x) in
    let q : Key × List ℕ = (b, y) in
    let same : p ≡ q = ok_is p q (sym (reads_key.again a x fa) ∙ ap key_at e ∙ reads_key.again b y fb) in
    (ap (λ (z : Key × List ℕ). z.0) same, ap (λ (z : Key × List ℕ). z.1) same)
