-- A reader may pass this by: lemmas, for the proofs of this crate and of those above it.
--
-- User data are a lawful field, and what is written is read back.
use Rattle.std.proofs.Common.{◌≡◌, ℕ, suc, ◌+◌, ◌-◌, ◌*◌, ◌/◌, ◌<◌, ◌≤◌, Bool, true, false, cond, leb, List, [], ◌∷◌, ◌++◌, length, replicate, Option, Some, None, is_some, Result, Ok, Err, refl, sym, ap, subst, arith, lit<, length-append}
use Rattle.std.proofs.lemmas.Bool.{le-leb}
use Rattle.std.proofs.lemmas.List.{length-replicate}
use Rattle.sms_text.specs.Bits.{PackedPlain, AreSeptets, septet_bits}
use Rattle.sms_text.specs.Inside.PackingLaws.{unpacked-packed, plain_is_packed, length-octet_bits, length-septet_bits}
use Rattle.sms_text.specs.Octets.{IsOctets}
use Rattle.sms_field.specs.Field.{IsLawful, IsSelfContained}
use Rattle.sms_field.specs.Address.{up_to}
use Rattle.sms_field.specs.declared.coding.Alphabet.{Alphabet}
use Rattle.sms_field.specs.declared.coding.Alphabet.TheVariants.{Gsm7, EightBit, Ucs2, Compressed}
use Rattle.sms_field.specs.Inside.ChainReading.{chained, ended}
use Rattle.sms_field.specs.Inside.ChainLaws.{chain_lawful, chain_self_contained}
use Rattle.sms_field.specs.Inside.OctetLists.{octets-append}
use Rattle.sms_field.specs.Inside.SingleLaws.{always_self, always_lawful, octet_by_self, octet_by_lawful, octets_of_self, octets_of_lawful, apart_else}
use Rattle.sms_tpdu.specs.UserData.Lengths.{greatest_length, octets_of_length, length_of_header, fill_bits}
use Rattle.sms_tpdu.specs.UserData.{header_octets, BodyFits, FitsAlphabet, body_of, length_with_header, header_length, user_data, has_header, data_length, SpellsBody, SpellsUserData}
use Rattle.sms_tpdu.specs.declared.fault.UnitFault.{UnitFault}
use Rattle.sms_tpdu.specs.declared.fault.UnitFault.TheVariants.{Short, DataTooLong, HeaderTooLong}
use Rattle.sms_tpdu.specs.declared.user_data.body.Body.{Body}
use Rattle.sms_tpdu.specs.declared.user_data.body.Body.TheVariants as body
use Rattle.sms_tpdu.specs.declared.user_data.UserData.{UserData}

-- some length is read, and some has room for a header
any_length : (alphabet : Alphabet) → up_to (greatest_length alphabet) DataTooLong 0 ≡ Ok 0
any_length Gsm7 = refl
any_length EightBit = refl
any_length Ucs2 = refl
any_length Compressed = refl

length_for_any : (alphabet : Alphabet) → length_with_header alphabet 140 ≡ Ok 140
length_for_any Gsm7 = refl
length_for_any EightBit = refl
length_for_any Ucs2 = refl
length_for_any Compressed = refl

abbrev ok : ℕ → Result ℕ UnitFault
ok n = Ok n

same_ok : (a b : ℕ) → ok a ≡ ok b → a ≡ b
same_ok a b e = cc

-- a length that has room for the shortest header has it for the header of length 0
has_room : (alphabet : Alphabet) (o count : ℕ) → length_with_header alphabet o ≡ Ok count → header_length alphabet count 0 ≡ Ok 0
has_room alphabet o count e = go (leb o (greatest_length alphabet)) (leb (length_of_header alphabet 1) o) refl e
  where
    go : (a b : Bool) → leb (length_of_header alphabet 1) o ≡ b → cond a (cond b (Ok o) (Err HeaderTooLong)) (Err DataTooLong) ≡ Ok count → header_length alphabet count 0 ≡ Ok 0
    go true true is f = subst (λ (n : ℕ). header_length alphabet n 0 ≡ Ok 0) (same_ok o count f) (rw is refl)
    go true false is f = absurd cc
    go false b is f = absurd cc

length_apart : (a b : Bool) (o : ℕ) → cond a (cond b (Ok o) (Err HeaderTooLong)) (Err DataTooLong) ≡ Err Short → ⊥
length_apart true true o e = cc
length_apart true false o e = cc
length_apart false b o e = cc

pub user_data_self : (with_header : Bool) (alphabet : Alphabet) → IsSelfContained (user_data with_header alphabet)
unfolding user_data
user_data_self false alphabet =
    chain_self_contained _ _ (octet_by_self Short (up_to (greatest_length alphabet) DataTooLong)) (λ count.
    chain_self_contained _ _ (octets_of_self Short (octets_of_length alphabet count)) (λ octets.
    always_self UnitFault _))
user_data_self true alphabet =
    chain_self_contained _ _ (octet_by_self Short (length_with_header alphabet)) (λ count.
    chain_self_contained _ _ (octet_by_self Short (header_length alphabet count)) (λ size.
    chain_self_contained _ _ (octets_of_self Short size) (λ header.
    chain_self_contained _ _ (octets_of_self Short (octets_of_length alphabet count - (size + 1))) (λ octets.
    always_self UnitFault _))))

pub user_data_lawful : (with_header : Bool) (alphabet : Alphabet) → IsLawful Short (user_data with_header alphabet)
unfolding user_data
user_data_lawful false alphabet =
    chain_lawful _ _ Short (octet_by_self Short (up_to (greatest_length alphabet) DataTooLong)) (octet_by_lawful Short (up_to (greatest_length alphabet) DataTooLong) (0, lit< tt, 0, any_length alphabet) (λ o. apart_else Short (leb o (greatest_length alphabet)) o DataTooLong (λ e. cc))) (λ count _ _ _.
    chain_lawful _ _ Short (octets_of_self Short (octets_of_length alphabet count)) (octets_of_lawful Short (octets_of_length alphabet count)) (λ octets _ _ _.
    always_lawful Short _))
user_data_lawful true alphabet =
    chain_lawful _ _ Short (octet_by_self Short (length_with_header alphabet)) (octet_by_lawful Short (length_with_header alphabet) (140, lit< tt, 140, length_for_any alphabet) (λ o. length_apart (leb o (greatest_length alphabet)) (leb (length_of_header alphabet 1) o) o)) (λ count octets rest p.
    chain_lawful _ _ Short (octet_by_self Short (header_length alphabet count)) (octet_by_lawful Short (header_length alphabet count) (0, lit< tt, 0, has_room alphabet p.0 count p.2) (λ o. apart_else Short (leb (length_of_header alphabet (o + 1)) count) o HeaderTooLong (λ e. cc))) (λ size _ _ _.
    chain_lawful _ _ Short (octets_of_self Short size) (octets_of_lawful Short size) (λ header _ _ _.
    chain_lawful _ _ Short (octets_of_self Short (octets_of_length alphabet count - (size + 1))) (octets_of_lawful Short (octets_of_length alphabet count - (size + 1))) (λ octets _ _ _.
    always_lawful Short _))))

-- ---- what is written

packed_bits : (fill : ℕ) (septets written : List ℕ) → PackedPlain fill septets written → (spare : ℕ) × (spare < 8) × (8 * length written ≡ fill + 7 * length septets + spare)
packed_bits fill septets written p =
    let front : List ℕ = replicate fill 0 in
    let back : List ℕ = replicate p.spare 0 in
    (p.spare, p.few, omega (arith, ap length p.parts, length-octet_bits written, length-append front (septet_bits septets ++ back), length-append (septet_bits septets) back, length-append (front ++ septet_bits septets) back, length-append front (septet_bits septets), length-septet_bits septets, length-replicate {A = ℕ} fill 0, length-replicate {A = ℕ} p.spare 0))

-- a body after the octets of a header, as it is written: the length is in range and has room for
-- the header, the body takes the octets that are left, and they are read as it
record IsReadAgain (alphabet : Alphabet) (taken : ℕ) (b : Body) (written : List ℕ) : Type 0 where
  few : data_length taken b ≤ greatest_length alphabet
  room : length_of_header alphabet taken ≤ data_length taken b
  size : length written ≡ octets_of_length alphabet (data_length taken b) - taken
  same : body_of alphabet taken (data_length taken b) written ≡ b

left_over : (a b : ℕ) → (a + b) - a ≡ b
left_over a b = omega arith

septets_again : (taken : ℕ) (s written : List ℕ) → length_of_header Gsm7 taken + length s ≤ 160 → AreSeptets s → PackedPlain (fill_bits taken) s written → IsReadAgain Gsm7 taken (body.Septets s) written
septets_again taken s written few septets p =
    let units : ℕ = (8 * taken + 6) / 7 in
    let bits = packed_bits (fill_bits taken) s written p in
    let eights : 8 * length written ≡ (7 * units - 8 * taken) + 7 * length s + bits.0 = bits.2 in
    let spare : bits.0 < 8 = bits.1 in
    record {
      few = few;
      room = omega arith;
      size = omega (arith, eights, spare);
      same = ap body.Septets (rw (left_over units (length s)) (unpacked-packed (fill_bits taken) s written septets (plain_is_packed (fill_bits taken) s written p)));
    }

octets_again : (alphabet : Alphabet) (taken : ℕ) (o written : List ℕ) → written ≡ o → taken + length o ≤ 140 → length written ≡ (taken + length o) - taken
octets_again alphabet taken o written e few = omega (arith, ap length e)

body_again : (alphabet : Alphabet) (taken : ℕ) (b : Body) (written : List ℕ) → BodyFits alphabet taken b → SpellsBody taken b written → IsReadAgain alphabet taken b written
body_again Gsm7 taken (body.Septets s) written fits p = septets_again taken s written fits.0 fits.1 p.0
body_again Gsm7 taken (body.Octets o) written fits p = absurd fits
body_again EightBit taken (body.Septets s) written fits p = absurd fits
body_again EightBit taken (body.Octets o) written fits p = record { few = fits.0; room = omega arith; size = octets_again EightBit taken o written p fits.0; same = ap body.Octets p }
body_again Ucs2 taken (body.Septets s) written fits p = absurd fits
body_again Ucs2 taken (body.Octets o) written fits p = record { few = fits.0; room = omega arith; size = octets_again Ucs2 taken o written p fits.0; same = ap body.Octets p }
body_again Compressed taken (body.Septets s) written fits p = absurd fits
body_again Compressed taken (body.Octets o) written fits p = record { few = fits.0; room = omega arith; size = octets_again Compressed taken o written p fits.0; same = ap body.Octets p }

counted : (limit n : ℕ) → n ≤ limit → up_to limit DataTooLong n ≡ Ok n
counted limit n h = rw (le-leb n limit h) refl

some_room : (alphabet : Alphabet) (size : ℕ) → length_of_header alphabet 1 ≤ length_of_header alphabet (size + 1)
some_room Gsm7 size = omega arith
some_room EightBit size = omega arith
some_room Ucs2 size = omega arith
some_room Compressed size = omega arith

counted_with_header : (alphabet : Alphabet) (n : ℕ) → n ≤ greatest_length alphabet → length_of_header alphabet 1 ≤ n → length_with_header alphabet n ≡ Ok n
counted_with_header alphabet n few room = rw (le-leb n (greatest_length alphabet) few, le-leb (length_of_header alphabet 1) n room) refl

fits_header : (alphabet : Alphabet) (count size : ℕ) → length_of_header alphabet (size + 1) ≤ count → header_length alphabet count size ≡ Ok size
fits_header alphabet count size room = rw (le-leb (length_of_header alphabet (size + 1)) count room) refl

data_again : (alphabet : Alphabet) (header : Option (List ℕ)) (b : Body) (written rest : List ℕ) → IsReadAgain alphabet (length (header_octets header)) b written
    → (user_data (is_some header) alphabet).reads (record { header = header; body = b }) (data_length (length (header_octets header)) b ∷ (header_octets header ++ written)) rest
unfolding user_data
data_again alphabet None b written rest h =
    let count : ℕ = data_length 0 b in
    let user : UserData = record { header = None; body = b } in
    chained _ _ count user (count ∷ []) written rest (count, refl, counted (greatest_length alphabet) count h.few) (
    ended _ _ written user written rest (refl, omega (arith, h.size))
    (ap (λ (x : Body). let v : UserData = record { header = None; body = x } in v) (sym h.same), refl))
data_again alphabet (Some header) b written rest h =
    let size : ℕ = length header in
    let count : ℕ = data_length (suc size) b in
    let user : UserData = record { header = Some header; body = b } in
    let next : suc size ≡ size + 1 = omega arith in
    let room : length_of_header alphabet (size + 1) ≤ count = subst (λ (n : ℕ). length_of_header alphabet n ≤ count) next h.room in
    let left : length written ≡ octets_of_length alphabet count - (size + 1) = subst (λ (n : ℕ). length written ≡ octets_of_length alphabet count - n) next h.size in
    let same : body_of alphabet (size + 1) count written ≡ b = subst (λ (n : ℕ). body_of alphabet n count written ≡ b) next h.same in
    chained _ _ count user (count ∷ []) _ rest (count, refl, counted_with_header alphabet count h.few (omega (arith, some_room alphabet size, room))) (
    chained _ _ size user (size ∷ []) _ rest (size, refl, fits_header alphabet count size room) (
    chained _ _ header user header written rest (refl, refl) (
    ended _ _ written user written rest (refl, left)
    (ap (λ (x : Body). let v : UserData = record { header = Some header; body = x } in v) (sym same), refl))))

pub user_data_again : (alphabet : Alphabet) (u : UserData) (octets rest : List ℕ) → FitsAlphabet alphabet u → SpellsUserData u octets → (user_data (has_header u) alphabet).reads u octets rest
user_data_again alphabet u octets rest fits p =
    let h = body_again alphabet (length (header_octets u.header)) u.body p.written fits.1 p.spells_body in
    subst (λ (l : List ℕ). (user_data (has_header u) alphabet).reads u l rest) (sym p.parts) (data_again alphabet u.header u.body p.written rest h)

body_are_octets : (alphabet : Alphabet) (taken : ℕ) (b : Body) (written : List ℕ) → BodyFits alphabet taken b → SpellsBody taken b written → (data_length taken b < 256) × IsOctets written
body_are_octets Gsm7 taken (body.Septets s) written fits p = (omega (arith, fits.0), p.1)
body_are_octets Gsm7 taken (body.Octets o) written fits p = absurd fits
body_are_octets EightBit taken (body.Septets s) written fits p = absurd fits
body_are_octets EightBit taken (body.Octets o) written fits p = (omega (arith, fits.0), subst IsOctets (sym p) fits.1)
body_are_octets Ucs2 taken (body.Septets s) written fits p = absurd fits
body_are_octets Ucs2 taken (body.Octets o) written fits p = (omega (arith, fits.0), subst IsOctets (sym p) fits.1)
body_are_octets Compressed taken (body.Septets s) written fits p = absurd fits
body_are_octets Compressed taken (body.Octets o) written fits p = (omega (arith, fits.0), subst IsOctets (sym p) fits.1)

pub user_data_are_octets : (alphabet : Alphabet) (u : UserData) (octets : List ℕ) → FitsAlphabet alphabet u → SpellsUserData u octets → IsOctets octets
user_data_are_octets alphabet u octets fits p =
    let h = body_are_octets alphabet (length (header_octets u.header)) u.body p.written fits.1 p.spells_body in
    subst IsOctets (sym p.parts) (h.0, octets-append (header_octets u.header) p.written fits.0 h.1)
