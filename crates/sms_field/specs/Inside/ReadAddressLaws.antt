-- A reader may pass this by: lemmas, for the proofs of this crate and of those above it.
--
-- What is read of octets has a spelling: addresses and stamps.
use Rattle.std.proofs.Common.{◌≡◌, ℕ, zero, suc, ◌-◌, ◌*◌, ◌/◌, ◌%◌, ◌<◌, ◌≤◌, Bool, true, false, cond, ltb, eqb, List, [], ◌∷◌, length, Ok, Err, refl, sym, ap, subst, arith}
use Rattle.std.specs.Prelude.{◌==◌, ◌&&◌, nat_le}
use Rattle.std.specs.List.{AllByRecursion}
use Rattle.std.proofs.lemmas.Bool.{ltb-true, leb-true, eqb-true, eqb-false, and_parts}
use Rattle.sms_text.specs.Octets.{IsOctets}
use Rattle.sms_field.specs.Field.{octet, octet_by, octets_of, up_to}
use Rattle.sms_field.specs.Reading.Values.{Has, Any}
use Rattle.sms_field.specs.Inside.ReadValueLaws.{has_chain}
use Rattle.sms_field.specs.Time.Stamp.{IsStamp}
use Rattle.sms_field.specs.Address.DigitOctets.{low_digit, both_digits, digits}
use Rattle.sms_field.specs.Address.NameOctets.{IsName, name}
use Rattle.sms_field.specs.Inside.NameSpelling.{name_fits}
use Rattle.sms_field.specs.Address.{symbols_by, address}
use Rattle.sms_field.specs.Address.Value.{HasSpelling, AreSymbolsOf, alphanumeric}
use Rattle.sms_field.specs.RelayAddress.{last_digits, relay_digits, relay_part, relay_address}
use Rattle.sms_field.specs.RelayAddress.Value.{HasOptionalSpelling}
use Rattle.sms_field.specs.declared.fault.FieldFault.TheVariants.{Short}
use Rattle.sms_field.specs.Address.Faults.{too_long, bad_digit}

-- ---- single fields

pub has_octet : {W : Type 0} (short : W) → Has (λ octet. octet < 256) (octet short)
has_octet short v octets rest are r = (subst IsOctets r are).0

pub has_stamp : {W : Type 0} (short : W) → Has IsStamp (octets_of short 7)
has_stamp short v octets rest are r = (r.1, subst IsOctets r.0 are)

record IsChosen {A : Type 0} (b : Bool) (x v : A) : Type 0 where
  tested : b ≡ true
  value : v ≡ x

-- what a test lets through
chosen : {A W : Type 0} (b : Bool) (x v : A) (why : W) → cond b (Ok x) (Err why) ≡ Ok v → IsChosen b x v
chosen true x v why e = record { tested = refl; value = cc }
chosen false x v why e = absurd cc

pub has_up_to : {W : Type 0} (short : W) (limit : ℕ) (why : W) → Has (λ octet. octet ≤ limit) (octet_by short (up_to limit why))
has_up_to short limit why v octets rest are r =
    let c = chosen (nat_le r.0 limit) r.0 v why r.2 in
    let few : r.0 ≤ limit = leb-true r.0 limit c.tested in
    subst (λ (n : ℕ). n ≤ limit) (sym c.value) few

-- ---- digits

abbrev EachDigit : List ℕ → Type 0
EachDigit values = AllByRecursion (λ digit. digit < 15) values

abbrev AreSome : ℕ → List ℕ → Type 0
AreSome n values = (length values ≡ n) × EachDigit values

has_low : Has (λ digit. digit < 15) (octet_by Short low_digit)
has_low v octets rest are r =
    let c = chosen (ltb (r.0 % 16) 15) (r.0 % 16) v bad_digit r.2 in
    let few : r.0 % 16 < 15 = ltb-true (r.0 % 16) 15 c.tested in
    subst (λ (n : ℕ). n < 15) (sym c.value) few

abbrev BothDigits : ℕ × ℕ → Type 0
BothDigits two = (two.0 < 15) × (two.1 < 15)

has_both : Has BothDigits (octet_by Short both_digits)
has_both v octets rest are r =
    let c = chosen (ltb (r.0 % 16) 15 && ltb (r.0 / 16) 15) (r.0 % 16, r.0 / 16) v bad_digit r.2 in
    let p = and_parts (ltb (r.0 % 16) 15) (ltb (r.0 / 16) 15) c.tested in
    subst BothDigits (sym c.value) (ltb-true (r.0 % 16) 15 p.0, ltb-true (r.0 / 16) 15 p.1)

has_digits : (n : ℕ) → Has (AreSome n) (digits n)
unfolding digits
has_digits zero = λ v octets rest are r. subst (AreSome 0) (sym r.0) (refl, tt)
has_digits (suc zero) = has_chain (λ digit. digit < 15) (AreSome 1) _ _ has_low (λ digit h. λ v octets rest are r. subst (AreSome 1) (sym r.0) (refl, (h, tt)))
has_digits (suc (suc n)) =
    has_chain BothDigits (AreSome (suc (suc n))) _ _ has_both (λ two h.
    has_chain (AreSome n) (AreSome (suc (suc n))) _ _ (has_digits n) (λ others k.
    λ v octets rest are r. subst (AreSome (suc (suc n))) (sym r.0) (ap (λ (m : ℕ). suc (suc m)) k.0, (h.0, (h.1, k.1)))))

-- ---- addresses of the transfer layer

has_name : (count : ℕ) → count ≤ 20 → Has IsName (name count)
unfolding name
has_name count few = has_chain Any IsName _ _ (λ v octets rest are r. tt) (λ octets h. λ v others rest are r. name_fits count (4 * count / 7) octets v few refl r.0)

has_symbols : (kind count : ℕ) (named : Bool) → eqb kind 5 ≡ named → count ≤ 20 → Has (AreSymbolsOf kind) (symbols_by named count)
unfolding symbols_by
has_symbols kind count true is few =
    has_chain IsName (AreSymbolsOf kind) _ _ (has_name count few) (λ septets h. λ v octets rest are r. subst (AreSymbolsOf kind) (sym r.0) (eqb-true kind 5 is, h))
has_symbols kind count false is few =
    has_chain (AreSome count) (AreSymbolsOf kind) _ _ (has_digits count) (λ values h. λ v octets rest are r. subst (AreSymbolsOf kind) (sym r.0) (eqb-false kind 5 is, record { few = omega (arith, few, h.0); each = h.1 }))

pub has_address : Has HasSpelling address
unfolding address
has_address =
    has_chain (λ count. count ≤ 20) HasSpelling _ _ (has_up_to Short 20 too_long) (λ count few.
    has_chain (λ kind. kind < 256) HasSpelling _ _ (has_octet Short) (λ kind small.
    has_chain (AreSymbolsOf (kind / 16 % 8)) HasSpelling _ _ (has_symbols (kind / 16 % 8) count (kind / 16 % 8 == alphanumeric) refl few) (λ symbols are_symbols.
    λ v octets rest are r. subst HasSpelling (sym r.0) (record { kind = omega arith; plan = omega arith; symbols = are_symbols }))))

-- ---- addresses of the relay layer

abbrev AreFew : ℕ → List ℕ → Type 0
AreFew n values = (length values ≤ 2 * n) × EachDigit values

last_by : (low high : ℕ) (b : Bool) → low < 15 → ltb high 15 ≡ b → AreFew 1 (cond b (low ∷ high ∷ []) (low ∷ []))
last_by low high true h e = let k : high < 15 = ltb-true high 15 e in (omega arith, (h, (k, tt)))
last_by low high false h e = (omega arith, (h, tt))

has_last : Has (AreFew 1) (octet_by Short last_digits)
has_last v octets rest are r =
    let c = chosen (ltb (r.0 % 16) 15) _ v bad_digit r.2 in
    let few : r.0 % 16 < 15 = ltb-true (r.0 % 16) 15 c.tested in
    subst (AreFew 1) (sym c.value) (last_by (r.0 % 16) (r.0 / 16) (ltb (r.0 / 16) 15) few refl)

has_relay_digits : (n : ℕ) → Has (AreFew n) (relay_digits n)
unfolding relay_digits
has_relay_digits zero = λ v octets rest are r. subst (AreFew 0) (sym r.0) (omega arith, tt)
has_relay_digits (suc zero) = has_last
has_relay_digits (suc (suc n)) =
    has_chain BothDigits (AreFew (suc (suc n))) _ _ has_both (λ two h.
    has_chain (AreFew (suc n)) (AreFew (suc (suc n))) _ _ (has_relay_digits (suc n)) (λ others k.
    λ v octets rest are r. subst (AreFew (suc (suc n))) (sym r.0) (omega (arith, k.0), (h.0, (h.1, k.1)))))

has_relay_part : (none : Bool) (count : ℕ) → count ≤ 10 → Has HasOptionalSpelling (relay_part none count)
unfolding relay_part
has_relay_part true count few = λ v octets rest are r. subst HasOptionalSpelling (sym r.0) tt
has_relay_part false count few =
    has_chain Any HasOptionalSpelling _ _ (λ v octets rest are r. tt) (λ kind h.
    has_chain (AreFew count) HasOptionalSpelling _ _ (has_relay_digits count) (λ values k.
    λ v octets rest are r. subst HasOptionalSpelling (sym r.0) (record { kind = omega arith; plan = omega arith; digits = record { few = omega (arith, few, k.0); each = k.1 } })))

pub has_relay_address : Has HasOptionalSpelling relay_address
unfolding relay_address
has_relay_address = has_chain (λ count. count ≤ 11) HasOptionalSpelling _ _ (has_up_to Short 11 too_long) (λ count few. has_relay_part (count == 0) (count - 1) (omega (arith, few)))
