-- An address is written as the octets that it is read from just where these are plain.
use Rattle.std.proofs.Common.{◌≡◌, ℕ, suc, ◌+◌, ◌-◌, ◌*◌, ◌/◌, ◌%◌, ◌^◌, ◌<◌, ◌≤◌, ◌⊎◌, inl, inr, Bool, true, false, cond, leb, eqb, List, [], ◌∷◌, ◌++◌, length, slice_index, Result, Ok, Err, refl, sym, ap, subst, ◌∙◌, length-append, arith}
use Rattle.std.specs.Prelude.{◌&&◌, ◌||◌, ◌==◌}
use Rattle.std.proofs.lemmas.Bool.{and_parts, and_from, or_cases, or_left, or_right, leb-true, le-leb, eqb-true, eqb-false, eq-eqb}
use Rattle.std.proofs.lemmas.List.{append-nil}
use Rattle.sms_text.specs.Bits.{unpacked}
use Rattle.sms_text.specs.Octets.{IsOctets}
use Rattle.sms_text.specs.Inside.PackingLaws.{unpacked_septets}
use Rattle.sms_field.specs.declared.symbols.Symbols.{Symbols}
use Rattle.sms_field.specs.declared.symbols.Symbols.TheVariants.{Digits, Name}
use Rattle.sms_field.specs.declared.fault.FieldFault.{FieldFault}
use Rattle.sms_field.specs.Address.Faults.{too_long}
use Rattle.sms_field.specs.Address.DigitOctets.{digits, digit_octets}
use Rattle.sms_field.specs.Address.NameOctets.{name, name_octets, name_length}
use Rattle.sms_field.specs.Address.Value.{AddressValue, HasSpelling, AreSymbolsOf, alphanumeric}
use Rattle.sms_field.specs.Address.{up_to, symbols_by, symbols_length, symbols_octets, address, address_octets}
use Rattle.sms_field.specs.Inside.NameSpelling.{length-name_octets}
use Rattle.sms_field.specs.Inside.OctetLists.{octets_front}
use Rattle.sms_field.specs.Reading.{Reads}
use Rattle.sms_keep.specs.Inside.Plain.{is_plain, are_plain, are_needed, is_filled, is_clear}
use Rattle.sms_keep.proofs.PlainDigits.{Filled, as_many, as_written, half_as_many, is_filled_so}
use Rattle.sms_keep.proofs.PlainNames.{IsClear, name_written, written_clear}

-- ---- the tests

filled_since : (count : ℕ) (symbols : List ℕ) → is_filled count symbols ≡ true → Filled count symbols
filled_since count symbols e = by (or_cases _ _ e) where
  by : ((count % 2 == 0) ≡ true) ⊎ (leb 240 (slice_index symbols (count / 2)) ≡ true) → Filled count symbols
  by (inl h) = inl (eqb-true (count % 2) 0 h)
  by (inr h) = inr (leb-true 240 (slice_index symbols (count / 2)) h)

filled_from : (count : ℕ) (symbols : List ℕ) → Filled count symbols → is_filled count symbols ≡ true
filled_from count symbols (inl h) = or_left (eqb (count % 2) 0) (leb 240 (slice_index symbols (count / 2))) (eq-eqb (count % 2) 0 h)
filled_from count symbols (inr h) = or_right (eqb (count % 2) 0) (leb 240 (slice_index symbols (count / 2))) (le-leb 240 (slice_index symbols (count / 2)) h)

clear_since : (count : ℕ) (symbols : List ℕ) → is_clear count symbols ≡ true → IsClear count symbols
clear_since count symbols e = by (or_cases _ _ e) where
  by : ((count % 8 == 0) ≡ true) ⊎ ((slice_index symbols (7 * count / 8) / 2 ^ (8 - count % 8) == 0) ≡ true) → IsClear count symbols
  by (inl h) = inl (eqb-true (count % 8) 0 h)
  by (inr h) = inr (eqb-true (slice_index symbols (7 * count / 8) / 2 ^ (8 - count % 8)) 0 h)

clear_from : (count : ℕ) (symbols : List ℕ) → IsClear count symbols → is_clear count symbols ≡ true
clear_from count symbols (inl h) = or_left (eqb (count % 8) 0) (eqb (slice_index symbols (7 * count / 8) / 2 ^ (8 - count % 8)) 0) (eq-eqb (count % 8) 0 h)
clear_from count symbols (inr h) = or_right (eqb (count % 8) 0) (eqb (slice_index symbols (7 * count / 8) / 2 ^ (8 - count % 8)) 0) (eq-eqb (slice_index symbols (7 * count / 8) / 2 ^ (8 - count % 8)) 0 h)

-- ---- read, and then written

record AreRead (named : Bool) (symbols : Symbols) (count : ℕ) (body : List ℕ) : Type 0 where
  whole : length body ≡ (count + 1) / 2
  many : are_plain named count body ≡ true → symbols_length symbols ≡ count
  written : are_plain named count body ≡ true → body ≡ symbols_octets symbols

name_in : (count : ℕ) (septets body rest : List ℕ) → (name count).reads septets body rest → (length body ≡ (count + 1) / 2) × (septets ≡ unpacked 0 (4 * count / 7) body)
unfolding name
name_in count septets body rest r =
    let all : body ≡ r.choice = r.parts ∙ ap (λ (b : List ℕ). r.front ++ b) r.of_second.1 ∙ append-nil r.front ∙ r.of_first.0 in
    (ap length all ∙ r.of_first.1, r.of_second.0 ∙ ap (unpacked 0 (4 * count / 7)) (sym all))

symbols_in : (named : Bool) (count : ℕ) (symbols : Symbols) (body rest : List ℕ) → IsOctets body → (symbols_by named count).reads symbols body rest → AreRead named symbols count body
unfolding symbols_by
symbols_in true count symbols body rest fits r =
    let s : ℕ = 4 * count / 7 in
    let septets : List ℕ = r.choice in
    let is : symbols ≡ Name septets = r.of_second.0 in
    let all : body ≡ r.front = r.parts ∙ ap (λ (b : List ℕ). r.front ++ b) r.of_second.1 ∙ append-nil r.front in
    let h = name_in count septets r.front (r.back ++ rest) r.of_first in
    let whole : length body ≡ (count + 1) / 2 = ap length all ∙ h.0 in
    let lie : septets ≡ unpacked 0 s body = h.1 ∙ ap (unpacked 0 s) (sym all) in
    let long : length septets ≡ s = ap length lie ∙ (unpacked_septets 0 s body).1 in
    record {
      whole = whole;
      many = λ plain.
          let needed : count ≡ (7 * s + 3) / 4 = eqb-true count ((7 * s + 3) / 4) (and_parts _ _ plain).0 in
          ap symbols_length is ∙ ap (λ (n : ℕ). (7 * n + 3) / 4) long ∙ sym needed;
      written = λ plain.
          let tests = and_parts (are_needed count s) (is_clear s body) plain in
          let needed : count ≡ (7 * s + 3) / 4 = eqb-true count ((7 * s + 3) / 4) tests.0 in
          name_written s body septets (omega (arith, whole, needed)) fits lie (clear_since s body tests.1) ∙ sym (ap symbols_octets is);
    }
symbols_in false count symbols body rest fits r =
    let values : List ℕ = r.choice in
    let is : symbols ≡ Digits values = r.of_second.0 in
    let all : body ≡ r.front = r.parts ∙ ap (λ (b : List ℕ). r.front ++ b) r.of_second.1 ∙ append-nil r.front in
    let m = as_many count values r.front (r.back ++ rest) r.of_first in
    record {
      whole = ap length all ∙ m.0;
      many = λ plain. ap symbols_length is ∙ m.1;
      written = λ plain.
          all
          ∙ as_written count values r.front (r.back ++ rest) (subst IsOctets all fits) r.of_first (subst (Filled count) all (filled_since count body plain))
          ∙ sym (ap symbols_octets is);
    }

counted : (o count : ℕ) → up_to 20 too_long o ≡ Ok count → o ≡ count
counted o count e = by (leb o 20) e where
  by : (b : Bool) → cond b (Ok o) (Err too_long) ≡ Ok count → o ≡ count
  by true e = cc
  by false e = absurd cc

none_left : (xs ys : List ℕ) → length (xs ++ ys) ≡ length xs → ys ≡ []
none_left xs [] e = refl
none_left xs (y ∷ ys) e = absurd (omega (arith, e, length-append xs (y ∷ ys)))

-- The octets of the count, the type, the symbols and what follows are those of the address.
written_so : (a : AddressValue) (octets body rest : List ℕ) (count t : ℕ) → a.kind ≡ t / 16 % 8 → a.plan ≡ t % 16 → t < 256
    → octets ≡ count ∷ t ∷ (body ++ rest) → AreRead (t / 16 % 8 == alphanumeric) a.symbols count body → is_plain octets ≡ true → octets ≡ address_octets a
unfolding address_octets
written_so a octets body rest count t kind plan below e n plain =
    let named : Bool = t / 16 % 8 == alphanumeric in
    let tests = and_parts (eqb (length (body ++ rest)) ((count + 1) / 2)) (leb 128 t && are_plain named count (body ++ rest)) (subst (λ (l : List ℕ). is_plain l ≡ true) e plain) in
    let others = and_parts (leb 128 t) (are_plain named count (body ++ rest)) tests.1 in
    let whole : length (body ++ rest) ≡ length body = eqb-true _ _ tests.0 ∙ sym n.whole in
    let none : rest ≡ [] = none_left body rest whole in
    let all : body ++ rest ≡ body = ap (λ (r : List ℕ). body ++ r) none ∙ append-nil body in
    let used : are_plain named count body ≡ true = subst (λ (b : List ℕ). are_plain named count b ≡ true) all others.1 in
    let high : 128 ≤ t = leb-true 128 t others.0 in
    let type_is : t ≡ 128 + 16 * a.kind + a.plan = omega (arith, kind, plan, high, below) in
    e
    ∙ ap (λ (l : List ℕ). count ∷ t ∷ l) (all ∙ n.written used)
    ∙ ap (λ (c : ℕ). c ∷ t ∷ symbols_octets a.symbols) (sym (n.many used))
    ∙ ap (λ (k : ℕ). symbols_length a.symbols ∷ k ∷ symbols_octets a.symbols) type_is

read_so : (a : AddressValue) (octets rest : List ℕ) → IsOctets octets → address.reads a octets rest → is_plain (octets ++ rest) ≡ true → octets ++ rest ≡ address_octets a
unfolding address
read_so a octets rest fits r plain =
    let second = r.of_second in
    let third = second.of_second in
    let value = third.of_second in
    let count : ℕ = r.choice in
    let t : ℕ = second.choice in
    let front : r.front ≡ count ∷ [] = r.of_first.1 ∙ ap (λ (n : ℕ). n ∷ []) (counted r.of_first.0 count r.of_first.2) in
    let left : second.back ≡ third.front = third.parts ∙ ap (λ (b : List ℕ). third.front ++ b) value.1 ∙ append-nil third.front in
    let after : r.back ≡ t ∷ third.front = second.parts ∙ ap (λ (f : List ℕ). f ++ second.back) second.of_first ∙ ap (λ (b : List ℕ). t ∷ b) left in
    let all : octets ≡ count ∷ t ∷ third.front = r.parts ∙ ap (λ (f : List ℕ). f ++ r.back) front ∙ ap (λ (b : List ℕ). count ∷ b) after in
    let are = subst IsOctets all fits in
    let h = symbols_in (t / 16 % 8 == alphanumeric) count third.choice third.front (third.back ++ rest) are.1.1 third.of_first in
    written_so a (octets ++ rest) third.front rest count t (ap (λ (v : AddressValue). v.kind) value.0) (ap (λ (v : AddressValue). v.plan) value.0) are.1.0
    (ap (λ (o : List ℕ). o ++ rest) all)
    (subst (λ (s : Symbols). AreRead (t / 16 % 8 == alphanumeric) s count third.front) (ap (λ (v : AddressValue). v.symbols) (sym value.0)) h)
    plain

pub plain_is_written : (a : AddressValue) (octets : List ℕ) (used : ℕ) → IsOctets octets → Reads address a octets used → is_plain octets ≡ true → octets ≡ address_octets a
plain_is_written a octets used fits r plain =
    r.parts ∙ read_so a r.octets r.rest (octets_front r.octets r.rest (subst IsOctets r.parts fits)) r.read (subst (λ (o : List ℕ). is_plain o ≡ true) r.parts plain)

-- ---- written, and then tested

half : (symbols : Symbols) → length (symbols_octets symbols) ≡ (symbols_length symbols + 1) / 2
half (Digits values) = half_as_many values
half (Name septets) = let n = length-name_octets septets in omega (arith, n)

used_by : (kind : ℕ) (named : Bool) (symbols : Symbols) → eqb kind 5 ≡ named → AreSymbolsOf kind symbols → are_plain named (symbols_length symbols) (symbols_octets symbols) ≡ true
used_by kind true (Digits values) is fits = absurd (fits.0 (eqb-true kind 5 is))
used_by kind false (Digits values) is fits = filled_from (length values) (digit_octets values) (is_filled_so values)
used_by kind true (Name septets) is fits =
    let s : ℕ = length septets in
    let count : ℕ = name_length septets in
    let same : 4 * count / 7 ≡ s = omega arith in
    and_from (are_needed count (4 * count / 7)) (is_clear (4 * count / 7) (name_octets septets))
    (eq-eqb count ((7 * (4 * count / 7) + 3) / 4) (ap (λ (n : ℕ). (7 * n + 3) / 4) (sym same)))
    (subst (λ (n : ℕ). is_clear n (name_octets septets) ≡ true) (sym same) (clear_from s (name_octets septets) (written_clear septets)))
used_by kind false (Name septets) is fits = absurd (eqb-false kind 5 is fits.0)

pub written_is_plain : (a : AddressValue) → HasSpelling a → is_plain (address_octets a) ≡ true
unfolding address_octets
written_is_plain a fits =
    let t : ℕ = 128 + 16 * a.kind + a.plan in
    let kind : a.kind ≡ t / 16 % 8 = omega (arith, fits.kind, fits.plan) in
    let used : are_plain (a.kind == alphanumeric) (symbols_length a.symbols) (symbols_octets a.symbols) ≡ true = used_by a.kind (a.kind == alphanumeric) a.symbols refl fits.symbols in
    and_from _ _ (eq-eqb _ _ (half a.symbols))
    (and_from _ _ (le-leb 128 t (omega arith))
    (subst (λ (k : ℕ). are_plain (k == alphanumeric) (symbols_length a.symbols) (symbols_octets a.symbols) ≡ true) kind used))
