-- A reader may pass this by: lemmas, for the proofs of this crate and of those above it.
--
-- How many octets an address that is read takes, by its first octet.
use Rattle.std.proofs.Common.{◌≡◌, ℕ, zero, suc, ◌+◌, ◌-◌, ◌/◌, ◌%◌, ◌≤◌, Bool, true, false, cond, leb, List, [], ◌∷◌, ◌++◌, length, get_or, Result, Ok, Err, refl, ap, ◌∙◌, arith, length-append}
use Rattle.std.proofs.lemmas.Bool.{eqb-true, eqb-false}
use Rattle.std.specs.Prelude.{◌==◌, Option}
use Rattle.sms_field.specs.Field.{Field, ◌>>=◌, always, octet_by}
use Rattle.sms_field.specs.declared.fault.FieldFault.{FieldFault}
use Rattle.sms_field.specs.declared.fault.FieldFault.TheVariants.{Short}
use Rattle.sms_field.specs.Address.Faults.{too_long}
use Rattle.sms_field.specs.declared.symbols.Symbols.TheVariants.{Digits, Name}
use Rattle.sms_field.specs.Address.DigitOctets.{low_digit, both_digits, digits}
use Rattle.sms_field.specs.Address.NameOctets.{name}
use Rattle.sms_field.specs.Address.Value.{AddressValue, alphanumeric}
use Rattle.sms_field.specs.Address.{symbols_by, address}
use Rattle.sms_field.specs.RelayAddress.Value.{RelayAddressValue}
use Rattle.sms_field.specs.RelayAddress.{relay_digits, relay_part, relay_address}
use Rattle.sms_field.specs.Reading.Lies.{TakesOctets}

-- each reading of the field takes so many octets
abbrev IsSize : {V W : Type 0} → Field V W → ℕ → Type 0
IsSize {V} field n =
    (value : V) (octets rest : List ℕ) → field.reads value octets rest → length octets ≡ n

-- a field, and nothing after it
then_always : {A B W : Type 0} (field : Field A W) (made : A → B) (n : ℕ) → IsSize field n → IsSize (field >>= λ a. always (made a)) n
then_always field made n size value octets rest r = omega (arith, ap length r.parts, length-append r.front r.back, size r.choice r.front (r.back ++ rest) r.of_first, ap length r.of_second.1)

-- an octet, and another field after it
octet_then : {A B W : Type 0} (short : W) (meaning : ℕ → Result A W) (second : A → Field B W) (n : ℕ) → ((a : A) → IsSize (second a) n) → IsSize (octet_by short meaning >>= second) (1 + n)
octet_then short meaning second n next value octets rest r = omega (arith, ap length r.parts, length-append r.front r.back, ap length r.of_first.1, next r.choice value r.back rest r.of_second)

digits_size : (n : ℕ) → IsSize (digits n) ((n + 1) / 2)
unfolding digits
digits_size zero value octets rest r = ap length r.1
digits_size (suc zero) value octets rest r = octet_then Short low_digit (λ digit. always (digit ∷ [])) 0 (λ digit v o s q. ap length q.1) value octets rest r
digits_size (suc (suc n)) value octets rest r =
    let size = octet_then Short both_digits (λ two. digits n >>= λ others. always (two.0 ∷ two.1 ∷ others)) ((n + 1) / 2) (λ two. then_always (digits n) (λ others. two.0 ∷ two.1 ∷ others) ((n + 1) / 2) (digits_size n)) value octets rest r in
    omega (arith, size)

symbols_size : (named : Bool) (n : ℕ) → IsSize (symbols_by named n) ((n + 1) / 2)
unfolding symbols_by name
symbols_size false n = then_always (digits n) (λ values. Digits values) ((n + 1) / 2) (digits_size n)
symbols_size true n =
    then_always (name n) (λ septets. Name septets) ((n + 1) / 2)
    (λ septets octets rest r. omega (arith, ap length r.parts, length-append r.front r.back, ap length r.of_first.0, r.of_first.1, ap length r.of_second.1))

-- the octet that a limited number was
chosen : (b : Bool) (o count : ℕ) (why : FieldFault) → cond b (Ok o) (Err why) ≡ Ok count → o ≡ count
chosen true o count why e = cc
chosen false o count why e = absurd cc

front_is : (octets front back : List ℕ) (o count limit : ℕ) (why : FieldFault) → octets ≡ front ++ back → front ≡ o ∷ [] → cond (leb o limit) (Ok o) (Err why) ≡ Ok count → get_or octets 0 0 ≡ count
front_is octets front back o count limit why parts one is =
    ap (λ (l : List ℕ). get_or l 0 0) parts ∙ ap (λ (l : List ℕ). get_or (l ++ back) 0 0) one ∙ chosen (leb o limit) o count why is

address_size : (a : AddressValue) (octets rest : List ℕ) → address.reads a octets rest → length octets ≡ 2 + (get_or octets 0 0 + 1) / 2
unfolding address
address_size a octets rest r =
    let t = r.of_second in
    let s = t.of_second in
    let first : get_or octets 0 0 ≡ r.choice = front_is octets r.front r.back r.of_first.0 r.choice 20 too_long r.parts r.of_first.1 r.of_first.2 in
    let size = symbols_size (t.choice / 16 % 8 == alphanumeric) r.choice s.choice s.front (s.back ++ rest) s.of_first in
    omega (arith, first, ap length r.parts, length-append r.front r.back, ap length r.of_first.1, ap length t.parts, length-append t.front t.back, ap length t.of_first, ap length s.parts, length-append s.front s.back, size, ap length s.of_second.1)

relay_digits_size : (n : ℕ) → IsSize (relay_digits n) n
unfolding relay_digits
relay_digits_size zero value octets rest r = ap length r.1
relay_digits_size (suc zero) value octets rest r = ap length r.1
relay_digits_size (suc (suc n)) value octets rest r =
    let size = octet_then Short both_digits (λ two. relay_digits (suc n) >>= λ others. always (two.0 ∷ two.1 ∷ others)) (suc n) (λ two. then_always (relay_digits (suc n)) (λ others. two.0 ∷ two.1 ∷ others) (suc n) (relay_digits_size (suc n))) value octets rest r in
    omega (arith, size)

part_size : (none : Bool) (count : ℕ) → (count == 0) ≡ none → IsSize (relay_part none (count - 1)) count
unfolding relay_part
part_size true count is value octets rest r = omega (arith, ap length r.1, eqb-true count 0 is)
part_size false count is value octets rest r =
    let t = r.of_second in
    omega (arith, eqb-false count 0 is, ap length r.parts, length-append r.front r.back, ap length r.of_first, ap length t.parts, length-append t.front t.back, relay_digits_size (count - 1) t.choice t.front (t.back ++ rest) t.of_first, ap length t.of_second.1)

relay_size : (a : Option RelayAddressValue) (octets rest : List ℕ) → relay_address.reads a octets rest → length octets ≡ 1 + get_or octets 0 0
unfolding relay_address
relay_size a octets rest r =
    let first : get_or octets 0 0 ≡ r.choice = front_is octets r.front r.back r.of_first.0 r.choice 11 too_long r.parts r.of_first.1 r.of_first.2 in
    omega (arith, first, ap length r.parts, length-append r.front r.back, ap length r.of_first.1, part_size (r.choice == 0) r.choice refl a r.back rest r.of_second)

-- ---- at the front of an input

some_front : (octets rest : List ℕ) → 1 ≤ length octets → get_or (octets ++ rest) 0 0 ≡ get_or octets 0 0
some_front [] rest le = absurd (omega (arith, le))
some_front (o ∷ octets) rest le = refl

pub takes_address : (input : List ℕ) (n : ℕ) → n ≡ 2 + (get_or input 0 0 + 1) / 2 → TakesOctets address input n
takes_address input n is a used r =
    let size = address_size a r.octets r.rest r.read in
    let first : get_or input 0 0 ≡ get_or r.octets 0 0 = ap (λ (l : List ℕ). get_or l 0 0) r.parts ∙ some_front r.octets r.rest (omega (arith, size)) in
    omega (arith, is, first, size, r.used_is)

pub takes_relay_address : (input : List ℕ) (n : ℕ) → n ≡ 1 + get_or input 0 0 → TakesOctets relay_address input n
takes_relay_address input n is a used r =
    let size = relay_size a r.octets r.rest r.read in
    let first : get_or input 0 0 ≡ get_or r.octets 0 0 = ap (λ (l : List ℕ). get_or l 0 0) r.parts ∙ some_front r.octets r.rest (omega (arith, size)) in
    omega (arith, is, first, size, r.used_is)
