-- Digits that are written as octets, two by two.
use Rattle.std.proofs.Common.{◌≡◌, ◌≢◌, ℕ, ◌-◌, ◌+◌, ◌*◌, ◌/◌, ◌%◌, ◌<◌, ◌≤◌, List, [], ◌∷◌, ◌++◌, length, take, drop, get_or, replicate, refl, sym, ap, subst, ◌∙◌, arith}
use Rattle.std.proofs.Math.ListN.{set, length-set}
use Rattle.std.proofs.lemmas.List.{take_more, take_more_set, take_all, length-take}
use Rattle.std.proofs.lemmas.Grind.{take-set_at}
use Rattle.std.specs.List.{AllByRecursion}
use Rattle.sms_field.specs.Address.{address_octets}
use Rattle.sms_field.specs.Address.DigitOctets.{digit_octets}
use Rattle.sms_field.specs.Address.DigitValues.{AreDigits}
use Rattle.sms_field.specs.Address.Padded.{padded}
use Rattle.sms_field.specs.Address.Value.{HasSpelling}
use Rattle.sms_field.specs.declared.symbols.Symbols.TheVariants.{Digits}
use Rattle.sms_keep.proofs.Rooms.{IsZeroFrom, is_padded, zero_behind_set}

two_more : (xs : List ℕ) (low high : ℕ) → length xs % 2 ≡ 0 → digit_octets ((xs ++ low ∷ []) ++ high ∷ []) ≡ digit_octets xs ++ (16 * high + low) ∷ []
unfolding digit_octets
two_more [] low high even = refl
two_more (x ∷ []) low high even = absurd (omega (arith, even))
two_more (x ∷ y ∷ xs) low high even = ap (λ (l : List ℕ). (16 * y + x) ∷ l) (two_more xs low high (omega (arith, even)))

last_more : (xs : List ℕ) (digit : ℕ) → length xs % 2 ≡ 0 → digit_octets (xs ++ digit ∷ []) ≡ digit_octets xs ++ (240 + digit) ∷ []
unfolding digit_octets
last_more [] digit even = refl
last_more (x ∷ []) digit even = absurd (omega (arith, even))
last_more (x ∷ y ∷ xs) digit even = ap (λ (l : List ℕ). (16 * y + x) ∷ l) (last_more xs digit (omega (arith, even)))

abbrev pub AreSmall : List ℕ → Type 0
AreSmall digits = AllByRecursion (λ digit. digit < 15) digits

one_small : (xs : List ℕ) (digit : ℕ) → AreSmall xs → digit < 15 → AreSmall (xs ++ digit ∷ [])
one_small [] digit others small = (small, record {})
one_small (x ∷ xs) digit others small = (others.0, one_small xs digit others.1 small)

-- So many octets are written of twice as many digits. Behind these is 0.
pub record Read (symbols values : List ℕ) (i : ℕ) : Type 0 where
  pub size : length values ≡ 20
  pub digits : AreSmall (take (2 * i) values)
  pub written : digit_octets (take (2 * i) values) ≡ take i symbols
  pub zeros : IsZeroFrom 20 (2 * i) values

pub none_read : (symbols values : List ℕ) → length values ≡ 20 → values ≡ replicate 20 0 → Read symbols values 0
unfolding digit_octets
none_read symbols values size zeros = record { size = size; digits = record {}; written = refl; zeros = zeros }

even_front : (values : List ℕ) (i : ℕ) → 2 * i ≤ length values → length (take (2 * i) values) % 2 ≡ 0
even_front values i enough = let l : length (take (2 * i) values) ≡ 2 * i = omega (arith, length-take (2 * i) values, enough) in omega (arith, l)

pub pair_read : (symbols values : List ℕ) (i low high : ℕ) → 2 * i + 1 < 20 → i < length symbols → get_or symbols i 0 ≡ 16 * high + low → low < 15 → high < 15 → Read symbols values i
    → Read symbols (set (set values (2 * i) low) (2 * i + 1) high) (i + 1)
pair_read symbols values i low high few inside is small_low small_high r =
    let one : List ℕ = set values (2 * i) low in
    let two : List ℕ = set one (2 * i + 1) high in
    let front : List ℕ = take (2 * i) values in
    let next : 2 * (i + 1) ≡ 2 * i + 2 = omega arith in
    let taken : take (2 * (i + 1)) two ≡ (front ++ low ∷ []) ++ high ∷ [] =
    ap (λ (n : ℕ). take n two) next
    ∙ take-set_at one (2 * i + 1) (2 * i + 2) high (omega arith) (omega (arith, few, r.size, length-set values (2 * i) low))
    ∙ ap (λ (l : List ℕ). l ++ high ∷ []) (take_more_set values (2 * i) low (omega (arith, few, r.size))) in
    record {
      size = length-set one (2 * i + 1) high ∙ length-set values (2 * i) low ∙ r.size;
      digits = subst AreSmall (sym taken) (one_small (front ++ low ∷ []) high (one_small front low r.digits small_low) small_high);
      written = ap digit_octets taken
          ∙ two_more front low high (even_front values i (omega (arith, few, r.size)))
          ∙ ap (λ (l : List ℕ). l ++ (16 * high + low) ∷ []) r.written
          ∙ ap (λ (n : ℕ). take i symbols ++ n ∷ []) (sym is)
          ∙ sym (take_more symbols i 0 inside);
      zeros =
          subst (λ (n : ℕ). IsZeroFrom 20 n two) (omega arith)
          (zero_behind_set 20 (2 * i + 1) high one (zero_behind_set 20 (2 * i) low values r.zeros));
    }

-- What is read of so many digits.
pub record AreRead (count : ℕ) (symbols values : List ℕ) : Type 0 where
  pub size : length (take count values) ≡ count
  pub digits : AreSmall (take count values)
  pub written : digit_octets (take count values) ≡ symbols
  pub room : values ≡ padded 20 (take count values)

pub even_read : (count i : ℕ) (symbols values : List ℕ) → count ≤ 20 → count % 2 ≡ 0 → i ≡ count / 2 → length symbols ≡ (count + 1) / 2 → Read symbols values i → AreRead count symbols values
even_read count i symbols values few even at whole r =
    let all : 2 * i ≡ count = omega (arith, even, at) in
    record {
      size = omega (arith, length-take count values, few, r.size);
      digits = subst (λ (n : ℕ). AreSmall (take n values)) all r.digits;
      written = ap (λ (n : ℕ). digit_octets (take n values)) (sym all) ∙ r.written ∙ take_all i symbols (omega (arith, whole, even, at));
      room = is_padded 20 count values few r.size (subst (λ (n : ℕ). IsZeroFrom 20 n values) all r.zeros);
    }

pub odd_read : (count i digit : ℕ) (symbols values : List ℕ) → count ≤ 20 → count % 2 ≡ 1 → i ≡ count / 2 → length symbols ≡ (count + 1) / 2 → get_or symbols i 0 ≡ 240 + digit → digit < 15 → Read symbols values i
    → AreRead count symbols (set values (2 * i) digit)
odd_read count i digit symbols values few odd at whole is small r =
    let all : 2 * i + 1 ≡ count = omega (arith, odd, at) in
    let front : List ℕ = take (2 * i) values in
    let taken : take count (set values (2 * i) digit) ≡ front ++ digit ∷ [] =
    ap (λ (n : ℕ). take n (set values (2 * i) digit)) (sym all) ∙ take_more_set values (2 * i) digit (omega (arith, all, few, r.size)) in
    record {
      size = omega (arith, length-take count (set values (2 * i) digit), length-set values (2 * i) digit, few, r.size);
      digits = subst AreSmall (sym taken) (one_small front digit r.digits small);
      written = ap digit_octets taken
          ∙ last_more front digit (even_front values i (omega (arith, all, few, r.size)))
          ∙ ap (λ (l : List ℕ). l ++ (240 + digit) ∷ []) r.written
          ∙ ap (λ (n : ℕ). take i symbols ++ n ∷ []) (sym is)
          ∙ sym (take_more symbols i 0 (omega (arith, all, whole)))
          ∙ take_all (i + 1) symbols (omega (arith, all, whole));
      room =
          is_padded 20 count (set values (2 * i) digit) few (length-set values (2 * i) digit ∙ r.size)
          (subst (λ (n : ℕ). IsZeroFrom 20 n (set values (2 * i) digit)) all (zero_behind_set 20 (2 * i) digit values r.zeros));
    }

pub are_digits : (count : ℕ) (symbols values : List ℕ) → count ≤ 20 → AreRead count symbols values → AreDigits (take count values)
are_digits count symbols values few r = record { few = omega (arith, few, r.size); each = r.digits }

pub answered : (count : ℕ) (symbols values digits : List ℕ) → count ≤ 20 → digits ≡ take count values → AreRead count symbols values
    → AreDigits digits × (length digits ≡ count) × (digit_octets digits ≡ symbols)
answered count symbols values digits few all r = (subst AreDigits (sym all) (are_digits count symbols values few r), ap length all ∙ r.size, ap digit_octets all ∙ r.written)

in_front : (octets : List ℕ) → 2 ≤ length octets → octets ≡ get_or octets 0 0 ∷ get_or octets 1 0 ∷ take (length octets - 2) (drop 2 octets)
in_front [] enough = absurd (omega (arith, enough))
in_front (x ∷ []) enough = absurd (omega (arith, enough))
in_front (x ∷ y ∷ xs) enough = ap (λ (l : List ℕ). x ∷ y ∷ l) (sym (take_all (length (x ∷ y ∷ xs) - 2) xs (omega arith)))

pub telephone_written : (octets digits : List ℕ) (t : ℕ) → 2 ≤ length octets → get_or octets 1 0 ≡ t → t < 256 → 128 ≤ t → length digits ≡ get_or octets 0 0
    → digit_octets digits ≡ take (length octets - 2) (drop 2 octets) → octets ≡ address_octets (record { kind = t / 16 % 8; plan = t % 16; symbols = Digits digits })
unfolding address_octets
telephone_written octets digits t enough is below high many written =
    let type_is : get_or octets 1 0 ≡ 128 + 16 * (t / 16 % 8) + t % 16 = omega (arith, is, below, high) in
    in_front octets enough
    ∙ ap (λ (l : List ℕ). get_or octets 0 0 ∷ get_or octets 1 0 ∷ l) (sym written)
    ∙ ap (λ (n : ℕ). n ∷ get_or octets 1 0 ∷ digit_octets digits) (sym many)
    ∙ ap (λ (n : ℕ). length digits ∷ n ∷ digit_octets digits) type_is

pub telephone_spelled : (t : ℕ) (digits : List ℕ) → t / 16 % 8 ≢ 5 → AreDigits digits → HasSpelling (record { kind = t / 16 % 8; plan = t % 16; symbols = Digits digits })
telephone_spelled t digits is_none are = record { kind = omega arith; plan = omega arith; symbols = (is_none, are) }
