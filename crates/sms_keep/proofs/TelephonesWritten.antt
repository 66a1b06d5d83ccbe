-- Digits that are written as octets, two by two, from the room that they lie in.
use Rattle.std.proofs.Common.{◌≡◌, ℕ, suc, ◌-◌, ◌+◌, ◌*◌, ◌/◌, ◌%◌, ◌<◌, ◌≤◌, List, [], ◌∷◌, ◌++◌, length, take, get_or, replicate, All, refl, sym, ap, ◌∙◌, append_assoc, arith}
use Rattle.std.proofs.Math.ListN.{set, length-set}
use Rattle.std.proofs.lemmas.List.{take_more, take_more_set, take_all, length-take}
use Rattle.std.proofs.lemmas.List.Elements.{All-append, All-replicate, All-same}
use Rattle.sms_field.specs.Address.{address_octets}
use Rattle.sms_field.specs.Address.DigitOctets.{digit_octets}
use Rattle.sms_field.specs.Address.Padded.{padded}
use Rattle.sms_field.specs.declared.symbols.Symbols.TheVariants.{Digits}

abbrev pub AreSmall : List ℕ → Type 0
AreSmall digits = All (λ digit. digit < 15) digits

pub room_small : (room digits : List ℕ) → room ≡ padded 20 digits → AreSmall digits → AreSmall room
unfolding padded
room_small room digits is small =
    All-same (λ digit. digit < 15) room (digits ++ replicate (20 - length digits) 0) is
    (All-append (λ digit. digit < 15) digits (replicate (20 - length digits) 0) small (All-replicate (λ digit. digit < 15) (20 - length digits) 0 (omega arith)))

joined : (xs ys : List ℕ) → length xs % 2 ≡ 0 → digit_octets (xs ++ ys) ≡ digit_octets xs ++ digit_octets ys
unfolding digit_octets
joined [] ys even = refl
joined (x ∷ []) ys even = absurd (omega (arith, even))
joined (x ∷ y ∷ xs) ys even = ap (λ (l : List ℕ). (16 * y + x) ∷ l) (joined xs ys (omega (arith, even)))

pair_is : (low high : ℕ) → digit_octets (low ∷ high ∷ []) ≡ (16 * high + low) ∷ []
unfolding digit_octets
pair_is low high = refl

none_is : digit_octets [] ≡ []
unfolding digit_octets
none_is = refl

-- So many octets are written of twice as many digits, behind two others.
pub record Paired (first second : ℕ) (room octets : List ℕ) (i : ℕ) : Type 0 where
  pub size : length octets ≡ 12
  pub written : take (2 + i) octets ≡ first ∷ second ∷ digit_octets (take (2 * i) room)

pub none_paired : (first second : ℕ) (room : List ℕ) → Paired first second room (set (set (replicate 12 0) 0 first) 1 second) 0
none_paired first second room = record { size = refl; written = ap (λ (l : List ℕ). first ∷ second ∷ l) (sym none_is) }

even_front : (room : List ℕ) (i : ℕ) → 2 * i ≤ length room → length (take (2 * i) room) % 2 ≡ 0
even_front room i enough = let l : length (take (2 * i) room) ≡ 2 * i = omega (arith, length-take (2 * i) room, enough) in omega (arith, l)

pub pair_more : (first second i octet : ℕ) (room octets : List ℕ) → length room ≡ 20 → i < 10 → octet ≡ get_or room (2 * i) 0 + 16 * get_or room (2 * i + 1) 0 → Paired first second room octets i
    → Paired first second room (set octets (2 + i) octet) (i + 1)
pair_more first second i octet room octets long inside is p =
    let low : ℕ = get_or room (2 * i) 0 in
    let high : ℕ = get_or room (2 * i + 1) 0 in
    let front : List ℕ = take (2 * i) room in
    let two : 2 * (i + 1) ≡ 2 * i + 1 + 1 = omega arith in
    let one : 2 + (i + 1) ≡ 2 + i + 1 = omega arith in
    let octet_is : octet ≡ 16 * high + low = omega (arith, is) in
    let even : length front % 2 ≡ 0 = even_front room i (omega (arith, long, inside)) in
    let taken : take (2 * (i + 1)) room ≡ front ++ low ∷ high ∷ [] =
    ap (λ (n : ℕ). take n room) two
    ∙ take_more room (2 * i + 1) 0 (omega (arith, long, inside))
    ∙ ap (λ (l : List ℕ). l ++ high ∷ []) (take_more room (2 * i) 0 (omega (arith, long, inside)))
    ∙ append_assoc front (low ∷ []) (high ∷ []) in
    let pairs : digit_octets (take (2 * (i + 1)) room) ≡ digit_octets front ++ octet ∷ [] =
    ap digit_octets taken
    ∙ joined front (low ∷ high ∷ []) even
    ∙ ap (λ (l : List ℕ). digit_octets front ++ l) (pair_is low high ∙ ap (λ (n : ℕ). n ∷ []) (sym octet_is)) in
    record {
      size = length-set octets (2 + i) octet ∙ p.size;
      written = ap (λ (n : ℕ). take n (set octets (2 + i) octet)) one
          ∙ take_more_set octets (2 + i) octet (omega (arith, p.size, inside))
          ∙ ap (λ (l : List ℕ). l ++ octet ∷ []) p.written
          ∙ ap (λ (l : List ℕ). first ∷ second ∷ l) (sym pairs);
    }

pub all_paired : (first second i : ℕ) (room octets : List ℕ) → length room ≡ 20 → i ≡ 10 → Paired first second room octets i → octets ≡ first ∷ second ∷ digit_octets room
all_paired first second i room octets long end p =
    sym (take_all (2 + i) octets (omega (arith, p.size, end)))
    ∙ p.written
    ∙ ap (λ (l : List ℕ). first ∷ second ∷ digit_octets l) (take_all (2 * i) room (omega (arith, long, end)))

-- ---- as many of them as there are digits

even_room : (digits zeros : List ℕ) (whole : ℕ) → length digits % 2 ≡ 0 → whole ≡ (length digits + 1) / 2 → take whole (digit_octets (digits ++ zeros)) ≡ digit_octets digits
unfolding digit_octets
even_room [] zeros whole even is = let none : whole ≡ 0 = omega (arith, is) in rw none refl
even_room (x ∷ []) zeros whole even is = absurd (omega (arith, even))
even_room (x ∷ y ∷ digits) zeros whole even is =
    let more : whole ≡ suc ((length digits + 1) / 2) = omega (arith, is) in
    rw more (ap (λ (l : List ℕ). (16 * y + x) ∷ l) (even_room digits zeros ((length digits + 1) / 2) (omega (arith, even)) refl))

one_room : (digit : ℕ) (zeros : List ℕ) → take 1 (set (digit_octets (digit ∷ zeros)) 0 (240 + digit)) ≡ (240 + digit) ∷ []
unfolding digit_octets
one_room digit [] = refl
one_room digit (z ∷ zeros) = refl

odd_room : (digits zeros : List ℕ) (whole half last : ℕ) → length digits % 2 ≡ 1 → whole ≡ (length digits + 1) / 2 → half ≡ length digits / 2 → last + 1 ≡ length digits
    → take whole (set (digit_octets (digits ++ zeros)) half (240 + get_or digits last 0)) ≡ digit_octets digits
unfolding digit_octets
odd_room [] zeros whole half last odd is at end = absurd (omega (arith, odd))
odd_room (x ∷ []) zeros whole half last odd is at end =
    let w : whole ≡ 1 = omega (arith, is) in
    let h : half ≡ 0 = omega (arith, at) in
    let l : last ≡ 0 = omega (arith, end) in
    rw (w, h, l) (one_room x zeros)
odd_room (x ∷ y ∷ digits) zeros whole half last odd is at end =
    let w : whole ≡ suc ((length digits + 1) / 2) = omega (arith, is) in
    let h : half ≡ suc (length digits / 2) = omega (arith, at) in
    let l : last ≡ suc (suc (length digits - 1)) = omega (arith, end, odd) in
    rw (w, h, l) (ap (λ (o : List ℕ). (16 * y + x) ∷ o) (odd_room digits zeros ((length digits + 1) / 2) (length digits / 2) (length digits - 1) (omega (arith, odd)) refl refl (omega (arith, odd))))

-- ---- the address

abbrev first_two : ℕ → ℕ → List ℕ → List ℕ → List ℕ
first_two kind plan digits octets = length digits ∷ (128 + 16 * kind + plan) ∷ octets

pub even_written : (kind plan n : ℕ) (digits room octets : List ℕ) → length digits % 2 ≡ 0 → room ≡ padded 20 digits → octets ≡ length digits ∷ (128 + 16 * kind + plan) ∷ digit_octets room → n ≡ 2 + (length digits + 1) / 2
    → take n octets ≡ address_octets (record { kind = kind; plan = plan; symbols = Digits digits })
unfolding address_octets padded
even_written kind plan n digits room octets even in_room are many =
    let whole : ℕ = (length digits + 1) / 2 in
    let zeros : List ℕ = replicate (20 - length digits) 0 in
    let n_is : n ≡ suc (suc whole) = omega (arith, many) in
    ap (λ (k : ℕ). take k octets) n_is
    ∙ ap (λ (l : List ℕ). take (suc (suc whole)) l) are
    ∙ ap (λ (l : List ℕ). first_two kind plan digits (take whole (digit_octets l))) in_room
    ∙ ap (λ (l : List ℕ). first_two kind plan digits l) (even_room digits zeros whole even refl)

pub odd_written : (kind plan n place value last : ℕ) (digits room octets : List ℕ) → length digits % 2 ≡ 1 → room ≡ padded 20 digits → octets ≡ length digits ∷ (128 + 16 * kind + plan) ∷ digit_octets room → n ≡ 2 + (length digits + 1) / 2
    → place ≡ 2 + length digits / 2 → last + 1 ≡ length digits → value ≡ 240 + get_or digits last 0 → take n (set octets place value) ≡ address_octets (record { kind = kind; plan = plan; symbols = Digits digits })
unfolding address_octets padded
odd_written kind plan n place value last digits room octets odd in_room are many at end is =
    let whole : ℕ = (length digits + 1) / 2 in
    let half : ℕ = length digits / 2 in
    let zeros : List ℕ = replicate (20 - length digits) 0 in
    let n_is : n ≡ suc (suc whole) = omega (arith, many) in
    let place_is : place ≡ suc (suc half) = omega (arith, at) in
    ap (λ (k : ℕ). take k (set octets place value)) n_is
    ∙ ap (λ (l : List ℕ). take (suc (suc whole)) (set l place value)) are
    ∙ ap (λ (k : ℕ). take (suc (suc whole)) (set (first_two kind plan digits (digit_octets room)) k value)) place_is
    ∙ ap (λ (l : List ℕ). first_two kind plan digits (take whole (set (digit_octets l) half value))) in_room
    ∙ ap (λ (v : ℕ). first_two kind plan digits (take whole (set (digit_octets (digits ++ zeros)) half v))) is
    ∙ ap (λ (l : List ℕ). first_two kind plan digits l) (odd_room digits zeros whole half last odd refl refl end)
