-- The concatenation of a header is the one that is computed.
use Rattle.std.proofs.Common.{◌≡◌, ℕ, zero, suc, ◌+◌, ◌-◌, ◌*◌, ◌/◌, ◌%◌, ◌<◌, ◌≤◌, Bool, true, false, cond, ◌&&◌, eqb, List, [], ◌∷◌, length, take, drop, Option, Some, None, refl, sym, ap, ◌∙◌, subst, arith}
use Rattle.std.specs.Prelude.{nat_le, if◌then◌else◌, option_map, option_and_then}
use Rattle.std.specs.Option.{option_or}
use Rattle.std.proofs.lemmas.Bool.{eqb-true, eqb-false, and_parts}
use Rattle.std.proofs.lemmas.Bool.Decides.{nat_tests}
use Rattle.std.proofs.lemmas.List.{take_all}
use Rattle.sms_text.specs.Octets.{IsOctets}
use Rattle.sms_tpdu.specs.declared.user_data.concat.Concat.{Concat}
use Rattle.sms_tpdu.specs.declared.user_data.concat.Width.{Width}
use Rattle.sms_tpdu.specs.declared.user_data.concat.Width.TheVariants.{Eight, Sixteen}
use Rattle.sms_tpdu.specs.UserData.Elements.{Element}
use Rattle.sms_tpdu.specs.UserData.Concatenation.{Tells, TellsNone, ToldBy, IsConcatOf}
use Rattle.sms_tpdu.proofs.ElementLaws.{Reached, one_list, one_concat, at_start, further, at_end, cut_before_length, cut_after_length}
use Rattle.sms_tpdu.specs.UserData.ConcatenationFound.{told_by, elements_in, last_told, concat_of_header, IsPlace, ElementsAreOne, ConcatIsThere, ConcatIsOne, ConcatIsPlace}

abbrev element : ℕ → List ℕ → Element
element i octets = record { identifier = i; octets = octets }

abbrev place : Width → ℕ → ℕ → ℕ → Concat
place w r m s = record { width = w; reference = r; maximum = m; sequence = s }

-- ---- one element

by_size : (e : Element) → (length e.octets ≡ 3 → ⊥) → (length e.octets ≡ 4 → ⊥) → (w : Width) (r m s : ℕ) → Tells e (place w r m s) → ⊥
by_size e three four Eight r m s t = three (ap (λ (x : Element). length x.octets) t.0)
by_size e three four Sixteen r m s t = four (ap (λ (x : Element). length x.octets) t.0)

other_size : (e : Element) → (length e.octets ≡ 3 → ⊥) → (length e.octets ≡ 4 → ⊥) → TellsNone e
other_size e three four = λ c t. by_size e three four c.width c.reference c.maximum c.sequence t

ordered : (m s : ℕ) → (nat_le 1 s && nat_le s m) ≡ true → (1 ≤ s) × (s ≤ m)
ordered m s e =
    let p = and_parts (nat_le 1 s) (nat_le s m) e in
    (let a = p.0 in grind (arith, nat_tests), let b = p.1 in grind (arith, nat_tests))

in_test : (m s : ℕ) → 1 ≤ s → s ≤ m → (nat_le 1 s && nat_le s m) ≡ true
in_test m s a b =
    let p : nat_le 1 s ≡ true = grind (arith, nat_tests) in
    let q : nat_le s m ≡ true = grind (arith, nat_tests) in
    rw (p, q) refl

clash : (b : Bool) → b ≡ false → b ≡ true → ⊥
clash b e f = let q : false ≡ true = sym e ∙ f in cc

module _ (i r m s : ℕ) where
  three_not : (b d : Bool) → eqb i 0 ≡ b → (nat_le 1 s && nat_le s m) ≡ d → (b && d) ≡ false → (w : Width) (x y z : ℕ) → Tells (element i (r ∷ m ∷ s ∷ [])) (place w x y z) → ⊥
  three_not b d e f g Sixteen x y z t = let n = ap (λ (v : Element). length v.octets) t.0 in omega (arith, n)
  three_not true true e f g Eight x y z t = cc
  three_not false d e f g Eight x y z t = eqb-false i 0 e (ap (λ (v : Element). v.identifier) t.0)
  three_not true false e f g Eight x y z t =
      let l : (r ∷ m ∷ s ∷ []) ≡ (x ∷ y ∷ z ∷ []) = ap (λ (v : Element). v.octets) t.0 in
      let p : m ≡ y = cc in
      let q : s ≡ z = cc in
      clash _ f (in_test m s (omega (arith, t.1.0, q)) (omega (arith, t.1.1, p, q)))

  three : (b d : Bool) → eqb i 0 ≡ b → (nat_le 1 s && nat_le s m) ≡ d → ToldBy (element i (r ∷ m ∷ s ∷ [])) (cond b (cond d (Some (place Eight r m s)) None) None)
  three true true e f = (ap (λ n. element n (r ∷ m ∷ s ∷ [])) (eqb-true i 0 e), ordered m s f)
  three true false e f = λ c t. three_not true false e f refl c.width c.reference c.maximum c.sequence t
  three false d e f = λ c t. three_not false d e f refl c.width c.reference c.maximum c.sequence t

  three_place : r < 256 → (b d : Bool) → (nat_le 1 s && nat_le s m) ≡ d → IsPlace (cond b (cond d (Some (place Eight r m s)) None) None)
  three_place o true true f = let p = ordered m s f in (omega (arith, p.0), p.1, o)
  three_place o true false f = tt
  three_place o false d f = tt

high_is : (h l : ℕ) → l < 256 → h ≡ (256 * h + l) / 256
high_is h l o = omega arith

low_is : (h l : ℕ) → l < 256 → l ≡ (256 * h + l) % 256
low_is h l o = omega arith

low_of : (x h l : ℕ) → x / 256 ≡ h → x % 256 ≡ l → x ≡ 256 * h + l
low_of x h l e f = omega arith

module _ (i h l m s : ℕ) where
  four_not : (b d : Bool) → eqb i 8 ≡ b → (nat_le 1 s && nat_le s m) ≡ d → (b && d) ≡ false → (w : Width) (x y z : ℕ) → Tells (element i (h ∷ l ∷ m ∷ s ∷ [])) (place w x y z) → ⊥
  four_not b d e f g Eight x y z t = let n = ap (λ (v : Element). length v.octets) t.0 in omega (arith, n)
  four_not true true e f g Sixteen x y z t = cc
  four_not false d e f g Sixteen x y z t = eqb-false i 8 e (ap (λ (v : Element). v.identifier) t.0)
  four_not true false e f g Sixteen x y z t =
      let k : (h ∷ l ∷ m ∷ s ∷ []) ≡ (x / 256 ∷ x % 256 ∷ y ∷ z ∷ []) = ap (λ (v : Element). v.octets) t.0 in
      let p : m ≡ y = cc in
      let q : s ≡ z = cc in
      clash _ f (in_test m s (omega (arith, t.1.0, q)) (omega (arith, t.1.1, p, q)))

  four : l < 256 → (b d : Bool) → eqb i 8 ≡ b → (nat_le 1 s && nat_le s m) ≡ d → ToldBy (element i (h ∷ l ∷ m ∷ s ∷ [])) (cond b (cond d (Some (place Sixteen (256 * h + l) m s)) None) None)
  four o true true e f = (
    ap (λ n. element n (h ∷ l ∷ m ∷ s ∷ [])) (eqb-true i 8 e)
        ∙ (ap (λ n. element 8 (n ∷ l ∷ m ∷ s ∷ [])) (high_is h l o) ∙ ap (λ n. element 8 ((256 * h + l) / 256 ∷ n ∷ m ∷ s ∷ [])) (low_is h l o)),
    ordered m s f,
  )
  four o true false e f = λ c t. four_not true false e f refl c.width c.reference c.maximum c.sequence t
  four o false d e f = λ c t. four_not false d e f refl c.width c.reference c.maximum c.sequence t

  four_place : h < 256 → l < 256 → (b d : Bool) → (nat_le 1 s && nat_le s m) ≡ d → IsPlace (cond b (cond d (Some (place Sixteen (256 * h + l) m s)) None) None)
  four_place o q true true f = let p = ordered m s f in (omega (arith, p.0), p.1, omega arith)
  four_place o q true false f = tt
  four_place o q false d f = tt

told_is : (i : ℕ) (octets : List ℕ) → IsOctets octets → ToldBy (element i octets) (told_by i octets)
told_is i [] o = other_size (element i []) (λ e. omega arith) (λ e. omega arith)
told_is i (a ∷ []) o = other_size (element i (a ∷ [])) (λ e. omega arith) (λ e. omega arith)
told_is i (a ∷ b ∷ []) o = other_size (element i (a ∷ b ∷ [])) (λ e. omega arith) (λ e. omega arith)
told_is i (r ∷ m ∷ s ∷ []) o = three i r m s _ _ refl refl
told_is i (h ∷ l ∷ m ∷ s ∷ []) o = four i h l m s o.1.0 _ _ refl refl
told_is i (a ∷ b ∷ c ∷ d ∷ e ∷ more) o = other_size (element i (a ∷ b ∷ c ∷ d ∷ e ∷ more)) (λ e. omega arith) (λ e. omega arith)

told_place : (i : ℕ) (octets : List ℕ) → IsOctets octets → IsPlace (told_by i octets)
told_place i [] o = tt
told_place i (a ∷ []) o = tt
told_place i (a ∷ b ∷ []) o = tt
told_place i (r ∷ m ∷ s ∷ []) o = three_place i r m s o.0 (eqb i 0) _ refl
told_place i (h ∷ l ∷ m ∷ s ∷ []) o = four_place i h l m s o.0 o.1.0 (eqb i 8) _ refl
told_place i (a ∷ b ∷ c ∷ d ∷ e ∷ more) o = tt

-- ---- the walk

-- the place found in what is left, after what was told before
abbrev walked : ℕ → List ℕ → Option Concat → Option Concat
walked n [] last = last
walked n (i ∷ []) last = None
walked zero (i ∷ size ∷ after) last = None
walked (suc n) (i ∷ size ∷ after) last = if nat_le size (length after) then walked n (drop size after) (option_or (told_by i (take size after)) last) else None

octets_taken : (n : ℕ) (xs : List ℕ) → IsOctets xs → IsOctets (take n xs)
octets_taken zero xs o = tt
octets_taken (suc n) [] o = tt
octets_taken (suc n) (x ∷ xs) o = (o.0, octets_taken n xs o.1)

octets_dropped : (n : ℕ) (xs : List ℕ) → IsOctets xs → IsOctets (drop n xs)
octets_dropped zero xs o = o
octets_dropped (suc n) [] o = tt
octets_dropped (suc n) (x ∷ xs) o = octets_dropped n xs o.1

less_dropped : (n : ℕ) (xs : List ℕ) → length (drop n xs) ≤ length xs
less_dropped zero xs = omega arith
less_dropped (suc n) [] = omega arith
less_dropped (suc n) (x ∷ xs) = let h = less_dropped n xs in omega arith

either_place : (a b : Option Concat) → IsPlace a → IsPlace b → IsPlace (option_or a b)
either_place None b p q = q
either_place (Some c) b p q = p

module _ (header : List ℕ) (i size : ℕ) (after : List ℕ) (last : Option Concat) (o : IsOctets after) (r : Reached header (i ∷ size ∷ after) last) where
  all : take (length (i ∷ size ∷ after) - 2) after ≡ after
  all = take_all (length (i ∷ size ∷ after) - 2) after (omega arith)

  one_further : size ≤ length after → Reached header (drop size after) (option_or (told_by i (take size after)) last)
  one_further enough =
      further header (i ∷ size ∷ after) (take size after) (drop size after) (told_by i (take size after)) last (omega arith)
      (subst (λ (l : List ℕ). size ≤ length l) (sym all) enough) (ap (take size) (sym all)) (ap (drop size) (sym all))
      (told_is i (take size after) (octets_taken size after o)) r

  over : (b : Bool) → nat_le size (length after) ≡ b → (found : Option Concat) → (size ≤ length after → IsConcatOf header found) → IsConcatOf header (cond b found None)
  over true e found h = h (grind (arith, nat_tests))
  over false e found h =
      let few : length after < size = grind (arith, nat_tests) in
      cut_after_length header (i ∷ size ∷ after) last (omega arith) (subst (λ (l : List ℕ). length l < size) (sym all) few) r

walk : (n : ℕ) (header rest : List ℕ) (last : Option Concat) → length rest ≤ n → IsOctets rest → Reached header rest last → IsConcatOf header (walked n rest last)
walk n header [] last le o r = at_end header [] last refl r
walk n header (i ∷ []) last le o r = cut_before_length header (i ∷ []) last (omega arith) (omega arith) r
walk zero header (i ∷ size ∷ after) last le o r = absurd (omega arith)
walk (suc n) header (i ∷ size ∷ after) last le o r =
    over header i size after last o.1.1 r (nat_le size (length after)) refl (walked n (drop size after) (option_or (told_by i (take size after)) last))
    (λ enough. walk n header (drop size after) (option_or (told_by i (take size after)) last) (let h = less_dropped size after in omega arith)
    (octets_dropped size after o.1.1) (one_further header i size after last o.1.1 r enough))

test_place : (b : Bool) (a : Option Concat) → IsPlace a → IsPlace (cond b a None)
test_place true a p = p
test_place false a p = tt

places : (n : ℕ) (rest : List ℕ) (last : Option Concat) → IsOctets rest → IsPlace last → IsPlace (walked n rest last)
places n [] last o p = p
places n (i ∷ []) last o p = tt
places zero (i ∷ size ∷ after) last o p = tt
places (suc n) (i ∷ size ∷ after) last o p =
    test_place (nat_le size (length after)) _ (places n (drop size after) (option_or (told_by i (take size after)) last) (octets_dropped size after o.1.1)
    (either_place (told_by i (take size after)) last (told_place i (take size after) (octets_taken size after o.1.1)) p))

-- ---- the walk finds what the last of the elements tells

abbrev found : Option Concat → Option (List Element) → Option Concat
found last None = None
found last (Some elements) = option_or (last_told elements) last

or_or : (a b c : Option Concat) → option_or a (option_or b c) ≡ option_or (option_or a b) c
or_or None b c = refl
or_or (Some x) b c = refl

found_next : (e : Element) (last : Option Concat) (others : Option (List Element)) → found (option_or (told_by e.identifier e.octets) last) others ≡ found last (option_map (λ more. e ∷ more) others)
found_next e last None = refl
found_next e last (Some more) = or_or (last_told more) (told_by e.identifier e.octets) last

walked_next : (b : Bool) (e : Element) (last w : Option Concat) (others : Option (List Element)) → w ≡ found (option_or (told_by e.identifier e.octets) last) others → cond b w None ≡ found last (cond b (option_map (λ more. e ∷ more) others) None)
walked_next true e last w others same = same ∙ found_next e last others
walked_next false e last w others same = refl

walked_is : (n : ℕ) (rest : List ℕ) (last : Option Concat) → walked n rest last ≡ found last (elements_in n rest)
walked_is n [] last = refl
walked_is n (i ∷ []) last = refl
walked_is zero (i ∷ size ∷ after) last = refl
walked_is (suc n) (i ∷ size ∷ after) last =
    walked_next (nat_le size (length after)) (element i (take size after)) last _ (elements_in n (drop size after))
    (walked_is n (drop size after) (option_or (told_by i (take size after)) last))

or_none : (a : Option Concat) → option_or a None ≡ a
or_none None = refl
or_none (Some x) = refl

found_first : (elements : Option (List Element)) → found None elements ≡ option_and_then last_told elements
found_first None = refl
found_first (Some elements) = or_none (last_told elements)

walked_whole : (header : List ℕ) → walked (length header) header None ≡ concat_of_header (Some header)
walked_whole header = walked_is (length header) header None ∙ found_first (elements_in (length header) header)

pub concat_is_there : ConcatIsThere
concat_is_there header o = subst (IsConcatOf header) (walked_whole header) (walk (length header) header header None (omega arith) o (at_start header))

pub concat_is_one : ConcatIsOne
concat_is_one header told o h = one_concat header told (concat_of_header (Some header)) h (concat_is_there header o)

pub concat_is_place : ConcatIsPlace
concat_is_place header o = subst IsPlace (walked_whole header) (places (length header) header None o tt)

pub elements_are_one : ElementsAreOne
elements_are_one header elements others p q = one_list header others elements q p
