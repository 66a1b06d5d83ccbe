-- The elements of a header, and the place that the last of them tells, are one.
use Rattle.std.proofs.Common.{◌≡◌, ◌⊎◌, inl, inr, ℕ, ◌-◌, ◌/◌, ◌%◌, ◌<◌, ◌≤◌, List, [], ◌∷◌, ◌++◌, length, take, drop, get_or, Option, Some, None, refl, sym, ap, subst, ◌∙◌, append_assoc, arith, length-append}
use Rattle.std.specs.List.{flat_map, AllByRecursion}
use Rattle.std.specs.Option.{option_or}
use Rattle.std.proofs.lemmas.List.{append-nil, take_at, drop_at, take_all, take-append-drop, length-take}
use Rattle.std.proofs.lemmas.Grind.{flat_map-append}
use Rattle.sms_tpdu.specs.declared.user_data.concat.Concat.{Concat}
use Rattle.sms_tpdu.specs.declared.user_data.concat.Width.{Width}
use Rattle.sms_tpdu.specs.declared.user_data.concat.Width.TheVariants.{Eight, Sixteen}
use Rattle.sms_tpdu.specs.UserData.Elements.{Element, element_octets, Spells, AreElements}
use Rattle.sms_tpdu.specs.UserData.Concatenation.{element_for, concat_element, IsInOrder, Tells, TellsNone, ToldBy, LastTells, IsLastOf, IsConcatOf}

-- ---- one list of elements

same_element : (e f : Element) → e.identifier ≡ f.identifier → e.octets ≡ f.octets → e ≡ f
same_element e f i o =
    let first : e ≡ record { identifier = f.identifier; octets = e.octets } = ap (λ (n : ℕ). let r : Element = record { identifier = n; octets = e.octets } in r) i in
    first ∙ ap (λ (l : List ℕ). let r : Element = record { identifier = f.identifier; octets = l } in r) o

-- two cuts of a list at one place
sides_front : (a b c d : List ℕ) → length a ≡ length b → a ++ c ≡ b ++ d → a ≡ b
sides_front a b c d n e = sym (take_at a c (length b) n) ∙ ap (take (length b)) e ∙ take_at b d (length b) refl

sides_back : (a b c d : List ℕ) → length a ≡ length b → a ++ c ≡ b ++ d → c ≡ d
sides_back a b c d n e = sym (drop_at a c (length b) n) ∙ ap (drop (length b)) e ∙ drop_at b d (length b) refl

both_parts : (e f : Element) (xs ys : List Element) → e ≡ f → xs ≡ ys → e ∷ xs ≡ f ∷ ys
both_parts e f xs ys p q = cc

-- a list that begins with the octets of some elements has these elements first
pub follows : (front others : List Element) (rest : List ℕ) → flat_map element_octets others ≡ flat_map element_octets front ++ rest → (more : List Element) × Spells more rest × (others ≡ front ++ more)
follows [] others rest e = (others, e, refl)
follows (f ∷ front) [] rest e = absurd cc
follows (f ∷ front) (o ∷ others) rest e =
    let ids : o.identifier ≡ f.identifier = cc in
    let sizes : length o.octets ≡ length f.octets = cc in
    let both : o.octets ++ flat_map element_octets others ≡ (f.octets ++ flat_map element_octets front) ++ rest = cc in
    let tails : o.octets ++ flat_map element_octets others ≡ f.octets ++ (flat_map element_octets front ++ rest) = both ∙ append_assoc f.octets (flat_map element_octets front) rest in
    let octets : o.octets ≡ f.octets = sides_front o.octets f.octets (flat_map element_octets others) (flat_map element_octets front ++ rest) sizes tails in
    let left : flat_map element_octets others ≡ flat_map element_octets front ++ rest = sides_back o.octets f.octets (flat_map element_octets others) (flat_map element_octets front ++ rest) sizes tails in
    let h = follows front others rest left in
    (h.0, h.1, both_parts o f others (front ++ h.0) (same_element o f ids octets) h.2)

nothing_spelled : (more : List Element) → Spells more [] → more ≡ []
nothing_spelled [] e = refl
nothing_spelled (o ∷ more) e = absurd cc

one_spelling : (a b : List Element) (header : List ℕ) → Spells a header → Spells b header → a ≡ b
one_spelling a b header p q =
    let h = follows b a [] (p ∙ sym q ∙ sym (append-nil (flat_map element_octets b))) in
    h.2 ∙ ap (λ (l : List Element). b ++ l) (nothing_spelled h.0 h.1) ∙ append-nil b

pub one_list : (header : List ℕ) (a b : List Element) → AreElements header a → AreElements header b → a ≡ b
one_list header a b (inl p) (inl q) = one_spelling a b header p q
one_list header a b (inl p) (inr q) = absurd (q.1 a p)
one_list header a b (inr p) (inl q) = absurd (p.1 b q)
one_list header a b (inr p) (inr q) = p.0 ∙ sym q.0

-- ---- one place

same_concat : (w v : Width) (r m s k n t : ℕ) → element_for w r m s ≡ element_for v k n t
    → (let c : Concat = record { width = w; reference = r; maximum = m; sequence = s } in c) ≡ record { width = v; reference = k; maximum = n; sequence = t }
same_concat Eight Eight r m s k n t e =
    let octets : r ∷ m ∷ s ∷ [] ≡ k ∷ n ∷ t ∷ [] = ap (λ (x : Element). x.octets) e in
    let rs : r ≡ k = cc in
    let ms : m ≡ n = cc in
    let ss : s ≡ t = cc in
    rw (rs, ms, ss) refl
same_concat Eight Sixteen r m s k n t e = let ids : 0 ≡ 8 = ap (λ (x : Element). x.identifier) e in absurd (omega (arith, ids))
same_concat Sixteen Eight r m s k n t e = let ids : 8 ≡ 0 = ap (λ (x : Element). x.identifier) e in absurd (omega (arith, ids))
same_concat Sixteen Sixteen r m s k n t e =
    let octets : r / 256 ∷ r % 256 ∷ m ∷ s ∷ [] ≡ k / 256 ∷ k % 256 ∷ n ∷ t ∷ [] = ap (λ (x : Element). x.octets) e in
    let highs : r / 256 ≡ k / 256 = cc in
    let lows : r % 256 ≡ k % 256 = cc in
    let rs : r ≡ k = omega (arith, highs, lows) in
    let ms : m ≡ n = cc in
    let ss : s ≡ t = cc in
    rw (rs, ms, ss) refl

told_alike : (e : Element) (c d : Concat) → Tells e c → Tells e d → c ≡ d
told_alike e c d p q = same_concat c.width d.width c.reference c.maximum c.sequence d.reference d.maximum d.sequence (sym p.0 ∙ q.0)

some_tells : (front : List Element) (e : Element) (back : List Element) (c : Concat) → Tells e c → AllByRecursion TellsNone (front ++ e ∷ back) → ⊥
some_tells [] e back c t h = h.0 c t
some_tells (x ∷ front) e back c t h = some_tells front e back c t h.1

one_tells : (elements : List Element) (c : Concat) → LastTells elements c → AllByRecursion TellsNone elements → ⊥
one_tells elements c l h = some_tells l.front l.element l.back c l.tells (subst (AllByRecursion TellsNone) l.parts h)

-- the last that tells a place is the first element, or stands after it
first_or_after : (e : Element) (elements : List Element) (c : Concat) (front : List Element) (element : Element) (back : List Element) → e ∷ elements ≡ front ++ element ∷ back → Tells element c → AllByRecursion TellsNone back
    → LastTells elements c ⊎ (Tells e c × AllByRecursion TellsNone elements)
first_or_after e elements c [] element back parts t h =
    let same : element ≡ e = cc in
    let rest : back ≡ elements = cc in
    inr (subst (λ (x : Element). Tells x c) same t, subst (AllByRecursion TellsNone) rest h)
first_or_after e elements c (x ∷ front) element back parts t h =
    let rest : elements ≡ front ++ element ∷ back = cc in
    inl (record { front = front; element = element; back = back; parts = rest; tells = t; others = h })

split : (e : Element) (elements : List Element) (c : Concat) → LastTells (e ∷ elements) c → LastTells elements c ⊎ (Tells e c × AllByRecursion TellsNone elements)
split e elements c l = first_or_after e elements c l.front l.element l.back l.parts l.tells l.others

nowhere : (c : Concat) (front : List Element) (e : Element) (back : List Element) → [] ≡ front ++ e ∷ back → ⊥
nowhere c [] e back p = cc
nowhere c (x ∷ front) e back p = cc

same_last : (elements : List Element) (c d : Concat) → LastTells elements c → LastTells elements d → c ≡ d
same_last [] c d p q = absurd (nowhere c p.front p.element p.back p.parts)
same_last (e ∷ elements) c d p q = go (same_last elements c d) (split e elements c p) (split e elements d q)
  where
    go : (LastTells elements c → LastTells elements d → c ≡ d) → LastTells elements c ⊎ (Tells e c × AllByRecursion TellsNone elements) → LastTells elements d ⊎ (Tells e d × AllByRecursion TellsNone elements) → c ≡ d
    go follows (inl l) (inl k) = follows l k
    go follows (inl l) (inr k) = absurd (one_tells elements c l k.1)
    go follows (inr l) (inl k) = absurd (one_tells elements d k l.1)
    go follows (inr l) (inr k) = told_alike e c d l.0 k.0

one_last : (elements : List Element) (a b : Option Concat) → IsLastOf elements a → IsLastOf elements b → a ≡ b
one_last elements (Some c) (Some d) p q = ap Some (same_last elements c d p q)
one_last elements (Some c) None p q = absurd (one_tells elements c p q)
one_last elements None (Some d) p q = absurd (one_tells elements d q p)
one_last elements None None p q = refl

pub one_concat : (header : List ℕ) (a b : Option Concat) → IsConcatOf header a → IsConcatOf header b → a ≡ b
one_concat header a b p q = one_last q.elements a b (subst (λ (l : List Element). IsLastOf l a) (one_list header p.elements q.elements p.are q.are) p.last) q.last

-- ---- the walk over a header

-- some elements were passed, and the last place that they tell
pub record Reached (header rest : List ℕ) (last : Option Concat) : Type 0 where
  pub front : List Element
  pub parts : header ≡ flat_map element_octets front ++ rest
  pub last_is : IsLastOf front last

pub at_start : (header : List ℕ) → Reached header header None
at_start header = record { front = []; parts = refl; last_is = tt }

none_more : (front : List Element) (e : Element) → AllByRecursion TellsNone front → TellsNone e → AllByRecursion TellsNone (front ++ e ∷ [])
none_more [] e h p = (p, tt)
none_more (x ∷ front) e h p = (h.0, none_more front e h.1 p)

one_more : (front : List Element) (e : Element) (told last : Option Concat) → ToldBy e told → IsLastOf front last → IsLastOf (front ++ e ∷ []) (option_or told last)
one_more front e (Some c) last t h = record { front = front; element = e; back = []; parts = refl; tells = t; others = tt }
one_more front e None (Some c) t h = record { front = h.front; element = h.element; back = h.back ++ e ∷ []; parts = ap (λ (l : List Element). l ++ e ∷ []) h.parts ∙ append_assoc h.front (h.element ∷ h.back) (e ∷ []); tells = h.tells; others = none_more h.back e h.others t }
one_more front e None None t h = none_more front e h t

abbrev pub from_third : List ℕ → List ℕ
from_third xs = take (length xs - 2) (drop 2 xs)

pub two_first : (xs : List ℕ) → 2 ≤ length xs → xs ≡ get_or xs 0 0 ∷ get_or xs 1 0 ∷ from_third xs
two_first [] h = absurd (omega arith)
two_first (x ∷ []) h = absurd (omega arith)
two_first (x ∷ y ∷ xs) h = ap (λ (l : List ℕ). x ∷ y ∷ l) (sym (take_all (length (x ∷ y ∷ xs) - 2) xs (omega arith)))

pub further : (header rest octets others : List ℕ) (told last : Option Concat) → 2 ≤ length rest → get_or rest 1 0 ≤ length (from_third rest) → octets ≡ take (get_or rest 1 0) (from_third rest) → others ≡ drop (get_or rest 1 0) (from_third rest)
    → ToldBy (record { identifier = get_or rest 0 0; octets = octets }) told → Reached header rest last → Reached header others (option_or told last)
further header rest octets others told last two enough o l t r =
    let size : ℕ = get_or rest 1 0 in
    let e : Element = record { identifier = get_or rest 0 0; octets = octets } in
    let len : length octets ≡ size = omega (arith, ap length o, length-take size (from_third rest)) in
    let rest_is : rest ≡ element_octets e ++ others =
    two_first rest two ∙ ap (λ (k : List ℕ). get_or rest 0 0 ∷ size ∷ k) (sym (take-append-drop size (from_third rest))) ∙ ap (λ (n : ℕ). get_or rest 0 0 ∷ n ∷ (take size (from_third rest) ++ drop size (from_third rest))) (sym len) ∙ ap (λ (k : List ℕ). get_or rest 0 0 ∷ length octets ∷ (k ++ drop size (from_third rest))) (sym o) ∙ ap (λ (k : List ℕ). element_octets e ++ k) (sym l) in
    let single : flat_map element_octets (r.front ++ e ∷ []) ≡ flat_map element_octets r.front ++ element_octets e = flat_map-append element_octets r.front (e ∷ []) ∙ ap (λ (k : List ℕ). flat_map element_octets r.front ++ k) (append-nil (element_octets e)) in
    record {
      front = r.front ++ e ∷ [];
      parts = r.parts ∙ ap (λ (k : List ℕ). flat_map element_octets r.front ++ k) rest_is ∙ sym (append_assoc (flat_map element_octets r.front) (element_octets e) others) ∙ ap (λ (k : List ℕ). k ++ others) (sym single);
      last_is = one_more r.front e told last t r.last_is;
    }

pub at_end : (header rest : List ℕ) (last : Option Concat) → length rest ≡ 0 → Reached header rest last → IsConcatOf header last
at_end header [] last e r = record { elements = r.front; are = inl (sym (r.parts ∙ append-nil (flat_map element_octets r.front))); last = r.last_is }
at_end header (x ∷ rest) last e r = absurd (omega arith)

-- no elements spell what is left
cut : (header rest : List ℕ) (last : Option Concat) → ((more : List Element) → Spells more rest → ⊥) → Reached header rest last → IsConcatOf header None
cut header rest last none r = record {
  elements = [];
  are = inr (refl, (λ others s. let h = follows r.front others rest (s ∙ r.parts) in none h.0 h.1));
  last = tt;
}

pub cut_before_length : (header rest : List ℕ) (last : Option Concat) → 1 ≤ length rest → length rest < 2 → Reached header rest last → IsConcatOf header None
cut_before_length header rest last some few r = cut header rest last (none rest some few) r
  where
    none : (xs : List ℕ) → 1 ≤ length xs → length xs < 2 → (more : List Element) → Spells more xs → ⊥
    none xs some few [] s = omega (arith, ap length s)
    none xs some few (e ∷ more) s = omega (arith, ap length s)

pub short_of : (identifier size : ℕ) (octets : List ℕ) → length octets < size → (more : List Element) → Spells more (identifier ∷ size ∷ octets) → ⊥
short_of identifier size octets few [] s = cc
short_of identifier size octets few (e ∷ more) s =
    let sizes : length e.octets ≡ size = cc in
    let left : e.octets ++ flat_map element_octets more ≡ octets = cc in
    omega (arith, sizes, few, ap length left, length-append e.octets (flat_map element_octets more))

pub cut_after_length : (header rest : List ℕ) (last : Option Concat) → 2 ≤ length rest → length (from_third rest) < get_or rest 1 0 → Reached header rest last → IsConcatOf header None
cut_after_length header rest last two few r = cut header rest last (λ more s. short_of (get_or rest 0 0) (get_or rest 1 0) (from_third rest) few more (s ∙ two_first rest two)) r

-- ---- a header of one's own

pub own : (c : Concat) → IsInOrder c → IsConcatOf (element_octets (concat_element c)) (Some c)
own c h = record {
  elements = concat_element c ∷ [];
  are = inl (append-nil (element_octets (concat_element c)));
  last = record { front = []; element = concat_element c; back = []; parts = refl; tells = (refl, h); others = tt };
}
