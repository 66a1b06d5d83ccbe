-- The elements of a list, told one after another.
use Rattle.std.proofs.Common.{◌≡◌, ℕ, zero, suc, ◌+◌, List, [], ◌∷◌, ◌++◌, take, drop, refl, ap, sym, ◌∙◌, append_assoc}
use Rattle.std.proofs.lemmas.List.{append-nil, take-append-drop}
use Rattle.std.proofs.lemmas.Grind.{flat_map-append}
use Rattle.std.specs.List.{flat_map}
use Rattle.sms_page.specs.Page.{PageValue, Puts}
use Rattle.sms_told.proofs.Composed.{Puts-then, Puts-same}

abbrev tail_of : {X : Type 0} → List X → List X
tail_of [] = []
tail_of (x ∷ xs) = xs

abbrev front_of : {X : Type 0} → List X → List X
front_of [] = []
front_of (x ∷ xs) = x ∷ []

-- what is left behind one more, and what stands before it
dropped_more : {X : Type 0} (xs : List X) (n : ℕ) → drop (suc n) xs ≡ tail_of (drop n xs)
dropped_more [] zero = refl
dropped_more [] (suc n) = refl
dropped_more (x ∷ xs) zero = refl
dropped_more (x ∷ xs) (suc n) = dropped_more xs n

taken_more : {X : Type 0} (xs : List X) (n : ℕ) → take (suc n) xs ≡ take n xs ++ front_of (drop n xs)
taken_more [] zero = refl
taken_more [] (suc n) = refl
taken_more (x ∷ xs) zero = refl
taken_more (x ∷ xs) (suc n) = ap (λ (l : List _). x ∷ l) (taken_more xs n)

-- one more is told
pub told_one : {X : Type 0} (text : X → List ℕ) (xs left rest : List X) (x : X) (n : ℕ) (a b d : PageValue)
    → left ≡ x ∷ rest → left ≡ drop n xs → Puts a b (flat_map text (take n xs)) → Puts b d (text x) → Puts a d (flat_map text (take (suc n) xs))
told_one text xs left rest x n a b d is kept told new =
    let own = sym kept ∙ is in
    let front = take n xs in
    Puts-same (ap (λ (l : List ℕ). flat_map text front ++ l) (sym (append-nil (text x))) ∙ sym (flat_map-append text front (x ∷ []))
    ∙ ap (λ (l : List _). flat_map text (front ++ l)) (sym (ap front_of own)) ∙ ap (flat_map text) (sym (taken_more xs n)))
    (Puts-then _ _ told new)

pub told_next : {X : Type 0} (text : X → List ℕ) (xs left rest : List X) (x : X) (n : ℕ) (a b d : PageValue)
    → left ≡ x ∷ rest → left ≡ drop n xs → Puts a b (flat_map text (take n xs)) → Puts b d (text x)
    → (count : ℕ) × (rest ≡ drop count xs) × Puts a d (flat_map text (take count xs))
told_next text xs left rest x n a b d is kept told new =
    (suc n, sym (dropped_more xs n ∙ ap tail_of (sym kept ∙ is)), told_one text xs left rest x n a b d is kept told new)

-- all are told
pub told_all : {X : Type 0} (text : X → List ℕ) (xs left : List X) (n : ℕ) (a b : PageValue)
    → left ≡ [] → left ≡ drop n xs → Puts a b (flat_map text (take n xs)) → Puts a b (flat_map text xs)
told_all text xs left n a b is kept told =
    let none = sym kept ∙ is in
    Puts-same (ap (flat_map text) (sym (append-nil (take n xs)) ∙ ap (λ (l : List _). take n xs ++ l) (sym none) ∙ take-append-drop n xs)) told
