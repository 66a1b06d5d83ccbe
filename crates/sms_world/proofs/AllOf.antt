-- What holds of each entry of a list.
use Rattle.std.proofs.Common.{◌≡◌, ℕ, zero, suc, List, [], ◌∷◌, ◌++◌, Some, subst}
use Rattle.std.specs.List.{AllByRecursion, slice_get}

pub all_and_one : {X : Type 0} (P : X → Type 0) (xs : List X) (y : X) → AllByRecursion P xs → P y → AllByRecursion P (xs ++ y ∷ [])
all_and_one P [] y h k = (k, tt)
all_and_one P (x ∷ xs) y h k = (h.0, all_and_one P xs y h.1 k)

pub all_and_all : {X : Type 0} (P : X → Type 0) (xs ys : List X) → AllByRecursion P xs → AllByRecursion P ys → AllByRecursion P (xs ++ ys)
all_and_all P [] ys h k = k
all_and_all P (x ∷ xs) ys h k = (h.0, all_and_all P xs ys h.1 k)

pub one_of_all : {X : Type 0} (P : X → Type 0) (xs : List X) (n : ℕ) (y : X) → AllByRecursion P xs → slice_get xs n ≡ Some y → P y
one_of_all P [] n y h e = absurd cc
one_of_all P (x ∷ xs) zero y h e = let is : x ≡ y = cc in subst P is h.0
one_of_all P (x ∷ xs) (suc n) y h e = one_of_all P xs n y h.1 e
