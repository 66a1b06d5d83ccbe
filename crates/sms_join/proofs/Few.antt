-- No change but an opening makes the open sets more.
use Rattle.std.proofs.Common.{◌≡◌, ℕ, suc, ◌-◌, ◌<◌, ◌≤◌, Bool, true, false, cond, List, [], ◌∷◌, ◌++◌, length, get_or, Some, ap, length-append, arith}
use Rattle.std.specs.List.{filter, swap_remove, slice_get}
use Rattle.std.proofs.Math.ListN.{set}
use Rattle.std.proofs.lemmas.List.{length-set, length-take-le}
use Rattle.sms_join.specs.OpenSets.{SetValue}
use Rattle.sms_join.specs.Inside.Slots.{At}

pub fewer_filtered : {X : Type 0} (t : X → Bool) (xs : List X) → length (filter t xs) ≤ length xs
fewer_filtered t [] = omega arith
fewer_filtered t (x ∷ xs) = go (t x) (fewer_filtered t xs)
  where
    go : (b : Bool) → length (filter t xs) ≤ length xs → length (cond b (x ∷ filter t xs) (filter t xs)) ≤ suc (length xs)
    go true h = omega (arith, h)
    go false h = omega (arith, h)

-- a set has a piece more, a set goes, a set comes
pub as_many_after : (ss : List SetValue) (i : ℕ) (new : List SetValue) (most : ℕ) (change : SetValue → SetValue) {own : SetValue} → slice_get ss i ≡ Some own → At ss i (λ s. new ≡ set ss i (change s)) → length ss ≤ most → length new ≤ most
as_many_after ss i new most change {own} there put few =
    let is : new ≡ set ss i (change own) = put own there in
    omega (arith, ap length is, length-set ss i (change own), few)

pub fewer_after : (ss : List SetValue) (i : ℕ) (new : List SetValue) (most : ℕ) {own : SetValue} → slice_get ss i ≡ Some own → At ss i (λ s. new ≡ swap_remove ss i s) → length ss ≤ most → length new ≤ most
fewer_after ss i new most {own} there gone few =
    let is : new ≡ swap_remove ss i own = gone own there in
    let rest : List SetValue = set ss i (get_or ss (length ss - 1) own) in
    omega (arith, ap length is, length-take-le (length ss - 1) rest, length-set ss i (get_or ss (length ss - 1) own), few)

pub one_more_after : (ss new : List SetValue) (s : SetValue) (most : ℕ) → new ≡ ss ++ s ∷ [] → length ss < most → length new ≤ most
one_more_after ss new s most is less = omega (arith, ap length is, length-append ss (s ∷ []), less)
