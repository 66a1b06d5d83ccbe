-- Sets that rise in number are all found in turn.
use Rattle.std.proofs.Common.{◌≡◌, ℕ, suc, ◌<◌, Bool, true, false, cond, leb, List, [], ◌∷◌, ◌++◌, Some, refl, ap, ◌∙◌, subst, arith}
use Rattle.std.proofs.lemmas.Bool.{le-leb, leb-true}
use Rattle.sms_join.specs.OpenSets.{SetValue}
use Rattle.sms_join.specs.OpenSets.Told.{AreAbove, RiseInTurn, first_from, first_of, AreWalked}

-- all are above the number
found_first : (n : ℕ) (ss : List SetValue) → AreAbove n ss → first_from (suc n) ss ≡ first_of ss
found_first n [] h = refl
found_first n (s ∷ ss) h = ap (λ (b : Bool). cond b (Some s) (first_from (suc n) ss)) (le-leb (suc n) s.turn (let l = h.0 in omega arith))

from_zero : (ss : List SetValue) → first_from 0 ss ≡ first_of ss
from_zero [] = refl
from_zero (s ∷ ss) = ap (λ (b : Bool). cond b (Some s) (first_from 0 ss)) (le-leb 0 s.turn (omega arith))

not_yet : (n : ℕ) (s : SetValue) → s.turn < n → leb n s.turn ≡ false
not_yet n s l = go (leb n s.turn) refl
  where
    go : (b : Bool) → leb n s.turn ≡ b → b ≡ false
    go false e = refl
    go true e = let k = leb-true n s.turn e in absurd (omega arith)

above_there : (n : ℕ) (ls rs : List SetValue) (s : SetValue) → AreAbove n (ls ++ s ∷ rs) → n < s.turn
above_there n [] rs s h = h.0
above_there n (l ∷ ls) rs s h = above_there n ls rs s h.1

after : (ls rs : List SetValue) (s : SetValue) → RiseInTurn (ls ++ s ∷ rs) → first_from (suc s.turn) (ls ++ s ∷ rs) ≡ first_of rs
after [] rs s h =
    ap (λ (b : Bool). cond b (Some s) (first_from (suc s.turn) rs)) (not_yet (suc s.turn) s (omega arith))
    ∙ found_first s.turn rs h.0
after (l ∷ ls) rs s h =
    ap (λ (b : Bool). cond b (Some l) (first_from (suc s.turn) (ls ++ s ∷ rs))) (not_yet (suc s.turn) l (let k = above_there l.turn ls rs s h.0 in omega arith))
    ∙ after ls rs s h.1

pub are_walked : AreWalked
are_walked ss h = (
  from_zero ss,
  λ ls rs s e. ap (first_from (suc s.turn)) e ∙ after ls rs s (subst RiseInTurn e h),
)
