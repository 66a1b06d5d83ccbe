-- The most sets, where some come and some go.
use Rattle.std.proofs.Common.{◌≡◌, ℕ, ◌≤◌, max, List, length, sym, ap, subst, arith}
use Rattle.sms_join.specs.Inside.MostSets.{Follows}

pub follows_more : (n m most new : ℕ) → Follows n most → n ≤ m → new ≡ max m most → Follows m new
follows_more n m most new f more is =
    let a = f.as_many in
    let b = f.few_times in
    record { as_many = omega arith; few_times = omega arith }

-- as many sets by another list
pub follows_same : {X : Type 0} (es fs : List X) (most : ℕ) → fs ≡ es → Follows (length es) most → Follows (length fs) most
follows_same es fs most is f = subst (λ n. Follows n most) (ap (λ l. length l) (sym is)) f
