-- Numbers of openings stay below a limit in the order in which the sets were opened.
use Rattle.std.proofs.Common.{ℕ, ◌<◌, ◌≤◌, Bool, true, false, ltb, cond, List, [], ◌∷◌, arith}
use Rattle.sms_join.specs.OpenSets.{SetValue}
use Rattle.sms_join.specs.OpenSets.Told.{AreUnder}
use Rattle.sms_join.specs.Inside.Turns.{AreBefore, put_in, arranged}

under_put : (n : ℕ) (s : SetValue) (ss : List SetValue) → s.turn < n → AreUnder n ss → AreUnder n (put_in s ss)
under_put n s [] below under = (below, under)
under_put n s (t ∷ ts) below under = go (ltb s.turn t.turn) (under_put n s ts below under.1)
  where
    go : (b : Bool) → AreUnder n (put_in s ts) → AreUnder n (cond b (s ∷ t ∷ ts) (t ∷ put_in s ts))
    go true rest = (below, under)
    go false rest = (under.0, rest)

pub under_arranged : (n t : ℕ) (ss : List SetValue) → t ≤ n → AreBefore t ss → AreUnder n (arranged ss)
under_arranged n t [] few before = before
under_arranged n t (s ∷ ss) few before =
    let below = before.0 in
    under_put n s (arranged ss) (omega (arith, below, few)) (under_arranged n t ss few before.1)
