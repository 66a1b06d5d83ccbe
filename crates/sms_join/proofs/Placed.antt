-- A set that is put back by its places.
use Rattle.std.proofs.Common.{◌≡◌, ℕ, zero, suc, ◌+◌, ◌<◌, ◌≤◌, false, cond, List, [], ◌∷◌, ◌++◌, take, length, get_or, Option, None, Some, is_some, Result, Ok, Err, refl, sym, ap, ◌∙◌, subst, arith}
use Rattle.std.specs.Result.{OnOk, OnErr}
use Rattle.sms_join.specs.declared.key.Key.{Key}
use Rattle.sms_join.specs.declared.units.Units.{Units}
use Rattle.sms_join.specs.Key.{maximum_of}
use Rattle.sms_join.specs.OpenSets.{SetValue, Rises, IsOpen, AreOpen, has_set}
use Rattle.sms_join.specs.OpenSets.Places.{filled, filled_from, set_by}
use Rattle.sms_join.specs.Inside.Turns.{HaveTurns}
use Rattle.sms_join.proofs.Few.{one_more_after}
use Rattle.sms_join.proofs.Outcomes.{are_open_more}
use Rattle.sms_join.proofs.Slots.{as_many}

-- ---- those that are filled are counted

pub counted_one : (ps : List (Option Units)) (i : ℕ) (p : Option Units) → i < length ps → p ≡ get_or ps i p
    → length (filled (take (i + 1) ps)) ≡ length (filled (take i ps)) + cond (is_some p) 1 0
counted_one ps i p l e = let on : i + 1 ≡ suc i = omega arith in ap (λ n. length (filled (take n ps))) on ∙ go ps i l e
  where
    go : (ps : List (Option Units)) (i : ℕ) → i < length ps → p ≡ get_or ps i p → length (filled (take (suc i) ps)) ≡ length (filled (take i ps)) + cond (is_some p) 1 0
    go [] i l e = absurd (omega (arith, l))
    go (None ∷ ps) zero l e = ap (λ (r : Option Units). 0 + cond {A = ℕ} (is_some r) 1 0) (sym e)
    go (Some u ∷ ps) zero l e = ap (λ (r : Option Units). 0 + cond {A = ℕ} (is_some r) 1 0) (sym e)
    go (None ∷ ps) (suc i) l e = go ps i (omega (arith, l)) e
    go (Some u ∷ ps) (suc i) l e = let h = go ps i (omega (arith, l)) e in omega (arith, h)

pub few_counted : (ps : List (Option Units)) (i : ℕ) → length (filled (take i ps)) ≤ i
few_counted ps zero = omega arith
few_counted [] (suc i) = omega arith
few_counted (None ∷ ps) (suc i) = let h = few_counted ps i in omega (arith, h)
few_counted (Some u ∷ ps) (suc i) = let h = few_counted ps i in omega (arith, h)

pub all_counted : (ps : List (Option Units)) (i : ℕ) → length ps ≤ i → length (filled (take i ps)) ≡ length (filled ps)
all_counted [] zero l = refl
all_counted [] (suc i) l = refl
all_counted (p ∷ ps) zero l = absurd (omega (arith, l))
all_counted (None ∷ ps) (suc i) l = all_counted ps i (omega (arith, l))
all_counted (Some u ∷ ps) (suc i) l = ap suc (all_counted ps i (omega (arith, l)))

-- ---- the set is open

rises_lower : (m n : ℕ) (ns : List ℕ) (high : ℕ) → m ≤ n → Rises n ns high → Rises m ns high
rises_lower m n [] high l h = omega (arith, l, h)
rises_lower m n (x ∷ ns) high l h = (omega (arith, l, h.0), h.1)

rising : (low : ℕ) (ps : List (Option Units)) (high : ℕ) → low + length ps ≤ high → Rises low (filled_from (suc low) ps) high
rising low [] high l = omega (arith, l)
rising low (None ∷ ps) high l = rises_lower low (suc low) (filled_from (suc (suc low)) ps) high (omega arith) (rising (suc low) ps high (omega (arith, l)))
rising low (Some u ∷ ps) high l = (omega arith, rising (suc low) ps high (omega (arith, l)))

pub placed_open : (key : Key) (opened turn : ℕ) (ps : List (Option Units)) → length ps ≡ maximum_of key → 0 < length (filled ps) → length (filled ps) < maximum_of key
    → IsOpen (set_by key opened turn ps)
placed_open key opened turn ps count some part =
    let many = as_many 1 ps in
    record {
      is_set = record { rising = rising 0 ps (maximum_of key) (omega (arith, count)); as_many = sym many };
      some = omega (arith, some, many);
      part = omega (arith, part, many);
    }

-- the sets after it is put back, or is not
pub still_open : {X Y : Type 0} (most : ℕ) (ss ts : List SetValue) (key : Key) (moment : ℕ) (ps : List (Option Units)) (r : Result X Y)
    → OnOk r ((t : ℕ) × HaveTurns t ss × (ts ≡ ss ++ set_by key moment t ps ∷ [])) → OnErr r (ts ≡ ss)
    → AreOpen ss → has_set ss key ≡ false → length ss < most
    → length ps ≡ maximum_of key → 0 < length (filled ps) → length (filled ps) < maximum_of key
    → AreOpen ts × (length ts ≤ most)
still_open most ss ts key moment ps (Ok x) ok err o closed less count some part = (
  subst AreOpen (sym ok.2) (are_open_more ss (set_by key moment ok.0 ps) o (placed_open key moment ok.0 ps count some part) closed),
  one_more_after ss ts (set_by key moment ok.0 ps) most ok.2 less,
)
still_open most ss ts key moment ps (Err e) ok err o closed less count some part =
    (subst AreOpen (sym err) o, omega (arith, ap (λ (l : List SetValue). length l) err, less))
