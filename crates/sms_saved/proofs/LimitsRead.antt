-- Limits are read as they are spelled, where they are those of the caller.
use Rattle.std.proofs.Common.{◌≡◌, ◌≢◌, ℕ, ◌^◌, ◌<◌, Bool, true, false, ◌&&◌, ◌==◌, List, ◌++◌, Option, Some, None, Ok, refl, sym, ap, subst, ◌∙◌}
use Rattle.std.specs.Prelude.{IfSome}
use Rattle.std.specs.Int.{w64}
use Rattle.std.proofs.lemmas.Bool.{eqb-true, eq-eqb}
use Rattle.sms_saved.specs.declared.fault.StateFault.TheVariants.{OtherLimits}
use Rattle.sms_saved.specs.declared.state.Limits.{Limits}
use Rattle.sms_saved.specs.Fits.{LimitsFit}
use Rattle.sms_saved.specs.Spelling.{eight, optional, flag, limits}
use Rattle.sms_saved.specs.Reading.Fields.{stops, number_at, optional_at, flag_at, tested_at}
use Rattle.sms_saved.specs.Reading.Whole.{any_limits_at, same_flag, same_age, same_limits, limits_at}
use Rattle.sms_saved.proofs.TakenFields.{IsBytes, bind_ok, ok_is, Takes, Takes-then, Reads, reads_as, reads_tested}
use Rattle.sms_saved.proofs.Numbers.{reads_eight}
use Rattle.sms_saved.proofs.Strings.{reads_optional, reads_flag}
use Rattle.sms_saved.proofs.Keys.{regroup3}

reads_age : Reads (optional_at (number_at w64)) (optional eight) (λ o. IfSome o (λ n. n < 2 ^ 64))
reads_age = reads_optional (number_at w64) eight (λ n. n < 2 ^ 64) reads_eight

limits_take : (bytes : List ℕ) (x : Limits × List ℕ) → IsBytes bytes → any_limits_at bytes ≡ Ok x → Takes bytes (limits x.0) x.1 × LimitsFit x.0
unfolding any_limits_at
limits_take bytes x fits e =
    let a = bind_ok (number_at w64 bytes) _ x e in
    let b = bind_ok (number_at w64 a.0.1) _ x a.2 in
    let c = bind_ok (number_at w64 b.0.1) _ x b.2 in
    let d = bind_ok (optional_at (number_at w64) c.0.1) _ x c.2 in
    let f = bind_ok (flag_at d.0.1) _ x d.2 in
    let t0 = reads_eight.takes bytes a.0 fits a.1 in
    let t1 = reads_eight.takes a.0.1 b.0 t0.0.rest_fits b.1 in
    let t2 = reads_eight.takes b.0.1 c.0 t1.0.rest_fits c.1 in
    let t3 = reads_age.takes c.0.1 d.0 t2.0.rest_fits d.1 in
    let t4 = reads_flag.takes d.0.1 f.0 t3.0.rest_fits f.1 in
    let e01 = Takes-then bytes (eight a.0.0) a.0.1 (eight b.0.0) b.0.1 t0.0 t1.0 in
    let e02 = Takes-then bytes (eight a.0.0 ++ eight b.0.0) b.0.1 (eight c.0.0) c.0.1 e01 t2.0 in
    let e03 = Takes-then bytes (eight a.0.0 ++ eight b.0.0 ++ eight c.0.0) c.0.1 (optional eight d.0.0) d.0.1 e02 t3.0 in
    let e04 = Takes-then bytes (eight a.0.0 ++ eight b.0.0 ++ eight c.0.0 ++ optional eight d.0.0) d.0.1 (flag f.0.0) f.0.1 e03 t4.0 in
    let made : Limits × List ℕ = (record { sets = a.0.0; keys = b.0.0; age_of_sets = c.0.0; age_of_keys = d.0.0; passes_singles = f.0.0 }, f.0.1) in
    subst (λ (y : Limits × List ℕ). Takes bytes (limits y.0) y.1 × LimitsFit y.0) (ok_is made x f.2) (e04, record { sets = t0.1; keys = t1.1; age_of_sets = t2.1; age_of_keys = t3.1 })

limits_again : (l : Limits) (rest : List ℕ) → LimitsFit l → any_limits_at (limits l ++ rest) ≡ Ok (l, rest)
unfolding any_limits_at
limits_again l rest fits =
    let r4 : List ℕ = flag l.passes_singles ++ rest in
    let r3 : List ℕ = optional eight l.age_of_keys ++ r4 in
    let r2 : List ℕ = eight l.age_of_sets ++ r3 in
    let r1 : List ℕ = eight l.keys ++ r2 in
    let three : List ℕ = eight l.sets ++ eight l.keys ++ eight l.age_of_sets in
    ap any_limits_at (regroup3 three (optional eight l.age_of_keys) (flag l.passes_singles) rest ∙ regroup3 (eight l.sets) (eight l.keys) (eight l.age_of_sets) r3)
    ∙ rw (reads_eight.again l.sets r1 fits.sets, reads_eight.again l.keys r2 fits.keys, reads_eight.again l.age_of_sets r3 fits.age_of_sets, reads_age.again l.age_of_keys r4 fits.age_of_keys, reads_flag.again l.passes_singles rest tt) refl

pub reads_any_limits : Reads any_limits_at limits LimitsFit
reads_any_limits = record { takes = limits_take; again = limits_again }

-- ---- the same limits

and_true : (a b : Bool) → a && b ≡ true → (a ≡ true) × (b ≡ true)
and_true true b e = (refl, e)
and_true false b e = absurd cc

flag_same : (a b : Bool) → same_flag a b ≡ true → a ≡ b
flag_same true true e = refl
flag_same true false e = absurd cc
flag_same false true e = absurd cc
flag_same false false e = refl

same_flag_self : (a : Bool) → same_flag a a ≡ true
same_flag_self true = refl
same_flag_self false = refl

age_same : (a b : Option ℕ) → same_age a b ≡ true → a ≡ b
age_same None None e = refl
age_same None (Some b) e = absurd cc
age_same (Some a) None e = absurd cc
age_same (Some a) (Some b) e = ap (λ (n : ℕ). Some n) (eqb-true a b e)

same_age_self : (a : Option ℕ) → same_age a a ≡ true
same_age_self None = refl
same_age_self (Some a) = eq-eqb a a refl

abbrev limits_of : ℕ → ℕ → ℕ → Option ℕ → Bool → Limits
limits_of sets keys age_of_sets age_of_keys passes = record { sets = sets; keys = keys; age_of_sets = age_of_sets; age_of_keys = age_of_keys; passes_singles = passes }

pub limits_same : (a b : Limits) → same_limits a b ≡ true → b ≡ a
unfolding same_limits
limits_same a b e =
    let p = and_true (a.sets == b.sets) _ e in
    let q = and_true (a.keys == b.keys) _ p.1 in
    let r = and_true (a.age_of_sets == b.age_of_sets) _ q.1 in
    let s = and_true (same_age a.age_of_keys b.age_of_keys) _ r.1 in
    sym (parts_same a b (eqb-true a.sets b.sets p.0) (eqb-true a.keys b.keys q.0) (eqb-true a.age_of_sets b.age_of_sets r.0) (age_same a.age_of_keys b.age_of_keys s.0) (flag_same a.passes_singles b.passes_singles s.1))
  where
    parts_same : (a b : Limits) → a.sets ≡ b.sets → a.keys ≡ b.keys → a.age_of_sets ≡ b.age_of_sets → a.age_of_keys ≡ b.age_of_keys → a.passes_singles ≡ b.passes_singles → a ≡ b
    parts_same a b e f g h i =
        ap (λ x. limits_of x a.keys a.age_of_sets a.age_of_keys a.passes_singles) e ∙ ap (λ x. limits_of b.sets x a.age_of_sets a.age_of_keys a.passes_singles) f
        ∙ ap (λ x. limits_of b.sets b.keys x a.age_of_keys a.passes_singles) g ∙ ap (λ x. limits_of b.sets b.keys b.age_of_sets x a.passes_singles) h
        ∙ ap (λ x. limits_of b.sets b.keys b.age_of_sets b.age_of_keys x) i

pub same_limits_self : (a : Limits) → same_limits a a ≡ true
unfolding same_limits
same_limits_self a = rw (eq-eqb a.sets a.sets refl, eq-eqb a.keys a.keys refl, eq-eqb a.age_of_sets a.age_of_sets refl, same_age_self a.age_of_keys) (same_flag_self a.passes_singles)

pub reads_limits : (own : Limits) → Reads (limits_at own) limits (λ l. LimitsFit l × (l ≡ own))
reads_limits own = reads_as (limits_at own) limits (λ l. LimitsFit l × (same_limits own l ≡ true)) (λ l. LimitsFit l × (l ≡ own))
    (λ l h. (h.0, limits_same own l h.1)) (λ l h. (h.0, subst (λ (m : Limits). same_limits own m ≡ true) (sym h.1) (same_limits_self own))) (reads_tested (same_limits own) OtherLimits any_limits_at limits LimitsFit reads_any_limits)

-- limits of another joiner
pub limits_other : (own l : Limits) (rest : List ℕ) → LimitsFit l → l ≢ own → limits_at own (limits l ++ rest) ≡ stops (limits l ++ rest) OtherLimits
unfolding tested_at
limits_other own l rest fits differ = rw (reads_any_limits.again l rest fits, differs (same_limits own l) (λ e. differ (limits_same own l e))) refl
  where
    differs : (b : Bool) → (b ≡ true → ⊥) → b ≡ false
    differs true never = absurd (never refl)
    differs false never = refl
