use Rattle.std.proofs.Common.{◌-◌, ◌<◌, ◌≤◌, [], ◌∷◌, ◌++◌, List, Option, length, sym, ap, ◌∙◌, subst, arith}
use Rattle.sms_join.specs.declared.units.Units.{Units}
use Rattle.sms_join.specs.OpenSets.{SetValue}
use Rattle.sms_join.specs.OpenSets.Places.{filled, set_by}
use Rattle.sms_join.proofs.Keeping.{on_ok}
use Rattle.sms_join.proofs.Slots.{first_length, first_units, set_first}
use Rattle.sms_join.proofs.open_sets.OpenSets.open.Goals as goal

pub add-requires-clause-places : goal.add-requires-clause-places
add-requires-clause-places c =
    ap (λ (l : List (Option Units)). length l) c.in_ok-places.ensures
    ∙ (first_length c.maximum.result c.args.sequence c.args.units ∙ c.maximum.ensures)

pub add-requires-clause-count : goal.add-requires-clause-count
add-requires-clause-count c =
    let last : c.args.sequence ≤ c.maximum.result = subst (λ n. c.args.sequence ≤ n) (sym c.maximum.ensures) c.requires.last in
    let few : c.args.sequence - 1 < c.maximum.result = omega (arith, last, c.requires.first) in
    sym (ap (λ (l : List (Option Units)). length (filled l)) c.in_ok-places.ensures
    ∙ ap (λ (l : List Units). length l) (first_units c.maximum.result (c.args.sequence - 1) c.args.units few))

pub returns-clause-ok : goal.returns-clause-ok
returns-clause-ok c =
    let last : c.args.sequence ≤ c.maximum.result = subst (λ n. c.args.sequence ≤ n) (sym c.maximum.ensures) c.requires.last in
    on_ok c.add.result
    (λ p. (
      p.0,
      p.1,
      p.2 ∙ ap (λ (s : SetValue). c.args.self.now ++ s ∷ []) (ap (set_by c.args.key c.args.now p.0) c.in_ok-places.ensures
          ∙ set_first c.args.key c.args.now p.0 c.args.sequence c.maximum.result c.args.units c.requires.first last),
    ))
    c.add.ensures.ok
