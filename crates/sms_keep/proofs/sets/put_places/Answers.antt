use Rattle.std.proofs.Common.{◌+◌, ◌-◌, ◌<◌, ◌++◌, List, Option, option_map, sym, ap, ◌∙◌, subst}
use Rattle.std.specs.Prelude.{IfSome}
use Rattle.std.specs.List.{flat_map, AllByRecursion}
use Rattle.sms_join.specs.Key.{maximum_of}
use Rattle.sms_join.specs.OpenSets.{units_for}
use Rattle.sms_saved.specs.Fits.{UnitsFit}
use Rattle.sms_saved.specs.Spelling.{place}
use Rattle.sms_saved.specs.Value.{UnitsValue}
use Rattle.sms_keep.specs.Saved.{saved_units, places_from}
use Rattle.sms_keep.proofs.Spelled.{one_more, next_place}
use Rattle.sms_keep.proofs.sets.put_places.Goals as goal

pub loop-before-preserved : goal.loop-before-preserved
loop-before-preserved c =
    let l : c.loop-before.before < maximum_of c.args.own.now.key = subst (λ n. c.loop-before.before < n) c.maximum-before-end.ensures c.loop-before-test.true in (
      one_more place c.loop-before.writer c.put_place.new.self
          (c.args.writer.now ++ flat_map place (places_from 1 (maximum_of c.args.own.now.key) c.args.own.now))
          (option_map saved_units (units_for (c.loop-before.before + 1) c.args.own.now.sequences c.args.own.now.units))
          (places_from (c.loop-before.before + 1 + 1) (maximum_of c.args.own.now.key - (c.loop-before.before + 1)) c.args.own.now)
          (c.in_ok-put_place.ensures
          ∙ ap (λ (p : Option UnitsValue). c.loop-before.writer ++ place p) (c.view_of.ensures.value ∙ ap (option_map saved_units) c.units.ensures))
          (ap (λ (ps : List (Option UnitsValue)). c.loop-before.writer ++ flat_map place ps) (sym (next_place c.args.own.now c.loop-before.before (maximum_of c.args.own.now.key) l))
          ∙ c.loop-before.invariant.0),
      λ others. c.loop-before.invariant.1
          (subst (AllByRecursion (λ p. IfSome p UnitsFit)) (sym (next_place c.args.own.now c.loop-before.before (maximum_of c.args.own.now.key) l))
          (subst (λ u. IfSome (option_map saved_units u) UnitsFit) c.units.ensures c.view_of.ensures.fits, others)),
    )
