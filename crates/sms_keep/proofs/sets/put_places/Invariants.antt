use Rattle.std.proofs.Common.{◌≡◌, ◌+◌, ◌-◌, ◌++◌}
use Rattle.std.specs.Prelude.{IfSome}
use Rattle.std.specs.List.{flat_map, AllByRecursion}
use Rattle.sms_join.specs.Key.{maximum_of}
use Rattle.sms_saved.specs.Fits.{UnitsFit}
use Rattle.sms_saved.specs.Spelling.{place}
use Rattle.sms_keep.specs.Saved.{places_from}
use Rattle.sms_keep.proofs.sets.put_places.Given as goal

abbrev pub invariant-loop-before : goal.invariant-loop-before
invariant-loop-before l =
    (l.writer ++ flat_map place (places_from (l.before + 1) (maximum_of l.own.key - l.before) l.own)
    ≡ l.fn.writer ++ flat_map place (places_from 1 (maximum_of l.own.key) l.own))
    × (AllByRecursion (λ p. IfSome p UnitsFit) (places_from (l.before + 1) (maximum_of l.own.key - l.before) l.own)
    → AllByRecursion (λ p. IfSome p UnitsFit) (places_from 1 (maximum_of l.own.key) l.own))
