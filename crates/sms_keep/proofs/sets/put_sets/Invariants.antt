use Rattle.std.proofs.Common.{◌≡◌, ◌++◌, map}
use Rattle.std.specs.List.{flat_map, AllByRecursion}
use Rattle.sms_saved.specs.Spelling.{set}
use Rattle.sms_keep.specs.Saved.{saved_set}
use Rattle.sms_keep.specs.Inside.Saving.{SetIsSound}
use Rattle.sms_keep.proofs.sets.put_sets.Given as goal

abbrev pub invariant-loop-own : goal.invariant-loop-own
invariant-loop-own l =
    (l.writer ++ flat_map set (map saved_set l.own-iterator) ≡ l.fn.writer ++ flat_map set (map saved_set l.fn.sets))
    × (AllByRecursion SetIsSound l.own-iterator → AllByRecursion SetIsSound l.fn.sets)
