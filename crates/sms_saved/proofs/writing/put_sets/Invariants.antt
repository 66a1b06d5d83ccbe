use Rattle.std.proofs.Common.{◌≡◌, ◌++◌, take}
use Rattle.std.specs.List.{flat_map}
use Rattle.sms_saved.specs.Value.{view_sets}
use Rattle.sms_saved.specs.Spelling.{set}
use Rattle.sms_saved.proofs.writing.put_sets.Given as goal

abbrev pub invariant-loop-own : goal.invariant-loop-own
invariant-loop-own l = l.writer ≡ l.fn.writer ++ flat_map set (view_sets (take l.own-index l.sets))
