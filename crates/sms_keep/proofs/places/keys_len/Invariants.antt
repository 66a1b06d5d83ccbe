use Rattle.std.proofs.Common.{◌≡◌, ◌+◌, length, take}
use Rattle.std.specs.List.{flat_map}
use Rattle.sms_saved.specs.Spelling.{remembered}
use Rattle.sms_keep.proofs.places.keys_len.Given as goal

abbrev pub invariant-loop-own : goal.invariant-loop-own
invariant-loop-own l = l.total ≡ l.more + length (flat_map remembered (take l.own-index l.keys))
