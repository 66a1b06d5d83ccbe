use Rattle.std.proofs.Common.{◌≡◌, ◌++◌, length, take}
use Rattle.std.specs.List.{flat_map}
use Rattle.sms_saved.specs.Spelling.{eight, remembered}
use Rattle.sms_saved.proofs.writing.put_keys.Given as goal

abbrev pub invariant-loop-own : goal.invariant-loop-own
invariant-loop-own l = l.writer ≡ l.fn.writer ++ eight (length l.keys) ++ flat_map remembered (take l.own-index l.keys)
