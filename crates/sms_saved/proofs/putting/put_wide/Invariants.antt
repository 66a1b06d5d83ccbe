use Rattle.std.proofs.Common.{◌≡◌, ◌++◌, length, take}
use Rattle.std.specs.List.{flat_map}
use Rattle.sms_saved.specs.Spelling.{eight, two}
use Rattle.sms_saved.proofs.putting.put_wide.Given as goal

abbrev pub invariant-loop-unit : goal.invariant-loop-unit
invariant-loop-unit l = l.out.items ≡ l.fn.out.items ++ eight (length l.units) ++ flat_map two (take l.unit-index l.units)
