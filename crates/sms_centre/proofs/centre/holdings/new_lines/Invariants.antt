use Rattle.std.proofs.Common.{◌≡◌, map, take}
use Rattle.sms_centre.specs.Inside.Lines.{new_line}
use Rattle.sms_centre.proofs.centre.holdings.new_lines.Given as goal

abbrev pub invariant-loop-address : goal.invariant-loop-address
invariant-loop-address l = l.lines.items ≡ map new_line (take l.address-index l.addresses)
