use Rattle.std.proofs.Common.{◌≡◌, take}
use Rattle.sms_saved.specs.Reading.Sets.{are_septets}
use Rattle.sms_saved.proofs.reading.sets.are_septets.Given as goal

abbrev pub invariant-loop-octet : goal.invariant-loop-octet
invariant-loop-octet l = l.are ≡ are_septets (take l.octet-index l.octets)
