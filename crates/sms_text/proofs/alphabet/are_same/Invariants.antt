use Rattle.std.proofs.Common.{◌≡◌, true, take}
use Rattle.sms_text.specs.Inside.Same.{AreSame}
use Rattle.sms_text.proofs.alphabet.are_same.Given as goal

abbrev pub invariant-loop-octet : goal.invariant-loop-octet
invariant-loop-octet l = l.all ≡ true → AreSame (take l.octet-index l.octets)
