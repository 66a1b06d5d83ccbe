use Rattle.sms_world.proofs.Aged.{AreAged}
use Rattle.sms_world.proofs.world.parties.Parties.advance.Given as goal

abbrev pub invariant-loop-phone : goal.invariant-loop-phone
invariant-loop-phone l = AreAged l.now l.phone-index l.initial.phone-items l.phone-items
