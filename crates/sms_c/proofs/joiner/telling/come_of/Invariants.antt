use Rattle.sms_c.proofs.OpenOnes.{AreMarked}
use Rattle.sms_c.proofs.joiner.telling.come_of.Given as goal

abbrev pub invariant-loop-index : goal.invariant-loop-index
invariant-loop-index l = AreMarked l.set.sequences l.index l.come
