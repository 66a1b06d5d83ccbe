use Rattle.std.proofs.Common.{length}
use Rattle.sms_text.specs.Inside.Same.{StandsAfterSame}
use Rattle.sms_text.proofs.alphabet.after_long_blocks.Given as goal

abbrev pub invariant-loop-others : goal.invariant-loop-others
invariant-loop-others l = StandsAfterSame l.octets l.rest

abbrev pub decreases-loop-others : goal.decreases-loop-others
decreases-loop-others l = length l.rest
