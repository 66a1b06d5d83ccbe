use Rattle.std.proofs.Common.{◌≡◌, length}
use Rattle.sms_card.specs.Padding.{padding_at}
use Rattle.sms_card.proofs.padding.padding_at.Given as goal

abbrev pub invariant-loop-first : goal.invariant-loop-first
invariant-loop-first l = padding_at l.input.place l.input.rest ≡ padding_at l.fn.input.place l.fn.input.rest

abbrev pub decreases-loop-first : goal.decreases-loop-first
decreases-loop-first l = length l.input.rest
