use Rattle.std.proofs.Common.{◌≡◌, length}
use Rattle.sms_field.specs.Bit.{bit}
use Rattle.sms_tpdu.specs.Report.ParameterIndicator.{further_at}
use Rattle.sms_tpdu.specs.declared.fault.UnitFault.TheVariants.{Short}
use Rattle.sms_card.proofs.parts.skip_further.Given as goal

abbrev pub invariant-loop-input : goal.invariant-loop-input
invariant-loop-input l = further_at Short (bit 7 l.last) l.input.place l.input.rest ≡ further_at Short (bit 7 l.fn.first) l.fn.input.place l.fn.input.rest

abbrev pub decreases-loop-input : goal.decreases-loop-input
decreases-loop-input l = length l.input.rest
