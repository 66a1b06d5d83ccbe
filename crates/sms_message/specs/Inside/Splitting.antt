-- A reader may pass this by: contracts of private functions, and proofs, alone cite it.
--
-- Why a text that cannot be cut is dropped.
use Rattle.sms_join.specs.declared.cut.SplitFault.{SplitFault}
use Rattle.sms_join.specs.declared.cut.SplitFault.TheVariants as split
use Rattle.sms_message.specs.declared.outcome.Dropped.{Dropped}
use Rattle.sms_message.specs.declared.outcome.Dropped.TheVariants.{Memory, TooManySegments}

abbrev pub dropped_of : SplitFault → Dropped
dropped_of split.TooManySegments = TooManySegments
dropped_of split.Memory = Memory
