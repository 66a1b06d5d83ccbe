use Rattle.std.proofs.Common.{sym}
use Rattle.sms_told.specs.Sets.{number_value}
use Rattle.sms_told.proofs.Composed.{Writes-nothing, Writes-same}
use Rattle.sms_told.proofs.Sequences.{told_none}
use Rattle.sms_told.proofs.set_parts.put_value_where_missing.Goals as goal

pub returns-else-not-has : goal.returns-else-not-has
returns-else-not-has c = Writes-same (told_none number_value c.args.set.now.sequences c.args.sequence (sym c.if-not-has.ensures)) (Writes-nothing _)
