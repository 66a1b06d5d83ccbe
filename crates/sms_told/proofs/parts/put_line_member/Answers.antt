use Rattle.std.proofs.Common.{ap, sym, ◌∙◌}
use Rattle.sms_told.specs.Texts.{line_member}
use Rattle.sms_told.proofs.Composed.{Writes-nothing, Writes-same}
use Rattle.sms_told.proofs.parts.put_line_member.Goals as goal

pub returns-in_default : goal.returns-in_default
returns-in_default c = Writes-same (ap line_member (sym c.in_default.is)) (Writes-nothing _)
