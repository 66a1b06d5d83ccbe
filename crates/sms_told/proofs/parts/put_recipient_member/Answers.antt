use Rattle.std.proofs.Common.{ap, sym, ◌∙◌}
use Rattle.sms_told.specs.Texts.{recipient_member}
use Rattle.sms_told.proofs.Composed.{Writes-then, Writes-nothing, Writes-same}
use Rattle.sms_told.proofs.parts.put_recipient_member.Goals as goal

pub returns-in-Some : goal.returns-in-Some
returns-in-Some c = Writes-same (ap recipient_member (sym c.in-Some.is)) (Writes-then _ _ c.name.ensures c.put_party_object.ensures)

pub returns-in_default : goal.returns-in_default
returns-in_default c = Writes-same (ap recipient_member (sym c.in_default.is)) (Writes-nothing _)
