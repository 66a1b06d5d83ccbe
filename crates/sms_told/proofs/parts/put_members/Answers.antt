use Rattle.std.proofs.Common.{ap, sym, ◌∙◌}
use Rattle.sms_told.specs.Texts.{whole_object}
use Rattle.sms_told.proofs.Composed.{Writes-then, Writes-same}
use Rattle.sms_told.proofs.parts.put_members.Goals as goal

pub returns : goal.returns
returns c =
    Writes-same (ap whole_object c.parts.view_is)
    (Writes-then _ _ (Writes-then _ _ (Writes-then _ _ (Writes-then _ _ (Writes-then _ _ (Writes-then _ _ (Writes-then _ _ c.open.ensures c.put_line_member.ensures) c.put_recipient_member.ensures) c.text_named.ensures) c.name.ensures) c.put_party_object.ensures) c.put_moment_member.ensures) c.close.ensures)
