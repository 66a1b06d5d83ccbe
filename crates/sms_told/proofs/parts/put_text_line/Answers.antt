use Rattle.std.proofs.Common.{ap, sym, ◌∙◌}
use Rattle.sms_page.specs.Escapes.{escaped, line}
use Rattle.sms_told.specs.Texts.{whole_line}
use Rattle.sms_told.proofs.Composed.{Puts-then, Puts-same}
use Rattle.sms_told.proofs.parts.put_text_line.Goals as goal

pub returns : goal.returns
returns c =
    Puts-same (ap whole_line c.parts.view_is)
    (Puts-then _ _ (Puts-then _ _ (Puts-then _ _ (Puts-then _ _ (Puts-then _ _ (Puts-then _ _ c.put_recipient.ensures c.put_moment.ensures) c.put_one.ensures) c.put_party.ensures) c.put_one-2.ensures) (Puts-same (ap (escaped line) c.as_bytes.ensures.value) c.put_line.ensures)) c.put_one-3.ensures)
