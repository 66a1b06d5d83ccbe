use Rattle.std.proofs.Common.{ap, sym, ◌∙◌}
use Rattle.sms_page.specs.Page.{named}
use Rattle.sms_told.proofs.Composed.{Puts-then, Puts-same}
use Rattle.sms_told.proofs.set_parts.put_named_line.Goals as goal

pub returns : goal.returns
returns c = Puts-then _ _ (Puts-then _ _ (Puts-same (ap named c.as_bytes.ensures.value) c.put_name.ensures) c.put_set_line.ensures) c.put_one.ensures
