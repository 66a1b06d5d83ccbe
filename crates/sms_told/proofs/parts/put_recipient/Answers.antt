use Rattle.std.proofs.Common.{◌≡◌, ap, sym, ◌∙◌}
use Rattle.sms_told.specs.Texts.{recipient_front}
use Rattle.sms_told.proofs.Composed.{Puts-then, Puts-same}
use Rattle.sms_told.proofs.parts.put_recipient.Goals as goal

pub returns-in-Some : goal.returns-in-Some
returns-in-Some c = Puts-same (ap recipient_front (sym c.in-Some.is)) (Puts-then _ _ c.put_party.ensures c.put_one.ensures)
