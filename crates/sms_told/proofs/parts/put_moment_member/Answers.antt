use Rattle.std.proofs.Common.{◌≡◌, ap, sym, ◌∙◌}
use Rattle.sms_told.specs.Texts.{moment_member}
use Rattle.sms_told.proofs.Composed.{Writes-then, Writes-same}
use Rattle.sms_told.proofs.parts.put_moment_member.Goals as goal

pub returns-in-Some : goal.returns-in-Some
returns-in-Some c = Writes-same (ap moment_member (sym c.in-Some.is)) (Writes-then _ _ c.name.ensures c.number.ensures)

pub returns-in-None : goal.returns-in-None
returns-in-None c = Writes-same (ap moment_member (sym c.in-None.is)) (Writes-then _ _ c.name.ensures c.nothing.ensures)
