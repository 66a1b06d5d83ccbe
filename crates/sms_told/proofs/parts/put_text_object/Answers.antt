use Rattle.sms_told.specs.Texts.{whole_object}
use Rattle.sms_told.proofs.Composed.{Puts-object}
use Rattle.sms_told.proofs.parts.put_text_object.Goals as goal

pub returns : goal.returns
returns c = Puts-object (whole_object c.args.parts.now) c.take.ensures.taken c.new-object.ensures c.put_members.ensures c.into_line.ensures
