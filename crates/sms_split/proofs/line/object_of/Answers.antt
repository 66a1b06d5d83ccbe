use Rattle.sms_split.specs.Inside.Heads.{head_object}
use Rattle.sms_split.proofs.Pages.{Writes-line}
use Rattle.sms_split.proofs.line.object_of.Goals as goal

pub returns : goal.returns
returns c = λ whole. Writes-line (head_object c.args.is_data c.args.head.now c.args.octets.now) c.new.ensures c.new-object.ensures c.put_object.ensures c.into_line.ensures whole
