use Rattle.sms_split.specs.Inside.Heads.{head_line}
use Rattle.sms_split.proofs.Pages.{Puts-first}
use Rattle.sms_split.proofs.line.plain_of.Goals as goal

pub returns : goal.returns
returns c = λ whole. Puts-first (head_line c.args.is_data c.args.head.now c.args.octets.now) c.new-page.ensures c.put_plain.ensures whole
