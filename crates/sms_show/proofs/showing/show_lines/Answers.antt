use Rattle.sms_script.specs.Lines.{lines}
use Rattle.sms_show.proofs.Telling.{tells_all}
use Rattle.sms_show.proofs.showing.show_lines.Goals as goal

pub returns : goal.returns
returns g c = λ octets known. tells_all _ _ (g.W.Write.contents c.args.output.now) (lines octets) (g.W.Write.contents c.take_lines-taken.new.output) (c.in_ok-taken.ensures octets known)
