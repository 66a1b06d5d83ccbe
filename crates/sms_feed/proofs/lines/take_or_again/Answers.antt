use Rattle.std.proofs.Common.{option_copied}
use Rattle.sms_feed.proofs.HandedOn.{hands_once}
use Rattle.sms_feed.proofs.lines.take_or_again.Goals as goal

pub returns-then-before-eq0 : goal.returns-then-before-eq0
returns-then-before-eq0 g c =
    hands_once g.T.Taker.takes c.args.taker.now c.take_line.new.taker c.args.line.number (option_copied c.args.line.octets) (g.W.Write.contents c.args.output.now) c.args.page.now c.take_line.new.page c.in_ok-take_line.ensures
