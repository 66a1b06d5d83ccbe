use Rattle.sms_script.specs.Lines.{lines}
use Rattle.sms_feed.proofs.Handing.{on_ok}
use Rattle.sms_feed.proofs.Taking.{awaits_all, to_output}
use Rattle.sms_feed.proofs.lines.take_lines.Goals as goal

pub returns : goal.returns
returns g c = λ octets known.
    on_ok c.take_all-taken.result _ _
    (to_output g.T.Taker.takes g.T.Taker.ends c.args.taker.now (g.W.Write.contents c.args.output.now) c.in-Ok.feed c.new-page.result (lines octets) c.take_all-taken.new.taker
    (g.W.Write.contents c.take_all-taken.new.output) c.take_all-taken.new.page (g.W.Write.contents c.write_page-written.new.output) c.write_page-written.new.page
    c.in-Ok.ensures c.new-page.ensures c.in_ok-written.ensures.empty c.in_ok-written.ensures.stays c.in_ok-written.ensures.whole)
    (c.take_all-taken.ensures octets (awaits_all c.in-Ok.feed (g.R.Read.remaining c.args.input.now) octets c.in-Ok.ensures known))
