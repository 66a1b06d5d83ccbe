use Rattle.std.proofs.Common.{subst}
use Rattle.sms_feed.specs.Takers.{HandsOne, standing}
use Rattle.sms_feed.proofs.Handing.{on_ok}
use Rattle.sms_feed.proofs.Taking.{none_done, one_done, all_done, goes_on, ends_there, next_is}
use Rattle.sms_feed.proofs.lines.take_all.Goals as goal

pub loop-init : goal.loop-init
loop-init g c = λ octets a. none_done g.T.Taker.takes c.args.taker.now (g.W.Write.contents c.args.output.now) c.args.page.now octets c.args.feed.now (g.R.Read.remaining c.args.input.now) a

pub returns-then-not-branch : goal.returns-then-not-branch
returns-then-not-branch g c = λ octets a.
    let before = c.loop.invariant octets a in
    let none = ends_there before.rest c.in_ok-advance.field-0 c.advance.new.self (g.R.Read.remaining c.advance.new.input) c.if-not-branch.true (c.in_ok-advance.ensures.line before.rest before.next) in
    on_ok c.finish.result _ _
    (all_done g.T.Taker.takes g.T.Taker.ends (standing c.args.taker.now (g.W.Write.contents c.args.output.now) c.args.page.now) c.args.feed.now.number octets c.loop.feed (g.R.Read.remaining c.loop.input) c.loop.taker
    (g.W.Write.contents c.loop.output) c.loop.page (g.W.Write.contents c.advance.new.output) c.advance.new.page c.finish.new.self c.finish.new.page before c.in_ok-advance.ensures.page none)
    c.finish.ensures.ended

pub loop-preserved : goal.loop-preserved
loop-preserved g c = λ octets a.
    let before = c.loop.invariant octets a in
    let at = goes_on before.rest c.in_ok-advance.field-0 c.advance.new.self (g.R.Read.remaining c.advance.new.input) c.if-not-branch.false (c.in_ok-advance.ensures.line before.rest before.next) in
    let number = next_is c.loop.feed.number c.in_ok-advance.field-0 c.advance.new.self c.if-not-branch.false c.in_ok-advance.ensures.number in
    one_done g.T.Taker.takes (standing c.args.taker.now (g.W.Write.contents c.args.output.now) c.args.page.now) c.args.feed.now.number octets c.loop.feed (g.R.Read.remaining c.loop.input) c.loop.taker
    (g.W.Write.contents c.loop.output) c.loop.page (g.W.Write.contents c.advance.new.output) c.advance.new.page c.advance.new.self (g.R.Read.remaining c.advance.new.input)
    (standing c.take_one.new.taker (g.W.Write.contents c.take_one.new.output) c.take_one.new.page) before c.in_ok-advance.ensures.page at number
    (subst (λ n. HandsOne g.T.Taker.takes (standing c.loop.taker (g.W.Write.contents c.advance.new.output) c.advance.new.page) n c.advance.new.self.line (standing c.take_one.new.taker (g.W.Write.contents c.take_one.new.output) c.take_one.new.page)) c.line.ensures.number
    (subst (λ o. HandsOne g.T.Taker.takes (standing c.loop.taker (g.W.Write.contents c.advance.new.output) c.advance.new.page) c.line.result.number o (standing c.take_one.new.taker (g.W.Write.contents c.take_one.new.output) c.take_one.new.page)) c.line.ensures.octets c.in_ok-take_one.ensures))
