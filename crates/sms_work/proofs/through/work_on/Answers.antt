use Rattle.std.proofs.Common.{refl, subst}
use Rattle.sms_feed.specs.Takers.{standing}
use Rattle.sms_work.proofs.Working.{none_done, one_done, all_done, stopped, failed_at, failed_at_end, goes_on, ends_there, next_is, on_ok, on_err, told}
use Rattle.sms_work.proofs.through.work_on.Goals as goal

pub loop-init : goal.loop-init
loop-init g c = λ octets a. none_done g.T.Worker.does (standing c.args.worker.now (g.W.Write.contents c.args.output.now) c.args.page.now) octets c.args.feed.now (g.R.Read.remaining c.args.input.now) a

pub returns-in_err-advance-clause-early : goal.returns-in_err-advance-clause-early
returns-in_err-advance-clause-early g c = λ octets a.
    told c.from_residual.result _
    (stopped g.T.Worker.does g.T.Worker.fails g.T.Worker.fails_at_end (standing c.args.worker.now (g.W.Write.contents c.args.output.now) c.args.page.now) c.args.feed.now.number octets c.loop.feed (g.R.Read.remaining c.loop.input) (standing c.loop.worker (g.W.Write.contents c.loop.output) c.loop.page) (standing c.loop.worker (g.W.Write.contents c.advance.new.output) c.advance.new.page) (c.loop.invariant octets a) refl)

pub returns-then-not-branch-clause-works : goal.returns-then-not-branch-clause-works
returns-then-not-branch-clause-works g c = λ octets a.
    let so_far = c.loop.invariant octets a in
    let none = ends_there so_far.rest c.in_ok-advance.field-0 c.advance.new.self (g.R.Read.remaining c.advance.new.input) c.if-not-branch.true (c.in_ok-advance.ensures.line so_far.rest so_far.next) in
    on_ok c.finish.result _ _
    (all_done g.T.Worker.does g.T.Worker.ends (standing c.args.worker.now (g.W.Write.contents c.args.output.now) c.args.page.now) c.args.feed.now.number octets c.loop.feed (g.R.Read.remaining c.loop.input) (standing c.loop.worker (g.W.Write.contents c.loop.output) c.loop.page) (standing c.loop.worker (g.W.Write.contents c.advance.new.output) c.advance.new.page)
    (standing c.finish.new.self (g.W.Write.contents c.finish.new.output) c.finish.new.page) so_far
    (record { worker = refl; stays = c.in_ok-advance.ensures.page }) none)
    c.finish.ensures.ended

pub returns-then-not-branch-clause-early : goal.returns-then-not-branch-clause-early
returns-then-not-branch-clause-early g c = λ octets a.
    let so_far = c.loop.invariant octets a in
    let none = ends_there so_far.rest c.in_ok-advance.field-0 c.advance.new.self (g.R.Read.remaining c.advance.new.input) c.if-not-branch.true (c.in_ok-advance.ensures.line so_far.rest so_far.next) in
    on_err c.finish.result _ _
    (failed_at_end g.T.Worker.does g.T.Worker.fails g.T.Worker.fails_at_end (standing c.args.worker.now (g.W.Write.contents c.args.output.now) c.args.page.now) c.args.feed.now.number octets c.loop.feed (g.R.Read.remaining c.loop.input) (standing c.loop.worker (g.W.Write.contents c.loop.output) c.loop.page) (standing c.loop.worker (g.W.Write.contents c.advance.new.output) c.advance.new.page)
    (standing c.finish.new.self (g.W.Write.contents c.finish.new.output) c.finish.new.page) so_far
    (record { worker = refl; stays = c.in_ok-advance.ensures.page }) none)
    c.finish.ensures.failed

pub returns-in_err-take-clause-early : goal.returns-in_err-take-clause-early
returns-in_err-take-clause-early g c = λ octets a.
    let so_far = c.loop.invariant octets a in
    let at = goes_on so_far.rest c.in_ok-advance.field-0 c.advance.new.self (g.R.Read.remaining c.advance.new.input) c.if-not-branch.false (c.in_ok-advance.ensures.line so_far.rest so_far.next) in
    let number = next_is c.loop.feed.number c.in_ok-advance.field-0 c.advance.new.self c.if-not-branch.false c.in_ok-advance.ensures.number in
    told _ _
    (failed_at g.T.Worker.does g.T.Worker.fails g.T.Worker.fails_at_end (standing c.args.worker.now (g.W.Write.contents c.args.output.now) c.args.page.now) c.args.feed.now.number octets c.loop.feed (g.R.Read.remaining c.loop.input) (standing c.loop.worker (g.W.Write.contents c.loop.output) c.loop.page) (standing c.loop.worker (g.W.Write.contents c.advance.new.output) c.advance.new.page) c.advance.new.self (g.R.Read.remaining c.advance.new.input)
    (standing c.take.new.self (g.W.Write.contents c.take.new.output) c.take.new.page) so_far
    (record { worker = refl; stays = c.in_ok-advance.ensures.page }) at number
    (subst (λ n. g.T.Worker.fails (standing c.loop.worker (g.W.Write.contents c.advance.new.output) c.advance.new.page) n c.advance.new.self.line (standing c.take.new.self (g.W.Write.contents c.take.new.output) c.take.new.page)) c.line.ensures.number
    (subst (λ o. g.T.Worker.fails (standing c.loop.worker (g.W.Write.contents c.advance.new.output) c.advance.new.page) c.line.result.number o (standing c.take.new.self (g.W.Write.contents c.take.new.output) c.take.new.page)) c.line.ensures.octets c.in_err-take.ensures.failed)))

pub loop-preserved : goal.loop-preserved
loop-preserved g c = λ octets a.
    let so_far = c.loop.invariant octets a in
    let at = goes_on so_far.rest c.in_ok-advance.field-0 c.advance.new.self (g.R.Read.remaining c.advance.new.input) c.if-not-branch.false (c.in_ok-advance.ensures.line so_far.rest so_far.next) in
    let number = next_is c.loop.feed.number c.in_ok-advance.field-0 c.advance.new.self c.if-not-branch.false c.in_ok-advance.ensures.number in
    one_done g.T.Worker.does (standing c.args.worker.now (g.W.Write.contents c.args.output.now) c.args.page.now) c.args.feed.now.number octets c.loop.feed (g.R.Read.remaining c.loop.input) (standing c.loop.worker (g.W.Write.contents c.loop.output) c.loop.page) (standing c.loop.worker (g.W.Write.contents c.advance.new.output) c.advance.new.page) c.advance.new.self (g.R.Read.remaining c.advance.new.input)
    (standing c.take.new.self (g.W.Write.contents c.take.new.output) c.take.new.page) so_far
    (record { worker = refl; stays = c.in_ok-advance.ensures.page }) at number
    (subst (λ n. g.T.Worker.does (standing c.loop.worker (g.W.Write.contents c.advance.new.output) c.advance.new.page) n c.advance.new.self.line (standing c.take.new.self (g.W.Write.contents c.take.new.output) c.take.new.page)) c.line.ensures.number
    (subst (λ o. g.T.Worker.does (standing c.loop.worker (g.W.Write.contents c.advance.new.output) c.advance.new.page) c.line.result.number o (standing c.take.new.self (g.W.Write.contents c.take.new.output) c.take.new.page)) c.line.ensures.octets c.in_ok-take.ensures.done))

pub returns-clause-early : goal.returns-clause-early
returns-clause-early g c = λ octets a.
    (stopped g.T.Worker.does g.T.Worker.fails g.T.Worker.fails_at_end (standing c.args.worker.now (g.W.Write.contents c.args.output.now) c.args.page.now) c.args.feed.now.number octets c.loop.feed (g.R.Read.remaining c.loop.input) (standing c.loop.worker (g.W.Write.contents c.loop.output) c.loop.page) (standing c.loop.worker (g.W.Write.contents c.loop.output) c.loop.page) (c.loop.invariant octets a) refl)
