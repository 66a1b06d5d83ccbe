use Rattle.std.proofs.Common.{ap, subst, OnErr, OnOk}
use Rattle.sms_script.specs.Lines.{lines}
use Rattle.sms_feed.specs.Takers.{standing}
use Rattle.sms_work.specs.Working.{WorksInPart, WorksToEnd}
use Rattle.sms_work.proofs.Working.{awaits_all, not_begun}
use Rattle.sms_work.proofs.through.work_through.Goals as goal

pub returns-in-Err-clause-early : goal.returns-in-Err-clause-early
returns-in-Err-clause-early g c = λ octets known. not_begun g.T.Worker.does g.T.Worker.fails g.T.Worker.fails_at_end (standing c.args.worker.now (g.W.Write.contents c.args.output.now) c.args.page.now) 0 (lines octets)

pub returns-clause-works : goal.returns-clause-works
returns-clause-works g c = λ octets known.
    subst (λ n. OnOk c.work_on-worked.result (WorksToEnd g.T.Worker.does g.T.Worker.ends (standing c.args.worker.now (g.W.Write.contents c.args.output.now) c.args.page.now) n (lines octets) (standing c.work_on-worked.new.worker (g.W.Write.contents c.work_on-worked.new.output) c.work_on-worked.new.page))) (ap (λ f. f.number) c.in-Ok.ensures)
    (c.work_on-worked.ensures.works octets (awaits_all c.in-Ok.feed (g.R.Read.remaining c.args.input.now) octets c.in-Ok.ensures known))

pub returns-clause-early : goal.returns-clause-early
returns-clause-early g c = λ octets known.
    subst (λ n. OnErr c.work_on-worked.result (WorksInPart g.T.Worker.does g.T.Worker.fails g.T.Worker.fails_at_end (standing c.args.worker.now (g.W.Write.contents c.args.output.now) c.args.page.now) n (lines octets) (standing c.work_on-worked.new.worker (g.W.Write.contents c.work_on-worked.new.output) c.work_on-worked.new.page))) (ap (λ f. f.number) c.in-Ok.ensures)
    (c.work_on-worked.ensures.early octets (awaits_all c.in-Ok.feed (g.R.Read.remaining c.args.input.now) octets c.in-Ok.ensures known))
