use Rattle.std.proofs.Common.{ap, sym}
use Rattle.sms_script.specs.Lines.{lines}
use Rattle.sms_run.proofs.Running.{on_ok, runs_to_end}
use Rattle.sms_run.proofs.run.run_script.Goals as goal

pub returns : goal.returns
returns g c = λ octets known.
    on_ok c.work_through-told.result _ _
    (runs_to_end g.M.Machine.conduct g.T.Teller.tells g.T.Teller.finishes c.args.way c.args.teller (g.W.Write.contents c.args.output.now) c.args.page.now (lines octets) c.new.result c.work_through-told.new.worker c.run.inside.teller
    (g.W.Write.contents c.work_through-told.new.output) c.work_through-told.new.page c.new.ensures (sym (ap (λ r. r.teller) c.run.view_is)))
    (c.work_through-told.ensures.works octets known)
