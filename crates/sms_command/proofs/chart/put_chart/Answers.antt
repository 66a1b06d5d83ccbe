use Rattle.std.proofs.Common.{ap, length}
use Rattle.sms_command.proofs.Written.{drawn_out}
use Rattle.sms_command.proofs.chart.put_chart.Goals as goal

pub returns : goal.returns
returns g c =
    drawn_out (g.R.Read.remaining c.args.input.now) c.run_script-run.result.1 (record { rows = c.new.result; packets = c.new-2.result }) c.run_script-run.result.0 c.new-page.result c.run_script-run.new.page
    (g.W.Write.contents c.args.output.now) (g.W.Write.contents c.run_script-run.new.output) (g.W.Write.contents c.write_to-written.new.output)
    (ap length c.new.ensures.items) c.new-page.ensures c.in_ok-written.ensures.whole c.in_ok-written.ensures.written c.run_script-run.ensures
