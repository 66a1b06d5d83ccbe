use Rattle.sms_command.proofs.Written.{joined_well}
use Rattle.sms_command.proofs.join.join_anew.Goals as goal

pub returns : goal.returns
returns g c =
    joined_well c.end.result c.take_lines-taken.result (g.R.Read.remaining c.args.input.now) c.new-joining.result c.take_lines-taken.new.taker
    (g.W.Write.contents c.args.output.now) (g.W.Write.contents c.take_lines-taken.new.output) c.end.ensures c.take_lines-taken.ensures
