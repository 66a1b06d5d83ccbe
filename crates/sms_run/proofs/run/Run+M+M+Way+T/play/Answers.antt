use Rattle.std.proofs.Common.{option_copied}
use Rattle.sms_run.proofs.Running.{on_ok, plays_event, plays_nothing}
use Rattle.sms_run.proofs.run.Run+M+M+Way+T.play.Goals as goal

pub returns-in-Some : goal.returns-in-Some
returns-in-Some g c =
    on_ok c.happen.result _ _
    (plays_event g.M.Machine.conduct g.T.Teller.tells c.args.self.now c.event_in.new.self c.happen.new.self (option_copied c.args.line.octets) c.in_ok-event.field-0 c.in-Some.event c.args.page.now c.happen.new.page c.in-Some.is c.in_ok-event.ensures)
    c.happen.ensures

pub returns-in-None : goal.returns-in-None
returns-in-None g c =
    plays_nothing g.M.Machine.conduct g.T.Teller.tells c.args.self.now c.event_in.new.self (option_copied c.args.line.octets) c.in_ok-event.field-0 c.args.page.now c.in-None.is c.in_ok-event.ensures
