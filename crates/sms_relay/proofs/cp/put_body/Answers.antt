use Rattle.std.proofs.Common.{arith}
use Rattle.std.proofs.lemmas.Grind.{common_steps}
use Rattle.sms_relay.proofs.cp.put_body.Goals as goal

pub returns-in_ok-push-in-Transfer : goal.returns-in_ok-push-in-Transfer
returns-in_ok-push-in-Transfer c = grind (arith, common_steps)
