use Rattle.std.proofs.Common.{arith}
use Rattle.std.proofs.lemmas.Grind.{common_steps}
use Rattle.sms_relay.proofs.rp.put_body.Goals as goal

pub returns-after-side : goal.returns-after-side
returns-after-side c = grind (arith, common_steps)
