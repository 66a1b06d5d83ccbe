use Rattle.std.proofs.Common.{rules}
use Rattle.sms_relay.specs.Rp.{rp_body}
use Rattle.sms_relay.proofs.rp.view.body_at.Goals as goal

pub returns-in_ok-user-in-Ack-clause-read : goal.returns-in_ok-user-in-Ack-clause-read
unfolding rp_body
returns-in_ok-user-in-Ack-clause-read c = search rules
