use Rattle.std.proofs.Common.{rules}
use Rattle.sms_relay.specs.Carried.{relay_of}
use Rattle.sms_relay.specs.Carried.InnerSeen.{seen_inner}
use Rattle.sms_relay.specs.Carried.Unwrapped.{Holds}
use Rattle.sms_relay.proofs.PacketRead.{carrier_read, unwrapped}
use Rattle.sms_relay.proofs.unwrapping.unwrap_view.Goals as goal
use Rattle.sms_relay.proofs.unwrapping.unwrap_view.Goals.{in-Transfer, in-Ack}

pub returns-in_err-message-clause-carried : goal.returns-in_err-message-clause-carried
returns-in_err-message-clause-carried c flag value message carried =
    let r = carrier_read flag value (relay_of message) c.args.octets.now carried in
    absurd (c.in_err-message.ensures.exact r.0 _ r.1)

pub returns-clause-carried : goal.returns-clause-carried
returns-clause-carried c flag value message carried =
    let holds : Holds c.in_ok-message.message.body (seen_inner c.match-message.inner) = elim c.match-message.branch [ in-Transfer w ↦ search rules | in-Ack w ↦ search rules ] in
    unwrapped flag value (relay_of message) c.args.octets.now c.in_ok-message.message _ (seen_inner c.match-message.inner) carried c.in_ok-message.ensures.found holds
