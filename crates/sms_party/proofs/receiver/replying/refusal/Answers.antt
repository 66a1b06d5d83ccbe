use Rattle.std.proofs.Common.{Some}
use Rattle.sms_relay.specs.declared.side.Side.TheVariants.{FromPhone}
use Rattle.sms_message.specs.Message.Answers.{deliver_error_of}
use Rattle.sms_party.proofs.receiver.replying.refusal.Goals as goal

pub returns : goal.returns
returns c = c.answered_in.ensures FromPhone (Some c.args.cause) (Some (deliver_error_of c.args.failure)) c.in_ok-packet.ensures.carries
