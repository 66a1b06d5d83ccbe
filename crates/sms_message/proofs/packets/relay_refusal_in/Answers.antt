use Rattle.std.proofs.Common.{Some, None}
use Rattle.sms_message.proofs.Replies.{none_carried}
use Rattle.sms_message.proofs.packets.relay_refusal_in.Goals as goal

pub returns : goal.returns
returns c =
    let h = rw c.in_ok-packet.ensures.packet at c.wrap_answer_in-packet.ensures.carried in
    c.answered_in.ensures c.args.side (Some c.args.cause) None (none_carried c.in_ok-packet.packet.items c.args.side c.args.tag c.args.cause h.0 h.1 h.2)

pub wrapped-requires : goal.wrapped-requires
wrapped-requires c = λ e. absurd ((c.wrap_answer_in-packet.ensures.too_long e).1)
