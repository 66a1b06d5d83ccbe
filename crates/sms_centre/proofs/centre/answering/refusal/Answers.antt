use Rattle.std.proofs.Common.{Some, arith}
use Rattle.sms_message.specs.Message.Answers.{answers, submit_error_of}
use Rattle.sms_relay.specs.declared.side.Side.TheVariants.{ToPhone}
use Rattle.sms_message.specs.declared.outcome.Outcome.TheVariants.{Refused}
use Rattle.sms_centre.proofs.Replies.{error_carried}
use Rattle.sms_tpdu.specs.Report.{SpellsSubmitError}
use Rattle.sms_tpdu.specs.Inside.SizeLaws.{submit_error_within}
use Rattle.sms_message.specs.Few.{few_put}
use Rattle.sms_message.specs.Inside.Short.{not_long}
use Rattle.sms_centre.proofs.centre.answering.refusal.Goals as goal

pub returns-clause-puts : goal.returns-clause-puts
returns-clause-puts c =
    let h = rw c.in_ok-packet.ensures.packet at c.wrap_answer_in-packet.ensures.carried in
    c.answered_in.ensures ToPhone (Some c.args.cause) (Some (submit_error_of c.args.failure c.args.now)) (error_carried c.in_ok-packet.packet.items c.args.tag c.args.cause c.args.failure c.args.now c.stamp_of.result c.stamp_of.ensures h.0 h.1 h.2)

pub returns-clause-few : goal.returns-clause-few
returns-clause-few c =
    let h = rw c.in_ok-packet.ensures.packet at c.wrap_answer_in-packet.ensures.carried in
    few_put (Refused c.args.cause (Some c.args.failure)) (answers ToPhone c.args.tag (Some c.args.cause) (Some (submit_error_of c.args.failure c.args.now))) c.answered_in.result (omega arith)
    (c.answered_in.ensures ToPhone (Some c.args.cause) (Some (submit_error_of c.args.failure c.args.now)) (error_carried c.in_ok-packet.packet.items c.args.tag c.args.cause c.args.failure c.args.now c.stamp_of.result c.stamp_of.ensures h.0 h.1 h.2))

pub wrapped-requires : goal.wrapped-requires
wrapped-requires c = λ e. let h = c.wrap_answer_in-packet.ensures.too_long e in not_long SpellsSubmitError submit_error_within _ h.0 h.1 h.2
