use Rattle.std.proofs.Common.{Option, Some, None, sym, ap, subst, ◌∙◌, Err, arith}
use Rattle.sms_relay.specs.declared.side.Side.TheVariants.{ToPhone}
use Rattle.sms_message.specs.Few.{few_put}
use Rattle.sms_message.specs.Message.Answers.{answers}
use Rattle.sms_message.specs.declared.request.NotTaken.{NotTaken}
use Rattle.sms_message.specs.declared.request.NotTaken.TheVariants as untaken
use Rattle.sms_message.specs.declared.outcome.Dropped.TheVariants.{Unmatched}
use Rattle.sms_message.specs.declared.outcome.Outcome.TheVariants.{Refused}
use Rattle.sms_centre.specs.Centre.Submissions.{turned_away}
use Rattle.sms_centre.specs.Centre.Calls.{CentreAnswers}
use Rattle.sms_centre.proofs.Taking.{puts_answer, nothing_comes}
use Rattle.sms_centre.proofs.centre.Centre.turn_away.Goals as goal

pub returns-in-Unmatched-clause-steps : goal.returns-in-Unmatched-clause-steps
returns-in-Unmatched-clause-steps c = λ limit phones s origin stands.
    subst (λ (why : NotTaken). CentreAnswers limit phones c.args.now s (turned_away s c.args.now c.args.tag why) (Err Unmatched) c.args.self.now) (sym c.in-Unmatched.is)
    (nothing_comes limit phones c.args.now c.args.self.now s stands)

pub returns-in-None-clause-steps : goal.returns-in-None-clause-steps
returns-in-None-clause-steps c = λ limit phones s origin stands.
    subst (λ (why : NotTaken). CentreAnswers limit phones c.args.now s (turned_away s c.args.now c.args.tag why) c.relay_refusal_in.result c.args.self.now) (sym (c.in-Refused.is ∙ ap (λ (f : Option _). untaken.Refused c.in-Refused.cause f) c.in-None.is))
    (puts_answer limit phones c.args.now c.args.self.now s _ _ c.relay_refusal_in.result stands c.relay_refusal_in.ensures)

pub returns-in-None-clause-few : goal.returns-in-None-clause-few
returns-in-None-clause-few c = few_put (Refused c.in-Refused.cause None) (answers ToPhone c.args.tag (Some c.in-Refused.cause) None) c.relay_refusal_in.result (omega arith) c.relay_refusal_in.ensures

pub returns-in-Some-clause-steps : goal.returns-in-Some-clause-steps
returns-in-Some-clause-steps c = λ limit phones s origin stands.
    subst (λ (why : NotTaken). CentreAnswers limit phones c.args.now s (turned_away s c.args.now c.args.tag why) c.refusal.result c.args.self.now) (sym (c.in-Refused.is ∙ ap (λ (f : Option _). untaken.Refused c.in-Refused.cause f) c.in-Some.is))
    (puts_answer limit phones c.args.now c.args.self.now s _ _ c.refusal.result stands c.refusal.ensures.puts)
