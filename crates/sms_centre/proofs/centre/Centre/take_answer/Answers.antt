use Rattle.std.proofs.Common.{List, sym, ap, subst, ◌∙◌, Err}
use Rattle.sms_relay.specs.declared.side.Side.{Side}
use Rattle.sms_message.specs.declared.message.Relay.{Relay}
use Rattle.sms_message.specs.declared.message.Relay.TheVariants.{Answer}
use Rattle.sms_message.specs.declared.outcome.Dropped.TheVariants.{Unmatched}
use Rattle.sms_centre.specs.Centre.{centre_answered}
use Rattle.sms_centre.specs.Centre.Verdicts.{centre_hears}
use Rattle.sms_centre.specs.Centre.Value.{LineValue, HeldValue, CentreValue, phones_of}
use Rattle.sms_centre.specs.Centre.Standing.{StandsFor}
use Rattle.sms_centre.specs.Centre.Calls.{CentreAnswers}
use Rattle.sms_centre.proofs.Taking.{nothing_comes}
use Rattle.sms_centre.proofs.Hearing.{hear_steps, heard_phones, heard_few}
use Rattle.sms_centre.proofs.centre.Centre.take_answer.Goals as goal

pub returns-in-FromPhone-clause-steps : goal.returns-in-FromPhone-clause-steps
unfolding centre_answered
returns-in-FromPhone-clause-steps c = λ limit phones s origin stands.
    let v : CentreValue = record { limit = c.self.inside.limit; held = c.self.inside.holdings.held; lines = c.self.inside.holdings.lines } in
    let h = c.hear.ensures.line in
    subst (λ (r : Relay). CentreAnswers limit phones c.args.now s (centre_answered s c.args.now c.args.phone c.args.tag r) c.hear.result (record { limit = v.limit; held = c.hear.new.self.held; lines = c.hear.new.self.lines })) (sym (c.in-Answer.is ∙ ap (λ (x : Side). Answer x c.in-Answer.cause c.in-Answer.report) c.in-FromPhone.is))
    (subst (λ (held : HeldValue). CentreAnswers limit phones c.args.now s (centre_hears s c.args.now c.args.phone c.args.tag c.in-Answer.cause (s.line c.args.phone).latest) c.hear.result (record { limit = v.limit; held = held; lines = c.hear.new.self.lines })) (sym c.hear.ensures.held)
    (subst (λ (lines : List LineValue). CentreAnswers limit phones c.args.now s (centre_hears s c.args.now c.args.phone c.args.tag c.in-Answer.cause (s.line c.args.phone).latest) c.hear.result (record { limit = v.limit; held = v.held; lines = lines })) (sym h.others_stay)
    (hear_steps limit phones c.args.now v s c.args.phone h.before h.after h.is_there
    (subst (λ (w : CentreValue). StandsFor limit phones c.args.now w s) (sym c.self.view_is) stands) c.args.tag c.in-Answer.cause c.hear.result h.how)))

pub returns-in-FromPhone-clause-phones : goal.returns-in-FromPhone-clause-phones
returns-in-FromPhone-clause-phones c =
    heard_phones c.args.now c.args.tag c.in-Answer.cause c.args.phone c.self.inside.holdings.lines c.hear.new.self.lines c.hear.result c.hear.ensures.line ∙ ap phones_of c.self.view_is

pub returns-in-ToPhone-clause-steps : goal.returns-in-ToPhone-clause-steps
unfolding centre_answered
returns-in-ToPhone-clause-steps c = λ limit phones s origin stands.
    subst (λ (r : Relay). CentreAnswers limit phones c.args.now s (centre_answered s c.args.now c.args.phone c.args.tag r) (Err Unmatched) c.args.self.now) (sym (c.in-Answer.is ∙ ap (λ (x : Side). Answer x c.in-Answer.cause c.in-Answer.report) c.in-ToPhone.is))
    (nothing_comes limit phones c.args.now c.args.self.now s stands)

pub returns-in-Transfer-clause-steps : goal.returns-in-Transfer-clause-steps
unfolding centre_answered
returns-in-Transfer-clause-steps c = λ limit phones s origin stands.
    subst (λ (r : Relay). CentreAnswers limit phones c.args.now s (centre_answered s c.args.now c.args.phone c.args.tag r) (Err Unmatched) c.args.self.now) (sym (c.in-Transfer.is))
    (nothing_comes limit phones c.args.now c.args.self.now s stands)

pub returns-in-UnknownType-clause-steps : goal.returns-in-UnknownType-clause-steps
unfolding centre_answered
returns-in-UnknownType-clause-steps c = λ limit phones s origin stands.
    subst (λ (r : Relay). CentreAnswers limit phones c.args.now s (centre_answered s c.args.now c.args.phone c.args.tag r) (Err Unmatched) c.args.self.now) (sym (c.in-UnknownType.is))
    (nothing_comes limit phones c.args.now c.args.self.now s stands)

pub returns-in-Unreadable-clause-steps : goal.returns-in-Unreadable-clause-steps
unfolding centre_answered
returns-in-Unreadable-clause-steps c = λ limit phones s origin stands.
    subst (λ (r : Relay). CentreAnswers limit phones c.args.now s (centre_answered s c.args.now c.args.phone c.args.tag r) (Err Unmatched) c.args.self.now) (sym (c.in-Unreadable.is))
    (nothing_comes limit phones c.args.now c.args.self.now s stands)

pub returns-in-FromPhone-clause-few : goal.returns-in-FromPhone-clause-few
returns-in-FromPhone-clause-few c = let h = c.hear.ensures.line in heard_few c.args.now c.args.tag c.in-Answer.cause h.before h.after c.hear.result h.how
