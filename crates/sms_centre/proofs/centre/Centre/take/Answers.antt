use Rattle.std.proofs.Common.{refl, sym, ap, subst, ◌∙◌, Ok, Err}
use Rattle.sms_message.specs.declared.message.Message.{Message}
use Rattle.sms_message.specs.declared.message.Message.TheVariants.{Data}
use Rattle.sms_message.specs.declared.outcome.Step.{Step}
use Rattle.sms_message.specs.declared.outcome.Outcome.TheVariants.{Noted}
use Rattle.sms_message.specs.declared.outcome.Dropped.TheVariants.{Unmatched, NotCp}
use Rattle.sms_centre.specs.Centre.{centre_receives}
use Rattle.sms_centre.specs.Centre.Calls.{CentreAnswers}
use Rattle.sms_centre.proofs.Taking.{nothing_comes, nothing_read, noted}
use Rattle.sms_centre.proofs.centre.Centre.take.Goals as goal

pub returns-in-NotCp-clause-steps : goal.returns-in-NotCp-clause-steps
unfolding centre_receives
returns-in-NotCp-clause-steps c = λ limit phones s origin stands.
    subst (λ (m : Message). CentreAnswers limit phones c.args.now s (centre_receives limit phones s c.args.now c.args.phone m origin) (Err NotCp) c.args.self.now) (sym c.in-NotCp.is)
    (nothing_read limit phones c.args.now c.args.self.now s stands)

pub returns-in-Note-clause-steps : goal.returns-in-Note-clause-steps
unfolding centre_receives
returns-in-Note-clause-steps c = λ limit phones s origin stands.
    let step : Step = record { outcome = Noted; packets = c.no_packets.result } in
    subst (λ (m : Message). CentreAnswers limit phones c.args.now s (centre_receives limit phones s c.args.now c.args.phone m origin) (Ok step) c.args.self.now) (sym c.in-Note.is)
    (noted limit phones c.args.now c.args.self.now s step refl (rw c.no_packets.ensures refl) stands)

pub returns-in-Tiny-clause-steps : goal.returns-in-Tiny-clause-steps
unfolding centre_receives
returns-in-Tiny-clause-steps c = λ limit phones s origin stands.
    subst (λ (m : Message). CentreAnswers limit phones c.args.now s (centre_receives limit phones s c.args.now c.args.phone m origin) (Err Unmatched) c.args.self.now) (sym c.in-Tiny.is)
    (nothing_comes limit phones c.args.now c.args.self.now s stands)

pub returns-then-flag-clause-steps : goal.returns-then-flag-clause-steps
unfolding centre_receives
returns-then-flag-clause-steps c = λ limit phones s origin stands.
    subst (λ (m : Message). CentreAnswers limit phones c.args.now s (centre_receives limit phones s c.args.now c.args.phone m origin) (c.take_answer-step.result) c.take_answer-step.new.self) (sym (c.in-Data.is ∙ ap (λ x. Data x c.in-Data.tag c.in-Data.relay) c.if-flag.true))
    (c.take_answer-step.ensures.steps limit phones s origin stands)

pub returns-else-flag-clause-steps : goal.returns-else-flag-clause-steps
unfolding centre_receives
returns-else-flag-clause-steps c = λ limit phones s origin stands.
    subst (λ (m : Message). CentreAnswers limit phones c.args.now s (centre_receives limit phones s c.args.now c.args.phone m origin) (c.take_request.result) c.take_request.new.self) (sym (c.in-Data.is ∙ ap (λ x. Data x c.in-Data.tag c.in-Data.relay) c.if-flag.false))
    (c.take_request.ensures.steps limit phones s origin stands)
