use Rattle.std.proofs.Common.{Result, sym, subst, ◌∙◌}
use Rattle.sms_tpdu.specs.Submit.{Submission}
use Rattle.sms_message.specs.declared.request.NotTaken.{NotTaken}
use Rattle.sms_centre.specs.declared.centre.check.Check.{Check}
use Rattle.sms_centre.specs.Centre.Submissions.{submitted, centre_takes, checked}
use Rattle.sms_centre.specs.Centre.Calls.{CentreAnswers}
use Rattle.sms_centre.proofs.Taking.{checked_alike, check_in}
use Rattle.sms_centre.proofs.centre.Centre.take_unit.Goals as goal

pub returns-in-Ok-clause-steps : goal.returns-in-Ok-clause-steps
unfolding centre_takes
returns-in-Ok-clause-steps c = λ limit phones s origin stands.
    subst (λ (r : Result Submission NotTaken). CentreAnswers limit phones c.args.now s (submitted limit phones s c.args.now c.args.phone c.args.tag origin r) c.settle.result c.settle.new.self) (sym c.in-Ok.is ∙ c.submission_from.ensures.submission)
    (subst (λ (k : Check). CentreAnswers limit phones c.args.now s (checked s c.args.now c.args.phone c.args.tag c.in-Ok.submission origin k) c.settle.result c.settle.new.self)
    (c.check-check.ensures.result_is ∙ checked_alike limit phones c.args.now c.args.self.now s stands c.args.phone c.in-Ok.submission)
    (c.settle.ensures.steps (check_in c.args.now c.args.phone c.in-Ok.submission c.args.self.now c.check-check.result c.check-check.ensures.result_is) limit phones s origin stands))

pub returns-in-Err-clause-steps : goal.returns-in-Err-clause-steps
unfolding centre_takes
returns-in-Err-clause-steps c = λ limit phones s origin stands.
    subst (λ (r : Result Submission NotTaken). CentreAnswers limit phones c.args.now s (submitted limit phones s c.args.now c.args.phone c.args.tag origin r) c.turn_away.result c.args.self.now) (sym c.in-Err.is ∙ c.submission_from.ensures.submission)
    (c.turn_away.ensures.steps limit phones s origin stands)
