use Rattle.std.proofs.Common.{sym, ap, ◌∙◌, Err}
use Rattle.sms_tpdu.specs.Submit.{Submission}
use Rattle.sms_message.specs.Address.{phone_at}
use Rattle.sms_field.specs.Time.Computed.{end_of}
use Rattle.sms_centre.specs.Centre.Value.{addresses}
use Rattle.sms_centre.specs.Inside.Kept.{books_in}
use Rattle.sms_centre.proofs.Taking.{no_moment, ended, unknown, known}
use Rattle.sms_centre.proofs.centre.Centre.check.Goals as goal

pub returns-then-ends-now-clause-result_is : goal.returns-then-ends-now-clause-result_is
returns-then-ends-now-clause-result_is c = ended c.args.self.now.limit (addresses c.args.self.now.lines) (books_in c.args.self.now c.args.now c.args.phone c.args.submission.now) c.args.now c.args.submission.now c.in-Ok.ends (c.in-Ok.ensures.value ∙ ap (λ (x : Submission). end_of x.validity c.args.now) c.submission.view_is) c.if-ends-now.true

pub returns-in-Err-NoMoment-clause-result_is : goal.returns-in-Err-NoMoment-clause-result_is
returns-in-Err-NoMoment-clause-result_is c = no_moment c.args.self.now.limit (addresses c.args.self.now.lines) (books_in c.args.self.now c.args.now c.args.phone c.args.submission.now) c.args.now c.args.submission.now (ap Err (sym c.in-Err-NoMoment.field-0-is) ∙ (c.in-Err-NoMoment.ensures.value ∙ ap (λ (x : Submission). end_of x.validity c.args.now) c.submission.view_is))

pub returns-in-None-clause-result_is : goal.returns-in-None-clause-result_is
returns-in-None-clause-result_is c = unknown c.args.self.now.limit (addresses c.args.self.now.lines) (books_in c.args.self.now c.args.now c.args.phone c.args.submission.now) c.args.now c.args.submission.now c.in-Ok.ends (c.in-Ok.ensures.value ∙ ap (λ (x : Submission). end_of x.validity c.args.now) c.submission.view_is) c.if-ends-now.false (sym c.in-None.is ∙ (c.recipient_of.ensures.is ∙ ap (λ (x : Submission). phone_at (addresses c.args.self.now.lines) x.target) c.submission.view_is))

pub returns-in-Some-clause-result_is : goal.returns-in-Some-clause-result_is
returns-in-Some-clause-result_is c = known c.args.self.now.limit (addresses c.args.self.now.lines) (books_in c.args.self.now c.args.now c.args.phone c.args.submission.now) c.args.now c.args.submission.now c.in-Ok.ends c.in-Some.recipient c.check_space.result (c.in-Ok.ensures.value ∙ ap (λ (x : Submission). end_of x.validity c.args.now) c.submission.view_is) c.if-ends-now.false (sym c.in-Some.is ∙ (c.recipient_of.ensures.is ∙ ap (λ (x : Submission). phone_at (addresses c.args.self.now.lines) x.target) c.submission.view_is)) c.check_space.ensures.result_is
