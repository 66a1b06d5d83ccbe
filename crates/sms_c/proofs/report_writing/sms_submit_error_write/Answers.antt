use Rattle.std.proofs.Common.{ℕ, List, subst}
use Rattle.sms_tpdu.specs.Report.Kind.{failure_cause, centre_stamp}
use Rattle.sms_tpdu.specs.Report.Octet.{on_submission}
use Rattle.sms_c.specs.Answered.{AnswersSo}
use Rattle.sms_c.specs.ReportWriting.{report_written, user_of_report, submit_error_written}
use Rattle.sms_c.proofs.Told.{answers}
use Rattle.sms_c.proofs.report_writing.sms_submit_error_write.Goals as goal

pub returns-clause-status : goal.returns-clause-status
returns-clause-status c =
    let user = user_of_report c.args.fields.now c.args.octets.now in
    let so = subst (λ (s : List ℕ). AnswersSo (report_written on_submission failure_cause centre_stamp c.args.fields.now c.args.fields.now.cause s user) c.put_report.result) c.new-stamp.ensures.is c.put_report.ensures.answer in
    answers (submit_error_written c.args.fields.now c.args.octets.now) c.put_report.result c.status_of.result c.status_of.ensures.status so
