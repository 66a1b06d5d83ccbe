use Rattle.std.proofs.Common.{ℕ, List, subst}
use Rattle.sms_tpdu.specs.Report.Kind.{no_part, centre_stamp}
use Rattle.sms_tpdu.specs.Report.Octet.{on_submission}
use Rattle.sms_c.specs.Answered.{AnswersSo}
use Rattle.sms_c.specs.ReportWriting.{report_written, user_of_report, submit_ack_written}
use Rattle.sms_c.proofs.Told.{answers}
use Rattle.sms_c.proofs.report_writing.sms_submit_ack_write.Goals as goal

pub returns-clause-status : goal.returns-clause-status
returns-clause-status c =
    let user = user_of_report c.args.fields.now c.args.octets.now in
    let so = subst (λ (s : List ℕ). AnswersSo (report_written on_submission no_part centre_stamp c.args.fields.now tt s user) c.put_report.result) c.new-stamp.ensures.is c.put_report.ensures.answer in
    answers (submit_ack_written c.args.fields.now c.args.octets.now) c.put_report.result c.status_of.result c.status_of.ensures.status so
