use Rattle.std.proofs.Common.{subst}
use Rattle.sms_c.specs.Answered.{AnswersSo}
use Rattle.sms_c.specs.ReportText.{data_text, data_of_report}
use Rattle.sms_c.specs.declared.report_text.DataSeen.{DataSeen}
use Rattle.sms_c.proofs.Told.{answers}
use Rattle.sms_c.proofs.report_text.sms_report_text.Goals as goal

pub returns-clause-status : goal.returns-clause-status
returns-clause-status c =
    let so = subst (λ (d : DataSeen). AnswersSo (data_text c.args.octets.now d) c.put_text.result) c.of_report-told.ensures c.put_text.ensures.answer in
    answers (data_text c.args.octets.now (data_of_report c.args.report.now)) c.put_text.result c.status_of.result c.status_of.ensures.status so
