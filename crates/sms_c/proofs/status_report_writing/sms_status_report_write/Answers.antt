use Rattle.sms_c.specs.StatusReportWriting.{status_report_written}
use Rattle.sms_c.proofs.Told.{answers}
use Rattle.sms_c.proofs.status_report_writing.sms_status_report_write.Goals as goal

pub returns-clause-status : goal.returns-clause-status
returns-clause-status c = answers (status_report_written c.args.fields.now c.args.recipient.now c.args.octets.now) c.put_status_report.result c.status_of.result c.status_of.ensures.status c.put_status_report.ensures.answer
