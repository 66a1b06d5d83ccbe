use Rattle.sms_c.specs.ReportWriting.{deliver_ack_written}
use Rattle.sms_c.proofs.Told.{answers}
use Rattle.sms_c.proofs.report_writing.sms_deliver_ack_write.Goals as goal

pub returns-clause-status : goal.returns-clause-status
returns-clause-status c = answers (deliver_ack_written c.args.fields.now c.args.octets.now) c.put_report.result c.status_of.result c.status_of.ensures.status c.put_report.ensures.answer
