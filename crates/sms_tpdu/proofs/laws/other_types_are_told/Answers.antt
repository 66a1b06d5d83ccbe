use Rattle.sms_tpdu.specs.Inside.RefusalLaws.{submit_tells, deliver_tells, submit_ack_tells, submit_error_tells, deliver_ack_tells, deliver_error_tells, status_report_tells, command_tells}
use Rattle.sms_tpdu.proofs.laws.other_types_are_told.Goals as goal

pub returns-clause-submit : goal.returns-clause-submit
returns-clause-submit c = submit_tells

pub returns-clause-deliver : goal.returns-clause-deliver
returns-clause-deliver c = deliver_tells

pub returns-clause-submit_ack : goal.returns-clause-submit_ack
returns-clause-submit_ack c = submit_ack_tells

pub returns-clause-submit_error : goal.returns-clause-submit_error
returns-clause-submit_error c = submit_error_tells

pub returns-clause-deliver_ack : goal.returns-clause-deliver_ack
returns-clause-deliver_ack c = deliver_ack_tells

pub returns-clause-deliver_error : goal.returns-clause-deliver_error
returns-clause-deliver_error c = deliver_error_tells

pub returns-clause-status_report : goal.returns-clause-status_report
returns-clause-status_report c = status_report_tells

pub returns-clause-command : goal.returns-clause-command
returns-clause-command c = command_tells
