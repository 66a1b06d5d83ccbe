use Rattle.sms_tpdu.proofs.ReadUnits.{has_submit, has_deliver, has_submit_ack, has_submit_error, has_deliver_ack, has_deliver_error, has_status_report, has_command, has_header}
use Rattle.sms_tpdu.proofs.laws.what_is_read_is_spelled.Goals as goal

pub returns-clause-submit : goal.returns-clause-submit
returns-clause-submit c = has_submit

pub returns-clause-deliver : goal.returns-clause-deliver
returns-clause-deliver c = has_deliver

pub returns-clause-submit_ack : goal.returns-clause-submit_ack
returns-clause-submit_ack c = has_submit_ack

pub returns-clause-submit_error : goal.returns-clause-submit_error
returns-clause-submit_error c = has_submit_error

pub returns-clause-deliver_ack : goal.returns-clause-deliver_ack
returns-clause-deliver_ack c = has_deliver_ack

pub returns-clause-deliver_error : goal.returns-clause-deliver_error
returns-clause-deliver_error c = has_deliver_error

pub returns-clause-header : goal.returns-clause-header
returns-clause-header c = has_header

pub returns-clause-status_report : goal.returns-clause-status_report
returns-clause-status_report c = has_status_report

pub returns-clause-command : goal.returns-clause-command
returns-clause-command c = has_command
