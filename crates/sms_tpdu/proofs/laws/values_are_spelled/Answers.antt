use Rattle.sms_tpdu.specs.Inside.SpellingLaws.{submit_spelled, deliver_spelled, submit_ack_spelled, submit_error_spelled, deliver_ack_spelled, deliver_error_spelled, status_report_spelled, command_spelled, header_spelled}
use Rattle.sms_tpdu.proofs.laws.values_are_spelled.Goals as goal

pub returns-clause-submit : goal.returns-clause-submit
returns-clause-submit c = submit_spelled

pub returns-clause-deliver : goal.returns-clause-deliver
returns-clause-deliver c = deliver_spelled

pub returns-clause-submit_ack : goal.returns-clause-submit_ack
returns-clause-submit_ack c = submit_ack_spelled

pub returns-clause-submit_error : goal.returns-clause-submit_error
returns-clause-submit_error c = submit_error_spelled

pub returns-clause-deliver_ack : goal.returns-clause-deliver_ack
returns-clause-deliver_ack c = deliver_ack_spelled

pub returns-clause-deliver_error : goal.returns-clause-deliver_error
returns-clause-deliver_error c = deliver_error_spelled

pub returns-clause-header : goal.returns-clause-header
returns-clause-header c = header_spelled

pub returns-clause-status_report : goal.returns-clause-status_report
returns-clause-status_report c = status_report_spelled

pub returns-clause-command : goal.returns-clause-command
returns-clause-command c = command_spelled
