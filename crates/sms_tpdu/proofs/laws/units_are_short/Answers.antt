use Rattle.sms_tpdu.specs.Inside.SizeLaws.{submit_within, deliver_within, submit_ack_within, submit_error_within, deliver_ack_within, deliver_error_within, status_report_within, command_within}
use Rattle.sms_tpdu.proofs.laws.units_are_short.Goals as goal

pub returns-clause-submit : goal.returns-clause-submit
returns-clause-submit c = submit_within

pub returns-clause-deliver : goal.returns-clause-deliver
returns-clause-deliver c = deliver_within

pub returns-clause-submit_ack : goal.returns-clause-submit_ack
returns-clause-submit_ack c = submit_ack_within

pub returns-clause-submit_error : goal.returns-clause-submit_error
returns-clause-submit_error c = submit_error_within

pub returns-clause-deliver_ack : goal.returns-clause-deliver_ack
returns-clause-deliver_ack c = deliver_ack_within

pub returns-clause-deliver_error : goal.returns-clause-deliver_error
returns-clause-deliver_error c = deliver_error_within

pub returns-clause-status_report : goal.returns-clause-status_report
returns-clause-status_report c = status_report_within

pub returns-clause-command : goal.returns-clause-command
returns-clause-command c = command_within
