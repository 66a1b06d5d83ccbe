use Rattle.sms_tpdu.proofs.OneRefusal.{submit_refused_once, deliver_refused_once, submit_ack_refused_once, submit_error_refused_once, deliver_ack_refused_once, deliver_error_refused_once, status_report_refused_once, command_refused_once, header_refused_once}
use Rattle.sms_tpdu.proofs.laws.units_are_refused_once.Goals as goal

pub returns-clause-submit : goal.returns-clause-submit
returns-clause-submit c = submit_refused_once

pub returns-clause-deliver : goal.returns-clause-deliver
returns-clause-deliver c = deliver_refused_once

pub returns-clause-submit_ack : goal.returns-clause-submit_ack
returns-clause-submit_ack c = submit_ack_refused_once

pub returns-clause-submit_error : goal.returns-clause-submit_error
returns-clause-submit_error c = submit_error_refused_once

pub returns-clause-deliver_ack : goal.returns-clause-deliver_ack
returns-clause-deliver_ack c = deliver_ack_refused_once

pub returns-clause-deliver_error : goal.returns-clause-deliver_error
returns-clause-deliver_error c = deliver_error_refused_once

pub returns-clause-header : goal.returns-clause-header
returns-clause-header c = header_refused_once

pub returns-clause-status_report : goal.returns-clause-status_report
returns-clause-status_report c = status_report_refused_once

pub returns-clause-command : goal.returns-clause-command
returns-clause-command c = command_refused_once
