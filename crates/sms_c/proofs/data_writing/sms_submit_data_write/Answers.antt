use Rattle.sms_c.specs.DataWriting.{submit_given}
use Rattle.sms_c.proofs.Told.{answers}
use Rattle.sms_c.proofs.data_writing.sms_submit_data_write.Goals as goal

pub returns-clause-status : goal.returns-clause-status
returns-clause-status c = answers (submit_given c.args.fields.now c.args.dcs c.args.has_header c.args.target.now c.args.octets.now) c.put_submit.result c.status_of.result c.status_of.ensures.status c.put_submit.ensures.answer
