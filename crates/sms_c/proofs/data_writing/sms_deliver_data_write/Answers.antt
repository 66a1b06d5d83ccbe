use Rattle.sms_c.specs.DataWriting.{deliver_given}
use Rattle.sms_c.proofs.Told.{answers}
use Rattle.sms_c.proofs.data_writing.sms_deliver_data_write.Goals as goal

pub returns-clause-status : goal.returns-clause-status
returns-clause-status c = answers (deliver_given c.args.fields.now c.args.dcs c.args.has_header c.args.origin.now c.args.octets.now) c.put_deliver.result c.status_of.result c.status_of.ensures.status c.put_deliver.ensures.answer
