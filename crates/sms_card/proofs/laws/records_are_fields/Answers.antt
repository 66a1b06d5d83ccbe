use Rattle.sms_card.specs.Inside.RecordLaws.{record_laws}
use Rattle.sms_card.proofs.laws.records_are_fields.Goals as goal

pub returns : goal.returns
returns c = record_laws
