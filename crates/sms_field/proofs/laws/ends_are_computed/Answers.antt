use Rattle.sms_field.proofs.TimeLaws.{end_is_one}
use Rattle.sms_field.proofs.laws.ends_are_computed.Goals as goal

pub returns : goal.returns
returns c = end_is_one
