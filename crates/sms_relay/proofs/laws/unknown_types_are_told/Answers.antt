use Rattle.sms_relay.specs.Inside.TypeLaws.{tells_unknown_types}
use Rattle.sms_relay.proofs.laws.unknown_types_are_told.Goals as goal

pub returns : goal.returns
returns c = tells_unknown_types
