use Rattle.sms_relay.specs.Inside.TypeLaws.{reference_is}
use Rattle.sms_relay.proofs.laws.references_are_second.Goals as goal

pub returns : goal.returns
returns c = reference_is
