use Rattle.sms_text.specs.Inside.PackingLaws.{packed_octets}
use Rattle.sms_text.proofs.laws.packed_septets_take_octets.Goals as goal

pub returns : goal.returns
returns c = packed_octets
