use Rattle.sms_text.specs.Inside.PackingLaws.{unpacked_septets}
use Rattle.sms_text.proofs.laws.unpacked_septets_are_septets.Goals as goal

pub returns : goal.returns
returns c = unpacked_septets
