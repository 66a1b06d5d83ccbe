use Rattle.sms_field.specs.Inside.ReasonLaws.{never_chain}
use Rattle.sms_field.proofs.laws.law_of_reasons.Goals as goal

pub returns : goal.returns
returns g c = let j = g.J.Chain in λ why. never_chain why j.first j.second
