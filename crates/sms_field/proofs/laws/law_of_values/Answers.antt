use Rattle.sms_field.specs.Inside.ReadValueLaws.{has_chain}
use Rattle.sms_field.proofs.laws.law_of_values.Goals as goal

pub returns : goal.returns
returns g c = let j = g.K.Chain in let k = g.K.Known in has_chain k.of_first k.of_second j.first j.second
