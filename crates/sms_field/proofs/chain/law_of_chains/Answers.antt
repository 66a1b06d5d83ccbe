use Rattle.sms_field.specs.Inside.ChainLaws.{chain_lawful}
use Rattle.sms_field.proofs.chain.law_of_chains.Goals as goal

pub returns : goal.returns
returns g c = let j = g.J.Chain in chain_lawful j.first j.second j.short j.self_contained j.first_lawful j.second_lawful
