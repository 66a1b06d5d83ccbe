use Rattle.sms_party.proofs.Drops.{drops_put_nothing_out}
use Rattle.sms_party.proofs.laws.drops_put_nothing_out.Goals as goal

pub returns : goal.returns
returns c = drops_put_nothing_out
