use Rattle.sms_centre.proofs.Drops.{centre_drops_put_nothing_out}
use Rattle.sms_centre.proofs.laws.centre_drops_put_nothing_out.Goals as goal

pub returns : goal.returns
returns c = centre_drops_put_nothing_out
