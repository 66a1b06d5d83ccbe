use Rattle.sms_centre.proofs.DeliveryKeys as keys
use Rattle.sms_centre.proofs.laws.deliveries_have_own_keys.Goals as goal

pub returns : goal.returns
returns c = keys.deliveries_have_own_keys c.moments_come_back.ensures.zone_0
