use Rattle.sms_world.proofs.Headline.{stores_stand}
use Rattle.sms_world.proofs.laws.stores_stand.Goals as goal

pub returns : goal.returns
returns c = stores_stand c.laws_below.ensures
