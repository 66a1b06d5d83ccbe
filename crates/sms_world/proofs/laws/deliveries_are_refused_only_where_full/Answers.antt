use Rattle.sms_world.proofs.Refusals.{refused_only_where_full}
use Rattle.sms_world.proofs.laws.deliveries_are_refused_only_where_full.Goals as goal

pub returns : goal.returns
returns c = refused_only_where_full c.laws_below.ensures
