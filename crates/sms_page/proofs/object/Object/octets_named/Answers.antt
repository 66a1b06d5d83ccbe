use Rattle.sms_page.proofs.ObjectLemmas.{Writes-then}
use Rattle.sms_page.proofs.object.Object.octets_named.Goals as goal

pub returns : goal.returns
returns c = Writes-then _ _ c.name.ensures c.octets.ensures
