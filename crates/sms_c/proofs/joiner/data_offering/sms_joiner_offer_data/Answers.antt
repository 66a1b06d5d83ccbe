use Rattle.std.proofs.Common.{rules}
use Rattle.sms_c.proofs.DataOffering.{data_kept}
use Rattle.sms_c.proofs.joiner.data_offering.sms_joiner_offer_data.Goals as goal

pub returns-in-Ok-clause-offers : goal.returns-in-Ok-clause-offers
returns-in-Ok-clause-offers c = λ ok. data_kept c.args.handle.now.kept.held _ c.deref_mut.result.now c.offered.new.inside c.deref_mut-in-Ok.result.now c.count_change.new.self c.args.seconds c.args.offer.now c.args.origin.now c.args.octets.now c.in-Ok.what _ (search rules) (search rules) c.count_change.ensures (search rules) c.in-Ok.ensures.offers
