use Rattle.std.proofs.Common.{rules}
use Rattle.sms_c.specs.GatewayOffers.{OffersDataTo}
use Rattle.sms_c.proofs.GatewayOffering.{counted_kept, data_to_counted}
use Rattle.sms_c.proofs.gateway.data_offering.sms_gateway_offer_data.Goals as goal

pub returns-in-Ok-clause-offers : goal.returns-in-Ok-clause-offers
returns-in-Ok-clause-offers c = λ ok. counted_kept (λ b a. OffersDataTo b a c.args.seconds c.args.offer.now c.args.recipient.now c.args.origin.now c.args.octets.now c.in-Ok.what) (λ b a n. data_to_counted c.args.seconds c.args.offer.now c.args.recipient.now c.args.origin.now c.args.octets.now c.in-Ok.what b a n) c.args.gateway.now.kept.held _ c.deref_mut.result.now c.offered.new.inside c.deref_mut-in-Ok.result.now c.count_change.new.self _ (search rules) (search rules) c.count_change.ensures (search rules) c.in-Ok.ensures.offers
