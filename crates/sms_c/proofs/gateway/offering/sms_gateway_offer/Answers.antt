use Rattle.std.proofs.Common.{rules}
use Rattle.sms_c.specs.GatewayOffers.{OffersTo}
use Rattle.sms_c.proofs.GatewayOffering.{counted_kept, to_counted}
use Rattle.sms_c.proofs.gateway.offering.sms_gateway_offer.Goals as goal

pub returns-in-Ok-clause-offers : goal.returns-in-Ok-clause-offers
returns-in-Ok-clause-offers c = λ ok. counted_kept (λ b a. OffersTo b a c.args.seconds c.args.recipient.now c.args.octets.now c.in-Ok.what) (λ b a n. to_counted c.args.seconds c.args.recipient.now c.args.octets.now c.in-Ok.what b a n) c.args.gateway.now.kept.held _ c.deref_mut.result.now c.offered.new.inside c.deref_mut-in-Ok.result.now c.count_change.new.self _ (search rules) (search rules) c.count_change.ensures (search rules) c.in-Ok.ensures.offers
