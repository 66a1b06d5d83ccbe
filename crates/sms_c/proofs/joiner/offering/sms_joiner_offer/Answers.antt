use Rattle.std.proofs.Common.{rules}
use Rattle.sms_c.proofs.Offering.{turned_away, offers_kept}
use Rattle.sms_c.proofs.joiner.offering.sms_joiner_offer.Goals as goal

pub returns-in-Err-clause-turned : goal.returns-in-Err-clause-turned
returns-in-Err-clause-turned c = turned_away c.args.handle.now.kept.held c.deref_mut.result.now c.args.seconds c.args.octets.now c.status-in-Err.result _ (search rules) c.status-in-Err.ensures c.in-Err.ensures.turned

pub returns-in-Ok-clause-offers : goal.returns-in-Ok-clause-offers
returns-in-Ok-clause-offers c = λ ok. offers_kept c.args.handle.now.kept.held _ c.deref_mut.result.now c.offered.new.inside c.deref_mut-in-Ok.result.now c.count_change.new.self c.args.seconds c.args.octets.now c.in-Ok.what _ (search rules) (search rules) c.count_change.ensures (search rules) c.in-Ok.ensures.offers
