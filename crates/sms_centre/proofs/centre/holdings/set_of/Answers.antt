use Rattle.std.proofs.Common.{◌∙◌}
use Rattle.sms_centre.proofs.SameAddresses.{added}
use Rattle.sms_centre.proofs.centre.holdings.set_of.Goals as goal

pub loop-address-preserved : goal.loop-address-preserved
loop-address-preserved c =
    c.in_ok-insert.ensures.keys ∙ added c.args.addresses.now c.address-item.result c.in_ok-copy.field-0 c.loop-address.address-index c.loop-address.set.keys c.requires c.loop-address-test.true c.address-item.is c.loop-address.invariant c.in_ok-copy.ensures.copy
