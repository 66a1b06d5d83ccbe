use Rattle.std.proofs.Common.{◌∙◌}
use Rattle.sms_centre.proofs.SameAddresses.{line_added}
use Rattle.sms_centre.proofs.centre.holdings.new_lines.Goals as goal

pub loop-address-preserved : goal.loop-address-preserved
loop-address-preserved c =
    c.in_ok-push.ensures.items ∙ line_added c.args.addresses.now c.address-item.result c.loop-address.address-index c.loop-address.lines.items c.in_ok-new.field-0 c.loop-address-test.true c.address-item.is c.loop-address.invariant c.in_ok-new.ensures
