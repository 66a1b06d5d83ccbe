use Rattle.std.proofs.Common.{arith}
use Rattle.sms_page.proofs.HexTexts.{none_so_far, more_so_far, two_put}
use Rattle.sms_page.proofs.hexadecimal.put_each.Goals as goal

pub loop-at-init : goal.loop-at-init
loop-at-init c = none_so_far c.args.digits.now c.args.octets.now

pub loop-at-preserved : goal.loop-at-preserved
loop-at-preserved c =
    let within = c.loop-at-test.true in
    more_so_far c.loop-at.digits _ c.args.octets.now c.loop-at.at 1 (omega arith) c.loop-at.invariant
    (two_put c.loop-at.digits c.args.octets.now c.two_digits.result c.loop-at.at (omega arith) (omega arith) c.two_digits.ensures)
