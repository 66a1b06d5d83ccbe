use Rattle.std.proofs.Common.{◌-◌, ◌+◌, length, arith}
use Rattle.sms_page.proofs.HexTexts.{none_so_far, less_so_far, more_so_far, all_so_far}
use Rattle.sms_page.proofs.hexadecimal.put_blocks.Goals as goal

pub loop-at-init : goal.loop-at-init
loop-at-init c = record { within = omega arith; so_far = none_so_far c.args.digits.now c.args.octets.now }

pub loop-at-preserved : goal.loop-at-preserved
loop-at-preserved c = record {
  within = omega arith;
  so_far = more_so_far c.loop-at.digits c.put_block.new.digits c.args.octets.now c.loop-at.at 16 (omega arith) c.loop-at.invariant.so_far c.put_block.ensures;
}

pub returns : goal.returns
returns c =
    let octets = c.args.octets.now in
    let last = length octets - 16 in
    let before = less_so_far c.loop-at.digits octets c.loop-at.at last (omega arith) (omega arith) c.loop-at.invariant.so_far in
    all_so_far c.put_block-2.new.digits octets (last + 16) (omega arith) (omega (arith, c.put_block-2.ensures.as_long))
    (more_so_far c.loop-at.digits c.put_block-2.new.digits octets last 16 (omega arith) before c.put_block-2.ensures)
