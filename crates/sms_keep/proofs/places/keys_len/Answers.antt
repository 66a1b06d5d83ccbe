use Rattle.std.proofs.Common.{◌^◌, arith}
use Rattle.sms_saved.specs.Spelling.{remembered}
use Rattle.sms_keep.proofs.Lengths.{loop_len, remembered_len}
use Rattle.sms_keep.proofs.places.keys_len.Goals as goal

pub overflow_add-total-in-loop-own : goal.overflow_add-total-in-loop-own
overflow_add-total-in-loop-own c =
    let h = loop_len remembered c.args.keys.now c.loop-own.own-index c.own-item.result c.loop-own.total c.args.more (2 ^ 64) c.loop-own-test.true c.own-item.is c.loop-own.invariant c.requires in
    omega (arith, h.1, remembered_len c.own-item.result, c.key_len.ensures.value)

pub loop-own-preserved : goal.loop-own-preserved
loop-own-preserved c =
    let h = loop_len remembered c.args.keys.now c.loop-own.own-index c.own-item.result c.loop-own.total c.args.more (2 ^ 64) c.loop-own-test.true c.own-item.is c.loop-own.invariant c.requires in
    omega (arith, h.0, remembered_len c.own-item.result, c.key_len.ensures.value)
