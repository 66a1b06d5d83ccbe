use Rattle.std.proofs.Common.{sym, subst, length, arith}
use Rattle.sms_text.specs.Bits.{AreSeptets}
use Rattle.sms_text.proofs.Words.{few_added, head_added, more_added, last_added, septets-take}
use Rattle.sms_text.proofs.packing.pack_into.Goals as goal

pub push_packed-requires-clause-septets : goal.push_packed-requires-clause-septets
push_packed-requires-clause-septets c = subst AreSeptets (sym c.split_at.ensures.back) (septets-take c.args.fill c.args.septets.now c.requires.septets).1

pub returns-then-septets-head-clause-ok : goal.returns-then-septets-head-clause-ok
returns-then-septets-head-clause-ok c = few_added c.args.fill c.word_of_septets.result (length c.args.septets.now) c.args.septets.now c.args.octets.now.items c.push_octets.new.octets.items c.requires.fill (omega arith) (omega arith) c.word_of_septets.ensures.septets c.word_of_septets.ensures.bound (rw c.in_ok-reserve.ensures.items at c.push_octets.ensures.items)

pub returns-clause-ok : goal.returns-clause-ok
returns-clause-ok c =
    let begun = head_added c.args.fill c.word_of_septets-2.result c.args.septets.now c.split_at.result.0.now c.split_at.result.1.now c.args.octets.now.items c.push_octets-2.new.octets.items c.requires.fill (omega arith) c.requires.septets c.split_at.ensures.front c.split_at.ensures.back c.word_of_septets-2.ensures.septets c.word_of_septets-2.ensures.bound (rw c.in_ok-reserve.ensures.items at c.push_octets-2.ensures.items) in
    let blocks = c.in_ok-last.ensures.packed in
    let so_far = more_added c.args.fill c.args.septets.now c.split_at.result.1.now c.in_ok-last.last.now c.args.octets.now.items c.push_octets-2.new.octets.items c.push_packed.new.octets.items blocks.0 blocks.1 blocks.2 blocks.3 begun.0 in
    last_added c.args.fill c.word_of_septets-3.result c.args.septets.now c.in_ok-last.last.now c.args.octets.now.items c.push_packed.new.octets.items c.push_octets-3.new.octets.items (omega (arith, c.in_ok-last.ensures.left)) c.word_of_septets-3.ensures.septets c.word_of_septets-3.ensures.bound c.push_octets-3.ensures.items so_far
