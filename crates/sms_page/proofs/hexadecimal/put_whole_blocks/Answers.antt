use Rattle.std.proofs.Common.{◌+◌, ◌-◌, length, refl, arith}
use Rattle.std.proofs.lemmas.Bool.{OnTrue_from, OnTrue_at}
use Rattle.sms_page.proofs.HexReads.{no_pairs, less_pairs, more_pairs, all_pairs}
use Rattle.sms_page.proofs.hexadecimal.put_whole_blocks.Goals as goal

pub loop-octets-init : goal.loop-octets-init
loop-octets-init c = (omega arith, no_pairs c.args.digits.now c.args.octets.now)

pub loop-octets-preserved : goal.loop-octets-preserved
loop-octets-preserved c = (
  omega arith,
  more_pairs c.args.digits.now c.loop-octets.octets c.put_numbers.new.octets c.loop-octets.at 16 (omega arith) c.loop-octets.invariant.1
      (c.if-not-put_numbers.ensures.all.0 refl) c.if-not-put_numbers.ensures.put,
)

pub returns : goal.returns
returns c =
    let digits = c.args.digits.now in
    let octets = c.loop-octets.octets in
    let last = length octets - 16 in
    let before = less_pairs digits octets c.loop-octets.at last (omega arith) (omega arith) c.loop-octets.invariant.1 in
    OnTrue_from _ _ (λ e. all_pairs digits c.put_numbers-2.new.octets (last + 16) (omega arith) (omega arith)
    (more_pairs digits octets c.put_numbers-2.new.octets last 16 (omega arith) before (c.put_numbers-2.ensures.all.0 e) (OnTrue_at e c.put_numbers-2.ensures.put)))
