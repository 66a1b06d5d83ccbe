use Rattle.std.proofs.Common.{◌+◌, ◌*◌, ◌<◌, arith, ◌∙◌}
use Rattle.std.proofs.lemmas.Bool.{OnTrue_from, not-true, eqb-false}
use Rattle.sms_page.proofs.HexReads.{no_pairs, all_pairs, one_pair, seen_parts}
use Rattle.sms_page.proofs.hexadecimal.put_pairs.Goals as goal

pub loop-at-init : goal.loop-at-init
loop-at-init c = λ _. no_pairs c.args.digits.now c.args.octets.now

pub loop-at-preserved : goal.loop-at-preserved
loop-at-preserved c = λ some.
    let digits = c.args.digits.now in
    let at = c.loop-at.at in
    let fits : c.loop-at.seen < 256 = omega (arith, c.loop-at.auto.seen-fits) in
    let parts = seen_parts c.loop-at.seen c.number_of-high.result c.number_of-low.result fits c.number_of-high.type_inv c.number_of-low.type_inv some in
    rw (c.number_of-high.ensures, c.number_of-low.ensures)
    (one_pair digits c.loop-at.octets at (omega arith) (omega arith) (c.type_inv.digits (2 * at)).fits (c.type_inv.digits (2 * at + 1)).fits
    (λ e. parts.1 (c.number_of-high.ensures ∙ e)) (λ e. parts.2 (c.number_of-low.ensures ∙ e)) (c.loop-at.invariant parts.0))

pub returns : goal.returns
returns c = OnTrue_from _ _ (λ e. all_pairs c.args.digits.now c.loop-at.octets c.loop-at.at (omega arith) (omega arith) (c.loop-at.invariant (eqb-false c.loop-at.seen 255 (not-true _ e))))
