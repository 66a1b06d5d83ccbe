use Rattle.std.proofs.Common.{◌≡◌, length, refl, arith}
use Rattle.sms_keep.proofs.TelephonesWritten.{none_paired, pair_more}
use Rattle.sms_keep.proofs.telephone_octets.in_pairs.Goals as goal

pub loop-place-init : goal.loop-place-init
loop-place-init c = none_paired c.args.first c.args.second c.args.digits.now

pub loop-place-preserved : goal.loop-place-preserved
loop-place-preserved c =
    let long : length c.args.digits.now ≡ 20 = omega (arith, c.type_inv.digits) in
    pair_more c.args.first c.args.second c.loop-place.place _ c.args.digits.now c.loop-place.octets long (omega (arith, c.loop-place-test.true)) refl c.loop-place.invariant
