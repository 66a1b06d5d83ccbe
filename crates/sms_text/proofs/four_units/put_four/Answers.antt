use Rattle.std.proofs.Common.{ℕ, List, take, ◌∙◌, ap, refl, arith}
use Rattle.std.proofs.Math.Utf8.{encodes}
use Rattle.sms_text.proofs.FourUnits.{four_placed}
use Rattle.sms_text.proofs.four_units.put_four.Goals as goal

pub returns-in-len8-up-clause-text : goal.returns-in-len8-up-clause-text
returns-in-len8-up-clause-text c =
    (four_placed c.args.out.now c.four_spelled-count.result.0 c.args.octets.now _ c.args.at c.four_spelled-count.result.1 _ _ _ _ c.four_spelled-count.ensures.lanes c.four_spelled-count.ensures.few c.requires
    (c.four_spelled-count.ensures.spelled ∙ ap (λ (l : List ℕ). encodes (take 4 l)) c.first_four.ensures) c.in-len8-up.len_at_least refl refl refl refl refl
    (omega (arith, c.if-a-lt8.true, (c.type_inv.octets 1).fits)) (omega (arith, c.if-c-lt8.true, (c.type_inv.octets 3).fits)) (omega (arith, c.if-e-lt8.true, (c.type_inv.octets 5).fits)) (omega (arith, c.if-g-lt8.true, (c.type_inv.octets 7).fits))).0

pub returns-in-len8-up-clause-utf8 : goal.returns-in-len8-up-clause-utf8
returns-in-len8-up-clause-utf8 c =
    (four_placed c.args.out.now c.four_spelled-count.result.0 c.args.octets.now _ c.args.at c.four_spelled-count.result.1 _ _ _ _ c.four_spelled-count.ensures.lanes c.four_spelled-count.ensures.few c.requires
    (c.four_spelled-count.ensures.spelled ∙ ap (λ (l : List ℕ). encodes (take 4 l)) c.first_four.ensures) c.in-len8-up.len_at_least refl refl refl refl refl
    (omega (arith, c.if-a-lt8.true, (c.type_inv.octets 1).fits)) (omega (arith, c.if-c-lt8.true, (c.type_inv.octets 3).fits)) (omega (arith, c.if-e-lt8.true, (c.type_inv.octets 5).fits)) (omega (arith, c.if-g-lt8.true, (c.type_inv.octets 7).fits))).1
