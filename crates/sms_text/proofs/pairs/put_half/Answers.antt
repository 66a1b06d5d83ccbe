use Rattle.std.proofs.Common.{ℕ, List, get_or, length, take, ◌+◌, ◌*◌, ◌-◌, ◌≤◌, ◌∙◌, refl, arith, rules}
use Rattle.std.proofs.str.Utf16.{IsPair}
use Rattle.sms_text.proofs.PairOctets.{pair_placed, half_placed, half_utf8}
use Rattle.sms_text.proofs.pairs.put_half.Goals as goal
use Rattle.sms_text.proofs.pairs.put_half.Goals.{in_default-via-then-octets-lt4, in_default-via-else-octets-lt4+then-octets-lt216, in_default-via-else-octets-lt4+else-octets-lt216+then-octets-lt220+then-octets-lt220-2, in_default-via-else-octets-lt4+else-octets-lt216+then-octets-lt220+else-octets-lt220-2+else-octets-lt224, in_default-via-else-octets-lt4+else-octets-lt216+else-octets-lt220}

pub returns-in-216-to-219-clause-text : goal.returns-in-216-to-219-clause-text
returns-in-216-to-219-clause-text c =
    (pair_placed c.args.out.now c.copy_from_slice.new.self c.args.octets.now _ c.args.at (c.args.at + 4 - c.args.at) c.unit.result c.unit-in-216-to-219.result (c.copy_from_slice.ensures.after ∙ c.pair_spelled-spelled.ensures) c.requires.room
    c.in-216-to-219.len_at_least refl c.unit.ensures c.unit-in-216-to-219.ensures (omega arith) (omega (arith, (c.type_inv.octets 1).fits)) (omega arith) (omega (arith, (c.type_inv.octets 3).fits))).0

pub returns-in-216-to-219-clause-utf8 : goal.returns-in-216-to-219-clause-utf8
returns-in-216-to-219-clause-utf8 c =
    (pair_placed c.args.out.now c.copy_from_slice.new.self c.args.octets.now _ c.args.at (c.args.at + 4 - c.args.at) c.unit.result c.unit-in-216-to-219.result (c.copy_from_slice.ensures.after ∙ c.pair_spelled-spelled.ensures) c.requires.room
    c.in-216-to-219.len_at_least refl c.unit.ensures c.unit-in-216-to-219.ensures (omega arith) (omega (arith, (c.type_inv.octets 1).fits)) (omega arith) (omega (arith, (c.type_inv.octets 3).fits))).1

pub returns-in_default-clause-text : goal.returns-in_default-clause-text
returns-in_default-clause-text c =
    let octets : List ℕ = c.args.octets.now in
    let apart : 4 ≤ length octets → ¬ (IsPair (256 * get_or octets 0 0 + get_or octets 1 0) (256 * get_or octets 2 0 + get_or octets 3 0)) = λ many pair. elim c.in_default.branch [
      | in_default-via-then-octets-lt4 w ↦ search rules
      | in_default-via-else-octets-lt4+then-octets-lt216 w ↦ search rules
      | in_default-via-else-octets-lt4+else-octets-lt216+then-octets-lt220+then-octets-lt220-2 w ↦ search rules
      | in_default-via-else-octets-lt4+else-octets-lt216+then-octets-lt220+else-octets-lt220-2+else-octets-lt224 w ↦ search rules
      | in_default-via-else-octets-lt4+else-octets-lt216+else-octets-lt220 w ↦ search rules
    ] in
    half_placed (take c.args.at c.args.out.now) _ octets _ c.put_word.ensures.octets c.requires.unit refl (omega (arith, c.requires.half.0)) (omega (arith, c.requires.half.1)) (c.type_inv.octets 1).fits apart

pub returns-in_default-clause-utf8 : goal.returns-in_default-clause-utf8
returns-in_default-clause-utf8 c = half_utf8 (take c.args.at c.args.out.now) _ c.put_word.ensures.octets
