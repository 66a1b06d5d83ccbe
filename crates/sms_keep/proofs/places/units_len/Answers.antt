use Rattle.std.proofs.Common.{◌≡◌, ℕ, length, Some, List, ap, arith, length-append}
use Rattle.std.specs.List.{flat_map}
use Rattle.sms_saved.specs.declared.state.Units.{Units}
use Rattle.sms_saved.specs.declared.state.Units.TheVariants.{Gsm, Ucs2}
use Rattle.sms_saved.specs.Spelling.{two, eight, place}
use Rattle.sms_saved.specs.Value.{view_units}
use Rattle.sms_keep.proofs.Lengths.{eight_len, wide_len}
use Rattle.sms_keep.proofs.places.units_len.Goals as goal

pub overflow_add-result-in-Ucs2 : goal.overflow_add-result-in-Ucs2
overflow_add-result-in-Ucs2 c =
    let ns : List ℕ = c.in-Ucs2.units.items in
    let same : c.args.own.now ≡ Ucs2 c.in-Ucs2.units = c.in-Ucs2.is in
    let e = ap (λ (u : Units). length (place (Some (view_units u)))) same in
    let a = length-append (eight (length ns)) (flat_map two ns) in
    omega (arith, e, a, eight_len (length ns), wide_len ns, c.len-in-Ucs2.ensures, c.requires)

pub returns-in-Gsm : goal.returns-in-Gsm
returns-in-Gsm c =
    let ns : List ℕ = c.in-Gsm.septets.items in
    let same : c.args.own.now ≡ Gsm c.in-Gsm.septets = c.in-Gsm.is in
    let e = ap (λ (u : Units). length (place (Some (view_units u)))) same in
    let a = length-append (eight (length ns)) ns in
    omega (arith, e, a, eight_len (length ns), c.len.ensures)

pub returns-in-Ucs2 : goal.returns-in-Ucs2
returns-in-Ucs2 c =
    let ns : List ℕ = c.in-Ucs2.units.items in
    let same : c.args.own.now ≡ Ucs2 c.in-Ucs2.units = c.in-Ucs2.is in
    let e = ap (λ (u : Units). length (place (Some (view_units u)))) same in
    let a = length-append (eight (length ns)) (flat_map two ns) in
    omega (arith, e, a, eight_len (length ns), wide_len ns, c.len-in-Ucs2.ensures)
