use Rattle.std.proofs.Common.{List, Option, length, ap, arith}
use Rattle.std.specs.List.{flat_map}
use Rattle.sms_saved.specs.declared.state.Units.{Units}
use Rattle.sms_saved.specs.Spelling.{place}
use Rattle.sms_saved.specs.Value.{view_places, view_set}
use Rattle.sms_keep.proofs.Lengths.{set_len}
use Rattle.sms_keep.proofs.places.set_len.Goals as goal

pub places_len-requires : goal.places_len-requires
places_len-requires c =
    let e = set_len (view_set c.args.own.now) in
    let p = ap (λ (ps : List (Option Units)). length (flat_map place (view_places ps))) c.deref.ensures.value in
    omega (arith, e, p, c.key_len.ensures.value, c.requires)

pub returns : goal.returns
returns c =
    let e = set_len (view_set c.args.own.now) in
    let p = ap (λ (ps : List (Option Units)). length (flat_map place (view_places ps))) c.deref.ensures.value in
    omega (arith, e, p, c.key_len.ensures.value, c.places_len.ensures)
