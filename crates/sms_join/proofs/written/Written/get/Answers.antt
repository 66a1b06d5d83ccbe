use Rattle.std.proofs.Common.{◌≡◌, ◌<◌, ℕ, List, length, get_or, Some, refl, sym, ap, ◌∙◌, arith}
use Rattle.std.specs.Prelude.{slice_get, slice_range}
use Rattle.sms_join.specs.Inside.SegmentsAt.{start_at}
use Rattle.sms_join.proofs.Ends.{piece_inside}
use Rattle.sms_join.proofs.WrittenParts.{length-octets_at, part_at}
use Rattle.sms_join.proofs.written.Written.get.Goals as goal

pub returns-then-index-ends : goal.returns-then-index-ends
returns-then-index-ends c =
    let ends : List ℕ = c.self.inside.ends.items in
    let many = length-octets_at c.self.inside.octets.items 0 ends in
    omega (arith, c.if-index-ends.true, ap length c.as_slice-ends.ensures.value, many, ap (λ (l : List (List ℕ)). length l) c.self.view_is)

pub part-requires-clause-order : goal.part-requires-clause-order
part-requires-clause-order c =
    let ends : List ℕ = c.self.inside.ends.items in
    let inside : c.args.index < length ends = omega (arith, c.if-index-ends.false, ap length c.as_slice-ends.ensures.value) in
    rw (c.start_of.ensures, c.as_slice-ends.ensures.value) (piece_inside 0 (length c.self.inside.octets.items) c.args.index ends c.self.invariant inside).0

pub part-requires-clause-inside : goal.part-requires-clause-inside
part-requires-clause-inside c =
    let ends : List ℕ = c.self.inside.ends.items in
    let inside : c.args.index < length ends = omega (arith, c.if-index-ends.false, ap length c.as_slice-ends.ensures.value) in
    rw (c.as_slice-ends.ensures.value, c.as_slice-octets.ensures.value) (piece_inside 0 (length c.self.inside.octets.items) c.args.index ends c.self.invariant inside).1

pub returns : goal.returns
returns c =
    let ends : List ℕ = c.self.inside.ends.items in
    let octets : List ℕ = c.self.inside.octets.items in
    let inside : c.args.index < length ends = omega (arith, c.if-index-ends.false, ap length c.as_slice-ends.ensures.value) in
    let same : c.part.result.now ≡ slice_range octets (start_at 0 ends c.args.index) (get_or ends c.args.index 0) = rw (c.part.ensures, c.start_of.ensures, c.as_slice-ends.ensures.value, c.as_slice-octets.ensures.value) refl in
    ap (λ (l : List (List ℕ)). slice_get l c.args.index) (sym c.self.view_is) ∙ part_at octets 0 c.args.index ends inside ∙ ap Some (sym same)
