use Rattle.std.proofs.Common.{◌≡◌, ◌+◌, ◌<◌, ℕ, List, length, get_or, Some, refl, sym, ap, ◌∙◌, arith}
use Rattle.std.specs.Prelude.{slice_get}
use Rattle.std.proofs.lemmas.Option.{get_or_from_slice_get}
use Rattle.sms_join.specs.declared.segment.Segment.{Segment}
use Rattle.sms_join.specs.UnitsOfText.{numbers}
use Rattle.sms_join.specs.Inside.SegmentsAt.{part_of, start_at}
use Rattle.sms_join.proofs.Ends.{length-segments_from, segment_at, no_segment_at, piece_inside}
use Rattle.sms_join.proofs.segments.Segments.get.Goals as goal

pub returns-then-index-ends-clause-value : goal.returns-then-index-ends-clause-value
returns-then-index-ends-clause-value c =
    let ends : List ℕ = c.self.inside.ends.items in
    let many = length-segments_from c.self.inside.units (length ends) 1 0 ends in
    sym (no_segment_at c.args.self.now c.args.index (omega (arith, c.if-index-ends.true, ap length c.as_slice-ends.ensures.value, many, ap (λ (l : List Segment). length l) c.self.view_is)))

pub part-units-requires-clause-order : goal.part-units-requires-clause-order
part-units-requires-clause-order c =
    let ends : List ℕ = c.self.inside.ends.items in
    let inside : c.args.index < length ends = omega (arith, c.if-index-ends.false, ap length c.as_slice-ends.ensures.value) in
    rw (c.start_of.ensures, c.as_slice-ends.ensures.value) (piece_inside 0 (length (numbers c.self.inside.units)) c.args.index ends c.self.invariant.0 inside).0

pub part-units-requires-clause-inside : goal.part-units-requires-clause-inside
part-units-requires-clause-inside c =
    let ends : List ℕ = c.self.inside.ends.items in
    let inside : c.args.index < length ends = omega (arith, c.if-index-ends.false, ap length c.as_slice-ends.ensures.value) in
    rw c.as_slice-ends.ensures.value (piece_inside 0 (length (numbers c.self.inside.units)) c.args.index ends c.self.invariant.0 inside).1

pub returns-clause-value : goal.returns-clause-value
returns-clause-value c =
    let ends : List ℕ = c.self.inside.ends.items in
    let inside : c.args.index < length ends = omega (arith, c.if-index-ends.false, ap length c.as_slice-ends.ensures.value) in
    let segment : Segment = record { units = part_of c.self.inside.units (start_at 0 ends c.args.index) (get_or ends c.args.index 0); maximum = length ends; sequence = c.args.index + 1 } in
    let same : c.new.result ≡ segment = rw (c.new.ensures, c.part-units.ensures.is, c.start_of.ensures, c.as_slice-ends.ensures.value) refl in
    ap Some same ∙ sym (segment_at c.self.inside.units c.args.index ends inside) ∙ ap (λ (l : List Segment). slice_get l c.args.index) c.self.view_is

pub returns-clause-item : goal.returns-clause-item
returns-clause-item c =
    let ends : List ℕ = c.self.inside.ends.items in
    let inside : c.args.index < length ends = omega (arith, c.if-index-ends.false, ap length c.as_slice-ends.ensures.value) in
    let many = length-segments_from c.self.inside.units (length ends) 1 0 ends in
    let segment : Segment = record { units = part_of c.self.inside.units (start_at 0 ends c.args.index) (get_or ends c.args.index 0); maximum = length ends; sequence = c.args.index + 1 } in
    let same : c.new.result ≡ segment = rw (c.new.ensures, c.part-units.ensures.is, c.start_of.ensures, c.as_slice-ends.ensures.value) refl in
    let found = ap (λ (l : List Segment). slice_get l c.args.index) (sym c.self.view_is) ∙ segment_at c.self.inside.units c.args.index ends inside ∙ ap Some (sym same) in
    (omega (arith, inside, many, ap (λ (l : List Segment). length l) c.self.view_is), get_or_from_slice_get c.args.self.now c.args.index c.new.result c.new.result found)
