use Rattle.std.proofs.Common.{◌≡◌, ◌<◌, ◌≤◌, List, length, sym, subst, arith}
use Rattle.std.specs.Prelude.{All}
use Rattle.std.specs.Str.{chars}
use Rattle.std.proofs.lemmas.Str.{scalars-chars}
use Rattle.sms_join.specs.declared.segment.Segment.{Segment}
use Rattle.sms_join.specs.declared.units.Units.{Units}
use Rattle.sms_join.specs.Cut.{IsCut}
use Rattle.sms_join.specs.Segments.{AreSegments}
use Rattle.sms_join.specs.Segments.User.{IsSendable}
use Rattle.sms_join.specs.Inside.SegmentsAt.{pieces_at, segments_at}
use Rattle.sms_join.proofs.Ends.{are_numbered, length-pieces_at, length-segments_from}
use Rattle.sms_join.proofs.OneCut.{as_many_pieces}
use Rattle.sms_join.proofs.TextUnits.{text_is}
use Rattle.sms_join.proofs.Sendable.{segments_sendable}
use Rattle.sms_join.proofs.cut.cut_text.Goals as goal

pub returns-in_default-clause-too_many : goal.returns-in_default-clause-too_many
returns-in_default-clause-too_many c _ =
    let counted = c.count_pieces.ensures (chars c.args.text.now) (text_is (chars c.args.text.now) (scalars-chars c.args.text.now c.utf8.text)) c.in_ok-units.ensures in
    let over = c.in_default.ensures in
    (counted.0, counted.1, many (length counted.0) c.count_pieces.result counted.2 over)
  where
    many : (m n : _) → n ≡ m → (n < 256 → ⊥) → 255 < m
    many m n e h = omega arith

pub new-requires : goal.new-requires
new-requires c =
    let text = chars c.args.text.now in
    let is = text_is text (scalars-chars c.args.text.now c.utf8.text) in
    let pieces : List Units = pieces_at c.in_ok-units.units 0 c.in_ok-ends.ends.items in
    let many = as_many_pieces c.args.width text pieces c.count_pieces.result is (c.in_ok-ends.ensures.cut text is c.in_ok-units.ensures) (c.count_pieces.ensures text is c.in_ok-units.ensures) in
    (c.in_ok-ends.ensures.rising, omega (arith, many, length-pieces_at c.in_ok-units.units 0 c.in_ok-ends.ends.items, (c.in-Ok.ensures).0))

pub returns-clause-segments : goal.returns-clause-segments
returns-clause-segments c =
    let text = chars c.args.text.now in
    let cut : IsCut c.args.width text (pieces_at c.in_ok-units.units 0 c.in_ok-ends.ends.items) = c.in_ok-ends.ensures.cut text (text_is text (scalars-chars c.args.text.now c.utf8.text)) c.in_ok-units.ensures in
    subst (λ (l : List Segment). AreSegments c.args.width text l) (sym c.new.ensures) (pieces_at c.in_ok-units.units 0 c.in_ok-ends.ends.items, cut, are_numbered c.in_ok-units.units c.in_ok-ends.ends.items)

pub returns-clause-few : goal.returns-clause-few
returns-clause-few c =
    let text = chars c.args.text.now in
    let is = text_is text (scalars-chars c.args.text.now c.utf8.text) in
    let ends = c.in_ok-ends.ends.items in
    let pieces : List Units = pieces_at c.in_ok-units.units 0 ends in
    let many = as_many_pieces c.args.width text pieces c.count_pieces.result is (c.in_ok-ends.ensures.cut text is c.in_ok-units.ensures) (c.count_pieces.ensures text is c.in_ok-units.ensures) in
    subst (λ (l : List Segment). length l ≤ 255) (sym c.new.ensures)
    (omega (arith, many, length-pieces_at c.in_ok-units.units 0 ends, (c.in-Ok.ensures).0, length-segments_from c.in_ok-units.units (length ends) 1 0 ends))

pub returns-clause-sendable : goal.returns-clause-sendable
returns-clause-sendable c =
    let text = chars c.args.text.now in
    let pieces : List Units = pieces_at c.in_ok-units.units 0 c.in_ok-ends.ends.items in
    let cut : IsCut c.args.width text pieces = c.in_ok-ends.ensures.cut text (text_is text (scalars-chars c.args.text.now c.utf8.text)) c.in_ok-units.ensures in
    subst (λ (l : List Segment). All (IsSendable c.args.width) l) (sym c.new.ensures) (segments_sendable c.args.width text pieces (segments_at c.in_ok-units.units c.in_ok-ends.ends.items) cut (are_numbered c.in_ok-units.units c.in_ok-ends.ends.items))
