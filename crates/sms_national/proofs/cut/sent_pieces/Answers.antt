use Rattle.std.proofs.Common.{◌≡◌, List, ℕ, length, ap, subst, arith}
use Rattle.sms_national.specs.Cut.{ArePieces}
use Rattle.sms_national.proofs.OneCut.{same_pieces}
use Rattle.sms_national.proofs.cut.sent_pieces.Goals as goal

pub returns-clause-few : goal.returns-clause-few
returns-clause-few c =
    let room = c.room_beside-room.result in
    let counted = c.count_pieces-count.ensures in
    let are : ArePieces room c.in_ok-pieces_by.field-0.items c.args.septets.items = subst (λ (l : List ℕ). ArePieces room c.in_ok-pieces_by.field-0.items l) c.deref-2.ensures.value c.in_ok-pieces_by.ensures in
    let also : ArePieces room counted.0 c.args.septets.items = subst (λ (l : List ℕ). ArePieces room counted.0 l) c.deref.ensures.value counted.1 in
    let same : length c.in_ok-pieces_by.field-0.items ≡ length counted.0 = ap (λ (l : List (List ℕ)). length l) (same_pieces room counted.0 c.in_ok-pieces_by.field-0.items c.args.septets.items also are) in
    omega (arith, same, counted.2, c.if-count-gt-SEGMENTS_MAX.false)
