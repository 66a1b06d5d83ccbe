use Rattle.std.proofs.Common.{◌≡◌, ℕ, List, [], ◌∷◌, ◌++◌, take, sym, ap, subst, ◌∙◌}
use Rattle.sms_text.specs.Bits.{AreSeptets}
use Rattle.sms_national.proofs.Left.{IsLeft, less_left, nothing_left, none_left, septets_drop}
use Rattle.sms_national.proofs.pieces.pieces_by.Goals as goal

pub loop-rest-preserved : goal.loop-rest-preserved
loop-rest-preserved c =
    let n : ℕ = c.piece_len.result in
    let left : List ℕ = c.loop-rest.rest.now in
    let piece : c.in_ok-copy_of.field-0 ≡ take n left = c.in_ok-copy_of.ensures ∙ c.split_at.ensures.front in
    let pieces : c.push.new.self.items ≡ c.loop-rest.pieces.items ++ take n left ∷ [] = c.in_ok-push.ensures.items ∙ ap (λ (l : List ℕ). c.loop-rest.pieces.items ++ l ∷ []) piece in
    let behind = c.split_at.ensures.back in (
      subst (λ (l : List (List ℕ)). IsLeft c.args.room c.args.septets.now l c.split_at.result.1.now) (sym pieces)
          (subst (λ (l : List ℕ). IsLeft c.args.room c.args.septets.now (c.loop-rest.pieces.items ++ take n left ∷ []) l) (sym behind)
          (less_left c.args.room n c.args.septets.now left c.loop-rest.pieces.items c.piece_len.ensures.piece c.loop-rest.invariant.0)),
      subst AreSeptets (sym behind) (septets_drop n left c.loop-rest.invariant.1),
    )

pub returns : goal.returns
returns c = nothing_left c.args.room c.args.septets.now c.loop-rest.rest.now c.loop-rest.pieces.items (none_left c.loop-rest.rest.now c.loop-rest-test.false) c.loop-rest.invariant.0
