use Rattle.std.proofs.Common.{ℕ, ◌∷◌, [], ◌++◌, Vec, Global, sym, ap, ◌∙◌, arith}
use Rattle.sms_c.specs.declared.data_splitting.DataSegment.{DataSegment}
use Rattle.sms_c.proofs.DataSplits.{as_apart, one_more_apart}
use Rattle.sms_c.proofs.Splits.{take_next, is_there}
use Rattle.sms_c.proofs.data_splitting.apart_of.Goals.{in-Some+in_ok-told+in_ok-push, in_default}
use Rattle.sms_c.proofs.data_splitting.apart_of.Goals as goal

pub loop-index-preserved : goal.loop-index-preserved
loop-index-preserved c = elim c.match-get.branch [
  | in-Some+in_ok-told+in_ok-push w ↦
      as_apart _ _ _ _ _ _ _ _ _ (take_next c.args.segments.now c.loop-index.index w.in-Some.segment (sym c.get.ensures.value ∙ w.in-Some.is))
      (ap (λ (v : Vec ℕ Global). v.items) w.octets-is ∙ w.in_ok-told.ensures.2)
      (ap (λ (v : Vec DataSegment Global). v.items) w.parts-is ∙ w.in_ok-push.ensures.items ∙ ap (λ (t : DataSegment). c.loop-index.parts.items ++ t ∷ []) w.in_ok-told.ensures.3)
      (one_more_apart c.args.single c.args.width c.args.reference _ _ _ w.in-Some.segment w.in_ok-told.ensures.0 c.loop-index.invariant w.in_ok-told.ensures.1)
  | in_default w ↦
      absurd (is_there c.args.segments.now c.loop-index.index (omega (arith, c.loop-index-test.true, c.len-index-end.ensures.count)) (sym c.get.ensures.value ∙ w.in_default.is))
]
