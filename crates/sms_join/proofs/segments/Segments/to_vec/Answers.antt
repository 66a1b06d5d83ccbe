use Rattle.std.proofs.Common.{List, [], ◌∷◌, ◌++◌, take, Vec, Global, sym, ap, ◌∙◌, arith}
use Rattle.sms_join.specs.declared.segment.Segment.{Segment}
use Rattle.sms_join.proofs.Ends.{take_next, all_taken, is_there}
use Rattle.sms_join.proofs.segments.Segments.to_vec.Goals.{in-Some+in_ok-to_value+in_ok-push, in_default}
use Rattle.sms_join.proofs.segments.Segments.to_vec.Goals as goal

pub loop-index-preserved : goal.loop-index-preserved
loop-index-preserved c = elim c.match-get.branch [
  | in-Some+in_ok-to_value+in_ok-push w ↦
      ap (λ (v : Vec Segment Global). v.items) w.segments-is ∙ w.in_ok-push.ensures.items
      ∙ ap (λ (l : List Segment). l ++ w.in_ok-to_value.field-0 ∷ []) c.loop-index.invariant
      ∙ ap (λ (x : Segment). take c.loop-index.index c.args.self.now ++ x ∷ []) w.in_ok-to_value.ensures
      ∙ sym (take_next c.args.self.now c.loop-index.index w.in-Some.segment (sym c.get.ensures.value ∙ w.in-Some.is))
  | in_default w ↦
      absurd (is_there c.args.self.now c.loop-index.index (omega (arith, c.loop-index-test.true, c.len-index-end.ensures.count)) (sym c.get.ensures.value ∙ w.in_default.is))
]

pub returns : goal.returns
returns c = c.loop-index.invariant ∙ all_taken c.args.self.now c.loop-index.index (omega (arith, c.loop-index-test.false, c.len-index-end.ensures.count))
