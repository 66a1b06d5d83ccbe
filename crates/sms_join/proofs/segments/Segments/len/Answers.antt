use Rattle.std.proofs.Common.{ℕ, ◌≤◌, List, length, sym, ap, subst, ◌∙◌}
use Rattle.sms_join.specs.declared.segment.Segment.{Segment}
use Rattle.sms_join.proofs.Ends.{length-segments_from}
use Rattle.sms_join.proofs.segments.Segments.len.Goals as goal

pub returns-clause-count : goal.returns-clause-count
returns-clause-count c =
    let ends : List ℕ = c.self.inside.ends.items in
    c.len.ensures ∙ c.self.inside.ends.ok.0 ∙ sym (length-segments_from c.self.inside.units (length ends) 1 0 ends) ∙ ap (λ (l : List Segment). length l) c.self.view_is

pub returns-clause-few : goal.returns-clause-few
returns-clause-few c = subst (λ n. n ≤ 255) (sym (c.len.ensures ∙ c.self.inside.ends.ok.0)) c.self.invariant.1
