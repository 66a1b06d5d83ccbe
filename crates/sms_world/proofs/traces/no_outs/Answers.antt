use Rattle.std.proofs.Common.{◌≡◌, ℕ, ◌+◌, List, [], ◌∷◌, ◌++◌, length, Option, Some, None, refl, sym, ap, ◌∙◌, subst, arith}
use Rattle.std.specs.List.{slice_get}
use Rattle.std.specs.Vec.{vec_len, vec_capacity}
use Rattle.std.proofs.lemmas.List.{length_push}
use Rattle.sms_world.specs.TraceTables.{out_at}
use Rattle.sms_world.proofs.Backwards.{pushed_all}
use Rattle.sms_world.proofs.traces.no_outs.Goals as goal

pub loop-done-preserved : goal.loop-done-preserved
loop-done-preserved c =
    let i = c.loop-done.invariant in
    let a = c.push_reserved.ensures.len in
    let b = i.2 in (
      ap length c.push_reserved.ensures.items ∙ (length_push c.loop-done.all.items 0 ∙ ap (λ k. k + 1) i.0),
      λ p. ap (λ (l : List ℕ). out_at (slice_get l p)) c.push_reserved.ensures.items
          ∙ pushed_all out_at 0 c.loop-done.all.items 0 refl refl i.1 p,
      omega (arith, a, b),
      c.push_reserved.ensures.capacity ∙ i.3,
    )
