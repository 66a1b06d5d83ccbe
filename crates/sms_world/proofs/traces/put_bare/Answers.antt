use Rattle.std.proofs.Common.{◌≡◌, ℕ, suc, ◌+◌, ◌≤◌, ◌∷◌, List, ap, sym, ◌∙◌, subst, arith}
use Rattle.std.specs.VecDeque.{deque_len, deque_capacity}
use Rattle.sms_world.specs.Machine.Next.{entered}
use Rattle.sms_world.specs.Traced.{bare_trace, bare_traces}
use Rattle.sms_world.specs.Traces.{Trace}
use Rattle.sms_world.proofs.TraceBack.{bare_more}
use Rattle.sms_world.proofs.traces.put_bare.Goals as goal

pub loop-done-preserved : goal.loop-done-preserved
loop-done-preserved c =
    let i = c.loop-done.invariant in
    let a = c.push_front_reserved.ensures.len in
    let b = i.1 in
    let next : suc c.loop-done.done ≡ c.loop-done.done + 1 = omega arith in (
      c.push_front_reserved.ensures.items ∙ (ap (λ (l : List Trace). bare_trace c.args.putting ∷ l) i.0 ∙ (sym (bare_more c.loop-done.done c.args.putting c.args.sent.now.items)
          ∙ ap (λ k. entered (bare_traces k c.args.putting) c.args.sent.now.items) next)),
      omega (arith, a, b),
      c.push_front_reserved.ensures.capacity ∙ i.2,
    )
