use Rattle.std.proofs.Common.{◌≡◌, ℕ, zero, suc, ◌+◌, ◌-◌, ◌<◌, ◌≤◌, List, length, None, Some, refl, sym, ◌∙◌, arith}
use Rattle.std.specs.VecDeque.{deque_len}
use Rattle.std.proofs.lemmas.Option.{slice_get_read}
use Rattle.sms_world.proofs.TraceBack.{trace_back, trace_beyond, no_trace_0}
use Rattle.sms_world.proofs.traces.trace_at.Goals.{then-number-eq0-via-then-number-eq0, then-number-eq0-via-else-number-eq0+then-number-len}
use Rattle.sms_world.proofs.traces.trace_at.Goals as goal

pub returns-then-number-eq0 : goal.returns-then-number-eq0
returns-then-number-eq0 c =
    elim c.then-number-eq0.branch [
      | then-number-eq0-via-then-number-eq0 w ↦ sym (no_trace_0 c.args.sent.now.items c.args.number w.if-number-eq0.true)
      | then-number-eq0-via-else-number-eq0+then-number-len w ↦
          let l = w.len.ensures in
          let t = w.if-number-len.true in
          sym (trace_beyond c.args.sent.now.items c.args.number (omega (arith, l, t)))
    ]

pub returns : goal.returns
returns c =
    let l = c.len.ensures in
    let k = c.len-2.ensures in
    let t = c.if-number-len.false in
    let z = c.if-number-eq0.false in
    sym (trace_back c.args.sent.now.items c.args.number (c.len-2.result - c.args.number) (omega (arith, z)) (omega (arith, l, k, t))
    ∙ slice_get_read c.args.sent.now.items (length c.args.sent.now.items) (c.len-2.result - c.args.number) c.index.result.now refl (omega (arith, l, k, t, z)) c.index.ensures)
