use Rattle.std.proofs.Common.{◌≡◌, ◌≤◌, ◌+◌}
use Rattle.std.specs.VecDeque.{deque_len, deque_capacity}
use Rattle.sms_world.specs.Machine.Next.{entered}
use Rattle.sms_world.specs.Traced.{bare_traces}
use Rattle.sms_world.proofs.traces.put_bare.Given as goal

abbrev pub invariant-loop-done : goal.invariant-loop-done
invariant-loop-done l =
    (l.sent.items ≡ entered (bare_traces l.done l.fn.putting) l.fn.sent.items) × (deque_len l.sent ≡ deque_len l.fn.sent + l.done)
    × (deque_capacity l.sent ≡ deque_capacity l.fn.sent)
