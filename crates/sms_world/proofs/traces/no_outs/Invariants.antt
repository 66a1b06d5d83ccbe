use Rattle.std.proofs.Common.{◌≡◌, ℕ, length, None}
use Rattle.std.specs.List.{slice_get}
use Rattle.std.specs.Vec.{vec_len, vec_capacity}
use Rattle.sms_world.specs.TraceTables.{out_at}
use Rattle.sms_world.proofs.traces.no_outs.Given as goal

abbrev pub invariant-loop-done : goal.invariant-loop-done
invariant-loop-done l =
    (length l.all.items ≡ l.done) × ((p : ℕ) → out_at (slice_get l.all.items p) ≡ 0) × (vec_len l.all ≡ l.done) × (vec_capacity l.all ≡ l.count)
