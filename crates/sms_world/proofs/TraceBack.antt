-- Lists of traces that have the newest first, as the code reads and makes them.
use Rattle.std.proofs.Common.{◌≡◌, ℕ, zero, suc, ◌+◌, ◌-◌, ◌<◌, ◌≤◌, List, [], ◌∷◌, length, Option, Some, None, refl, sym, ap, ◌∙◌, subst, arith}
use Rattle.std.specs.List.{slice_get}
use Rattle.sms_world.specs.Machine.Next.{entered}
use Rattle.sms_world.specs.Traces.{Trace, trace_at}
use Rattle.sms_world.specs.Traced.{bare_trace, bare_traces}
use Rattle.sms_world.proofs.Backwards.{nth_back, nth_beyond}

pub no_trace_0 : (traces : List Trace) (k : ℕ) → k ≡ 0 → trace_at traces k ≡ None
no_trace_0 traces zero e = refl
no_trace_0 traces (suc k) e = absurd (omega (arith, e))

pub trace_back : (traces : List Trace) (k i : ℕ) → 0 < k → k + i ≡ length traces → trace_at traces k ≡ slice_get traces i
trace_back traces zero i l e = absurd (omega (arith, l))
trace_back traces (suc k) i l e = nth_back traces k i (omega (arith, e))

pub trace_beyond : (traces : List Trace) (k : ℕ) → length traces < k → trace_at traces k ≡ None
trace_beyond traces zero l = refl
trace_beyond traces (suc k) l = nth_beyond traces k (omega (arith, l))

pub bare_more : (n : ℕ) (putting : Option ℕ) (old : List Trace) → entered (bare_traces (suc n) putting) old ≡ bare_trace putting ∷ entered (bare_traces n putting) old
bare_more zero putting old = refl
bare_more (suc n) putting old = bare_more n putting (bare_trace putting ∷ old)
