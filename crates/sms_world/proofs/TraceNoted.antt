-- What is noted of an event, by its kind.
use Rattle.std.proofs.Common.{◌≡◌, ℕ, Bool, List, Option, Some, None, refl, sym, ap, ◌∙◌, subst, ◌⊎◌, inl, inr}
use Rattle.std.specs.Option.{IfSome}
use Rattle.sms_field.specs.Address.Value.{AddressValue}
use Rattle.sms_party.specs.Sent.{Place}
use Rattle.sms_world.specs.Inside.TraceValue.{IsTraceFor, IsCountedAt}
use Rattle.sms_world.specs.Machine.Event.{Event, Compose, Carry, Timeout, Push, Tick, Inject}
use Rattle.sms_world.specs.Told.{Told}
use Rattle.sms_world.specs.Traced.{call_traced, with_traces, carry_traced, traced}
use Rattle.sms_world.specs.Traces.{Trace, Brought, Traces, TraceAlike, trace_at}
use Rattle.sms_world.proofs.Trusting.{same}

module _ (t u : Traces) (reject : Bool) (phone : ℕ) (b : Option Brought) (told : Told) (put : ℕ) where
  abbrev Noted : Event → Type 0
  Noted event = IsCountedAt (traced t reject event told b put) phone → TraceAlike (traced t reject event told b put) u

  counted_there : (v : Option Brought) → IsTraceFor (Carry 0) v phone → (n : Traces) → IsCountedAt n phone → IfSome v (λ (x : Brought). IsCountedAt n x.phone)
  counted_there None f n c = tt
  counted_there (Some x) f n c = subst (IsCountedAt n) (sym f) c

  pub when_carried : (event : Event) (k : ℕ) (trace : Option Trace) → event ≡ Carry k → trace ≡ trace_at t.sent k → IsTraceFor event b phone
      → (IfSome b (λ (x : Brought). IsCountedAt (carry_traced t reject trace b told put) x.phone) → TraceAlike (carry_traced t reject trace b told put) u) → Noted event
  when_carried event k trace e f is h = subst Noted (sym e) (unfold traced in
      subst (λ v. IsCountedAt (carry_traced t reject v b told put) phone → TraceAlike (carry_traced t reject v b told put) u) f
      (λ c. h (counted_there b (subst (λ v. IsTraceFor v b phone) e is) (carry_traced t reject trace b told put) c)))

  pub when_pushed : (event : Event) (p : ℕ) → event ≡ Push p → TraceAlike (with_traces t put None) u → Noted event
  when_pushed event p e h = subst Noted (sym e) (unfold traced in λ c. h)

  pub when_typed : (event : Event) (p : ℕ) (target : AddressValue) (characters : List ℕ) → event ≡ Compose p target characters → IsTraceFor event b phone
      → (IsCountedAt (call_traced t reject phone told) phone → TraceAlike (call_traced t reject phone told) u) → Noted event
  when_typed event p target characters e is h = subst Noted (sym e) (unfold traced in
      subst (λ q. IsCountedAt (call_traced t reject q told) phone → TraceAlike (call_traced t reject q told) u) (sym (subst (λ v. IsTraceFor v b phone) e is)) h)

  pub when_late : (event : Event) (p : ℕ) → event ≡ Timeout p → IsTraceFor event b phone
      → (IsCountedAt (call_traced t reject phone told) phone → TraceAlike (call_traced t reject phone told) u) → Noted event
  when_late event p e is h = subst Noted (sym e) (unfold traced in
      subst (λ q. IsCountedAt (call_traced t reject q told) phone → TraceAlike (call_traced t reject q told) u) (sym (subst (λ v. IsTraceFor v b phone) e is)) h)

pub when_quiet : (t : Traces) (reject : Bool) (phone : ℕ) (b : Option Brought) (told : Told) (put : ℕ) (event : Event)
    → ((seconds : ℕ) × (event ≡ Tick seconds)) ⊎ ((place : Place) × (octets : List ℕ) × (event ≡ Inject place octets))
    → IsCountedAt (traced t reject event told b put) phone → TraceAlike (traced t reject event told b put) t
when_quiet t reject phone b told put event (inl e) = subst (λ v. IsCountedAt (traced t reject v told b put) phone → TraceAlike (traced t reject v told b put) t) (sym e.1) (unfold traced in λ c. same t)
when_quiet t reject phone b told put event (inr e) = subst (λ v. IsCountedAt (traced t reject v told b put) phone → TraceAlike (traced t reject v told b put) t) (sym e.2) (unfold traced in λ c. same t)
