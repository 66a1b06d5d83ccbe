-- A joiner for many recipients of C, saved as a state and read back.
use Rattle.std.specs.Prelude.{◌≡◌, ℕ, ◌⊎◌, List, length, Result, Ok, Err}
use Rattle.sms_join.specs.Gateway.Value.{GatewayValue}
use Rattle.sms_saved.specs.declared.fault.Fault.{Fault as StateFaultAt}
use Rattle.sms_saved.specs.Fits.{StateFits}
use Rattle.sms_saved.specs.Reading.Whole.{placed, state_at}
use Rattle.sms_saved.specs.Spelling.{spelling}
use Rattle.sms_saved.specs.Value.{StateValue}
use Rattle.sms_keep.specs.declared.fault.Fault.{Fault}
use Rattle.sms_keep.specs.declared.fault.HeldFault.TheVariants.{State}
use Rattle.sms_keep.specs.Held.{CanHold, HoldsAs}
use Rattle.sms_keep.specs.Restored.{IsFirstBad}
use Rattle.sms_keep.specs.Saved.{saved, saved_limits}
use Rattle.sms_c.specs.GatewayLimits.{limits_of}
use Rattle.sms_c.specs.Status.{held_refused}
use Rattle.sms_c.specs.declared.gateway.limits.Limits.{Limits}
use Rattle.sms_c.specs.declared.status.Refused.{Refused}

-- ---- saved

-- what the joiner holds, and how much of its input the caller has taken, as octets
abbrev pub octets_of_state : GatewayValue → ℕ → List ℕ
octets_of_state gateway taken = spelling (saved gateway taken)

-- ---- read back

-- The octets are a state of a joiner with these limits; this one holds it, and the caller had taken
-- so much.
pub record IsReadBack (limits : Limits) (octets : List ℕ) (taken : ℕ)
    (gateway : GatewayValue) : Type 0 where
  pub state : StateValue
  pub fits : StateFits state
  pub own_limits : state.limits ≡ saved_limits (limits_of limits)
  pub spelled : octets ≡ spelling state
  pub taken_is : taken ≡ state.taken
  pub holds : HoldsAs state gateway

-- the state of a joiner with these limits that the octets are, or the first fault from the left
abbrev pub state_in : Limits → List ℕ → Result StateValue StateFaultAt
state_in limits octets =
    placed (length octets) (state_at (saved_limits (limits_of limits)) octets)

-- no joiner can hold the state, and the first set or key that none can hold is told
pub record IsUnheld (state : StateValue) (refused : Refused) : Type 0 where
  pub fault : Fault
  pub first : IsFirstBad state fault
  pub told : refused ≡ held_refused fault

-- what a status says of octets that are a state; want of memory, 2, may come in place of each
abbrev pub SaysState : StateValue → ℕ → Refused → Type 0
SaysState state status refused =
    ((status ≡ 0) × CanHold state) ⊎ ((status ≡ 1) × IsUnheld state refused) ⊎ (status ≡ 2)

-- what it says of octets that are none
abbrev pub SaysFault : StateFaultAt → ℕ → Refused → Type 0
SaysFault fault status refused =
    ((status ≡ 1)
    × (refused ≡ held_refused (record { place = fault.place; why = State fault.why })))
    ⊎ (status ≡ 2)

abbrev pub SaysRead : Result StateValue StateFaultAt → ℕ → Refused → Type 0
SaysRead (Ok state) status refused = SaysState state status refused
SaysRead (Err fault) status refused = SaysFault fault status refused
