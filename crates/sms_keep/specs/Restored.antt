-- What is told of octets: the joiner that holds what they spell, or the first fault.
use Rattle.std.specs.Prelude.{◌≡◌, ℕ, ◌<◌, List, [], ◌∷◌, ◌++◌, length, ◌⊎◌, Result, Ok, Err}
use Rattle.std.specs.List.{flat_map}
use Rattle.sms_saved.specs.declared.fault.Fault.{Fault as StateFaultAt}
use Rattle.sms_saved.specs.declared.state.Remembered.{Remembered as SavedFinishing}
use Rattle.sms_saved.specs.Spelling.{eight, set, remembered, counted, front}
use Rattle.sms_saved.specs.Value.{SetValue as SavedSet, StateValue}
use Rattle.sms_keep.specs.declared.fault.Fault.{Fault}
use Rattle.sms_keep.specs.declared.fault.HeldFault.{HeldFault}
use Rattle.sms_keep.specs.declared.fault.HeldFault.TheVariants as faults
use Rattle.sms_keep.specs.declared.fault.ReadFault.{ReadFault}
use Rattle.sms_keep.specs.declared.fault.ReadFault.TheVariants.{Memory, At}
use Rattle.sms_keep.specs.declared.restoring.Restored.{Restored}
use Rattle.sms_keep.specs.Held.{HasAddresses, SetsHaveAddresses, KeysHaveAddresses, AreInTime, CanHold, HoldsAs}

-- ---- where entries stand

-- how many octets stand before the set that follows these
abbrev pub place_of_set : StateValue → List SavedSet → ℕ
place_of_set s before =
    length (front s.limits s.taken s.next ++ eight (length s.sets) ++ flat_map set before)

-- how many stand before the remembered key that follows these
abbrev pub place_of_key : StateValue → List SavedFinishing → ℕ
place_of_key s before =
    length (front s.limits s.taken s.next ++ counted set s.sets ++ eight (length s.keys)
    ++ flat_map remembered before)

-- ---- the first that no joiner can hold

-- when the last message finished; that is this moment where there is none
abbrev pub last_moment : ℕ → List SavedFinishing → ℕ
last_moment low [] = low
last_moment low (r ∷ keys) = last_moment r.moment keys

pub record IsBadSet (s : StateValue) (f : Fault) : Type 0 where
  pub before : List SavedSet
  pub own : SavedSet
  pub after : List SavedSet
  pub parts : s.sets ≡ before ++ own ∷ after
  pub good : SetsHaveAddresses before
  pub bad : ¬ HasAddresses own.key
  pub fault : f ≡ record { place = place_of_set s before; why = faults.Address }

-- The key has other octets than addresses, or finished before the one ahead of it.
pub data IsBad (before : List SavedFinishing) (r : SavedFinishing) : HeldFault → Type 0 where
  BadAddress : ¬ HasAddresses r.key → IsBad before r faults.Address
  TooEarly : HasAddresses r.key → r.moment < last_moment 0 before → IsBad before r faults.Moments

pub record IsBadKey (s : StateValue) (f : Fault) : Type 0 where
  pub sets : SetsHaveAddresses s.sets
  pub before : List SavedFinishing
  pub own : SavedFinishing
  pub after : List SavedFinishing
  pub parts : s.keys ≡ before ++ own ∷ after
  pub good : KeysHaveAddresses before
  pub in_time : AreInTime 0 before
  pub bad : IsBad before own f.why
  pub place : f.place ≡ place_of_key s before

abbrev pub IsFirstBad : StateValue → Fault → Type 0
IsFirstBad s f = IsBadSet s f ⊎ IsBadKey s f

-- ---- what is told

abbrev pub HoldsRestored : StateValue → Restored → Type 0
HoldsRestored s r = (r.taken ≡ s.taken) × HoldsAs s r.gateway

-- Of a state: the joiner that holds it, or the first set or key that none can hold.
abbrev pub TellsState : Result Restored ReadFault → StateValue → Type 0
TellsState (Ok r) s = CanHold s × HoldsRestored s r
TellsState (Err Memory) s = Unit {0}
TellsState (Err (At f)) s = IsFirstBad s f

-- Of octets that are none: what is told of them as a state.
abbrev pub TellsFault : Result Restored ReadFault → StateFaultAt → Type 0
TellsFault (Ok r) e = ⊥
TellsFault (Err Memory) e = Unit {0}
TellsFault (Err (At f)) e = f ≡ record { place = e.place; why = faults.State e.why }

abbrev pub Restores : Result Restored ReadFault → Result StateValue StateFaultAt → Type 0
Restores result (Ok s) = TellsState result s
Restores result (Err e) = TellsFault result e
