-- A reader may pass this by: contracts of private functions, and proofs, alone cite it.
--
-- What is told while a state is read back.
use Rattle.std.specs.Prelude.{◌≡◌, ℕ, ◌<◌, ◌≤◌, List, [], length, Option, Some, None, Result, Ok, Err}
use Rattle.std.specs.List.{AllByRecursion}
use Rattle.sms_field.specs.Address.{address_octets}
use Rattle.sms_field.specs.Address.Value.{AddressValue, HasSpelling}
use Rattle.sms_join.specs.declared.key.Key.{Key}
use Rattle.sms_join.specs.Joiner.{new_joiner}
use Rattle.sms_join.specs.Gateway.Value.{GatewayValue, LimitsValue}
use Rattle.sms_saved.specs.declared.fault.ReadFault.{ReadFault as StateReadFault}
use Rattle.sms_saved.specs.declared.fault.ReadFault.TheVariants as states
use Rattle.sms_saved.specs.declared.state.Key.{Key as SavedKey}
use Rattle.sms_saved.specs.declared.state.Remembered.{Remembered as SavedFinishing}
use Rattle.sms_saved.specs.Value.{StateValue}
use Rattle.sms_keep.specs.declared.fault.Fault.{Fault}
use Rattle.sms_keep.specs.declared.fault.HeldFault.{HeldFault}
use Rattle.sms_keep.specs.declared.fault.HeldFault.TheVariants.{State, Address, Moments}
use Rattle.sms_keep.specs.declared.fault.ReadFault.{ReadFault}
use Rattle.sms_keep.specs.declared.fault.ReadFault.TheVariants.{Memory, At}
use Rattle.sms_keep.specs.Saved.{saved_key, saved_finishings}
use Rattle.sms_keep.specs.Held.{IsAddress, HasAddresses, KeyIsSpelled, CanHold, HoldsAs}
use Rattle.sms_keep.specs.Restored.{IsFirstBad}

-- the address that is written so
pub record IsWrittenAs (octets : List ℕ) (a : AddressValue) : Type 0 where
  pub is_one : HasSpelling a
  pub written : octets ≡ address_octets a

-- the address that is written so, or there is none
abbrev pub IsAddressOf : List ℕ → Option AddressValue → Type 0
IsAddressOf octets None = ¬ IsAddress octets
IsAddressOf octets (Some a) = IsWrittenAs octets a

-- the key that is saved so
pub record IsSavedAs (k : SavedKey) (own : Key) : Type 0 where
  pub spelled : KeyIsSpelled own
  pub saved : saved_key own ≡ k

abbrev pub IsKeyOf : SavedKey → Option Key → Type 0
IsKeyOf k None = ¬ HasAddresses k
IsKeyOf k (Some own) = IsSavedAs k own

-- Memory ran out, or the fault is so.
abbrev pub FailsBy : (Fault → Type 0) → ReadFault → Type 0
FailsBy is Memory = Unit {0}
FailsBy is (At f) = is f

-- The key can be remembered after one that finished at this moment.
pub record CanFollow (last : ℕ) (r : SavedFinishing) (own : Key) : Type 0 where
  pub key : IsSavedAs r.key own
  pub in_time : last ≤ r.moment

-- No joiner can remember the key after one that finished at this moment.
abbrev pub CannotFollow : ℕ → SavedFinishing → HeldFault → Type 0
CannotFollow last r Address = ¬ HasAddresses r.key
CannotFollow last r Moments = HasAddresses r.key × (r.moment < last)
CannotFollow last r (State why) = ⊥

-- The joiner remembers these keys, and has no set.
pub record Remembers (g : GatewayValue) (own : List SavedFinishing) : Type 0 where
  pub told : g.told ≡ []
  pub kept : g.holds.kept ≡ []
  pub keys : saved_finishings g.holds.finished g.finishings ≡ own
  pub moments : length g.finishings ≡ length g.holds.finished
  pub spelled : AllByRecursion KeyIsSpelled g.holds.finished

abbrev pub TellsGateway : Result GatewayValue ReadFault → StateValue → Type 0
TellsGateway (Ok g) s = CanHold s × HoldsAs s g
TellsGateway (Err e) s = FailsBy (IsFirstBad s) e

-- of octets that are no state
abbrev pub TellsOf : StateReadFault → ReadFault → Type 0
TellsOf states.Memory e = e ≡ Memory
TellsOf (states.At f) e = e ≡ At (record { place = f.place; why = State f.why })

-- a joiner that holds nothing
abbrev pub IsNew : LimitsValue → GatewayValue → Type 0
IsNew limits g = g ≡ record { limits = limits; holds = new_joiner; told = []; finishings = [] }
