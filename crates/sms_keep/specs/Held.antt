-- When a gateway's joiner can hold a state, and what it is to hold one.
use Rattle.std.specs.Prelude.{◌≡◌, ℕ, ◌≤◌, List, [], ◌∷◌, length, map, IfSome}
use Rattle.std.specs.List.{AllByRecursion}
use Rattle.sms_field.specs.Address.{address_octets}
use Rattle.sms_field.specs.Address.Value.{AddressValue, HasSpelling}
use Rattle.sms_join.specs.declared.key.Key.{Key}
use Rattle.sms_join.specs.Key.{origin_of, recipient_of}
use Rattle.sms_join.specs.OpenSets.{SetValue, AreOpen, all_pieces}
use Rattle.sms_join.specs.Gateway.Finishings.{Fall}
use Rattle.sms_join.specs.Gateway.Value.{GatewayValue}
use Rattle.sms_saved.specs.declared.state.Key.{Key as SavedKey}
use Rattle.sms_saved.specs.declared.state.Remembered.{Remembered as SavedFinishing}
use Rattle.sms_saved.specs.Fits.{StateFits}
use Rattle.sms_saved.specs.Value.{SetValue as SavedSet, StateValue}
use Rattle.sms_keep.specs.Saved.{saved, saved_set, saved_limits, saved_finishings}

-- ---- what it can hold

-- an address is written so
pub record IsAddress (octets : List ℕ) : Type 0 where
  pub address : AddressValue
  pub is_one : HasSpelling address
  pub written : octets ≡ address_octets address

-- the origin of the key is an address, and its recipient, where one is told
pub record HasAddresses (k : SavedKey) : Type 0 where
  pub origin : IsAddress k.origin
  pub recipient : IfSome k.recipient IsAddress

abbrev pub SetsHaveAddresses : List SavedSet → Type 0
SetsHaveAddresses sets = AllByRecursion (λ s. HasAddresses s.key) sets

abbrev pub KeysHaveAddresses : List SavedFinishing → Type 0
KeysHaveAddresses keys = AllByRecursion (λ r. HasAddresses r.key) keys

-- The first message finished at this moment or later, and none before the one ahead of it.
abbrev pub AreInTime : ℕ → List SavedFinishing → Type 0
AreInTime low [] = Unit {0}
AreInTime low (r ∷ keys) = (low ≤ r.moment) × AreInTime r.moment keys

pub record CanHold (s : StateValue) : Type 0 where
  pub sets : SetsHaveAddresses s.sets
  pub keys : KeysHaveAddresses s.keys
  pub in_time : AreInTime 0 s.keys

-- ---- what it holds

pub record KeyIsSpelled (k : Key) : Type 0 where
  pub origin : HasSpelling (origin_of k)
  pub recipient : IfSome (recipient_of k) HasSpelling

-- What holds of every joiner: its keys have addresses, its sets are open, it holds just their
-- pieces, and of each message that finished it tells when, the newest first.
pub record IsJoiner (g : GatewayValue) : Type 0 where
  pub sets : AllByRecursion (λ s. KeyIsSpelled s.key) g.told
  pub keys : AllByRecursion KeyIsSpelled g.holds.finished
  pub are_open : AreOpen g.told
  pub pieces : g.holds.kept ≡ all_pieces g.told
  pub moments : length g.finishings ≡ length g.holds.finished
  pub fall : Fall g.finishings

-- the set, whatever the number of its opening
abbrev pub unnumbered : SavedSet → SavedSet
unnumbered s = record s { opening = 0 }

-- The joiner holds the state. The numbers of openings may be others, in the same order.
pub record HoldsAs (s : StateValue) (g : GatewayValue) : Type 0 where
  pub limits : saved_limits g.limits ≡ s.limits
  pub sets : map (λ t. unnumbered (saved_set t)) g.told ≡ map unnumbered s.sets
  pub keys : saved_finishings g.holds.finished g.finishings ≡ s.keys
  pub is_joiner : IsJoiner g

-- ---- what can be saved, and read back

pub record CanBeSaved (g : GatewayValue) (taken : ℕ) : Type 0 where
  pub is_joiner : IsJoiner g
  pub fits : StateFits (saved g taken)

-- the set, whatever the number of its opening
abbrev pub unturned : SetValue → SetValue
unturned s = record s { turn = 0 }

-- The two are the same but for the numbers of openings.
pub record AreAlike (g h : GatewayValue) : Type 0 where
  pub limits : g.limits ≡ h.limits
  pub holds : g.holds ≡ h.holds
  pub told : map unturned g.told ≡ map unturned h.told
  pub finishings : g.finishings ≡ h.finishings
