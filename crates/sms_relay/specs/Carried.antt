-- A packet carries a message: octets of the connection, and in them those of the relay (3GPP TS
-- 24.011, 7.2 and 7.3).
pub mod InnerSeen
pub mod Unwrapped
use Rattle.std.specs.Prelude.{◌≡◌, ℕ, Bool, List, Option, Some, None}
use Rattle.sms_field.specs.RelayAddress.Value.{RelayAddressValue}
use Rattle.sms_relay.specs.Cp.Value.{CpValue}
use Rattle.sms_relay.specs.Cp.{SpellsCp}
use Rattle.sms_relay.specs.Rp.Value.{RpValue}
use Rattle.sms_relay.specs.Rp.{SpellsRp}
use Rattle.sms_relay.specs.declared.side.Side.{Side}
use Rattle.sms_relay.specs.declared.cp.CpBody.{CpBody}
use Rattle.sms_relay.specs.declared.cp.CpBody.TheVariants as cp
use Rattle.sms_relay.specs.declared.rp.RpBody.TheVariants as rp

-- An acknowledgement of the connection; a transfer, of a side, a reference, an address and the
-- octets of a unit; or the answer to one, of a side, a reference, a cause where it is a refusal,
-- and the octets of a unit if it has one.
pub data Carried : Type 0 where
  acknowledgement : Carried
  transfer : Side → ℕ → Option RelayAddressValue → List ℕ → Carried
  answer : Side → ℕ → Option ℕ → Option (List ℕ) → Carried

-- a transfer is an RP-DATA, an answer an RP-ACK, or with a cause an RP-ERROR without diagnostic
abbrev pub relay_of : Carried → Option RpValue
relay_of acknowledgement = None
relay_of (transfer side reference address unit) =
    Some (record { side = side; reference = reference; body = rp.Transfer address unit })
relay_of (answer side reference None unit) =
    Some (record { side = side; reference = reference; body = rp.Ack unit })
relay_of (answer side reference (Some cause) unit) =
    Some (record { side = side; reference = reference; body = rp.Fail cause None unit })

abbrev pub in_transaction : Bool → ℕ → CpBody → CpValue
in_transaction flag value body = record { flag = flag; value = value; body = body }

-- a CP-ACK, or a CP-DATA whose octets spell an RP message
abbrev pub CarriesRelay : Bool → ℕ → Option RpValue → List ℕ → Type 0
CarriesRelay flag value None packet = SpellsCp (in_transaction flag value cp.Ack) packet
CarriesRelay flag value (Some message) packet =
    (octets : List ℕ) × SpellsRp message octets
    × SpellsCp (in_transaction flag value (cp.Transfer octets)) packet

abbrev pub Carries : Bool → ℕ → Carried → List ℕ → Type 0
Carries flag value message packet = CarriesRelay flag value (relay_of message) packet

-- a packet carries at most one message
abbrev pub OneMessageIsCarried : Type 0
OneMessageIsCarried =
    (flag other : Bool) (value another : ℕ) (m n : Carried) (packet : List ℕ)
    → Carries flag value m packet → Carries other another n packet
    → (other ≡ flag) × (another ≡ value) × (n ≡ m)

-- how a unit that may be left out is written
abbrev pub SpellsOptional : {V : Type 0} → (V → List ℕ → Type 0) → Option V → Option (List ℕ)
    → Type 0
SpellsOptional spells None None = Unit {0}
SpellsOptional spells None (Some octets) = ⊥
SpellsOptional spells (Some unit) None = ⊥
SpellsOptional spells (Some unit) (Some octets) = spells unit octets
