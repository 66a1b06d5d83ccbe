-- Packets that are written around the octets of a unit (3GPP TS 24.011, 7.2 and 7.3), and what
-- becomes of them: they are put where there is room, or have none.
use Rattle.std.specs.Prelude.{◌≡◌, ℕ, ◌==◌, if◌then◌else◌, Bool, List, length, Option, Some, None, Ok}
use Rattle.std.specs.Str.{chars}
use Rattle.sms_field.specs.RelayAddress.Text.{relay_address_of_text}
use Rattle.sms_field.specs.RelayAddress.Value.{RelayAddressValue}
use Rattle.sms_relay.specs.Carried.{Carried, transfer, answer, Carries, CarriesRelay, in_transaction}
use Rattle.sms_relay.specs.Cp.{SpellsCp}
use Rattle.sms_relay.specs.Rp.Value.{RpValue}
use Rattle.sms_relay.specs.declared.cp.CpBody.{CpBody}
use Rattle.sms_relay.specs.declared.side.Side.{Side}
use Rattle.sms_c.specs.SeenRelay.{side_number}
use Rattle.sms_c.specs.declared.wrapping.Envelope.{Envelope}

-- TI flag
abbrev pub flag_in : Envelope → Bool
flag_in envelope = envelope.flag == 1

-- no unit, where there are no octets
abbrev pub unit_in : List ℕ → Option (List ℕ)
unit_in octets = if length octets == 0 then None else Some octets

-- the address of a text, and none of no text
abbrev pub IsCentre : List ℕ → Option RelayAddressValue → Type 0
IsCentre text None = length text ≡ 0
IsCentre text (Some centre) = relay_address_of_text (chars text) ≡ Ok centre

-- what becomes of a message of the connection alone
pub record OfCp (envelope : Envelope) (body : CpBody) (Out : List ℕ → Type 0) : Type 0 where
  pub packet : List ℕ
  pub spelled : SpellsCp (in_transaction (flag_in envelope) envelope.value body) packet
  pub out : Out packet

-- what becomes of a packet around a message of the relay
pub record OfRelay (envelope : Envelope) (message : RpValue) (Out : List ℕ → Type 0) : Type 0 where
  pub packet : List ℕ
  pub carried : CarriesRelay (flag_in envelope) envelope.value (Some message) packet
  pub out : Out packet

-- what becomes of a packet that carries a message
pub record OfPacket (envelope : Envelope) (message : Carried) (Out : List ℕ → Type 0)
    : Type 0 where
  pub packet : List ℕ
  pub carried : Carries (flag_in envelope) envelope.value message packet
  pub out : Out packet

-- what becomes of a packet with an RP-DATA around a unit
pub record OfData (envelope : Envelope) (address unit : List ℕ) (Out : List ℕ → Type 0)
    : Type 0 where
  pub side : Side
  pub side_is : envelope.side ≡ side_number side
  pub centre : Option RelayAddressValue
  pub centre_is : IsCentre address centre
  pub packet : OfPacket envelope (transfer side envelope.reference centre unit) Out

-- what becomes of a packet with an RP-ACK, or with a cause an RP-ERROR
pub record OfAnswer (envelope : Envelope) (cause : Option ℕ) (unit : List ℕ)
    (Out : List ℕ → Type 0) : Type 0 where
  pub side : Side
  pub side_is : envelope.side ≡ side_number side
  pub packet : OfPacket envelope (answer side envelope.reference cause (unit_in unit)) Out
