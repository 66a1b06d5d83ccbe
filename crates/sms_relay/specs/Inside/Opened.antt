-- A packet while it is written: its octets so far, with a place for the length of what the
-- connection carries.
use Rattle.std.specs.Prelude.{ℕ, ◌-◌, Bool, List, [], ◌∷◌, length, slice_set, Option, Some, None}
use Rattle.sms_field.specs.RelayAddress.Value.{RelayAddressValue}
use Rattle.sms_field.specs.RelayAddress.{optional_address_octets}
use Rattle.sms_relay.specs.Transaction.{transaction_octet}
use Rattle.sms_relay.specs.Cp.Kind.{kind_octet}
use Rattle.sms_relay.specs.Rp.Kind.{type_octet}
use Rattle.sms_relay.specs.Rp.Cause.{cause_octets}
use Rattle.sms_relay.specs.Rp.{rp_data_octets}
use Rattle.sms_relay.specs.declared.side.Side.{Side}
use Rattle.sms_relay.specs.declared.cp_kind.CpKind.TheVariants as cp
use Rattle.sms_relay.specs.declared.rp_kind.RpKind.TheVariants as rp

-- a CP-DATA with these octets of an RP-message, and 0 for their length
abbrev pub opened : Bool → ℕ → List ℕ → List ℕ
opened flag value message =
    transaction_octet (record { flag = flag; value = value }) ∷ kind_octet cp.Data ∷ 0 ∷ message

-- with the length in its place
abbrev pub closed_octets : List ℕ → List ℕ
closed_octets packet = slice_set packet 2 (length packet - 3)

-- an RP-DATA up to its user data
abbrev pub transfer_front : Side → ℕ → Option RelayAddressValue → List ℕ
transfer_front side reference address =
    type_octet (record { kind = rp.Data; side = side })
    ∷ reference ∷ rp_data_octets side (optional_address_octets address) []

-- an RP-ACK up to its user data, or with a cause an RP-ERROR
abbrev pub answer_front : Side → ℕ → Option ℕ → List ℕ
answer_front side reference None =
    type_octet (record { kind = rp.Ack; side = side }) ∷ reference ∷ []
answer_front side reference (Some cause) =
    type_octet (record { kind = rp.Error; side = side })
    ∷ reference ∷ cause_octets cause None
