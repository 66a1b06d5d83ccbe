-- RP messages in octets (3GPP TS 24.011, 7.3 and 8.2).
pub mod Cause
pub mod Kind
pub mod Seen
pub mod Types
pub mod UserData
pub mod Value
use Rattle.std.specs.Prelude.{◌≡◌, ℕ, List, ◌∷◌, ◌++◌, Option, Some, None}
use Rattle.sms_field.specs.Field.{Field, ◌>>=◌, always, octet, octet_by, map_reason, up_to}
use Rattle.sms_field.specs.Field.Optional.{LacksTag}
use Rattle.sms_field.specs.RelayAddress.{relay_address, optional_address_octets}
use Rattle.sms_relay.specs.Fault.{relay_fault}
use Rattle.sms_field.specs.Field.Mapped.{mapped}
use Rattle.sms_relay.specs.Rp.Kind.{rp_type, type_octet}
use Rattle.sms_relay.specs.Rp.UserData.{user_data, optional_user_data, user_data_tag, user_octets, optional_user_octets}
use Rattle.sms_relay.specs.Rp.Cause.{rp_cause, cause_octets}
use Rattle.sms_relay.specs.Rp.Value.{RpValue, IsRpMessage}
use Rattle.sms_relay.specs.declared.side.Side.{Side}
use Rattle.sms_relay.specs.declared.side.Side.TheVariants.{FromPhone, ToPhone}
use Rattle.sms_relay.specs.declared.rp.RpBody.{RpBody}
use Rattle.sms_relay.specs.declared.rp.RpBody.TheVariants as body
use Rattle.sms_relay.specs.declared.rp_kind.RpKind.{RpKind}
use Rattle.sms_relay.specs.declared.rp_kind.RpKind.TheVariants as kind
use Rattle.sms_relay.specs.declared.fault.RelayFault.{RelayFault}
use Rattle.sms_relay.specs.declared.fault.RelayFault.TheVariants.{Short, BadAddress}

-- RP-DATA: the originator address, the destination address and the user data. A phone gives no
-- originator, and is given no destination.
unfoldable pub rp_data : Side → Field RpBody RelayFault
rp_data FromPhone = do
  -- RP-Originator Address, of length 0; another: BadAddress
  originator ← octet_by Short (up_to 0 BadAddress)
  -- RP-Destination Address; too long, or a bad digit: BadAddress
  destination ← map_reason relay_fault relay_address
  -- RP-User Data
  user ← user_data
  always (body.Transfer destination user)
rp_data ToPhone = do
  -- RP-Originator Address
  originator ← map_reason relay_fault relay_address
  -- RP-Destination Address, of length 0
  destination ← octet_by Short (up_to 0 BadAddress)
  -- RP-User Data
  user ← user_data
  always (body.Transfer originator user)

-- RP-ERROR: a cause, and user data that may be left out
unfoldable pub rp_error : Field RpBody RelayFault
rp_error = do
  -- RP-Cause
  reason ← rp_cause
  -- RP-User Data, if there are any
  mapped (body.Fail reason.0 reason.1) optional_user_data

unfoldable pub rp_body : RpKind → Side → Field RpBody RelayFault
rp_body kind.Data side = rp_data side
rp_body kind.Ack side = mapped body.Ack optional_user_data
rp_body kind.Error side = rp_error

abbrev pub rp_value : Side → ℕ → RpBody → RpValue
rp_value side reference content = record { side = side; reference = reference; body = content }

unfoldable pub rp_message : Field RpValue RelayFault
rp_message = do
  -- RP-MTI; another type: UnknownType
  named ← octet_by Short rp_type
  -- RP-Message Reference
  reference ← octet Short
  -- what the type has after it
  mapped (rp_value named.side reference) (rp_body named.kind named.side)

abbrev pub kind_of : RpBody → RpKind
kind_of (body.Transfer address user) = kind.Data
kind_of (body.Ack user) = kind.Ack
kind_of (body.Fail cause added user) = kind.Error

abbrev pub rp_data_octets : Side → List ℕ → List ℕ → List ℕ
rp_data_octets FromPhone address user = 0 ∷ (address ++ user)
rp_data_octets ToPhone address user = address ++ (0 ∷ user)

abbrev pub rp_body_octets : Side → RpBody → List ℕ
rp_body_octets side (body.Transfer address user) =
    rp_data_octets side (optional_address_octets address) (user_octets user)
rp_body_octets side (body.Ack user) = optional_user_octets user
rp_body_octets side (body.Fail cause added user) =
    cause_octets cause added ++ optional_user_octets user

abbrev pub rp_octets : RpValue → List ℕ
rp_octets m =
    type_octet (record { kind = kind_of m.body; side = m.side })
    ∷ m.reference ∷ rp_body_octets m.side m.body

-- how an RP message is written
abbrev pub SpellsRp : RpValue → List ℕ → Type 0
SpellsRp m octets = IsRpMessage m × (octets ≡ rp_octets m)

-- after an RP-ACK or RP-ERROR without user data stands nothing, or another octet than the tag: with
-- the tag it has user data
abbrev pub LacksUserData : Option (List ℕ) → List ℕ → Type 0
LacksUserData None more = LacksTag user_data_tag more
LacksUserData (Some user) more = Unit {0}

abbrev pub MayFollowBody : RpBody → List ℕ → Type 0
MayFollowBody (body.Transfer address user) more = Unit {0}
MayFollowBody (body.Ack user) more = LacksUserData user more
MayFollowBody (body.Fail cause added user) more = LacksUserData user more

abbrev pub MayFollow : RpValue → List ℕ → Type 0
MayFollow m more = MayFollowBody m.body more
