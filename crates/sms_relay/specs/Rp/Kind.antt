-- The first octet of an RP message: its type (3GPP TS 24.011, 8.2.2). Bits are numbered from 0;
-- bits 3 to 7 are spare.
use Rattle.std.specs.Prelude.{ℕ, ◌+◌, Bool, true, false, Result, Ok, Err}
use Rattle.sms_field.specs.Bit.{bit}
use Rattle.sms_relay.specs.declared.side.Side.{Side}
use Rattle.sms_relay.specs.declared.side.Side.TheVariants.{FromPhone, ToPhone}
use Rattle.sms_relay.specs.declared.rp_kind.RpKind.{RpKind}
use Rattle.sms_relay.specs.declared.rp_kind.RpKind.TheVariants.{Data, Ack, Error}
use Rattle.sms_relay.specs.declared.rp_kind.RpType.{RpType}
use Rattle.sms_relay.specs.declared.fault.RelayFault.{RelayFault}
use Rattle.sms_relay.specs.declared.fault.RelayFault.TheVariants.{UnknownType}

-- RP-MTI, by bits 2, 1 and 0
abbrev pub type_of_bits : Bool → Bool → Bool → Result RpType RelayFault
type_of_bits false false false = Ok (record { kind = Data; side = FromPhone })
type_of_bits false false true = Ok (record { kind = Data; side = ToPhone })
type_of_bits false true false = Ok (record { kind = Ack; side = FromPhone })
type_of_bits false true true = Ok (record { kind = Ack; side = ToPhone })
type_of_bits true false false = Ok (record { kind = Error; side = FromPhone })
type_of_bits true false true = Ok (record { kind = Error; side = ToPhone })
type_of_bits true true side = Err UnknownType

abbrev pub rp_type : ℕ → Result RpType RelayFault
rp_type octet = type_of_bits (bit 2 octet) (bit 1 octet) (bit 0 octet)

-- as it is written
abbrev pub kind_weight : RpKind → ℕ
kind_weight Data = 0
kind_weight Ack = 2
kind_weight Error = 4

abbrev pub side_weight : Side → ℕ
side_weight FromPhone = 0
side_weight ToPhone = 1

abbrev pub type_octet : RpType → ℕ
type_octet t = kind_weight t.kind + side_weight t.side
