-- What an address of the relay layer is (3GPP TS 24.011, 8.2.5.1 and 8.2.5.2).
use Rattle.std.specs.Prelude.{ℕ, ◌<◌, List, Option, Some, None}
use Rattle.sms_field.specs.Address.DigitValues.{AreDigits}

-- the type of number, the plan, and digits whatever the type is
pub record RelayAddressValue : Type 0 where
  -- Type of number
  pub kind : ℕ
  -- Numbering plan identification
  pub plan : ℕ
  -- Number digits
  pub digits : List ℕ

pub record HasRelaySpelling (a : RelayAddressValue) : Type 0 where
  pub kind : a.kind < 8
  pub plan : a.plan < 16
  pub digits : AreDigits a.digits

-- no address, or one that has a spelling
abbrev pub HasOptionalSpelling : Option RelayAddressValue → Type 0
HasOptionalSpelling None = Unit {0}
HasOptionalSpelling (Some a) = HasRelaySpelling a
