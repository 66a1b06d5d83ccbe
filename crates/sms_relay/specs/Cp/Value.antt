-- What a CP message is (3GPP TS 24.011, 7.2).
use Rattle.std.specs.Prelude.{ℕ, ◌<◌, ◌≤◌, Bool, length}
use Rattle.sms_text.specs.Octets.{IsOctets}
use Rattle.sms_relay.specs.declared.cp.TheConstants.{CP_USER_DATA_MAX}
use Rattle.sms_relay.specs.declared.cp.CpBody.{CpBody}
use Rattle.sms_relay.specs.declared.cp.CpBody.TheVariants.{Transfer, Ack, Fail}

pub record CpValue : Type 0 where
  -- TI flag
  pub flag : Bool
  -- TI value
  pub value : ℕ
  -- CP-User Data, or CP-Cause
  pub body : CpBody

-- CP-User Data have a length octet
abbrev pub IsCpBody : CpBody → Type 0
IsCpBody (Transfer octets) = (length octets ≤ CP_USER_DATA_MAX) × IsOctets octets
IsCpBody Ack = Unit {0}
IsCpBody (Fail cause) = cause < 256

-- what has a spelling
pub record IsCpMessage (m : CpValue) : Type 0 where
  pub value : m.value < 7
  pub body : IsCpBody m.body
