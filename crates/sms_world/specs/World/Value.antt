-- What the code of the whole holds, as contracts see it.
use Rattle.std.specs.Prelude.{ℕ, List}
use Rattle.sms_centre.specs.Centre.Value.{CentreValue}
use Rattle.sms_party.specs.Phone.{PhoneValue}
use Rattle.sms_script.specs.declared.script.limits.Limits.{Limits}
use Rattle.sms_script.specs.Transcript.Lines.{PacketValue}

-- the service centre and the phones
pub record PartiesValue : Type 0 where
  pub centre : CentreValue
  pub phones : List PhoneValue

pub record WorldValue : Type 0 where
  pub limits : Limits
  -- seconds since the beginning of 2000
  pub clock : ℕ
  pub parties : PartiesValue
  -- every packet that was ever put out, with its way, the first first
  pub packets : List PacketValue
