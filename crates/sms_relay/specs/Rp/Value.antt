-- What an RP message is (3GPP TS 24.011, 7.3).
use Rattle.std.specs.Prelude.{ℕ, ◌<◌}
use Rattle.sms_field.specs.RelayAddress.Value.{HasOptionalSpelling}
use Rattle.sms_relay.specs.Rp.UserData.{IsUserData, IsOptionalUserData}
use Rattle.sms_relay.specs.Rp.Cause.{IsCause}
use Rattle.sms_relay.specs.declared.side.Side.{Side}
use Rattle.sms_relay.specs.declared.rp.RpBody.{RpBody}
use Rattle.sms_relay.specs.declared.rp.RpBody.TheVariants.{Transfer, Ack, Fail}

pub record RpValue : Type 0 where
  -- the direction, of RP-MTI
  pub side : Side
  -- RP-Message Reference
  pub reference : ℕ
  -- the address of the service centre and RP-User Data, RP-User Data, or RP-Cause and RP-User Data
  pub body : RpBody

abbrev pub IsRpBody : RpBody → Type 0
IsRpBody (Transfer address user) = HasOptionalSpelling address × IsUserData user
IsRpBody (Ack user) = IsOptionalUserData user
IsRpBody (Fail cause added user) = IsCause cause added × IsOptionalUserData user

-- what has a spelling
pub record IsRpMessage (m : RpValue) : Type 0 where
  pub reference : m.reference < 256
  pub body : IsRpBody m.body
