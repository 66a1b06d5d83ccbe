-- Messages of the relay are short enough for a packet.
use Rattle.std.proofs.Common.{ℕ, ◌≤◌, List, ◌∷◌, length, Some, None, arith, length-append}
use Rattle.sms_field.specs.Inside.AddressLengthLaws.{relay_address_few}
use Rattle.sms_field.specs.RelayAddress.{optional_address_octets}
use Rattle.sms_relay.specs.Rp.Cause.{cause_octets}
use Rattle.sms_relay.specs.Rp.UserData.{user_octets, optional_user_octets, IsOptionalUserData}
use Rattle.sms_relay.specs.Rp.Value.{RpValue, IsRpBody, IsRpMessage}
use Rattle.sms_relay.specs.Rp.{rp_body_octets, rp_data_octets, rp_octets}
use Rattle.sms_relay.specs.declared.rp.RpBody.{RpBody}
use Rattle.sms_relay.specs.declared.rp.RpBody.TheVariants.{Transfer, Ack, Fail}
use Rattle.sms_relay.specs.declared.side.Side.{Side}
use Rattle.sms_relay.specs.declared.side.Side.TheVariants.{FromPhone, ToPhone}

user_few : (user : _) → IsOptionalUserData user → length (optional_user_octets user) ≤ 235
user_few None is = omega arith
user_few (Some user) is = omega (arith, is.0)

data_few : (side : Side) (address user : List ℕ) → length address ≤ 12 → length user ≤ 233 → length (rp_data_octets side address (user_octets user)) ≤ 247
data_few FromPhone address user few short = omega (arith, few, short, length-append address (user_octets user))
data_few ToPhone address user few short = omega (arith, few, short, length-append address (0 ∷ user_octets user))

body_few : (side : Side) (body : RpBody) → IsRpBody body → length (rp_body_octets side body) ≤ 247
body_few side (Transfer address user) is = data_few side (optional_address_octets address) user (relay_address_few address is.0) is.1.0
body_few side (Ack user) is = omega (arith, user_few user is)
body_few side (Fail cause None user) is = omega (arith, user_few user is.1, length-append (cause_octets cause None) (optional_user_octets user))
body_few side (Fail cause (Some added) user) is = omega (arith, user_few user is.1, length-append (cause_octets cause (Some added)) (optional_user_octets user))

pub message_few : (message : RpValue) → IsRpMessage message → length (rp_octets message) ≤ 255
message_few message is = omega (arith, body_few message.side message.body is.body)
