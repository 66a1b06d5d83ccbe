-- An RP message has at most 249 octets.
use Rattle.std.proofs.Common.{◌≡◌, ℕ, ◌+◌, ◌*◌, ◌≤◌, List, [], ◌∷◌, length, length-append, Option, Some, None, sym, subst, arith}
use Rattle.sms_field.specs.Address.DigitOctets.{digit_octets}
use Rattle.sms_field.specs.RelayAddress.Value.{RelayAddressValue, HasRelaySpelling, HasOptionalSpelling}
use Rattle.sms_field.specs.RelayAddress.{relay_address_octets, optional_address_octets}
use Rattle.sms_relay.specs.Rp.UserData.{IsOptionalUserData, user_octets, optional_user_octets}
use Rattle.sms_relay.specs.Rp.Cause.{cause_octets}
use Rattle.sms_relay.specs.Rp.Value.{RpValue, IsRpBody, IsRpMessage}
use Rattle.sms_relay.specs.Rp.{rp_data_octets, rp_body_octets, rp_octets}
use Rattle.sms_relay.specs.declared.side.Side.{Side}
use Rattle.sms_relay.specs.declared.side.Side.TheVariants.{FromPhone, ToPhone}
use Rattle.sms_relay.specs.declared.rp.RpBody.{RpBody}
use Rattle.sms_relay.specs.declared.rp.RpBody.TheVariants as body

length-digit_octets : (v : List ℕ) → 2 * length (digit_octets v) ≤ length v + 1
unfolding digit_octets
length-digit_octets [] = omega arith
length-digit_octets (d ∷ []) = omega arith
length-digit_octets (d ∷ e ∷ v) = omega (arith, length-digit_octets v)

some_address : (a : RelayAddressValue) → HasRelaySpelling a → length (relay_address_octets a) ≤ 12
unfolding relay_address_octets
some_address a fits = omega (arith, fits.digits.few, length-digit_octets a.digits)

pub address_size : (a : Option RelayAddressValue) → HasOptionalSpelling a → length (optional_address_octets a) ≤ 12
address_size None fits = omega arith
address_size (Some a) fits = some_address a fits

optional_size : (user : Option (List ℕ)) → IsOptionalUserData user → length (optional_user_octets user) ≤ 235
optional_size None fits = omega arith
optional_size (Some user) fits = omega (arith, fits.0)

cause_size : (cause : ℕ) (added : Option ℕ) → length (cause_octets cause added) ≤ 3
cause_size cause None = omega arith
cause_size cause (Some added) = omega arith

data_size : (side : Side) (address user : List ℕ) → length address ≤ 12 → length user ≤ 233 → length (rp_data_octets side address (user_octets user)) ≤ 247
data_size FromPhone address user few some = omega (arith, length-append address (length user ∷ user))
data_size ToPhone address user few some = omega (arith, length-append address (0 ∷ length user ∷ user))

body_size : (side : Side) (b : RpBody) → IsRpBody b → length (rp_body_octets side b) ≤ 247
body_size side (body.Transfer address user) fits = data_size side (optional_address_octets address) user (address_size address fits.0) fits.1.0
body_size side (body.Ack user) fits = omega (arith, optional_size user fits)
body_size side (body.Fail cause added user) fits = omega (arith, length-append (cause_octets cause added) (optional_user_octets user), cause_size cause added, optional_size user fits.1)

pub message_size : (m : RpValue) (octets : List ℕ) → IsRpMessage m → octets ≡ rp_octets m → length octets ≤ 255
message_size m octets fits is = subst (λ (l : List ℕ). length l ≤ 255) (sym is) (omega (arith, body_size m.side m.body fits.body))
