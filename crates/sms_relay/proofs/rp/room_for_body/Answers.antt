use Rattle.std.proofs.Common.{◌≤◌, ◌+◌, ◌∷◌, ℕ, List, length, length-append, arith}
use Rattle.sms_field.specs.Inside.AddressLengthLaws.{relay_address_few}
use Rattle.sms_field.specs.RelayAddress.{optional_address_octets}
use Rattle.sms_relay.specs.Rp.{rp_data_octets}
use Rattle.sms_relay.specs.Rp.UserData.{user_octets}
use Rattle.sms_relay.specs.declared.side.Side.{Side}
use Rattle.sms_relay.specs.declared.side.Side.TheVariants.{FromPhone, ToPhone}
use Rattle.sms_relay.proofs.rp.room_for_body.Goals as goal

data_few : (side : Side) (address user : List ℕ) → length address ≤ 12 → length (rp_data_octets side address (user_octets user)) ≤ 14 + length user
data_few FromPhone address user few = omega (arith, length-append address (user_octets user))
data_few ToPhone address user few = omega (arith, length-append address (0 ∷ user_octets user))

pub returns-in-Transfer : goal.returns-in-Transfer
returns-in-Transfer c = λ side.
    let fits = rw c.in-Transfer.is at c.requires in
    rw (c.in-Transfer.is, c.as_slice.ensures) (data_few side (optional_address_octets c.in-Transfer.address) c.in-Transfer.user (relay_address_few c.in-Transfer.address fits.0))
