-- What is typed to a phone.
use Rattle.std.specs.Prelude.{◌≡◌, ℕ, Some}
use Rattle.sms_message.specs.Address.{phone_at}
use Rattle.sms_party.specs.Sent.{nth}
use Rattle.sms_party.specs.Sender.Texts.{Text}
use Rattle.sms_world.specs.Machine.{Machine}

-- The text was typed to this phone: the address that it was typed to is the phone's, in type of
-- number, numbering plan and digits (3GPP TS 23.040, 9.1.2.5).
pub record IsTypedTo (m : Machine) (phone : ℕ) (n : ℕ) : Type 0 where
  pub text : Text
  pub typed : nth m.senders.texts n ≡ Some text
  pub to_phone : phone_at m.phones text.target ≡ Some phone
