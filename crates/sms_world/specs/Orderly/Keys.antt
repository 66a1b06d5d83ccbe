-- No key is used again meanwhile.
use Rattle.std.specs.Prelude.{◌≡◌, ◌≢◌, ◌⊎◌, ℕ, List, length, Some}
use Rattle.sms_field.specs.Address.Value.{AddressValue}
use Rattle.sms_tpdu.specs.Deliver.{Delivery}
use Rattle.sms_tpdu.specs.declared.user_data.concat.Concat.{Concat}
use Rattle.sms_message.specs.Address.{address_of}
use Rattle.sms_message.specs.Message.{Origin}
use Rattle.sms_party.specs.Sent.{nth}
use Rattle.sms_party.specs.Sender.Texts.{Text}
use Rattle.sms_tpdu.specs.UserData.ConcatenationFound.{concat_of_header}
use Rattle.sms_world.specs.Machine.{Machine}
use Rattle.sms_world.specs.Machine.Event.{Event}
use Rattle.sms_world.specs.Texts.Taken.{IsOpen}
use Rattle.sms_world.specs.Texts.Finished.{IsAmongLast}
use Rattle.sms_world.specs.Orderly.Brought.{BringsDelivery}

-- The deliveries of the text have the key of this one: its originating address, and the width, the
-- reference and the maximum of its concatenation (3GPP TS 23.040, 9.2.3.24.1 and 9.2.3.24.8).
pub record HasKey (phones : List AddressValue) (t : Text) (d : Delivery) (c : Concat) : Type 0 where
  pub origin : address_of phones t.phone ≡ d.origin
  pub width : t.width ≡ c.width
  pub reference : t.set_reference ≡ c.reference
  pub maximum : length t.pieces ≡ c.maximum

-- Where a delivery of a segment of a concatenated text comes to a phone, no other text with its key
-- is open there, or among the last that finished there, as many as the phone remembers. (Of texts
-- in one segment nothing is asked: their keys differ, since stamps do.)
abbrev pub NoKeyIsUsedAgain : Machine → Event → Type 0
NoKeyIsUsedAgain m event =
    (phone : ℕ) (d : Delivery) (o : Origin) (c : Concat) → BringsDelivery m event phone d (Some o)
    → concat_of_header d.user.header ≡ Some c
    → (other : ℕ) (u : Text) → other ≢ o.text → nth m.senders.texts other ≡ Some u
    → HasKey m.phones u d c
    → ¬ (IsOpen m phone other ⊎ IsAmongLast m phone other)
