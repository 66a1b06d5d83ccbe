-- What an event brings, where it carries a packet that was put out. The origin is the segment of a
-- typed text that the message is of; each SMS-SUBMIT and SMS-DELIVER that a party has put out has
-- one, unless it comes of injected octets.
use Rattle.std.specs.Prelude.{◌≡◌, ℕ, true, false, Option, Some}
use Rattle.sms_tpdu.specs.Submit.{Submission}
use Rattle.sms_tpdu.specs.Deliver.{Delivery}
use Rattle.sms_relay.specs.declared.side.Side.{Side}
use Rattle.sms_relay.specs.declared.side.Side.TheVariants.{FromPhone, ToPhone}
use Rattle.sms_message.specs.declared.message.TransferUnit.TheVariants.{Submit, Deliver}
use Rattle.sms_message.specs.declared.message.Report.{Report}
use Rattle.sms_message.specs.declared.message.Relay.TheVariants.{Transfer, Answer}
use Rattle.sms_message.specs.declared.message.Message.TheVariants.{Data}
use Rattle.sms_message.specs.declared.message.Tag.{Tag}
use Rattle.sms_message.specs.Message.{Origin}
use Rattle.sms_party.specs.Sent.{Centre, Phone}
use Rattle.sms_world.specs.Machine.{Machine}
use Rattle.sms_world.specs.Machine.Event.{Event, Carry}
use Rattle.sms_world.specs.Machine.Next.{packet}

-- The event brings this SMS-SUBMIT from a phone to the centre.
pub record BringsSubmission (m : Machine) (event : Event) (phone : ℕ) (s : Submission)
    (origin : Option Origin) : Type 0 where
  pub number : ℕ
  pub carries : event ≡ Carry number
  pub tag : Tag
  pub putting : Option ℕ
  pub is : packet m number
      ≡ Some (record {
        message = Data false tag (Transfer FromPhone (Submit s));
        to = Centre phone;
        origin = origin;
        putting = putting;
      })

-- The event brings this SMS-DELIVER to a phone.
pub record BringsDelivery (m : Machine) (event : Event) (phone : ℕ) (d : Delivery)
    (origin : Option Origin) : Type 0 where
  pub number : ℕ
  pub carries : event ≡ Carry number
  pub tag : Tag
  pub putting : Option ℕ
  pub is : packet m number
      ≡ Some (record {
        message = Data false tag (Transfer ToPhone (Deliver d));
        to = Phone phone;
        origin = origin;
        putting = putting;
      })

-- The event brings an RP-ACK or RP-ERROR with this transaction value and reference to a phone's
-- sender. It answers the sender's putting out of this number, counted from 0.
pub record BringsAnswer (m : Machine) (event : Event) (phone : ℕ) (tag : Tag)
    (putting : Option ℕ) : Type 0 where
  pub number : ℕ
  pub carries : event ≡ Carry number
  pub side : Side
  pub cause : Option ℕ
  pub report : Option Report
  pub origin : Option Origin
  pub is : packet m number
      ≡ Some (record {
        message = Data true tag (Answer side cause report);
        to = Phone phone;
        origin = origin;
        putting = putting;
      })
