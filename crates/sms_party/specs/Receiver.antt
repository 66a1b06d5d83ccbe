-- What a receiving phone does with a message that comes to it.
pub mod State
pub mod Pieces
pub mod Offers
pub mod Aging
pub mod Standing
pub mod Waits
use Rattle.std.specs.Prelude.{ℕ, true, false, Option, Result, Ok, Err}
use Rattle.sms_field.specs.Coding.{alphabet_at}
use Rattle.sms_tpdu.specs.Deliver.{Delivery}
use Rattle.sms_relay.specs.declared.side.Side.TheVariants.{ToPhone}
use Rattle.sms_message.specs.Message.{Origin}
use Rattle.sms_message.specs.Message.Request.{unit_from, delivery_from}
use Rattle.sms_message.specs.Does.{Does, drops, notes}
use Rattle.sms_party.specs.Receiver.State.{ReceiverLimits, ReceiverState}
use Rattle.sms_join.specs.BodyUnits.{units_of_body}
use Rattle.sms_party.specs.Receiver.Offers.{turned_away, offers_units}
use Rattle.sms_message.specs.declared.message.TransferUnit.{TransferUnit}
use Rattle.sms_message.specs.declared.message.Relay.{Relay}
use Rattle.sms_message.specs.declared.message.Message.{Message}
use Rattle.sms_message.specs.declared.message.Message.TheVariants.{NotCp, Note, Tiny, Data}
use Rattle.sms_message.specs.declared.message.Tag.{Tag}
use Rattle.sms_message.specs.declared.outcome.Dropped.TheVariants as dropped
use Rattle.sms_message.specs.declared.request.NotTaken.{NotTaken}

abbrev pub delivered : ReceiverLimits → ReceiverState → ℕ → Tag → Option Origin
    → Result Delivery NotTaken → Does ReceiverState
delivered limits s now tag origin (Ok d) =
    offers_units limits s now tag d origin (units_of_body (alphabet_at d.dcs) d.user.body)
delivered limits s now tag origin (Err why) = turned_away s tag why

-- The text of an SMS-DELIVER is offered. What is none is refused with RP-Cause 111, protocol error
-- (3GPP TS 24.011, 8.2.5.4).
unfoldable pub receiver_takes : ReceiverLimits → ReceiverState → ℕ → Tag → TransferUnit
    → Option Origin → Does ReceiverState
receiver_takes limits s now tag unit origin =
    delivered limits s now tag origin (delivery_from 111 unit)

abbrev pub requested : ReceiverLimits → ReceiverState → ℕ → Tag → Option Origin
    → Result TransferUnit NotTaken → Does ReceiverState
requested limits s now tag origin (Ok unit) = receiver_takes limits s now tag unit origin
requested limits s now tag origin (Err why) = turned_away s tag why

-- The centre has opened the transaction (flag 0): the unit of an RP-DATA to the phone is taken.
unfoldable pub receiver_opened : ReceiverLimits → ReceiverState → ℕ → Tag → Relay → Option Origin
    → Does ReceiverState
receiver_opened limits s now tag relay origin =
    requested limits s now tag origin (unit_from ToPhone relay)

-- The arguments are the limits, the phone, the moment, the message, and the segment that it is of.
-- With flag 1 the phone has opened the transaction: that is its sender's.
unfoldable pub receiver_receives : ReceiverLimits → ReceiverState → ℕ → Message → Option Origin
    → Does ReceiverState
receiver_receives limits s now NotCp origin = drops s dropped.NotCp
receiver_receives limits s now (Note flag value) origin = notes s
receiver_receives limits s now (Tiny flag value) origin = drops s dropped.Unmatched
receiver_receives limits s now (Data false tag r) origin = receiver_opened limits s now tag r origin
receiver_receives limits s now (Data true tag r) origin = drops s dropped.Unmatched
