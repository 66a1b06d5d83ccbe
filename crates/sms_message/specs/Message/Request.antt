-- What comes in a transaction that the other side has opened: the unit that a party takes, an
-- SMS-SUBMIT from a phone or an SMS-DELIVER to one, or why it takes none. The causes are RP-Cause
-- (3GPP TS 24.011, 8.2.5.4) and TP-FCS (3GPP TS 23.040, 9.2.3.22).
use Rattle.std.specs.Prelude.{ℕ, ◌<◌, Some, None, Result, Ok, Err}
use Rattle.sms_tpdu.specs.Submit.{Submission}
use Rattle.sms_tpdu.specs.Deliver.{Delivery}
use Rattle.sms_relay.specs.declared.side.Side.{Side}
use Rattle.sms_relay.specs.declared.side.Side.TheVariants.{FromPhone, ToPhone}
use Rattle.sms_message.specs.declared.message.TransferUnit.{TransferUnit}
use Rattle.sms_message.specs.declared.message.TransferUnit.TheVariants.{Submit, Deliver, BadUnit}
use Rattle.sms_message.specs.declared.message.Relay.{Relay}
use Rattle.sms_message.specs.declared.message.Relay.TheVariants.{Transfer, UnknownType, Unreadable}
use Rattle.sms_message.specs.declared.request.NotTaken.{NotTaken}
use Rattle.sms_message.specs.declared.request.NotTaken.TheVariants.{Unmatched, Refused}

-- The unit of an RP-DATA from this side. What is no RP message is refused with 97, message type
-- non-existent, where its type is unknown, and else with 96, invalid mandatory information. Nothing
-- else is waited for.
abbrev pub unit_from : Side → Relay → Result TransferUnit NotTaken
unit_from FromPhone (Transfer FromPhone unit) = Ok unit
unit_from ToPhone (Transfer ToPhone unit) = Ok unit
unit_from side UnknownType = Err (Refused 97 None)
unit_from side Unreadable = Err (Refused 96 None)
unit_from side _ = Err Unmatched

-- What is no unit of the kind is refused with this RP-Cause: a unit with a fault with FF,
-- unspecified, and one of another type with B0, TPDU not supported.
abbrev pub unit_refused : ℕ → TransferUnit → NotTaken
unit_refused cause BadUnit = Refused cause (Some 0xFF)
unit_refused cause _ = Refused cause (Some 0xB0)

abbrev pub submission_from : (cause : ℕ) → TransferUnit → Result Submission NotTaken
submission_from cause (Submit s) = Ok s
submission_from cause unit = Err (unit_refused cause unit)

abbrev pub delivery_from : (cause : ℕ) → TransferUnit → Result Delivery NotTaken
delivery_from cause (Deliver d) = Ok d
delivery_from cause unit = Err (unit_refused cause unit)

-- the cause is one that an RP-ERROR can have
abbrev pub HasCause : NotTaken → Type 0
HasCause Unmatched = Unit {0}
HasCause (Refused cause failure) = cause < 128
