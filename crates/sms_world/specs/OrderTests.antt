-- The four conditions as a test that can be computed, and that it tells just them. Lists have the
-- newest entry first.
use Rattle.std.specs.Prelude.{◌≡◌, ℕ, Bool, true, false, not, ◌&&◌, ◌||◌, ◌==◌, nat_lt, List, [], ◌∷◌, length, take, Option, Some, None}
use Rattle.sms_field.specs.Address.Value.{AddressValue}
use Rattle.sms_tpdu.specs.Deliver.{Delivery}
use Rattle.sms_tpdu.specs.declared.user_data.concat.Concat.{Concat}
use Rattle.sms_field.specs.Address.Same.{same_address}
use Rattle.sms_join.specs.Key.{same_width}
use Rattle.sms_join.specs.Arrivals.{Arrival, is_done, is_listed}
use Rattle.sms_relay.specs.declared.side.Side.TheVariants.{FromPhone, ToPhone}
use Rattle.sms_message.specs.declared.message.TransferUnit.{TransferUnit}
use Rattle.sms_message.specs.declared.message.TransferUnit.TheVariants.{Submit, Deliver, OtherUnit, BadUnit}
use Rattle.sms_message.specs.declared.message.Relay.{Relay}
use Rattle.sms_message.specs.declared.message.Relay.TheVariants.{Transfer, Answer, UnknownType, Unreadable}
use Rattle.sms_message.specs.declared.message.Message.{Message}
use Rattle.sms_message.specs.declared.message.Message.TheVariants.{NotCp, Note, Tiny, Data}
use Rattle.sms_message.specs.Address.{address_of}
use Rattle.sms_message.specs.Message.{Origin}
use Rattle.sms_centre.specs.Centre.State.{Acceptance}
use Rattle.sms_party.specs.Sent.{nth, Place, Centre, Phone, Sent}
use Rattle.sms_party.specs.Sender.Texts.{Text}
use Rattle.sms_tpdu.specs.UserData.ConcatenationFound.{concat_of_header}
use Rattle.sms_world.specs.Machine.{Machine}
use Rattle.sms_world.specs.Machine.Event.{Event, Compose, Carry, Timeout, Push, Tick, Inject}
use Rattle.sms_world.specs.Machine.Next.{packet}
use Rattle.sms_world.specs.Texts.{size_in}
use Rattle.sms_world.specs.Texts.Keys.{is_from}
use Rattle.sms_world.specs.Texts.Finished.{finished}
use Rattle.sms_world.specs.Orderly.{IsOrderly}

-- each acceptance of the segment has not ended, and the repeat asks for rejection
abbrev pub may_come_again : List Acceptance → ℕ → Bool → Origin → Bool
may_come_again [] now reject o = true
may_come_again (a ∷ past) now reject o =
    (not (is_from a.origin o) || (reject && nat_lt now a.ends)) && may_come_again past now reject o

abbrev pub has_key : List AddressValue → Option Text → Delivery → Concat → Bool
has_key phones None d c = false
has_key phones (Some t) d c =
    same_address (address_of phones t.phone) d.origin
    && (same_width t.width c.width
    && (t.set_reference == c.reference && length t.pieces == c.maximum))

-- the text is neither open at the phone nor among the last that finished there
abbrev pub is_past : Machine → ℕ → ℕ → Bool
is_past m phone n =
    is_done (size_in m.senders.texts) (m.receiver phone).taken n
    && not (is_listed (take m.limits.remembered (finished m phone)) n)

-- of the texts of these arrivals, each other one with the key is past
abbrev pub key_is_free : Machine → ℕ → Delivery → Concat → ℕ → List Arrival → Bool
key_is_free m phone d c n [] = true
key_is_free m phone d c n (a ∷ past) =
    (not (has_key m.phones (nth m.senders.texts a.text) d c)
    || (a.text == n || is_past m phone a.text))
    && key_is_free m phone d c n past

abbrev pub place_is_free : Machine → ℕ → Delivery → ℕ → Option Concat → Bool
place_is_free m phone d n None = true
place_is_free m phone d n (Some c) = key_is_free m phone d c n (m.receiver phone).taken

abbrev pub is_remembered : Machine → ℕ → ℕ → Bool
is_remembered m phone n =
    not (is_listed (finished m phone) n)
    || is_listed (take m.limits.remembered (finished m phone)) n

-- an SMS-SUBMIT comes to the centre
abbrev pub submission_in_order : Machine → TransferUnit → Place → Option Origin → Bool
submission_in_order m (Submit s) (Centre phone) (Some o) =
    may_come_again m.centre.accepted m.clock s.reject o
submission_in_order m (Submit s) (Centre phone) None = true
submission_in_order m (Submit s) (Phone phone) origin = true
submission_in_order m (Deliver d) to origin = true
submission_in_order m OtherUnit to origin = true
submission_in_order m BadUnit to origin = true

-- an SMS-DELIVER comes to a phone
abbrev pub delivery_in_order : Machine → TransferUnit → Place → Option Origin → Bool
delivery_in_order m (Deliver d) (Phone phone) (Some o) =
    place_is_free m phone d o.text (concat_of_header d.user.header) && is_remembered m phone o.text
delivery_in_order m (Deliver d) (Phone phone) None = true
delivery_in_order m (Deliver d) (Centre phone) origin = true
delivery_in_order m (Submit s) to origin = true
delivery_in_order m OtherUnit to origin = true
delivery_in_order m BadUnit to origin = true

abbrev pub relay_in_order : Machine → Relay → Place → Option Origin → Bool
relay_in_order m (Transfer FromPhone unit) to origin = submission_in_order m unit to origin
relay_in_order m (Transfer ToPhone unit) to origin = delivery_in_order m unit to origin
relay_in_order m (Answer side cause report) to origin = true
relay_in_order m UnknownType to origin = true
relay_in_order m Unreadable to origin = true

abbrev pub message_in_order : Machine → Message → Place → Option Origin → Bool
message_in_order m (Data false tag relay) to origin = relay_in_order m relay to origin
message_in_order m (Data true tag relay) to origin = true
message_in_order m NotCp to origin = true
message_in_order m (Note flag value) to origin = true
message_in_order m (Tiny flag value) to origin = true

abbrev pub sent_in_order : Machine → Option Sent → Bool
sent_in_order m None = true
sent_in_order m (Some x) = message_in_order m x.message x.to x.origin

unfoldable pub in_order : Machine → Event → Bool
in_order m (Carry k) = sent_in_order m (packet m k)
in_order m (Inject place octets) = false
in_order m (Compose phone target characters) = true
in_order m (Timeout phone) = true
in_order m (Push phone) = true
in_order m (Tick seconds) = true

-- The test holds just where the four conditions do.
abbrev pub OrderIsTested : Type 0
OrderIsTested =
    (m : Machine) (event : Event)
    → (in_order m event ≡ true → IsOrderly m event) × (IsOrderly m event → in_order m event ≡ true)
