-- The conditions on events as the inductions over runs use them: those on submissions alone, or all, with the second asked
-- of the keys of the taken deliveries. Lists have the newest entry first.
use Rattle.std.specs.Prelude.{◌≡◌, ℕ, ◌-◌, ◌==◌, Bool, true, false, not, ◌&&◌, ◌||◌, nat_lt, List, [], ◌∷◌, Option, Some, None}
use Rattle.sms_field.specs.Address.Value.{AddressValue}
use Rattle.sms_tpdu.specs.Submit.{Submission}
use Rattle.sms_tpdu.specs.Deliver.{Delivery}
use Rattle.sms_join.specs.declared.units.Units.{Units}
use Rattle.sms_join.specs.Arrivals.{Arrival}
use Rattle.sms_join.specs.Arrivals.Joining.{is_clear, is_recent}
use Rattle.sms_relay.specs.declared.side.Side.TheVariants.{FromPhone, ToPhone}
use Rattle.sms_message.specs.declared.message.TransferUnit.{TransferUnit}
use Rattle.sms_message.specs.declared.message.TransferUnit.TheVariants.{Submit, Deliver, OtherUnit, BadUnit}
use Rattle.sms_message.specs.declared.message.Relay.{Relay}
use Rattle.sms_message.specs.declared.message.Relay.TheVariants.{Transfer, Answer, UnknownType, Unreadable}
use Rattle.sms_message.specs.declared.message.Message.{Message}
use Rattle.sms_message.specs.declared.message.Message.TheVariants.{NotCp, Note, Tiny, Data}
use Rattle.sms_message.specs.declared.message.Tag.{Tag}
use Rattle.sms_message.specs.Message.{tag_of, same_tag, Origin}
use Rattle.sms_message.specs.Address.{phone_at}
use Rattle.sms_centre.specs.Centre.State.{Acceptance}
use Rattle.sms_party.specs.Sent.{Place, Centre, Phone, Sent}
use Rattle.sms_party.specs.Sender.Texts.{Text}
use Rattle.sms_world.proofs.Offered.{units_in_delivery}
use Rattle.sms_party.specs.Receiver.Pieces.{piece_in}
use Rattle.sms_world.specs.Machine.{Machine}
use Rattle.sms_world.specs.Machine.Event.{Event, Compose, Carry, Timeout, Push, Tick, Inject}
use Rattle.sms_world.specs.Machine.Next.{packet, phone_of}
use Rattle.sms_world.specs.Texts.{size_in}
use Rattle.sms_world.specs.Texts.Keys.{is_from}
use Rattle.sms_world.specs.OrderTests.{submission_in_order}

abbrev pub may_arrive : ℕ → List Text → List Arrival → Arrival → Bool
may_arrive remembered texts taken a =
    is_clear remembered (size_in texts) taken taken a && is_recent remembered (size_in texts) taken a

unfoldable pub may_deliver : Machine → ℕ → Delivery → Option Units → Origin → Bool
may_deliver m phone d None o = true
may_deliver m phone d (Some units) o =
    may_arrive m.limits.remembered m.senders.texts (m.receiver phone).taken (record { text = o.text; piece = piece_in m.clock d units })

abbrev pub delivery_may_come : Bool → Machine → TransferUnit → Place → Option Origin → Bool
delivery_may_come all m (Deliver d) (Phone phone) (Some o) = not all || may_deliver m phone d (units_in_delivery d) o
delivery_may_come all m (Deliver d) (Phone phone) None = true
delivery_may_come all m (Deliver d) (Centre phone) origin = true
delivery_may_come all m (Submit s) to origin = true
delivery_may_come all m OtherUnit to origin = true
delivery_may_come all m BadUnit to origin = true

abbrev pub relay_may_come : Bool → Machine → Relay → Place → Option Origin → Bool
relay_may_come all m (Transfer FromPhone unit) to origin = submission_in_order m unit to origin
relay_may_come all m (Transfer ToPhone unit) to origin = delivery_may_come all m unit to origin
relay_may_come all m (Answer side cause report) to origin = true
relay_may_come all m UnknownType to origin = true
relay_may_come all m Unreadable to origin = true

abbrev pub message_may_come : Bool → Machine → Message → Place → Option Origin → Bool
message_may_come all m (Data false tag relay) to origin = relay_may_come all m relay to origin
message_may_come all m (Data true tag relay) to origin = true
message_may_come all m NotCp to origin = true
message_may_come all m (Note flag value) to origin = true
message_may_come all m (Tiny flag value) to origin = true

abbrev pub sent_may_come : Bool → Machine → Option Sent → Bool
sent_may_come all m None = true
sent_may_come all m (Some x) = message_may_come all m x.message x.to x.origin

unfoldable pub may_happen : Bool → Machine → Event → Bool
may_happen all m (Compose phone target characters) = true
may_happen all m (Carry k) = sent_may_come all m (packet m k)
may_happen all m (Timeout phone) = true
may_happen all m (Push phone) = true
may_happen all m (Tick seconds) = true
may_happen all m (Inject place octets) = false

-- ---- the conditions under which `accepted` can be believed

abbrev pub is_number : Option ℕ → ℕ → Bool
is_number None n = false
is_number (Some k) n = k == n

-- an answer with the tag of the latest putting out answers that putting out
unfoldable pub answer_may_come : Machine → ℕ → Tag → Option ℕ → Bool
answer_may_come m phone tag putting =
    not (same_tag tag (tag_of ((m.senders.sender phone).outs - 1))) || is_number putting ((m.senders.sender phone).outs - 1)

abbrev pub is_recipient : ℕ → Option ℕ → Bool
is_recipient n None = false
is_recipient n (Some k) = n == k

-- an unended accepted submission with this phone, message reference and recipient is of the same segment
abbrev pub duplicates_are_own : List AddressValue → List Acceptance → ℕ → ℕ → Submission → Origin → Bool
duplicates_are_own phones [] phone now s o = true
duplicates_are_own phones (a ∷ past) phone now s o =
    (not (s.reject && (nat_lt now a.ends && (a.phone == phone && (a.submission.reference == s.reference && is_recipient a.recipient (phone_at phones s.target)))))
    || is_from a.origin o)
    && duplicates_are_own phones past phone now s o

abbrev pub own_unit : Machine → TransferUnit → Place → Option Origin → Bool
own_unit m (Submit s) (Centre phone) (Some o) = duplicates_are_own m.phones m.centre.accepted phone m.clock s o
own_unit m (Submit s) (Centre phone) None = true
own_unit m (Submit s) (Phone phone) origin = true
own_unit m (Deliver d) to origin = true
own_unit m OtherUnit to origin = true
own_unit m BadUnit to origin = true

abbrev pub own_relay : Machine → Bool → Tag → Relay → Place → Option Origin → Option ℕ → Bool
own_relay m false tag (Transfer FromPhone unit) to origin putting = own_unit m unit to origin
own_relay m false tag (Transfer ToPhone unit) to origin putting = true
own_relay m true tag (Transfer side unit) to origin putting = true
own_relay m true tag (Answer side cause report) (Phone phone) origin putting = answer_may_come m phone tag putting
own_relay m true tag (Answer side cause report) (Centre phone) origin putting = true
own_relay m false tag (Answer side cause report) to origin putting = true
own_relay m flag tag UnknownType to origin putting = true
own_relay m flag tag Unreadable to origin putting = true

abbrev pub own_message : Machine → Message → Place → Option Origin → Option ℕ → Bool
own_message m NotCp to origin putting = true
own_message m (Note flag value) to origin putting = true
own_message m (Tiny flag value) to origin putting = true
own_message m (Data flag tag relay) to origin putting = own_relay m flag tag relay to origin putting

-- so it is of what goes to this phone or comes from it
abbrev pub IsOwn : ℕ → Machine → Option Sent → Type 0
IsOwn one m None = Unit {0}
IsOwn one m (Some x) = phone_of x.to ≡ one → own_message m x.message x.to x.origin x.putting ≡ true

-- nothing is injected, and answers and rejections at this phone are of what they seem to be of
abbrev pub IsHonestSeen : ℕ → Machine → Event → Type 0
IsHonestSeen one m (Compose phone target characters) = Unit {0}
IsHonestSeen one m (Carry k) = IsOwn one m (packet m k)
IsHonestSeen one m (Timeout phone) = Unit {0}
IsHonestSeen one m (Push phone) = Unit {0}
IsHonestSeen one m (Tick seconds) = Unit {0}
IsHonestSeen one m (Inject place octets) = ⊥
