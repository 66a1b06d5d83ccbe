-- What it means that a call of the whole is a step of the machine.
use Rattle.std.specs.Prelude.{◌≡◌, ℕ, List, [], ◌∷◌, ◌++◌, length, reverse, Option, Some, None, Err}
use Rattle.std.specs.Str.{chars}
use Rattle.sms_field.specs.Address.Value.{AddressValue}
use Rattle.sms_party.specs.Sent.{Sent}
use Rattle.sms_message.specs.Message.Carrying.{Carries}
use Rattle.sms_party.specs.Receiver.State.{Entry}
use Rattle.sms_party.specs.Sender.Stands.{status_of}
use Rattle.sms_party.specs.declared.sender.Status.{Status}
use Rattle.sms_script.specs.declared.script.limits.Limits.{Limits}
use Rattle.sms_script.specs.declared.meaning.event.Event as script
use Rattle.sms_script.specs.declared.meaning.event.Event.TheVariants as given
use Rattle.sms_script.specs.Transcript.Lines.{PacketValue}
use Rattle.sms_world.specs.Machine.{Machine, start}
use Rattle.sms_world.specs.Machine.Event.{Event, Compose, Carry, Timeout, Push, Tick, Inject}
use Rattle.sms_world.specs.Machine.Next.{packet}
use Rattle.sms_world.specs.Machine.Step.{Step, Run}
use Rattle.sms_world.specs.declared.fault.WorldFault.TheVariants.{NoSuchPacket, NoSuchPhone, ClockEnd}
use Rattle.sms_world.specs.Told.{Told}
use Rattle.sms_world.specs.World.Value.{WorldValue}
use Rattle.sms_world.specs.World.Parties.{place_at}
use Rattle.sms_world.specs.World.Standing.{ArePacketsOf, StandsFor}

-- the event that the code is given: a text is its characters
abbrev pub event_of : script.Event → Event
event_of (given.Compose phone target text) = Compose phone target (chars text)
event_of (given.Carry k) = Carry k
event_of (given.Timeout phone) = Timeout phone
event_of (given.Push phone) = Push phone
event_of (given.Tick seconds) = Tick seconds
event_of (given.Inject up phone octets) = Inject (place_at up phone) octets

-- The packets that were there are kept, and others come after them.
abbrev pub PutsMore : WorldValue → WorldValue → Type 0
PutsMore old new = (packets : List PacketValue) × (new.packets ≡ old.packets ++ packets)

-- From a state of the machine there is a step, with this answer, to a state that the new world
-- stands for; and the packets that are new carry what the step puts out.
abbrev pub StepsFrom : Machine → Event → WorldValue → Told → WorldValue → Type 0
StepsFrom m event old told new =
    (put : List Sent) × (n : Machine) × Step m event told put n × StandsFor new n
    × (packets : List PacketValue) × (new.packets ≡ old.packets ++ packets)
    × ArePacketsOf packets put

-- so from each state that the old world stands for
abbrev pub Steps : Event → WorldValue → Told → WorldValue → Type 0
Steps event old told new = (m : Machine) → StandsFor old m → StepsFrom m event old told new

-- so it is where there is no such packet or phone, or the clock would reach its end
abbrev pub IfNowhere : Told → Type 0 → Type 0
IfNowhere (Err NoSuchPacket) P = P
IfNowhere (Err NoSuchPhone) P = P
IfNowhere (Err ClockEnd) P = P
IfNowhere _ P = Unit {0}

-- the events of a run, with what was answered to each, the newest first
abbrev pub told_past : List script.Event → List Told → List (Event × Told)
told_past [] told = []
told_past (e ∷ events) [] = []
told_past (e ∷ events) (t ∷ told) = told_past events told ++ (event_of e, t) ∷ []

-- There is a run from the first state, of these events, each with its answer, to a state that the
-- world stands for.
abbrev pub Runs : Limits → List AddressValue → List script.Event → List Told → WorldValue → Type 0
Runs limits phones events told world =
    (length told ≡ length events)
    × ((m : Machine) × Run (start limits phones) (told_past events told) m × StandsFor world m)

-- Where the old world stands for the first state of these limits and phones, there is a run from it
-- to the new one.
abbrev pub GoesOn : List script.Event → List Told → WorldValue → WorldValue → Type 0
GoesOn events told old new = (limits : Limits) → (phones : List AddressValue)
    → StandsFor old (start limits phones) → Runs limits phones events told new

-- The k-th packet carries the k-th message, if as many were put out, in each state that the world
-- stands for.
abbrev pub IsOctetsOf : Option Sent → Option (List ℕ) → Type 0
IsOctetsOf None None = Unit {0}
IsOctetsOf (Some x) (Some octets) = Carries octets x.message
IsOctetsOf _ _ = ⊥

abbrev pub GivesPacket : WorldValue → ℕ → Option (List ℕ) → Type 0
GivesPacket world k octets = (m : Machine) → StandsFor world m → IsOctetsOf (packet m k) octets

-- The store of a phone, in order of completion, in each state that the world stands for.
abbrev pub GivesStore : WorldValue → ℕ → List Entry → Type 0
GivesStore world phone store =
    (m : Machine) → StandsFor world m → store ≡ reverse (m.receiver phone).store

-- How a text stands that was typed at a phone, in each state that the world stands for.
abbrev pub GivesStatus : WorldValue → ℕ → ℕ → Option Status → Type 0
GivesStatus world phone number told =
    (m : Machine) → StandsFor world m → told ≡ status_of m.senders phone number
