-- What is claimed of a world, whatever events led to it.
use Rattle.std.specs.Prelude.{◌≡◌, ◌≢◌, ℕ, ◌<◌, ◌≤◌, ◌-◌, true, List, ◌∷◌, ◌++◌, length, reverse, Some, slice_get}
use Rattle.std.specs.List.{Contains}
use Rattle.sms_field.specs.Address.Value.{AddressValue}
use Rattle.sms_message.specs.Message.{Origin}
use Rattle.sms_centre.specs.Centre.State.{Acceptance}
use Rattle.sms_party.specs.Sender.Ended.{IsTypedAt}
use Rattle.sms_party.specs.Sender.Value.{status_among}
use Rattle.sms_party.specs.Sent.{Sent}
use Rattle.sms_party.specs.declared.sender.Status.TheVariants.{Accepted}
use Rattle.sms_script.specs.Transcript.Lines.{PacketValue}
use Rattle.sms_script.specs.declared.script.limits.Limits.{Limits}
use Rattle.sms_world.specs.Told.{Told}
use Rattle.sms_world.specs.Machine.{Machine, start}
use Rattle.sms_world.specs.Machine.Event.{Event}
use Rattle.sms_world.specs.Machine.Step.{RunWith, Run}
use Rattle.sms_world.specs.Accepted.{IsHonestAt}
use Rattle.sms_world.specs.Accepted.Reject.{RepeatsComeInTime}
use Rattle.sms_world.specs.Headline.Finished.{FinishedAre}
use Rattle.sms_world.specs.Headline.Refused.{IsReceived}
use Rattle.sms_world.specs.Orderly.{IsOrderly, OrderlyRun, SubmissionsAreOrderly}
use Rattle.sms_world.specs.Orderly.Repeats.{RepeatsAskForRejection}
use Rattle.sms_world.specs.Texts.Stands.{stands}
use Rattle.sms_world.specs.World.Value.{WorldValue}
use Rattle.sms_world.specs.World.Phones.{store_in, statuses_at}
use Rattle.sms_world.specs.World.Standing.{ArePacketsOf, StandsFor}
use Rattle.sms_world.specs.World.Steps.{Steps}

-- ---- once

-- The phone's store is, in order of completion, exactly the texts typed to it of which every
-- segment was taken, each once, whole and as typed.
pub record StoreIsWhole (world : WorldValue) (m : Machine) (phone : ℕ) : Type 0 where
  pub as_typed : store_in world.parties.phones phone ≡ reverse (stands m phone)
  pub finished : FinishedAre m phone

-- So it is at each phone, after every orderly run whose last state the world stands for.
abbrev pub StoresAreWhole : WorldValue → Type 0
StoresAreWhole world =
    (limits : Limits) (phones : List AddressValue) (past : List (Event × Told)) (m : Machine)
    → OrderlyRun (start limits phones) past m → StandsFor world m
    → (phone : ℕ) → phone < length world.parties.phones → StoreIsWhole world m phone

-- A delivery that an event brings to a phone is of a segment of a text that was typed to the phone;
-- and it is refused only where a stated table is full or memory runs out. So it is in every orderly
-- run whose last state the old world stands for, where the event comes in order; and the packets
-- that are new carry what was put out.
abbrev pub RefusesOnlyWhereFull : Event → WorldValue → Told → WorldValue → Type 0
RefusesOnlyWhereFull event old told new =
    (limits : Limits) (phones : List AddressValue) (past : List (Event × Told)) (m : Machine)
    → OrderlyRun (start limits phones) past m → StandsFor old m → IsOrderly m event
    → (put : List Sent) × (n : Machine) × StandsFor new n
    × ((packets : List PacketValue) × (new.packets ≡ old.packets ++ packets)
    × ArePacketsOf packets put)
    × IsReceived m event told put n

-- ---- accepted at most once

-- No two accepted submissions are of one segment.
abbrev pub AcceptedOnce : Machine → Type 0
AcceptedOnce m =
    (later earlier : List Acceptance) (a b : Acceptance) (o : Origin)
    → m.centre.accepted ≡ later ++ a ∷ earlier → Contains earlier b
    → a.origin ≡ Some o → b.origin ≢ Some o

-- So it is after every run in which nothing is injected and repeats ask for rejection in time.
abbrev pub AcceptsOnce : WorldValue → Type 0
AcceptsOnce world =
    (limits : Limits) (phones : List AddressValue) (past : List (Event × Told)) (m : Machine)
    → RunWith SubmissionsAreOrderly (start limits phones) past m → StandsFor world m
    → AcceptedOnce m

-- ---- what accepted means

-- Text n is the one that was typed at the phone as the one of this number there, it has ended as
-- accepted, and the centre has accepted each of its segments.
pub record WasAccepted (m : Machine) (phone number n : ℕ) : Type 0 where
  pub typed : IsTypedAt m.senders.texts phone number n
  pub ended : slice_get (reverse (m.senders.sender phone).ended) (number - 1) ≡ Some (n, true)
  pub accepted : (s : ℕ) → 0 < s → s ≤ length typed.text.pieces
      → (a : Acceptance) × Contains m.centre.accepted a
      × (a.origin ≡ Some (record { text = n; segment = s }))

-- Each text of the phone that the world shows as accepted was.
abbrev pub ShownWereAccepted : WorldValue → Machine → ℕ → Type 0
ShownWereAccepted world m phone =
    (number : ℕ) → phone < length world.parties.phones
    → status_among (statuses_at world.parties.phones phone) number ≡ Some Accepted
    → (n : ℕ) × WasAccepted m phone number n

-- So it is after every run in which answers to the phone and rejections of what it puts out are of
-- what they seem to be of, and nothing is injected.
abbrev pub AcceptedWereAccepted : WorldValue → Type 0
AcceptedWereAccepted world =
    (limits : Limits) (phones : List AddressValue) (past : List (Event × Told)) (m : Machine)
    → (phone : ℕ) → RunWith (IsHonestAt phone) (start limits phones) past m → StandsFor world m
    → ShownWereAccepted world m phone

-- Where the limits ask for rejection from the first putting out on, any copy of a submission may
-- come as long as the accepted one has not ended: every event then asks for rejection in time. So
-- it is after every run, injections or not.
abbrev pub CopiesMayComeInTime : WorldValue → Type 0
CopiesMayComeInTime world =
    (limits : Limits) (phones : List AddressValue) (past : List (Event × Told)) (m : Machine)
    → limits.reject ≡ true → Run (start limits phones) past m → StandsFor world m
    → (event : Event) → RepeatsComeInTime m event → RepeatsAskForRejection m event

-- ---- all of them

pub record ClaimsHold : Type 0 where
  pub whole : (world : WorldValue) → StoresAreWhole world
  pub refused : (event : Event) (old : WorldValue) (told : Told) (new : WorldValue)
      → Steps event old told new → RefusesOnlyWhereFull event old told new
  pub once : (world : WorldValue) → AcceptsOnce world
  pub accepted : (world : WorldValue) → AcceptedWereAccepted world
  pub copies : (world : WorldValue) → CopiesMayComeInTime world
