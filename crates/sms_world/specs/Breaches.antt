-- The first event of a run that comes out of order, and a condition that it breaks.
use Rattle.std.specs.Prelude.{◌≡◌, ◌⊎◌, ℕ, min, ◌<◌, ◌≤◌, ◌^◌, ◌-◌, Bool, true, false, nat_lt, List, [], ◌∷◌, ◌++◌, length, if◌then◌else◌, suc, Option, Some, None}
use Rattle.std.specs.List.{Contains}
use Rattle.sms_field.specs.Address.Value.{AddressValue}
use Rattle.sms_centre.specs.Centre.State.{Acceptance}
use Rattle.sms_message.specs.Address.{are_distinct}
use Rattle.sms_party.specs.Sent.{nth, Sent}
use Rattle.sms_script.specs.declared.script.limits.Limits.{Limits}
use Rattle.sms_world.specs.declared.order.Disorder.{Disorder}
use Rattle.sms_world.specs.declared.order.Disorder.TheVariants.{RepeatAfterTheEnd, RepeatWithoutRejection, KeyUsedAgain, LateSegmentForgotten, Injected}
use Rattle.sms_world.specs.declared.order.TextSegment.{TextSegment}
use Rattle.sms_world.specs.declared.order.Breach.{Breach}
use Rattle.sms_world.specs.Told.{Told}
use Rattle.sms_world.specs.Machine.{Machine, start}
use Rattle.sms_world.specs.Machine.Event.{Event, Compose, Carry, Timeout, Push, Tick, Inject}
use Rattle.sms_world.specs.Machine.Step.{Step, Run}
use Rattle.sms_world.specs.Orderly.{OrderlyRun}
use Rattle.sms_tpdu.specs.Submit.{Submission}
use Rattle.sms_tpdu.specs.Deliver.{Delivery}
use Rattle.sms_message.specs.Message.{Origin}
use Rattle.sms_party.specs.Sender.Texts.{Text}
use Rattle.sms_world.specs.Orderly.Brought.{BringsSubmission, BringsDelivery}
use Rattle.sms_world.specs.Orderly.Keys.{NoKeyIsUsedAgain}
use Rattle.sms_world.specs.Orderly.Late.{LateSegmentsAreRemembered}
use Rattle.sms_world.specs.Orderly.Injections.{NothingIsInjected}
use Rattle.sms_world.specs.Ledger.{Mark, Submits, Delivers, Neither, mark_at, TextNote, is_key_in_use, is_in_mind, Ledger, new_ledger, AreAlike, IsLedgerOf}
use Rattle.sms_world.specs.Noted.{Facts, AreFacts, noted}

-- ---- which condition

-- The event brings an SMS-SUBMIT to the centre once more: one of the same segment of the same text
-- was accepted.
pub record Repeats (m : Machine) (event : Event) : Type 0 where
  pub phone : ℕ
  pub submission : Submission
  pub origin : Origin
  pub brings : BringsSubmission m event phone submission (Some origin)
  pub earlier : Acceptance
  pub accepted : Contains m.centre.accepted earlier
  pub same : earlier.origin ≡ Some origin

-- The event does not meet the condition. Of a repeat: the accepted one's validity has ended; or it
-- has not, and the repeat does not ask for the rejection of duplicates (TP-RD is 0). Where one event
-- uses a key again and brings a late segment that is forgotten, the key is meant.
abbrev pub Breaks : Disorder → Machine → Event → Type 0
Breaks RepeatAfterTheEnd m event = (r : Repeats m event) × (r.earlier.ends ≤ m.clock)
Breaks RepeatWithoutRejection m event =
    (r : Repeats m event) × (m.clock < r.earlier.ends) × (r.submission.reject ≡ false)
Breaks KeyUsedAgain m event = NoKeyIsUsedAgain m event → ⊥
Breaks LateSegmentForgotten m event =
    NoKeyIsUsedAgain m event × (LateSegmentsAreRemembered m event → ⊥)
Breaks Injected m event = NothingIsInjected event → ⊥

abbrev pub repeat_breach : Option ℕ → ℕ → Bool → Option Disorder
repeat_breach None now reject = None
repeat_breach (Some ends) now reject =
    if nat_lt now ends
    then (if reject then None else Some RepeatWithoutRejection)
    else Some RepeatAfterTheEnd

abbrev pub submission_breach : Ledger → ℕ → ℕ → ℕ → Bool → Option Disorder
submission_breach l now text segment reject =
    repeat_breach (l.ends (record { text = text; segment = segment })) now reject

abbrev pub arrival_breach : Ledger → ℕ → ℕ → ℕ → ℕ → Option Disorder
arrival_breach l remembered now phone text =
    if is_key_in_use l.texts remembered now (l.receiver phone) text
    then Some KeyUsedAgain
    else (if is_in_mind remembered (l.receiver phone).finished text
    then None
    else Some LateSegmentForgotten)

abbrev pub mark_breach : Ledger → ℕ → ℕ → Mark → Option Disorder
mark_breach l remembered now (Submits text segment reject) =
    submission_breach l now text segment reject
mark_breach l remembered now (Delivers phone text segment) =
    arrival_breach l remembered now phone text
mark_breach l remembered now Neither = None

abbrev pub marked_breach : Ledger → ℕ → ℕ → Option Mark → Option Disorder
marked_breach l remembered now None = None
marked_breach l remembered now (Some mark) = mark_breach l remembered now mark

-- what the notes tell of an event
abbrev pub breach_at : Ledger → ℕ → ℕ → Event → Option Disorder
breach_at l remembered now (Carry k) = marked_breach l remembered now (mark_at l.marks k)
breach_at l remembered now (Inject place octets) = Some Injected
breach_at l remembered now (Compose phone target characters) = None
breach_at l remembered now (Timeout phone) = None
breach_at l remembered now (Push phone) = None
breach_at l remembered now (Tick seconds) = None

-- the segment of a text of which this is noted
abbrev pub segment_in : Option TextNote → ℕ → Option TextSegment
segment_in None segment = None
segment_in (Some t) segment =
    Some (record { phone = t.phone; text = t.number; segment = segment })

abbrev pub segment_of : Ledger → Option Mark → Option TextSegment
segment_of l (Some (Submits text segment reject)) = segment_in (nth l.texts text) segment
segment_of l (Some (Delivers phone text segment)) = segment_in (nth l.texts text) segment
segment_of l _ = None

-- the segment that an event brings
abbrev pub segment_at : Ledger → Event → Option TextSegment
segment_at l (Carry k) = segment_of l (mark_at l.marks k)
segment_at l _ = None

-- The event brings this segment of this text: in an SMS-SUBMIT to the centre, or in an SMS-DELIVER to
-- a phone.
pub record Brings (m : Machine) (event : Event) (x : TextSegment) : Type 0 where
  pub origin : Origin
  pub text : Text
  pub there : nth m.senders.texts origin.text ≡ Some text
  pub typed_at : text.phone ≡ x.phone
  pub numbered : text.number ≡ x.text
  pub as_segment : origin.segment ≡ x.segment
  pub comes : ((phone : ℕ) × (s : Submission) × BringsSubmission m event phone s (Some origin))
      ⊎ ((phone : ℕ) × (d : Delivery) × BringsDelivery m event phone d (Some origin))

-- none is brought by an injection alone
abbrev pub BringsSegment : Machine → Event → Option TextSegment → Type 0
BringsSegment m event (Some x) = Brings m event x
BringsSegment m event None = NothingIsInjected event → ⊥

-- ---- of a whole run

-- This event is the first that comes out of order, breaks this condition, and brings this segment. (Events are counted
-- from 1, and no further than a number of 64 bits goes.)
pub record FirstBreach (first : Machine) (past : List (Event × Told)) (b : Breach) : Type 0 where
  pub later : List (Event × Told)
  pub event : Event
  pub told : Told
  pub earlier : List (Event × Told)
  pub parts : past ≡ later ++ (event, told) ∷ earlier
  pub before : Machine
  pub orderly : OrderlyRun first earlier before
  pub breaks : Breaks b.disorder before event
  pub brings : BringsSegment before event b.segment
  pub number : b.event ≡ min (suc (length earlier)) (2 ^ 64 - 1)

-- So far the run is orderly; or this is its first breach, and it is not.
abbrev pub IsTold : Machine → List (Event × Told) → Machine → Option Breach → Type 0
IsTold first past m None = OrderlyRun first past m
IsTold first past m (Some b) = FirstBreach first past b × (OrderlyRun first past m → ⊥)

-- ---- what is watched

-- what no event changes
pub record Settled (limits : Limits) (phones : List AddressValue) (m : Machine) : Type 0 where
  pub limits_are : m.limits ≡ limits
  pub phones_are : m.phones ≡ phones
  pub reject_is : m.senders.reject ≡ limits.reject

-- The run of these events; as long as it is orderly, the notes are right of its last state.
abbrev pub NotesFollow : Option Breach → Ledger → Machine → Type 0
NotesFollow None l m = IsLedgerOf l m
NotesFollow (Some b) l m = Unit {0}

pub record Watches (limits : Limits) (phones : List AddressValue) (past : List (Event × Told))
    (m : Machine) (l : Ledger) (breach : Option Breach) : Type 0 where
  pub distinct : are_distinct phones ≡ true
  pub run : Run (start limits phones) past m
  pub settled : Settled limits phones m
  pub tells : IsTold (start limits phones) past m breach
  pub notes : NotesFollow breach l m

-- the breach after an event, the number of which is this
abbrev pub breach_after : Option Breach → ℕ → Option Disorder → Option TextSegment → Option Breach
breach_after (Some b) number disorder segment = Some b
breach_after None number None segment = None
breach_after None number (Some disorder) segment =
    Some (record { event = number; disorder = disorder; segment = segment })

-- Before the first event nothing is noted; at each event what is noted and told goes on.
pub record WatchingGoesOn : Type 0 where
  pub begins : (limits : Limits) (phones : List AddressValue) → are_distinct phones ≡ true
      → Watches limits phones [] (start limits phones) new_ledger None
  pub alike :
      (limits : Limits) (phones : List AddressValue) (past : List (Event × Told)) (m : Machine)
      (l k : Ledger) (breach : Option Breach) → AreAlike l k
      → Watches limits phones past m l breach → Watches limits phones past m k breach
  pub goes_on :
      (limits : Limits) (phones : List AddressValue) (past : List (Event × Told)) (m : Machine)
      (l : Ledger) (breach : Option Breach) → Watches limits phones past m l breach
      → (event : Event) (told : Told) (put : List Sent) (n : Machine) → Step m event told put n
      → (f : Facts) → AreFacts m event told put n f
      → (disorder : Option Disorder) (segment : Option TextSegment)
      → (breach ≡ None → disorder ≡ breach_at l limits.remembered m.clock event)
      → (breach ≡ None → segment ≡ segment_at l event)
      → Watches limits phones ((event, told) ∷ past) n
      (noted l limits.reject m.clock event told f)
      (breach_after breach (min (suc (length past)) (2 ^ 64 - 1)) disorder segment)
