-- What becomes of a delivery that comes to a phone.
use Rattle.std.specs.Prelude.{◌≡◌, ◌≢◌, ◌⊎◌, ℕ, ◌<◌, ◌≤◌, Bool, true, false, List, [], length, Option, Some, Ok}
use Rattle.sms_field.specs.Address.Value.{AddressValue}
use Rattle.sms_tpdu.specs.Deliver.{Delivery}
use Rattle.sms_message.specs.declared.outcome.Outcome.TheVariants.{Refused, Finished, Kept, Repeat}
use Rattle.sms_relay.specs.declared.side.Side.TheVariants.{FromPhone}
use Rattle.sms_message.specs.Message.{Origin}
use Rattle.sms_message.specs.Message.Answers.{answers, deliver_error_of}
use Rattle.sms_message.specs.declared.message.Tag.{Tag}
use Rattle.sms_party.specs.Sent.{Sent}
use Rattle.sms_world.specs.Told.{Told}
use Rattle.sms_script.specs.declared.script.limits.Limits.{Limits}
use Rattle.sms_world.specs.Machine.{Machine, start}
use Rattle.sms_world.specs.Machine.Event.{Event}
use Rattle.sms_world.specs.Machine.Next.{to_centre}
use Rattle.sms_world.specs.Machine.Step.{no_memory, Step}
use Rattle.sms_world.specs.Texts.{size_in}
use Rattle.sms_world.specs.Texts.TypedTo.{IsTypedTo}
use Rattle.sms_world.specs.Texts.Taken.{IsTaken, open_at}
use Rattle.sms_world.specs.Texts.Finished.{finished, IsUnfinished}
use Rattle.sms_world.specs.Orderly.{OrderlyRun, IsOrderly}
use Rattle.sms_world.specs.Orderly.Brought.{BringsDelivery}

-- The phone took the segment.
abbrev pub is_taking : Told → Bool
is_taking (Ok Finished) = true
is_taking (Ok Kept) = true
is_taking (Ok Repeat) = true
is_taking _ = false

abbrev pub WasTaken : Told → Type 0
WasTaken told = is_taking told ≡ true

-- The phone answered RP-ERROR with cause 22, memory capacity exceeded (3GPP TS 24.011, 8.2.5.4),
-- and failure cause D3, memory capacity exceeded (3GPP TS 23.040, 9.2.3.22).
abbrev pub no_room : Told
no_room = Ok (Refused 22 (Some 0xD3))

-- As many texts have finished as the store may hold, and the segment would complete a text that is
-- not among them.
pub record StoreIsFull (m : Machine) (phone : ℕ) (o : Origin) : Type 0 where
  pub full : length (finished m phone) ≡ m.limits.store
  pub unfinished : IsUnfinished m phone o.text
  pub last : (s : ℕ) → 0 < s → s ≤ size_in m.senders.texts o.text → s ≢ o.segment
      → IsTaken m phone o.text s

-- As many texts are open as may be, no segment of this one's text was taken, and it is not the only
-- one.
pub record SetsAreFull (m : Machine) (phone : ℕ) (o : Origin) : Type 0 where
  pub full : length (open_at m phone) ≡ m.limits.open_max
  pub none_taken : (s : ℕ) → ¬ IsTaken m phone o.text s
  pub more : 1 < size_in m.senders.texts o.text

-- What a phone puts out that has no room: a CP-ACK and an RP-ERROR with cause 22 and a report with
-- failure cause D3, of the transaction and reference of the delivery.
abbrev pub no_room_put : ℕ → Tag → List Sent
no_room_put phone tag =
    to_centre phone (answers FromPhone tag (Some 22) (Some (deliver_error_of 0xD3)))

-- It is refused, a table is full, and the phone is as before, its sender too.
pub record WasRefused (old : Machine) (phone : ℕ) (o : Origin) (tag : Tag) (told : Told)
    (put : List Sent) (new : Machine) : Type 0 where
  pub answered : told ≡ no_room
  pub put_out : put ≡ no_room_put phone tag
  pub receives : new.receiver phone ≡ old.receiver phone
  pub sends : new.senders ≡ old.senders
  pub full : StoreIsFull old phone o ⊎ SetsAreFull old phone o

-- It is taken; or refused where a table is full; or memory runs out, and nothing has changed.
abbrev pub Received : Machine → ℕ → Origin → Tag → Told → List Sent → Machine → Type 0
Received old phone o tag told put new =
    WasTaken told
    ⊎ WasRefused old phone o tag told put new
    ⊎ ((told ≡ no_memory) × (put ≡ []) × (new ≡ old))

-- What an event delivers to a phone is of a segment of a text that was typed to the phone, and it
-- is received.
abbrev pub IsReceived : Machine → Event → Told → List Sent → Machine → Type 0
IsReceived old event told put new =
    (phone : ℕ) (d : Delivery) (origin : Option Origin)
    → (brings : BringsDelivery old event phone d origin)
    → (o : Origin) × (origin ≡ Some o) × IsTypedTo old phone o.text
    × Received old phone o brings.tag told put new

-- A delivery that comes in an orderly run is of a segment of a text that was typed to the phone,
-- and it is refused only where a table is full or memory runs out.
abbrev pub RefusedOnlyWhereFull : Type 0
RefusedOnlyWhereFull =
    (limits : Limits) (phones : List AddressValue) (past : List (Event × Told)) (old : Machine)
    → OrderlyRun (start limits phones) past old
    → (event : Event) → IsOrderly old event
    → (told : Told) (put : List Sent) (new : Machine) → Step old event told put new
    → IsReceived old event told put new
