-- Which texts have finished at a phone, and in which order. Lists have the newest entry first.
use Rattle.std.specs.Prelude.{◌↔◌, ℕ, nat_eq, List}
use Rattle.std.specs.List.{IsDistinct}
use Rattle.sms_field.specs.Address.Value.{AddressValue}
use Rattle.sms_join.specs.Arrivals.Completion.{StandsBefore, CameEarlier}
use Rattle.sms_world.specs.Told.{Told}
use Rattle.sms_script.specs.declared.script.limits.Limits.{Limits}
use Rattle.sms_world.specs.Machine.{Machine, start}
use Rattle.sms_world.specs.Machine.Event.{Event}
use Rattle.sms_world.specs.Texts.{size_in}
use Rattle.sms_world.specs.Texts.TypedTo.{IsTypedTo}
use Rattle.sms_world.specs.Texts.Taken.{IsComplete}
use Rattle.sms_world.specs.Texts.Finished.{finished, HasFinished}
use Rattle.sms_world.specs.Orderly.{OrderlyRun}

-- Just the texts typed to the phone of which every segment was taken, each once; and one of them
-- stands before another just where its last missing segment came earlier.
pub record FinishedAre (m : Machine) (phone : ℕ) : Type 0 where
  pub typed : (n : ℕ) → HasFinished m phone n → IsTypedTo m phone n
  pub complete : (n : ℕ) → HasFinished m phone n → IsComplete m phone n
  pub all : (n : ℕ) → IsTypedTo m phone n → IsComplete m phone n → HasFinished m phone n
  pub once : IsDistinct nat_eq (finished m phone)
  pub order : (n other : ℕ) → HasFinished m phone n → HasFinished m phone other
      → (StandsBefore (finished m phone) n other
      ↔ CameEarlier (size_in m.senders.texts) (m.receiver phone).taken n other)

abbrev pub FinishedTexts : Type 0
FinishedTexts =
    (limits : Limits) (phones : List AddressValue) (past : List (Event × Told)) (m : Machine)
    → OrderlyRun (start limits phones) past m → (phone : ℕ) → FinishedAre m phone
