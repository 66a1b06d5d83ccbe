-- What the code of a sender holds, and what a call makes of it.
use Rattle.std.specs.Prelude.{ℕ, Bool, List, [], ◌∷◌, ◌++◌, zero, suc, Option, Some, None}
use Rattle.sms_field.specs.Address.Value.{AddressValue}
use Rattle.sms_tpdu.specs.declared.user_data.concat.Width.{Width}
use Rattle.sms_join.specs.declared.segment.Segment.{Segment}
use Rattle.sms_message.specs.declared.message.Tag.{Tag}
use Rattle.sms_party.specs.declared.sender.Status.{Status}
use Rattle.sms_party.specs.declared.sender.Status.TheVariants.{Waiting}

-- a typed text that has not ended
pub record TextValue : Type 0 where
  pub target : AddressValue
  pub segments : List Segment
  -- the message reference of its first segment
  pub reference : ℕ
  pub width : Width
  pub set_reference : ℕ

pub record SenderValue : Type 0 where
  pub width : Width
  pub reject : Bool
  -- the texts that have not ended, the first typed first
  pub pending : List TextValue
  -- how many segments of the first of them were accepted, and how often its waiting segment was
  -- repeated
  pub accepted : ℕ
  pub repeats : ℕ
  -- how the texts that have ended did, the first typed first
  pub ended : List Status
  -- of the next text
  pub message_reference : ℕ
  pub set_reference : ℕ
  -- of the next putting out, and of the latest
  pub next : Tag
  pub latest : Tag

-- ---- how the texts stand

-- the one with this number; the first has number 1
abbrev pub status_among : List Status → ℕ → Option Status
status_among [] number = None
status_among (status ∷ others) zero = None
status_among (status ∷ others) (suc zero) = Some status
status_among (status ∷ others) (suc (suc n)) = status_among others (suc n)

abbrev pub all_waiting : {X : Type 0} → List X → List Status
all_waiting [] = []
all_waiting (x ∷ later) = Waiting ∷ all_waiting later

-- of all texts that were typed, the first typed first
abbrev pub statuses_in : SenderValue → List Status
statuses_in v = v.ended ++ all_waiting v.pending
