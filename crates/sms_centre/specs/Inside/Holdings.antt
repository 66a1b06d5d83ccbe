-- A reader may pass this by: contracts of private functions, and proofs, alone cite it.
--
-- What the centre holds, and what of it waits for the recipients.
use Rattle.std.specs.Prelude.{◌≡◌, ℕ, ◌<◌, Bool, true, false, All, Contains, length, map, slice_get, List, [], Some}
use Rattle.sms_field.specs.Address.Value.{AddressValue}
use Rattle.sms_centre.specs.Centre.Value.{WaitingValue, LineValue, HoldingsValue, line_at, endings_after}
use Rattle.sms_centre.specs.Inside.Kept.{free_at}
use Rattle.sms_centre.specs.Centre.Kept.{KeepsAfter, IsLeftLater}
use Rattle.sms_centre.specs.Inside.Lines.{new_line}
use Rattle.sms_centre.specs.declared.centre.held.Ending.{Ending}
use Rattle.sms_centre.specs.declared.centre.held.HeldKey.{HeldKey}

-- nothing is held, and nothing waits for any of these phones
abbrev pub new_holdings : List AddressValue → HoldingsValue
new_holdings phones =
    record { held = record { endings = []; messages = []; last = [] }; lines = map new_line phones }

-- the ending of a message that waits for this recipient
abbrev pub ending_of : ℕ → WaitingValue → Ending
ending_of recipient m = record { end = m.ends; recipient = recipient; stamp = m.stamp }

pub record AreHeld (endings : List Ending) (lines : List LineValue) : Type 0 where
  -- each message that waits is held
  pub waiting : (recipient : ℕ) (line : LineValue) → slice_get lines recipient ≡ Some line
      → All (λ m. Contains endings (ending_of recipient m)) line.queue
  -- the stamps of held messages are given to no other
  pub given : All (λ e. e.stamp < free_at lines e.recipient) endings

-- What is left at a moment is the same.
pub record LeavesSame (now : ℕ) (old new : HoldingsValue) : Type 0 where
  pub endings : endings_after now new.held.endings ≡ endings_after now old.held.endings
  pub kept : KeepsAfter now old.held new.held
  pub lines : map (line_at now) new.lines ≡ map (line_at now) old.lines

-- One message that has ended is forgotten, or there is none.
abbrev pub ForgetsOne : ℕ → HoldingsValue → Bool → HoldingsValue → Type 0
ForgetsOne now old true new =
    LeavesSame now old new × (length new.held.endings < length old.held.endings)
ForgetsOne now old false new =
    (new ≡ old) × All (λ e. now < e.end) old.held.endings
    × ((key : HeldKey) → IsLeftLater now key old.held)
    × (map (line_at now) old.lines ≡ old.lines)
