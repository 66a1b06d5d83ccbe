-- A reader may pass this by: contracts of private functions, and proofs, alone cite it.
use Rattle.std.specs.Prelude.{◌≡◌, ℕ, ◌<◌, ◌≤◌, max, not, ◌&&◌, ◌||◌, if◌then◌else◌, nat_lt, length, zero, suc, List, [], ◌∷◌, ◌++◌, All, Contains, Option, Some, None}
use Rattle.std.specs.Map.{lookup}
use Rattle.sms_field.specs.Time.Computed.{end_of_2099}
use Rattle.sms_tpdu.specs.Submit.{Submission}
use Rattle.sms_centre.specs.Centre.Checks.{Books}
use Rattle.sms_centre.specs.Centre.Value.{LineValue, HeldValue, CentreValue, key_eq, phones_of}
use Rattle.sms_centre.specs.declared.centre.held.Ending.{Ending}
use Rattle.sms_centre.specs.declared.centre.held.HeldKey.{HeldKey}
use Rattle.sms_centre.specs.declared.centre.check.Check.{Check}
use Rattle.sms_centre.specs.declared.centre.check.Check.TheVariants.{Refuse, Accept}
use Rattle.sms_centre.specs.Centre.Kept.{key_of, is_kept, KeepsAfter, IsLeftLater}

-- One more stands somewhere among these.
pub record IsPutIn {X : Type 0} (x : X) (old new : List X) : Type 0 where
  pub before : List X
  pub after : List X
  pub was : old ≡ before ++ after
  pub is : new ≡ before ++ x ∷ after

-- One message more is held, with this key and this ending.
pub record HoldsAlso (old : HeldValue) (key : HeldKey) (ending : Ending)
    (new : HeldValue) : Type 0 where
  pub messages : IsPutIn (ending, key) old.messages new.messages
  pub endings : IsPutIn ending old.endings new.endings
  pub kept : (other : HeldKey) (now : ℕ)
      → is_kept new.last other now
      ≡ ((nat_lt now ending.end && key_eq key other) || is_kept old.last other now)

-- In the table of duplicates a key has the end of a held message with this key.
pub record HasMessage (messages : List (Ending × HeldKey)) (key : HeldKey) (end : ℕ) : Type 0 where
  pub ending : Ending
  pub is_held : Contains messages (ending, key)
  pub ends : ending.end ≡ end

-- Each key of the table is that of a held message.
abbrev pub AreOfMessages : List (Ending × HeldKey) → List (HeldKey × ℕ) → Type 0
AreOfMessages messages last =
    (key : HeldKey) (end : ℕ) → lookup (key_eq key) last ≡ Some end → HasMessage messages key end

-- This key goes, if no message with it ends after the moment; the others stay.
abbrev pub ForgetsEnded : ℕ → HeldKey → List (HeldKey × ℕ) → List (HeldKey × ℕ) → Type 0
ForgetsEnded now key old new =
    (other : HeldKey)
    → lookup (key_eq other) new
    ≡ (if key_eq key other && not (is_kept old key now) then None else lookup (key_eq other) old)

-- the first message is forgotten, and its own key, but for a message that ends later
abbrev pub ForgetsKey : ℕ → HeldValue → Ending → HeldValue → Type 0
ForgetsKey now old ending new =
    (key : HeldKey) × (old.messages ≡ (ending, key) ∷ new.messages) × IsLeftLater now key new

-- The earliest of the endings is forgotten, if it has come; else no key has ended.
abbrev pub ForgetsFirst : ℕ → HeldValue → Option Ending → HeldValue → Type 0
ForgetsFirst now old None new =
    All (λ e. now < e.end) old.endings × (new ≡ old) × ((key : HeldKey) → IsLeftLater now key old)
ForgetsFirst now old (Some ending) new =
    (ending.end ≤ now) × (old.endings ≡ ending ∷ new.endings) × KeepsAfter now old new
    × ForgetsKey now old ending new

abbrev pub free_at : List LineValue → ℕ → ℕ
free_at [] r = 0
free_at (line ∷ lines) zero = line.free
free_at (line ∷ lines) (suc r) = free_at lines r

abbrev pub books_in : CentreValue → ℕ → ℕ → Submission → Books
books_in v now phone s =
    record {
      is_held = λ recipient. is_kept v.held.last (key_of phone s.reference recipient) now;
      count = length v.held.endings;
      stamp = λ recipient. max (free_at v.lines recipient) now;
    }

-- causes are those of an RP-ERROR, and what is accepted has a recipient, a stamp that is free, and
-- room
abbrev pub IsLawfulCheck : CentreValue → Check → Type 0
IsLawfulCheck v (Refuse cause failure) = cause < 128
IsLawfulCheck v (Accept recipient ends stamp) =
    (recipient < length (phones_of v)) × (stamp < end_of_2099) × (free_at v.lines recipient ≤ stamp)
    × (length v.held.endings < v.limit)
