-- What the code checks a submission against.
use Rattle.std.specs.Prelude.{◌≡◌, ℕ, ◌<◌, ◌≤◌, Bool, false, nat_lt, List, map, Option, Some, None, IfSome}
use Rattle.std.specs.Map.{lookup}
use Rattle.sms_centre.specs.Centre.Value.{HeldValue, CentreValue, key_eq, endings_after, line_at}
use Rattle.sms_centre.specs.declared.centre.held.HeldKey.{HeldKey}

abbrev pub key_of : ℕ → ℕ → ℕ → HeldKey
key_of phone reference recipient =
    record { phone = phone; reference = reference; recipient = recipient }

abbrev pub ends_after : ℕ → Option ℕ → Bool
ends_after now None = false
ends_after now (Some end) = nat_lt now end

-- One with this key ends after the moment.
abbrev pub is_kept : List (HeldKey × ℕ) → HeldKey → ℕ → Bool
is_kept last key now = ends_after now (lookup (key_eq key) last)

-- From a moment on the same duplicates are found.
abbrev pub KeepsAfter : ℕ → HeldValue → HeldValue → Type 0
KeepsAfter now old new =
    (key : HeldKey) (at : ℕ) → now ≤ at → is_kept new.last key at ≡ is_kept old.last key at

-- A key is left only where a message with it ends after the moment.
abbrev pub IsLeftLater : ℕ → HeldKey → HeldValue → Type 0
IsLeftLater now key v = IfSome (lookup (key_eq key) v.last) (λ end. now < end)

-- At a later moment those are left that end after it, and so is each key of the table.
pub record IsHeldLater (now : ℕ) (old new : HeldValue) : Type 0 where
  pub endings : new.endings ≡ endings_after now old.endings
  pub kept : KeepsAfter now old new
  pub gone : (key : HeldKey) → IsLeftLater now key new

-- The centre at a later moment: what has ended is gone, and all else is as it was.
pub record IsLater (now : ℕ) (old new : CentreValue) : Type 0 where
  pub limit : new.limit ≡ old.limit
  pub held : IsHeldLater now old.held new.held
  pub lines : new.lines ≡ map (line_at now) old.lines
