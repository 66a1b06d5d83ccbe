-- What stands of a file that is replaced, and what a crash may leave of it: its octets, or no file.
use Rattle.std.specs.Prelude.{◌≡◌, ◌⊎◌, ℕ, ◌≤◌, List, Option, option_map}
use Rattle.std.specs.Global.{Vec}

abbrev pub File : Type 0
File = Option (List ℕ)

-- the octets of a file that lies in memory
abbrev pub octets_of : Option (Vec ℕ) → File
octets_of file = option_map (λ v. v.items) file

-- a crash leaves this and nothing else
abbrev pub Only : File → (File → Type 0) → Type 0
Only file may_leave = (c : File) → may_leave c → c ≡ file

-- In what follows D is a type of folders, and old and new are a folder before and after.

-- a crash leaves nothing that it might not have left before
abbrev pub NoOther : {D : Type 0} → (D → File → Type 0) → D → D → Type 0
NoOther may_leave old new = (c : File) → may_leave new c → may_leave old c

-- The file stands as before: a read gives the same, and so does a crash.
pub record StandsAsBefore {D : Type 0} (named : D → File) (rights : D → Option ℕ)
    (may_leave : D → File → Type 0) (old new : D) : Type 0 where
  pub same_octets : named new ≡ named old
  pub same_rights : rights new ≡ rights old
  pub no_other : NoOther may_leave old new

-- This file stands: a read gives it, and so does each crash from then on.
pub record Stands {D : Type 0} (named : D → File) (may_leave : D → File → Type 0)
    (file : File) (new : D) : Type 0 where
  pub has_name : named new ≡ file
  pub only : Only file (may_leave new)

-- Time goes on: a crash since the moment t might have left what it might have left before, or what
-- it may leave now.
pub record Elapses {D : Type 0} (moment : D → ℕ) (left_since : D → ℕ → File → Type 0)
    (may_leave : D → File → Type 0) (old new : D) : Type 0 where
  pub later : moment old ≤ moment new
  pub nothing_else : (t : ℕ) (c : File) → t ≤ moment old → left_since new t c
      → left_since old t c ⊎ may_leave new c

-- A crash at any moment from old to new leaves a file that has P.
pub record LeavesOnly {D : Type 0} (moment : D → ℕ) (left_since : D → ℕ → File → Type 0)
    (old new : D) (P : File → Type 0) : Type 0 where
  pub later : moment old ≤ moment new
  pub each : (c : File) → left_since new (moment old) c → P c
