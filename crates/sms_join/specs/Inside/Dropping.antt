-- A reader may pass this by: contracts of private functions, and proofs, alone cite it.
--
-- Old sets go one by one, and the last set takes the place of each.
use Rattle.std.specs.Prelude.{◌≡◌, ℕ, zero, suc, ◌+◌, ◌≤◌, List, slice_get, Some}
use Rattle.std.specs.List.{swap_remove}
use Rattle.sms_join.specs.declared.age.Age.{Age}
use Rattle.sms_join.specs.OpenSets.{SetValue}

-- the one set goes, which is old
pub record Drops (age : Age) (ss ts : List SetValue) : Type 0 where
  pub index : ℕ
  pub own : SetValue
  pub there : slice_get ss index ≡ Some own
  pub old : own.opened + age.longest ≤ age.now
  pub is : ts ≡ swap_remove ss index own

-- So many go.
abbrev pub DropsMany : Age → ℕ → List SetValue → List SetValue → Type 0
DropsMany age zero ss ts = ss ≡ ts
DropsMany age (suc n) ss ts = (us : List SetValue) × DropsMany age n ss us × Drops age us ts

-- Some go, and of those that stay none is old.
pub record DropsOld (age : Age) (ss ts : List SetValue) : Type 0 where
  pub count : ℕ
  pub many : DropsMany age count ss ts
  pub rest : (i : ℕ) (s : SetValue) → slice_get ts i ≡ Some s → s.opened + age.longest ≤ age.now → ⊥
