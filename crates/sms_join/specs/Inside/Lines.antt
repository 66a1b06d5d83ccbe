-- A reader may pass this by: contracts of private functions, and proofs, alone cite it.
--
-- The line of openings in which open sets are found in the order in which they were opened.
use Rattle.std.specs.Prelude.{◌≡◌, ℕ, zero, suc, ◌-◌, ◌<◌, ◌≤◌, ◌⊎◌, Bool, false, if◌then◌else◌, ◌==◌, List, [], ◌∷◌, drop, slice_get, Option, None, Some}
use Rattle.sms_join.specs.declared.key.Key.{Key}
use Rattle.sms_join.specs.declared.line.Opening.{Opening}
use Rattle.sms_join.specs.OpenSets.{SetValue}
use Rattle.sms_join.specs.Inside.Slots.{SlotValue}
use Rattle.sms_join.specs.Inside.Turns.{HaveTurns}

-- Each opening came after that of this number.
abbrev pub AreAfter : ℕ → List Opening → Type 0
AreAfter n [] = Unit {0}
AreAfter n (o ∷ os) = (n < o.turn) × AreAfter n os

-- Each came after those ahead of it.
abbrev pub Climbs : List Opening → Type 0
Climbs [] = Unit {0}
Climbs (o ∷ os) = AreAfter o.turn os × Climbs os

-- Each came before that of this number.
abbrev pub AreUnder : ℕ → List Opening → Type 0
AreUnder n [] = Unit {0}
AreUnder n (o ∷ os) = (o.turn < n) × AreUnder n os

-- None came before that of this number.
abbrev pub AreFrom : ℕ → List Opening → Type 0
AreFrom n [] = Unit {0}
AreFrom n (o ∷ os) = (n ≤ o.turn) × AreFrom n os

-- Those ahead of this place, and none after, came before that of this number.
abbrev pub Splits : ℕ → ℕ → List Opening → Type 0
Splits n zero os = AreFrom n os
Splits n (suc p) [] = ⊥
Splits n (suc p) (o ∷ os) = (o.turn < n) × Splits n p os

abbrev pub IsNoted : Opening → List Opening → Type 0
IsNoted o [] = ⊥
IsNoted o (p ∷ ps) = (p ≡ o) ⊎ IsNoted o ps

-- For the opening of this number, the set lies at this index.
abbrev pub noted : ℕ → ℕ → List Opening → List Opening
noted n i [] = []
noted n i (o ∷ os) = (if o.turn == n then record { turn = n; index = i } else o) ∷ noted n i os

-- the same for the set that lies at this index now, where there is one
abbrev pub noted_at : Option SetValue → ℕ → List Opening → List Opening
noted_at None i os = os
noted_at (Some s) i os = noted s.turn i os

-- It is a set, and of this opening.
abbrev pub has_number : Option SetValue → ℕ → Bool
has_number None n = false
has_number (Some s) n = s.turn == n

-- The set of the opening lies where it was noted.
abbrev pub lies : List SetValue → Opening → Bool
lies ss o = has_number (slice_get ss o.index) o.turn

-- The set, where it is of this opening, ahead of these.
abbrev pub of_number : Option SetValue → ℕ → List SetValue → List SetValue
of_number None n rest = rest
of_number (Some s) n rest = if s.turn == n then s ∷ rest else rest

-- the sets that lie where they were noted, one after another as they were opened
abbrev pub walked : List SetValue → List Opening → List SetValue
walked ss [] = []
walked ss (o ∷ os) = of_number (slice_get ss o.index) o.turn (walked ss os)

-- the same from this place of the line on, and none where there is no place
abbrev pub walked_at : List SetValue → List Opening → Option ℕ → List SetValue
walked_at ss os None = []
walked_at ss os (Some p) = walked ss (drop p os)

-- Each set for which this holds is noted.
abbrev pub AreNoted : (SetValue → Type 0) → List SetValue → List Opening → Type 0
AreNoted P ss os =
    (i : ℕ) (s : SetValue) → slice_get ss i ≡ Some s → P s → IsNoted (record { turn = s.turn; index = i }) os

-- Each set is noted, and some openings are whose sets have gone.
pub record InLine (t : ℕ) (os : List Opening) (ss : List SetValue) : Type 0 where
  pub climbs : Climbs os
  pub under : AreUnder t os
  pub each : AreNoted (λ s. Unit {0}) ss os
  pub turns : HaveTurns t ss

-- The opening of each set stands in the line at the seat that the set has, and says at which index the set lies. The first opening
-- stands at this seat, and those after it at the seats that follow.
abbrev pub AreSeated : ℕ → List Opening → List (Key × SlotValue) → Type 0
AreSeated front os es =
    (i : ℕ) (e : Key × SlotValue) → slice_get es i ≡ Some e
    → (front ≤ e.1.seat) × (slice_get os (e.1.seat - front) ≡ Some (record { turn = e.1.turn; index = i }))

-- No set was opened at an earlier moment than one before it, and none after this moment.
pub record AreInTime (latest : ℕ) (ss : List SetValue) : Type 0 where
  pub past : (i : ℕ) (s : SetValue) → slice_get ss i ≡ Some s → s.opened ≤ latest
  pub order : (i j : ℕ) (s t : SetValue) → slice_get ss i ≡ Some s → slice_get ss j ≡ Some t → s.turn < t.turn
      → s.opened ≤ t.opened

-- No set was opened before this moment.
abbrev pub AreSince : ℕ → List SetValue → Type 0
AreSince n ss = (i : ℕ) (s : SetValue) → slice_get ss i ≡ Some s → n ≤ s.opened
