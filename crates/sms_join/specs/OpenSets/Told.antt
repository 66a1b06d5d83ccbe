-- Open sets in the order in which they were opened.
use Rattle.std.specs.Prelude.{◌≡◌, ℕ, suc, ◌+◌, ◌<◌, if◌then◌else◌, not, nat_le, List, [], ◌∷◌, ◌++◌, Option, None, Some}
use Rattle.std.specs.List.{filter}
use Rattle.sms_field.specs.Address.Value.{AddressValue}
use Rattle.sms_join.specs.Key.{recipient_of}
use Rattle.sms_join.specs.OpenSets.{SetValue}

-- Each was opened after the opening of this number.
abbrev pub AreAbove : ℕ → List SetValue → Type 0
AreAbove n [] = Unit {0}
AreAbove n (s ∷ ss) = (n < s.turn) × AreAbove n ss

-- Each was opened before those after it.
abbrev pub RiseInTurn : List SetValue → Type 0
RiseInTurn [] = Unit {0}
RiseInTurn (s ∷ ss) = AreAbove s.turn ss × RiseInTurn ss

-- Each was opened by an opening of a number below this one.
abbrev pub AreUnder : ℕ → List SetValue → Type 0
AreUnder n [] = Unit {0}
AreUnder n (s ∷ ss) = (s.turn < n) × AreUnder n ss

-- Each is of this recipient, or of none.
abbrev pub AreFor : Option AddressValue → List SetValue → Type 0
AreFor r [] = Unit {0}
AreFor r (s ∷ ss) = (recipient_of s.key ≡ r) × AreFor r ss

-- The first set whose number of opening is this one or above.
abbrev pub first_from : ℕ → List SetValue → Option SetValue
first_from n [] = None
first_from n (s ∷ ss) = if nat_le n s.turn then Some s else first_from n ss

-- The sets that were not opened 604,800 seconds before this moment, which are seven days, or earlier.
abbrev pub young_sets : ℕ → List SetValue → List SetValue
young_sets now ss = filter (λ s. not (nat_le (s.opened + 604800) now)) ss

-- The others.
abbrev pub old_sets : ℕ → List SetValue → List SetValue
old_sets now ss = filter (λ s. nat_le (s.opened + 604800) now) ss

-- The same for another number of seconds.
abbrev pub young_after : ℕ → ℕ → List SetValue → List SetValue
young_after longest now ss = filter (λ s. not (nat_le (s.opened + longest) now)) ss

abbrev pub old_after : ℕ → ℕ → List SetValue → List SetValue
old_after longest now ss = filter (λ s. nat_le (s.opened + longest) now) ss

abbrev pub first_of : List SetValue → Option SetValue
first_of [] = None
first_of (s ∷ ss) = Some s

-- From 0 on the first of all is found, and from the number of a set and one more the one that stands
-- after it.
abbrev pub AreWalked : Type 0
AreWalked =
    (ss : List SetValue) → RiseInTurn ss
    → (first_from 0 ss ≡ first_of ss)
    × ((ls rs : List SetValue) (s : SetValue) → ss ≡ ls ++ s ∷ rs
    → first_from (suc s.turn) ss ≡ first_of rs)
