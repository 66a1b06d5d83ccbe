-- What the segments of a text are written as (3GPP TS 23.040, 9.2.3.24).
use Rattle.std.specs.Prelude.{ℕ, List, [], ◌∷◌}
use Rattle.sms_tpdu.specs.declared.user_data.concat.Width.{Width}
use Rattle.sms_tpdu.specs.UserData.{SpellsUserData}
use Rattle.sms_join.specs.declared.segment.Segment.{Segment}
use Rattle.sms_join.specs.Segments.User.{user_of}

-- Each segment has its octets, which spell its user data; the order is the same.
abbrev pub AreUsersOf : Width → ℕ → List Segment → List (List ℕ) → Type 0
AreUsersOf width reference [] [] = Unit {0}
AreUsersOf width reference (segment ∷ segments) (octets ∷ others) =
    SpellsUserData (user_of width reference segment) octets
    × AreUsersOf width reference segments others
AreUsersOf width reference [] (octets ∷ others) = ⊥
AreUsersOf width reference (segment ∷ segments) [] = ⊥
