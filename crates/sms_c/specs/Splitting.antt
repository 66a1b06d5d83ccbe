-- The user data of the segments of a text, one after another.
use Rattle.std.specs.Prelude.{◌≡◌, ℕ, ◌+◌, ◌<◌, ◌≤◌, List, [], ◌∷◌, ◌++◌, length, drop}
use Rattle.std.specs.List.{concat, AllByRecursion}
use Rattle.std.specs.Str.{chars}
use Rattle.sms_tpdu.specs.UserData.{SpellsUserData}
use Rattle.sms_tpdu.specs.declared.user_data.concat.Width.{Width}
use Rattle.sms_join.specs.Segments.User.{dcs_of, user_of}
use Rattle.sms_join.specs.Segments.{AreSegments}
use Rattle.sms_join.specs.declared.segment.Segment.{Segment}
use Rattle.sms_c.specs.HandedOut.{ArePut}
use Rattle.sms_c.specs.Parts.{bits_of}
use Rattle.sms_c.specs.declared.parts.Span.{Span}
use Rattle.sms_c.specs.declared.writing.Reference.{Reference}

-- each segment has its octets: TP-UDL, the header that tells its place, and its units
abbrev pub SpellEach : Width → ℕ → List Segment → List (List ℕ) → Type 0
SpellEach width reference [] [] = Unit {0}
SpellEach width reference [] (user ∷ users) = ⊥
SpellEach width reference (segment ∷ segments) [] = ⊥
SpellEach width reference (segment ∷ segments) (user ∷ users) =
    SpellsUserData (user_of width reference segment) user
    × SpellEach width reference segments users

-- where each lies of those that stand one after another from a place on
abbrev pub spans_from : ℕ → List (List ℕ) → List Span
spans_from place [] = []
spans_from place (user ∷ users) =
    record { offset = place; length = length user } ∷ spans_from (place + length user) users

-- the octets of all, one after another, and where each lies in them
pub record AreUsers (width : Width) (reference : ℕ) (segments : List Segment) (octets : List ℕ)
    (spans : List Span) : Type 0 where
  pub users : List (List ℕ)
  pub spelled : SpellEach width reference segments users
  pub joined : octets ≡ concat users
  pub lie : spans ≡ spans_from 0 users

-- the TP-DCS of the first
abbrev pub first_scheme : List Segment → ℕ
first_scheme [] = 0
first_scheme (segment ∷ segments) = dcs_of segment.units

-- what becomes of the segments of a text that is cut into so many, at most 255 (3GPP TS 23.040,
-- 9.2.3.24.1), whose TP-DCS is that of each
pub record OfSplit (reference : Reference) (text : List ℕ) (count dcs : ℕ)
    (Out : List ℕ → List Span → Type 0) : Type 0 where
  pub width : Width
  pub width_is : reference.width ≡ bits_of width
  pub segments : List Segment
  pub cut : AreSegments width (chars text) segments
  pub counted : count ≡ length segments
  pub few : count ≤ 255
  pub coded : AllByRecursion (λ segment. dcs ≡ dcs_of segment.units) segments
  pub octets : List ℕ
  pub spans : List Span
  pub users : AreUsers width reference.reference segments octets spans
  pub out : Out octets spans

-- octets and spans stand at the front of what had room for them; the rest is as it was
pub record BothArePut (before after : List ℕ) (needed : ℕ) (spans_before spans_after : List Span)
    (octets : List ℕ) (spans : List Span) : Type 0 where
  pub put : ArePut before after needed octets
  pub room : length spans ≤ length spans_before
  pub written : spans_after ≡ spans ++ drop (length spans) spans_before

-- octets or spans have no room; nothing is written, and it is told how many octets there are
pub record OneLacksRoom (before after : List ℕ) (needed : ℕ) (spans_before spans_after : List Span)
    (octets : List ℕ) (spans : List Span) : Type 0 where
  pub long : length octets ≤ length before → length spans_before < length spans
  pub same : after ≡ before
  pub same_spans : spans_after ≡ spans_before
  pub counted : needed ≡ length octets
