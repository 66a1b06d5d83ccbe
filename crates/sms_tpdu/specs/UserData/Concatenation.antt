-- The concatenation in a user data header (3GPP TS 23.040, 9.2.3.24.1 and 9.2.3.24.8).
use Rattle.std.specs.Prelude.{◌≡◌, ℕ, ◌/◌, ◌%◌, ◌≤◌, List, [], ◌∷◌, ◌++◌, Option, Some, None}
use Rattle.std.specs.List.{AllByRecursion}
use Rattle.sms_tpdu.specs.declared.user_data.concat.Concat.{Concat}
use Rattle.sms_tpdu.specs.declared.user_data.concat.Width.{Width}
use Rattle.sms_tpdu.specs.declared.user_data.concat.Width.TheVariants.{Eight, Sixteen}
use Rattle.sms_tpdu.specs.UserData.Elements.{Element, AreElements}

-- identifier 00 with the reference in one octet; identifier 08 with the reference in two, the high
-- one first
abbrev pub element_for : Width → ℕ → ℕ → ℕ → Element
element_for Eight reference maximum sequence =
    record { identifier = 0; octets = reference ∷ maximum ∷ sequence ∷ [] }
element_for Sixteen reference maximum sequence =
    record { identifier = 8; octets = reference / 256 ∷ reference % 256 ∷ maximum ∷ sequence ∷ [] }

abbrev pub concat_element : Concat → Element
concat_element c = element_for c.width c.reference c.maximum c.sequence

-- the sequence is 1 to the maximum
abbrev pub IsInOrder : Concat → Type 0
IsInOrder c = (1 ≤ c.sequence) × (c.sequence ≤ c.maximum)

-- the element tells the place of a segment
abbrev pub Tells : Element → Concat → Type 0
Tells e c = (e ≡ concat_element c) × IsInOrder c

abbrev pub TellsNone : Element → Type 0
TellsNone e = (c : Concat) → Tells e c → ⊥

abbrev pub ToldBy : Element → Option Concat → Type 0
ToldBy e (Some c) = Tells e c
ToldBy e None = TellsNone e

-- the last element that tells a place tells this one
pub record LastTells (elements : List Element) (c : Concat) : Type 0 where
  pub front : List Element
  pub element : Element
  pub back : List Element
  pub parts : elements ≡ front ++ element ∷ back
  pub tells : Tells element c
  pub others : AllByRecursion TellsNone back

abbrev pub IsLastOf : List Element → Option Concat → Type 0
IsLastOf elements (Some c) = LastTells elements c
IsLastOf elements None = AllByRecursion TellsNone elements

-- the place of a segment that the header tells, if it tells one
pub record IsConcatOf (header : List ℕ) (told : Option Concat) : Type 0 where
  pub elements : List Element
  pub are : AreElements header elements
  pub last : IsLastOf elements told
