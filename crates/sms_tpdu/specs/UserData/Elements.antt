-- The information elements of a user data header (3GPP TS 23.040, 9.2.3.24).
use Rattle.std.specs.Prelude.{◌≡◌, ◌⊎◌, ℕ, List, [], ◌∷◌, length, ◌++◌, Option, Some, None}
use Rattle.std.specs.List.{flat_map}
use Rattle.sms_tpdu.specs.declared.user_data.elements.HeaderElement.{HeaderElement}

pub record Element : Type 0 where
  -- IEI
  pub identifier : ℕ
  -- IED, whose length is IEDL
  pub octets : List ℕ

-- IEI, IEDL, IED
abbrev pub element_octets : Element → List ℕ
element_octets e = e.identifier ∷ length e.octets ∷ e.octets

-- the elements, one after another, are the header
abbrev pub Spells : List Element → List ℕ → Type 0
Spells elements header = flat_map element_octets elements ≡ header

-- the elements of a header: those that spell it; none, where the last one would be cut
abbrev pub AreElements : List ℕ → List Element → Type 0
AreElements header elements =
    Spells elements header
    ⊎ ((elements ≡ []) × ((others : List Element) → Spells others header → ⊥))

-- octets that whole elements spell
pub record AreWhole (left : List ℕ) : Type 0 where
  pub elements : List Element
  pub spelled : Spells elements left

-- what is left at first spells just the elements of the header
pub record StartsAt (header left : List ℕ) : Type 0 where
  pub elements : List Element
  pub are : AreElements header elements
  pub spelled : Spells elements left

-- an element where it lies, as an element
abbrev pub seen_element : HeaderElement → Element
seen_element e = record { identifier = e.identifier; octets = e.octets.now }

-- the next element, as long as octets are left
abbrev pub GivesElement : List ℕ → Option HeaderElement → List ℕ → Type 0
GivesElement left None next = (left ≡ []) × (next ≡ [])
GivesElement left (Some e) next = left ≡ element_octets (seen_element e) ++ next
