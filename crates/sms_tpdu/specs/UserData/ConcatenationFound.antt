-- The place of a segment that a user data header tells, as a function (3GPP TS 23.040, 9.2.3.24.1
-- and 9.2.3.24.8).
use Rattle.std.specs.Prelude.{◌≡◌, ℕ, zero, suc, ◌+◌, ◌*◌, ◌^◌, ◌<◌, ◌≤◌, ◌&&◌, ◌==◌, nat_le, if◌then◌else◌, List, [], ◌∷◌, length, take, drop, Option, Some, None, option_map, option_and_then}
use Rattle.std.specs.Option.{option_or}
use Rattle.sms_text.specs.Octets.{IsOctets}
use Rattle.sms_tpdu.specs.UserData.Concatenation.{IsConcatOf}
use Rattle.sms_tpdu.specs.UserData.Elements.{Element, AreElements}
use Rattle.sms_tpdu.specs.declared.user_data.concat.Concat.{Concat}
use Rattle.sms_tpdu.specs.declared.user_data.concat.Width.{Width}
use Rattle.sms_tpdu.specs.declared.user_data.concat.Width.TheVariants.{Eight, Sixteen}

-- the place, where its sequence is 1 to its maximum
abbrev pub in_order : Concat → Option Concat
in_order c = if nat_le 1 c.sequence && nat_le c.sequence c.maximum then Some c else None

-- the place that an element with this identifier and these octets tells
abbrev pub told_by : ℕ → List ℕ → Option Concat
told_by identifier (reference ∷ maximum ∷ sequence ∷ []) =
    if identifier == 0
    then in_order (record {
      width = Eight;
      reference = reference;
      maximum = maximum;
      sequence = sequence;
    })
    else None
told_by identifier (high ∷ low ∷ maximum ∷ sequence ∷ []) =
    if identifier == 8
    then in_order (record {
      width = Sixteen;
      reference = 256 * high + low;
      maximum = maximum;
      sequence = sequence;
    })
    else None
told_by identifier _ = None

-- the elements that spell these octets, where the last one is whole; the number bounds how many
abbrev pub elements_in : ℕ → List ℕ → Option (List Element)
elements_in n [] = Some []
elements_in n (identifier ∷ []) = None
elements_in zero (identifier ∷ size ∷ after) = None
elements_in (suc n) (identifier ∷ size ∷ after) =
    let element : Element = record { identifier = identifier; octets = take size after } in
    if nat_le size (length after)
    then option_map (λ others. element ∷ others) (elements_in n (drop size after))
    else None

-- the place that the last element that tells one tells
abbrev pub last_told : List Element → Option Concat
last_told [] = None
last_told (e ∷ others) = option_or (last_told others) (told_by e.identifier e.octets)

-- the place that the header of a unit tells, if it has one and that tells one
abbrev pub concat_of_header : Option (List ℕ) → Option Concat
concat_of_header None = None
concat_of_header (Some header) = option_and_then last_told (elements_in (length header) header)

-- the reference is one octet or two, by the width
abbrev pub FitsWidth : Width → ℕ → Type 0
FitsWidth Eight reference = reference < 2 ^ 8
FitsWidth Sixteen reference = reference < 2 ^ 16

-- a place that can be told: a sequence from 1 to the maximum, and a reference of the width
abbrev pub IsPlace : Option Concat → Type 0
IsPlace None = Unit {0}
IsPlace (Some c) = (0 < c.sequence) × (c.sequence ≤ c.maximum) × FitsWidth c.width c.reference

-- ---- laws

-- a header has one list of elements
abbrev pub ElementsAreOne : Type 0
ElementsAreOne =
    (header : List ℕ) (elements others : List Element) → AreElements header elements
    → AreElements header others → others ≡ elements

-- what is computed is the place that the header tells
abbrev pub ConcatIsThere : Type 0
ConcatIsThere =
    (header : List ℕ) → IsOctets header → IsConcatOf header (concat_of_header (Some header))

-- and the only one
abbrev pub ConcatIsOne : Type 0
ConcatIsOne =
    (header : List ℕ) (told : Option Concat) → IsOctets header → IsConcatOf header told
    → told ≡ concat_of_header (Some header)

abbrev pub ConcatIsPlace : Type 0
ConcatIsPlace = (header : List ℕ) → IsOctets header → IsPlace (concat_of_header (Some header))
