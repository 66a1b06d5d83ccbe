-- Whether what C says of octets fits them, and what it is told of a text that lies there.
use Rattle.std.specs.Prelude.{◌≡◌, ◌≢◌, ◌<◌, ◌≤◌, ◌⊎◌, ℕ, ◌+◌, ◌*◌, List, length}
use Rattle.sms_field.specs.Address.{address}
use Rattle.sms_field.specs.Address.Value.{AddressValue}
use Rattle.sms_field.specs.Reading.{Reads}
use Rattle.sms_c.specs.Parts.{octets_at}
use Rattle.sms_c.specs.declared.parts.Span.{Span}
use Rattle.sms_c.specs.declared.parts.UserSeen.{UserSeen}

-- the answer has room, or memory ran out, or it has none
abbrev pub IsAnswered : ℕ → Type 0
IsAnswered status = (status ≡ 0) ⊎ (status ≡ 2) ⊎ (status ≡ 3)

-- ---- spans

abbrev pub EndsWithin : List ℕ → Span → Type 0
EndsWithin octets span = span.offset + span.length ≤ length octets

abbrev pub EndsBeyond : List ℕ → Span → Type 0
EndsBeyond octets span = length octets < span.offset + span.length

-- ---- addresses

-- at the front of octets no address is read
pub record HoldNoAddress (octets : List ℕ) : Type 0 where
  pub none : (value : AddressValue) (used : ℕ) → Reads address value octets used → ⊥

-- the span lies in the octets, and no address at its front
abbrev pub IsAtNoAddress : List ℕ → Span → Type 0
IsAtNoAddress octets span = EndsWithin octets span × HoldNoAddress (octets_at octets span)

-- ---- user data

-- before the first septet are up to 6 bits, and all septets lie in so many octets
abbrev pub HasSeptets : ℕ → ℕ → ℕ → Type 0
HasSeptets size fill count = (fill < 7) × (fill + 7 * count ≤ 8 * size)

-- what is no septets of the default alphabet is not counted
abbrev pub FitsUser : List ℕ → UserSeen → Type 0
FitsUser octets user =
    EndsWithin octets user.body
    × (user.alphabet ≡ 0 → HasSeptets user.body.length user.fill user.count)

-- they lie in the octets, and are neither septets of the default alphabet nor UCS-2
abbrev pub HasNoText : List ℕ → UserSeen → Type 0
HasNoText octets user =
    EndsWithin octets user.body × (user.alphabet ≢ 0) × (user.alphabet ≢ 2)
