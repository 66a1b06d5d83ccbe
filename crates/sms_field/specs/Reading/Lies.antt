-- Where a part lies in the octets of an input.
use Rattle.std.proofs.Common.{◌≡◌, ℕ, List, take, drop}
use Rattle.sms_field.specs.Field.{Field}
use Rattle.sms_field.specs.Reading.{Reads}
use Rattle.sms_field.specs.declared.span.Span.{Span}

-- the octets of a span
abbrev pub octets_at : List ℕ → Span → List ℕ
octets_at input span = take span.length (drop span.offset input)

-- the octets of the span, all of them, are read as the value
abbrev pub LiesAt : {V W : Type 0} → Field V W → V → List ℕ → Span → Type 0
LiesAt field value input span = Reads field value (octets_at input span) span.length

-- what is read at the front of the input takes this number of octets
abbrev pub TakesOctets : {V W : Type 0} → Field V W → List ℕ → ℕ → Type 0
TakesOctets {V} field input count = (value : V) (used : ℕ) → Reads field value input used → count ≡ used
