-- What stands after a unit to the end of its record (3GPP TS 51.011, 10.5.3).
use Rattle.std.specs.Prelude.{◌≡◌, ℕ, ◌+◌, ◌==◌, List, [], ◌∷◌, length, if◌then◌else◌}
use Rattle.sms_field.specs.Field.{Field, ◌>>=◌, Outcome, found, refused}
use Rattle.sms_field.specs.Field.Mapped.{mapped}
use Rattle.sms_card.specs.declared.fault.RecordFault.{RecordFault}
use Rattle.sms_card.specs.declared.fault.RecordFault.TheVariants.{NotPadding}
use Rattle.sms_card.specs.declared.padding.TheConstants.{PAD}

-- each octet is FF
abbrev pub IsPadding : List ℕ → Type 0
IsPadding [] = Unit {0}
IsPadding (octet ∷ octets) = (octet ≡ PAD) × IsPadding octets

abbrev pub padding_at : ℕ → List ℕ → Outcome (Unit {0}) RecordFault
padding_at at [] = found tt at []
padding_at at (octet ∷ rest) =
    if octet == PAD then padding_at (at + 1) rest else refused at NotPadding

-- FF to the end; another octet: NotPadding
abbrev pub padding : Field (Unit {0}) RecordFault
padding = record {
  reads = λ value octets rest. IsPadding octets × (rest ≡ []);
  reason = λ front octet why. why ≡ NotPadding;
  read = padding_at;
}

-- any octets to the end
abbrev pub anything : Field (Unit {0}) RecordFault
anything = record {
  reads = λ value octets rest. rest ≡ [];
  reason = λ front octet why. ⊥;
  read = λ at input. found tt (at + length input) [];
}

-- a unit, and FF to the end
abbrev pub padded : {V X : Type 0} → (V → X) → Field V RecordFault → Field X RecordFault
padded make unit = do
  value ← unit
  mapped (λ (filled : Unit {0}). make value) padding
