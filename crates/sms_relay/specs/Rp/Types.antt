-- An RP message is refused as of an unknown type just where its first octet names none (3GPP TS
-- 24.011, 8.2.2).
use Rattle.std.specs.Prelude.{◌≡◌, ℕ, List, ◌∷◌}
use Rattle.sms_text.specs.Octets.{IsOctets}
use Rattle.sms_field.specs.Field.{Field, HasReading}
use Rattle.sms_field.specs.Reading.{Reads, IsRefused}
use Rattle.sms_field.specs.Reading.Reasons.{StartsAs}
use Rattle.sms_field.specs.declared.refusal.Refusal.TheVariants.{At}
use Rattle.sms_relay.specs.Rp.Kind.{rp_type}
use Rattle.sms_relay.specs.Rp.{rp_message}
use Rattle.sms_relay.specs.Rp.Value.{RpValue}
use Rattle.sms_relay.specs.declared.fault.RelayFault.{RelayFault}
use Rattle.sms_relay.specs.declared.fault.RelayFault.TheVariants.{Short, UnknownType}

-- the octets are refused at a place, for a reason
abbrev pub IsRelayRefused : {V : Type 0} → Field V RelayFault → List ℕ → ℕ → RelayFault → Type 0
IsRelayRefused field octets place why =
    IsRefused field Short octets (At place why)

-- the first octet names no type of an RP message
abbrev pub NamesNoType : List ℕ → Type 0
NamesNoType octets = StartsAs rp_type UnknownType octets

pub record TellsUnknownTypes : Type 0 where
  -- what is refused as of no known type begins with an octet that names none
  pub unknown : (octets : List ℕ) (place : ℕ) → IsRelayRefused rp_message octets place UnknownType
      → NamesNoType octets
  -- what is refused for another reason does not, and has no reading
  pub bad : (octets : List ℕ) (place : ℕ) (why : RelayFault) → IsOctets octets
      → (why ≡ UnknownType → ⊥) → IsRelayRefused rp_message octets place why
      → (¬ HasReading rp_message octets) × (¬ NamesNoType octets)
  -- what begins with an octet that names no type has no reading
  pub unread : (octets : List ℕ) → NamesNoType octets → ¬ HasReading rp_message octets

-- the reference of an RP message is its second octet
abbrev pub ReferenceIsSecond : Type 0
ReferenceIsSecond =
    (m : RpValue) (first second : ℕ) (rest : List ℕ) (used : ℕ)
    → Reads rp_message m (first ∷ second ∷ rest) used → m.reference ≡ second
