-- Why a unit is refused: as another type of unit just where its first octet is that of one (3GPP TS
-- 23.040, 9.2.3.1).
use Rattle.std.specs.Prelude.{◌≡◌, ℕ, List, Result}
use Rattle.sms_text.specs.Octets.{IsOctets}
use Rattle.sms_field.specs.Field.{Field, HasReading}
use Rattle.sms_field.specs.Reading.OneRefusal.{HasOneRefusal}
use Rattle.sms_field.specs.Reading.{IsRefused}
use Rattle.sms_field.specs.Reading.Reasons.{StartsAs}
use Rattle.sms_field.specs.declared.refusal.Refusal.TheVariants.{At}
use Rattle.sms_tpdu.specs.declared.fault.UnitFault.{UnitFault}
use Rattle.sms_tpdu.specs.declared.fault.UnitFault.TheVariants.{Short, WrongType}

-- the octets are refused at a place, for a reason
abbrev pub IsUnitRefused : {V : Type 0} → Field V UnitFault → List ℕ → ℕ → UnitFault → Type 0
IsUnitRefused field octets place why =
    IsRefused field Short octets (At place why)

pub record TellsOtherTypes {V F : Type 0} (field : Field V UnitFault)
    (first : ℕ → Result F UnitFault) : Type 0 where
  -- what is refused as another type begins with the octet of one
  pub other : (octets : List ℕ) (place : ℕ) → IsUnitRefused field octets place WrongType
      → StartsAs first WrongType octets
  -- what is refused for another reason does not, and has no reading
  pub bad : (octets : List ℕ) (place : ℕ) (why : UnitFault) → IsOctets octets
      → (why ≡ WrongType → ⊥) → IsUnitRefused field octets place why
      → (¬ HasReading field octets) × (¬ StartsAs first WrongType octets)
  -- what begins with the octet of another type has no reading
  pub unread : (octets : List ℕ) → StartsAs first WrongType octets
      → ¬ HasReading field octets

-- an input is refused at one place and for one reason
abbrev pub IsRefusedOnce : {V W : Type 0} → W → Field V W → Type 0
IsRefusedOnce short field = HasOneRefusal field short
