-- What it means that the first octets of an input are read as a value, and that an input is refused.
pub mod Answer
pub mod Lies
pub mod OneRefusal
pub mod Readable
pub mod Reasons
pub mod Spot
pub mod Values
pub mod WholeAnswer
pub mod Written
use Rattle.std.specs.Prelude.{◌≡◌, ℕ, List, ◌++◌, length}
use Rattle.sms_field.specs.declared.refusal.Refusal.{Refusal}
use Rattle.sms_field.specs.declared.refusal.Refusal.TheVariants.{Memory, At}
use Rattle.sms_field.specs.Field.{Field, IsShort, IsFault}

-- the first octets of the input, `used` of them, are read as the value
pub record Reads {V W : Type 0} (field : Field V W) (value : V) (input : List ℕ)
    (used : ℕ) : Type 0 where
  pub octets : List ℕ
  pub rest : List ℕ
  pub parts : input ≡ octets ++ rest
  pub used_is : used ≡ length octets
  pub read : field.reads value octets rest

-- want of memory; or short, where octets are missing; or the reason at the place
abbrev pub IsRefused : {V W : Type 0} → Field V W → W → List ℕ → Refusal W → Type 0
IsRefused field short input Memory = Unit {0}
IsRefused field short input (At place why) =
    (why ≡ short → IsShort short field 0 input place why)
    × ((why ≡ short → ⊥) → IsFault field 0 input place why)
