-- What has a reading and what has none: what a lawful field promises of each input of octets.
use Rattle.std.specs.Prelude.{◌≡◌, ℕ, ◌⊎◌, List}
use Rattle.sms_text.specs.Octets.{IsOctets}
use Rattle.sms_field.specs.Field.{Field, HasReading}
use Rattle.sms_field.specs.Reading.{Reads, IsRefused}
use Rattle.sms_field.specs.declared.refusal.Refusal.TheVariants.{At}

-- an input of octets has a reading, or it has none
abbrev pub IsDecided : {V W : Type 0} → Field V W → Type 0
IsDecided f = (input : List ℕ) → IsOctets input → HasReading f input ⊎ ¬ HasReading f input

-- what is refused at a place has no reading
abbrev pub IsUnread : {V W : Type 0} → Field V W → W → Type 0
IsUnread {V} {W} f short =
    (input : List ℕ) (place : ℕ) (why : W) → IsOctets input
    → IsRefused f short input (At place why) → ¬ HasReading f input

-- a value and the octets that it took are the only ones
abbrev pub HasOneReading : {V W : Type 0} → Field V W → Type 0
HasOneReading {V} f =
    (v w : V) (input : List ℕ) (m n : ℕ) → IsOctets input
    → Reads f v input m → Reads f w input n → (w ≡ v) × (n ≡ m)
