-- An input has one refusal: one place, and one reason.
use Rattle.std.specs.Prelude.{◌≡◌, ℕ, List}
use Rattle.sms_text.specs.Octets.{IsOctets}
use Rattle.sms_field.specs.Field.{Field}
use Rattle.sms_field.specs.Reading.{IsRefused}
use Rattle.sms_field.specs.declared.refusal.Refusal.TheVariants.{At}

abbrev pub HasOneRefusal : {V W : Type 0} → Field V W → W → Type 0
HasOneRefusal {V} {W} field short =
    (input : List ℕ) (place other : ℕ) (why because : W) → IsOctets input
    → IsRefused field short input (At place why) → IsRefused field short input (At other because)
    → (other ≡ place) × (because ≡ why)
