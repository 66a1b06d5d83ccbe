-- What a reader from the front of an input answers, beside what it read.
use Rattle.std.specs.Prelude.{◌≡◌, ℕ, List, Result, MatchResult}
use Rattle.sms_field.specs.declared.refusal.Fault.{Fault}
use Rattle.sms_field.specs.declared.refusal.Refusal.{Refusal}
use Rattle.sms_field.specs.declared.refusal.Refusal.TheVariants.{Memory, At}
use Rattle.sms_field.specs.Field.{Field}
use Rattle.sms_field.specs.Reading.{Reads, IsRefused}

-- an input that has a reading is read as it, or refused for want of memory
abbrev pub ReadsExactly : {V W : Type 0} → Field V W → List ℕ → Result (V × ℕ) (Refusal W) → Type 0
ReadsExactly {V} field input result =
    (v : V) (n : ℕ) → Reads field v input n
    → MatchResult result (λ x. (x.0 ≡ v) × (x.1 ≡ n)) (λ e. e ≡ Memory)

-- ---- readers that take no memory

-- refused as the field says
abbrev pub IsFaultOf : {V W : Type 0} → Field V W → W → List ℕ → Fault W → Type 0
IsFaultOf field short input fault = IsRefused field short input (At fault.place fault.why)

-- an input that has a reading is read as it
abbrev pub SeesExactly : {X V W : Type 0} → (X → V) → Field V W → List ℕ → Result (X × ℕ) (Fault W)
    → Type 0
SeesExactly {X} {V} view field input result =
    (v : V) (n : ℕ) → Reads field v input n
    → MatchResult result (λ x. (view x.0 ≡ v) × (x.1 ≡ n)) (λ _. ⊥)
