-- What a reader returned, against what is read.
use Rattle.std.specs.Prelude.{◌≡◌, ℕ, ◌⊎◌, List, Result, Ok, Err}
use Rattle.sms_field.specs.declared.refusal.Fault.{Fault}
use Rattle.sms_field.specs.declared.refusal.Refusal.{Refusal}
use Rattle.sms_field.specs.declared.refusal.Refusal.TheVariants.{Memory, At}
use Rattle.sms_field.specs.Field.{Outcome, found, refused, Field, octet_at}
use Rattle.sms_field.specs.Reading.Spot.{Spot}

-- want of memory is no answer
abbrev pub Refuses : {V W : Type 0} → Refusal W → Outcome V W → Type 0
Refuses Memory outcome = Unit {0}
Refuses (At place why) outcome = outcome ≡ refused place why

-- what a reader returned, seen by view, and the place and the octets that it left, are this outcome
abbrev pub IsOutcome : {X V W : Type 0} → (X → V) → Result X (Refusal W) → ℕ → List ℕ → Outcome V W
    → Type 0
IsOutcome view (Ok x) place rest outcome = outcome ≡ found (view x) place rest
IsOutcome view (Err e) place rest outcome = Refuses e outcome

-- by this field a reader took a value at a spot and stands at the next one, or was refused
abbrev pub Takes : {V W : Type 0} → Field V W → Spot → Result V (Refusal W) → Spot → Type 0
Takes field here result next =
    IsOutcome (λ v. v) result next.place next.rest (field.read here.place here.rest)

-- ---- readers that take no memory

-- what a reader returned, and where it stands then, are just what the field reads here
abbrev pub SeesAs : {X V W : Type 0} → (X → V) → Field V W → Spot → Result X (Fault W) → Spot
    → Type 0
SeesAs view field here (Ok x) next =
    field.read here.place here.rest ≡ found (view x) next.place next.rest
SeesAs view field here (Err fault) next =
    field.read here.place here.rest ≡ refused fault.place fault.why

abbrev pub Sees : {V W : Type 0} → Field V W → Spot → Result V (Fault W) → Spot → Type 0
Sees field here result next = SeesAs (λ v. v) field here result next

-- what a test of the next octet answered; or there was no octet
abbrev pub SeesBy : {V W : Type 0} → W → (ℕ → Result V W → Type 0) → Spot → Result V (Fault W)
    → Spot → Type 0
SeesBy short test here (Ok v) next =
    (o : ℕ) × (octet_at short here.place here.rest ≡ found o next.place next.rest) × test o (Ok v)
SeesBy short test here (Err fault) next =
    (octet_at short here.place here.rest ≡ refused fault.place fault.why)
    ⊎ ((o : ℕ) × (octet_at short here.place here.rest ≡ found o next.place next.rest)
    × (fault.place ≡ here.place) × test o (Err fault.why))
