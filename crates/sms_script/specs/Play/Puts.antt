-- What was put into a sink.
use Rattle.std.specs.Prelude.{◌≡◌, ℕ, List, [], ◌++◌, Bool, true, false, Option, Result, Ok, Err}
use Rattle.std.specs.Io.KnownBytes.{Appends}
use Rattle.sms_script.specs.Lines.{AreLines}
use Rattle.sms_script.specs.declared.fault.PlayFault.{PlayFault}
use Rattle.sms_script.specs.declared.fault.PlayFault.TheVariants as faults

-- some first octets of a text
abbrev pub IsFrontOf : List ℕ → List ℕ → Type 0
IsFrontOf text front = (back : List ℕ) × (text ≡ front ++ back)

-- What of a text was put: all of it; where a write failed, some first octets; where memory ran out,
-- some first lines, each whole.
abbrev pub IsPutOf : List ℕ → List ℕ → Result (Unit {0}) PlayFault → Type 0
IsPutOf text front (Ok done) = front ≡ text
IsPutOf text front (Err faults.Write) = IsFrontOf text front
IsPutOf text front (Err faults.Memory) = IsFrontOf text front × AreLines front
IsPutOf text front (Err _) = ⊥

-- a text was put
abbrev pub Puts : Option (List ℕ) → Option (List ℕ) → List ℕ → Result (Unit {0}) PlayFault → Type 0
Puts old new text result = (front : List ℕ) × IsPutOf text front result × Appends old new front

-- a text was put, of which nothing is put where memory runs out
abbrev pub PutsAtOnce : Option (List ℕ) → Option (List ℕ) → List ℕ → Result (Unit {0}) PlayFault
    → Type 0
PutsAtOnce old new text (Err faults.Memory) = Appends old new []
PutsAtOnce old new text result = Puts old new text result

-- the sink has failed just where a write failed; the only other fault is want of memory
abbrev pub HasFailed : Result (Unit {0}) PlayFault → Bool → Type 0
HasFailed (Ok done) failed = failed ≡ false
HasFailed (Err faults.Write) failed = failed ≡ true
HasFailed (Err faults.Memory) failed = failed ≡ false
HasFailed (Err _) failed = ⊥
