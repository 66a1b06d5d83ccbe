-- The whole state, and what the caller is told.
use Rattle.std.specs.Prelude.{◌≡◌, ℕ, zero, suc, ◌-◌, Bool, true, false, ◌&&◌, ◌==◌, List, [], ◌∷◌, length, take, drop, Option, Some, None, Result, Ok, Err, nat_lt, if◌then◌else◌}
use Rattle.std.specs.Int.{w64}
use Rattle.std.specs.Str.{bytes_eq}
use Rattle.sms_saved.specs.declared.fault.Fault.{Fault}
use Rattle.sms_saved.specs.declared.fault.Halt.{Halt}
use Rattle.sms_saved.specs.declared.fault.ReadFault.{ReadFault}
use Rattle.sms_saved.specs.declared.fault.ReadFault.TheVariants as faults
use Rattle.sms_saved.specs.declared.fault.StateFault.TheVariants.{NotAState, Newer, Short, OtherLimits, Trailing, Checksum}
use Rattle.sms_saved.specs.declared.state.Limits.{Limits}
use Rattle.sms_saved.specs.Value.{StateValue}
use Rattle.sms_saved.specs.Fits.{set_keys}
use Rattle.sms_saved.specs.Spelling.{magic, digest}
use Rattle.sms_saved.specs.Reading.Fields.{◌>>=◌, Read, stops, tested_at, number_at, optional_at, flag_at}
use Rattle.sms_saved.specs.Reading.Sets.{set_at, remembered_at}
use Rattle.sms_saved.specs.Reading.Lists.{few_judged_at, judge_set, judge_key}

-- ---- limits: those of the caller

unfoldable pub any_limits_at : List ℕ → Read Limits
any_limits_at bytes = do
  sets ← number_at w64 bytes
  keys ← number_at w64 sets.1
  age_of_sets ← number_at w64 keys.1
  age_of_keys ← optional_at (number_at w64) age_of_sets.1
  passes ← flag_at age_of_keys.1
  Ok (
    record {
      sets = sets.0;
      keys = keys.0;
      age_of_sets = age_of_sets.0;
      age_of_keys = age_of_keys.0;
      passes_singles = passes.0;
    },
    passes.1,
  )

abbrev pub same_flag : Bool → Bool → Bool
same_flag true b = b
same_flag false true = false
same_flag false false = true

abbrev pub same_age : Option ℕ → Option ℕ → Bool
same_age None None = true
same_age None (Some b) = false
same_age (Some a) None = false
same_age (Some a) (Some b) = a == b

unfoldable pub same_limits : Limits → Limits → Bool
same_limits a b =
    a.sets == b.sets && (a.keys == b.keys && (a.age_of_sets == b.age_of_sets
    && (same_age a.age_of_keys b.age_of_keys && same_flag a.passes_singles b.passes_singles)))

abbrev pub limits_at : Limits → List ℕ → Read Limits
limits_at own = tested_at (same_limits own) OtherLimits any_limits_at

-- ---- the whole

unfoldable pub version_at : List ℕ → Result (List ℕ) Halt
version_at [] = stops [] Short
version_at (zero ∷ rest) = stops (zero ∷ rest) NotAState
version_at (suc zero ∷ rest) = Ok rest
version_at (suc (suc v) ∷ rest) = stops (suc (suc v) ∷ rest) (Newer (suc (suc v)))

unfoldable pub head_at : List ℕ → Result (List ℕ) Halt
head_at bytes =
    if nat_lt (length bytes) 8 then stops bytes NotAState
    else (if bytes_eq (take 8 bytes) magic then version_at (drop 8 bytes)
    else stops bytes NotAState)

unfoldable pub body_at : Limits → List ℕ → Read StateValue
body_at own bytes = do
  rest ← head_at bytes
  limits ← limits_at own rest
  taken ← number_at w64 limits.1
  next ← number_at w64 taken.1
  sets ← few_judged_at own.sets (judge_set next.0) set_at next.1
  keys ← few_judged_at own.keys (judge_key (set_keys sets.0)) remembered_at sets.1
  Ok (
    record {
      limits = limits.0;
      taken = taken.0;
      next = next.0;
      sets = sets.0;
      keys = keys.0;
    },
    keys.1,
  )

-- after the body stands its checksum, and nothing more
unfoldable pub sealed_at : List ℕ → StateValue × List ℕ → Result StateValue Halt
sealed_at bytes read =
    if nat_lt (length read.1) 32 then stops read.1 Short
    else (if nat_lt 32 (length read.1) then stops read.1 Trailing
    else (if bytes_eq read.1 (digest (take (length bytes - 32) bytes)) then Ok read.0
    else stops read.1 Checksum))

unfoldable pub state_at : Limits → List ℕ → Result StateValue Halt
state_at own bytes = do
  read ← body_at own bytes
  sealed_at bytes read

-- ---- as the caller sees it: the place of a fault counted from the first octet

abbrev pub placed : {A : Type 0} → ℕ → Result A Halt → Result A Fault
placed all (Ok x) = Ok x
placed all (Err h) = Err (record { place = all - h.left; why = h.why })

abbrev pub FailsSo : {Y : Type 0} → ReadFault → Result Y Fault → Type 0
FailsSo faults.Memory read = Unit {0}
FailsSo (faults.At f) read = read ≡ Err f

-- It is so, unless memory ran out.
abbrev pub Tells : {X Y : Type 0} → (X → Y) → Result X ReadFault → Result Y Fault → Type 0
Tells view (Ok x) read = read ≡ Ok (view x)
Tells view (Err e) read = FailsSo e read
