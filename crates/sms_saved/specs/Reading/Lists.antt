-- Lists of which each item is judged by those before it.
use Rattle.std.specs.Prelude.{ℕ, zero, suc, ◌+◌, ◌&&◌, List, [], ◌∷◌, ◌++◌, Option, Some, None, Result, nat_lt, nat_le, if◌then◌else◌, Ok}
use Rattle.std.specs.Int.{w64}
use Rattle.sms_saved.specs.declared.fault.Halt.{Halt}
use Rattle.sms_saved.specs.declared.fault.StateFault.{StateFault}
use Rattle.sms_saved.specs.declared.fault.StateFault.TheVariants.{TooMany, OutOfOrder, Repeated}
use Rattle.sms_saved.specs.declared.state.Remembered.{Remembered}
use Rattle.sms_saved.specs.Value.{SetValue}
use Rattle.sms_saved.specs.Fits.{is_among, set_keys, remembered_keys}
use Rattle.sms_saved.specs.Spelling.{key}
use Rattle.sms_saved.specs.Reading.Fields.{◌>>=◌, Read, stops, number_at}

-- a fault where these octets are left, or else the others
abbrev pub unless : {A : Type 0} → List ℕ → Option StateFault → Result A Halt → Result A Halt
unless bytes None others = others
unless bytes (Some why) others = stops bytes why

-- so many, after those before
unfoldable pub judged_at : {A : Type 0} → (List A → A → Option StateFault)
    → (List ℕ → Read A) → List A → ℕ → List ℕ → Read (List A)
judged_at judge one before zero bytes = Ok (before, bytes)
judged_at judge one before (suc n) bytes = do
  x ← one bytes
  unless bytes (judge before x.0) (judged_at judge one (before ++ x.0 ∷ []) n x.1)

-- a count up to a limit, and so many
unfoldable pub few_judged_at : {A : Type 0} → ℕ → (List A → A → Option StateFault)
    → (List ℕ → Read A) → List ℕ → Read (List A)
few_judged_at most judge one bytes = do
  n ← number_at w64 bytes
  if nat_lt most n.0 then stops bytes TooMany else judged_at judge one [] n.0 n.1

-- the number after that of the last of the sets, or low where there is none
abbrev pub above : ℕ → List SetValue → ℕ
above low [] = low
above low (s ∷ sets) = above (s.opening + 1) sets

-- a number from low on, below the next
unfoldable pub judge_opening : (low next opening : ℕ) → Option StateFault
judge_opening low next opening =
    if nat_le low opening && nat_lt opening next then None else Some OutOfOrder

-- a key that is new
unfoldable pub judge_text : List (List ℕ) → List ℕ → Option StateFault
judge_text texts text = if is_among texts text then Some Repeated else None

abbrev pub first_of : Option StateFault → Option StateFault → Option StateFault
first_of (Some why) other = Some why
first_of None other = other

-- an open set, by the number of the next opening
abbrev pub judge_set : ℕ → List SetValue → SetValue → Option StateFault
judge_set next before s =
    first_of (judge_opening (above 0 before) next s.opening)
    (judge_text (set_keys before) (key s.key))

-- a remembered key, by the keys of the open sets too
abbrev pub judge_key : List (List ℕ) → List Remembered → Remembered → Option StateFault
judge_key of_sets before r = judge_text (of_sets ++ remembered_keys before) (key r.key)
