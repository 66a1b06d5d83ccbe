-- Fields of any kind.
use Rattle.std.specs.Prelude.{◌≡◌, ℕ, zero, suc, Bool, true, false, List, [], ◌∷◌, length, take, drop, Option, Some, None, Result, Ok, Err, nat_lt, if◌then◌else◌}
use Rattle.std.specs.Int.{Width, w64, byte_len, from_be_bytes}
use Rattle.sms_saved.specs.declared.fault.Halt.{Halt}
use Rattle.sms_saved.specs.declared.fault.StateFault.{StateFault}
use Rattle.sms_saved.specs.declared.fault.StateFault.TheVariants.{Short, Flag}
use Rattle.sms_saved.specs.declared.fault.Stop.{Stop}
use Rattle.sms_saved.specs.declared.fault.Stop.TheVariants as stops_at

infixl 10 ◌>>=◌
abbrev pub ◌>>=◌ : {A B : Type 0} → Result A Halt → (A → Result B Halt) → Result B Halt
(Ok x) >>= f = f x
(Err e) >>= f = Err e

-- What a function returned, seen by view, is what reading gives, unless memory ran out.
abbrev pub Fails : {Y : Type 0} → Stop → Result Y Halt → Type 0
Fails stops_at.Memory read = Unit {0}
Fails (stops_at.At h) read = read ≡ Err h

abbrev pub Gives : {X Y : Type 0} → (X → Y) → Result X Stop → Result Y Halt → Type 0
Gives view (Ok x) read = read ≡ Ok (view x)
Gives view (Err e) read = Fails e read

-- Memory never runs out.
abbrev pub IsHalt : Stop → Type 0
IsHalt stops_at.Memory = ⊥
IsHalt (stops_at.At h) = Unit {0}

-- a value and the octets after it
abbrev pub Read : Type 0 → Type 0
Read A = Result (A × List ℕ) Halt

-- a fault where these octets are left
abbrev pub stops : {A : Type 0} → List ℕ → StateFault → Result A Halt
stops rest why = Err (record { left = length rest; why = why })

-- a field that has to pass a test
unfoldable pub tested_at : {A : Type 0} → (A → Bool) → StateFault → (List ℕ → Read A) → List ℕ
    → Read A
tested_at test why one bytes = do
  x ← one bytes
  if test x.0 then Ok x else stops bytes why

abbrev pub octet_at : List ℕ → Read ℕ
octet_at [] = stops [] Short
octet_at (n ∷ rest) = Ok (n, rest)

abbrev pub number_at : Width → List ℕ → Read ℕ
number_at w bytes =
    if nat_lt (length bytes) (byte_len w) then stops bytes Short
    else Ok (from_be_bytes w (take (byte_len w) bytes), drop (byte_len w) bytes)

-- as many octets as this
abbrev pub octets_at : ℕ → List ℕ → Read (List ℕ)
octets_at n bytes =
    if nat_lt (length bytes) n then stops bytes Short else Ok (take n bytes, drop n bytes)

-- as many octets as a number before them says
unfoldable pub string_at : (List ℕ → Read ℕ) → List ℕ → Read (List ℕ)
string_at number bytes = do
  n ← number bytes
  if nat_lt (length n.1) n.0 then stops bytes Short else Ok (take n.0 n.1, drop n.0 n.1)

unfoldable pub optional_at : {A : Type 0} → (List ℕ → Read A) → List ℕ → Read (Option A)
optional_at one [] = stops [] Short
optional_at one (zero ∷ rest) = Ok (None, rest)
optional_at one (suc zero ∷ rest) = do
  x ← one rest
  Ok (Some x.0, x.1)
optional_at one (suc (suc b) ∷ rest) = stops (suc (suc b) ∷ rest) Flag

unfoldable pub flag_at : List ℕ → Read Bool
flag_at [] = stops [] Short
flag_at (zero ∷ rest) = Ok (false, rest)
flag_at (suc zero ∷ rest) = Ok (true, rest)
flag_at (suc (suc b) ∷ rest) = stops (suc (suc b) ∷ rest) Flag

-- so many, one after the other
unfoldable pub items_at : {A : Type 0} → (List ℕ → Read A) → ℕ → List ℕ → Read (List A)
items_at one zero bytes = Ok ([], bytes)
items_at one (suc n) bytes = do
  first ← one bytes
  others ← items_at one n first.1
  Ok (first.0 ∷ others.0, others.1)

-- as many as a number before them says
unfoldable pub counted_at : {A : Type 0} → (List ℕ → Read A) → List ℕ → Read (List A)
counted_at one bytes = do
  n ← number_at w64 bytes
  items_at one n.0 n.1
