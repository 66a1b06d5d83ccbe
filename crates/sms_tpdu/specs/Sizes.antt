-- How long a unit is as it is written, and that each value can be written.
use Rattle.std.specs.Prelude.{ℕ, ◌≤◌, List, length}

-- the longest of a message and its reports is an SMS-SUBMIT-REPORT under an error, with all its
-- parts and 159 octets of data
abbrev pub greatest_size : ℕ
greatest_size = 172

-- an SMS-STATUS-REPORT has an address and a stamp more than a report on a submission
abbrev pub greatest_status_size : ℕ
greatest_status_size = 192

-- an SMS-COMMAND has at most 157 octets of data
abbrev pub greatest_command_size : ℕ
greatest_command_size = 175

-- what is written has at most this number of octets
abbrev pub IsWithin : {V : Type 0} → ℕ → (V → List ℕ → Type 0) → Type 0
IsWithin {V} limit spells =
    (value : V) (octets : List ℕ) → spells value octets → length octets ≤ limit

-- each value of these has a spelling
abbrev pub HasEachSpelling : {V : Type 0} → (V → Type 0) → (V → List ℕ → Type 0) → Type 0
HasEachSpelling {V} is spells = (value : V) → is value → (octets : List ℕ) × spells value octets
