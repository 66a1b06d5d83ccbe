-- What one read takes from the octets that a source has left, and what writes add to those that a
-- sink has taken.
use Rattle.std.specs.Prelude.{ℕ, ◌≤◌, ◌==◌, ◌&&◌, nat_lt, if◌then◌else◌, List, [], ◌∷◌, length, take, Option, Some, None, Result, Ok, Err}
use Rattle.std.specs.Io.KnownBytes.{Appends, Consumes, Keeps, IsAtEnd}

-- the next octet, or the end; nothing where the read failed
abbrev pub GivesOctet : {E : Type 0} → Option (List ℕ) → Option (List ℕ) → Result (Option ℕ) E
    → Type 0
GivesOctet old new (Ok (Some octet)) = Consumes old new (octet ∷ [])
GivesOctet old new (Ok None) = Consumes old new [] × IsAtEnd new
GivesOctet old new (Err fault) = Keeps old new

-- the sink took a front of the octets
abbrev pub AppendsFront : Option (List ℕ) → Option (List ℕ) → List ℕ → Type 0
AppendsFront old new octets = (n : ℕ) × (n ≤ length octets) × Appends old new (take n octets)

-- how many octets a read gave, by what the reader answered; none where it failed
abbrev pub count_read : {E : Type 0} → Result ℕ E → Option ℕ
count_read (Ok count) = Some count
count_read (Err error) = None

-- How many octets a write took, by what the writer answered and how many there were; none where it
-- failed. To take none of some is to fail.
abbrev pub count_written : {E : Type 0} → Result ℕ E → ℕ → Option ℕ
count_written (Ok count) given = if count == 0 && nat_lt 0 given then None else Some count
count_written (Err error) given = None
