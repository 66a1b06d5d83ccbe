-- A reader may pass this by: contracts of private functions, and proofs, alone cite it.
--
-- What reading a part of a line takes from the octets that a source has left, and adds to the line.
use Rattle.std.specs.Prelude.{◌≡◌, ℕ, ◌<◌, ◌≤◌, List, [], ◌∷◌, ◌++◌, length, Option, Result, Ok, Err}
use Rattle.std.specs.Io.KnownBytes.{Consumes, IsAtEnd}
use Rattle.sms_script.specs.Lines.{line_feed, line_limit, HasNoLineFeed}
use Rattle.sms_script.specs.declared.lines.Part.{Part}
use Rattle.sms_script.specs.declared.lines.Part.TheVariants.{More, LineFeed, EndOfSource}

-- octets without a line feed were taken and added
abbrev pub Adds : Option (List ℕ) → Option (List ℕ) → List ℕ → List ℕ → List ℕ → Type 0
Adds old new line longer taken =
    (part : List ℕ) × HasNoLineFeed part × (longer ≡ line ++ part) × (length longer ≤ line_limit)
    × Consumes old new (part ++ taken)

-- what was taken, by what follows
abbrev pub TakesBefore : Option (List ℕ) → Option (List ℕ) → List ℕ → List ℕ → Part → Type 0
TakesBefore old new line longer More =
    Adds old new line longer [] × (length line < length longer)
TakesBefore old new line longer LineFeed = Adds old new line longer (line_feed ∷ [])
TakesBefore old new line longer EndOfSource =
    (longer ≡ line) × Consumes old new [] × IsAtEnd new

abbrev pub TakesPart : {E : Type 0} → Option (List ℕ) → Option (List ℕ) → List ℕ → List ℕ
    → Result Part E → Type 0
TakesPart old new line longer (Ok part) = TakesBefore old new line longer part
TakesPart old new line longer (Err fault) = (longer ≡ line) × Consumes old new []

-- octets that were read were added, but for a line feed at their end
abbrev pub EndsPart : List ℕ → List ℕ → List ℕ → Part → Type 0
EndsPart line longer octets More =
    HasNoLineFeed octets × (longer ≡ line ++ octets) × (0 < length octets)
EndsPart line longer octets LineFeed =
    (part : List ℕ) × HasNoLineFeed part × (octets ≡ part ++ line_feed ∷ [])
    × (longer ≡ line ++ part)
EndsPart line longer octets EndOfSource = (octets ≡ []) × (longer ≡ line)
