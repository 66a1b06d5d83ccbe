-- What reading one line takes from the octets that a source has left, and gives.
use Rattle.std.specs.Prelude.{◌≡◌, ℕ, ◌+◌, ◌<◌, ◌≤◌, ◌⊎◌, List, [], ◌∷◌, ◌++◌, length, Option, Result, Ok, Err}
use Rattle.std.specs.Io.KnownBytes.{Consumes, IsAtEnd}
use Rattle.sms_script.specs.Lines.{line_feed, line_limit, strip_carriage_return, HasNoLineFeed}
use Rattle.sms_script.specs.declared.lines.LineEnd.{LineEnd}
use Rattle.sms_script.specs.declared.lines.LineEnd.TheVariants.{LineFeed, EndOfSource}
use Rattle.sms_script.specs.declared.lines.LineFault.{LineFault}
use Rattle.sms_script.specs.declared.lines.LineFault.TheVariants.{Read, TooLong, Memory}

-- Whatever follows these octets, the line is longer than a line may be; and no octet before the last
-- one shows it.
pub record IsShownByOctet (raw : List ℕ) : Type 0 where
  pub front : List ℕ
  pub octet : ℕ
  pub last : raw ≡ front ++ octet ∷ []
  pub may_be : length (strip_carriage_return front) ≤ line_limit
  pub longer : line_limit < length (strip_carriage_return raw)

-- No octet shows it, but the end of the source does: a carriage return is left that no line feed
-- follows.
pub record IsShownByEnd (raw : List ℕ) (new : Option (List ℕ)) : Type 0 where
  pub may_be : length (strip_carriage_return raw) ≤ line_limit
  pub longer : line_limit < length raw
  pub ended : IsAtEnd new

-- what was taken shows that the line is longer than a line may be, and nothing was taken after that
abbrev pub ShowsLonger : List ℕ → Option (List ℕ) → Type 0
ShowsLonger raw new = IsShownByOctet raw ⊎ IsShownByEnd raw new

-- What was taken, where raw is of one line, without its line feed. Where memory runs out, that is
-- nothing.
abbrev pub TakesLine : Option (List ℕ) → Option (List ℕ) → List ℕ → List ℕ
    → Result LineEnd LineFault → Type 0
TakesLine old new raw line (Ok LineFeed) =
    Consumes old new (raw ++ line_feed ∷ []) × (line ≡ strip_carriage_return raw)
    × (length line ≤ line_limit)
TakesLine old new raw line (Ok EndOfSource) =
    Consumes old new raw × (line ≡ raw) × (length line ≤ line_limit) × IsAtEnd new
TakesLine old new raw line (Err TooLong) =
    Consumes old new raw × ShowsLonger raw new × (length raw ≤ line_limit + 2)
TakesLine old new raw line (Err Read) = Consumes old new raw × (length raw ≤ line_limit + 1)
TakesLine old new raw line (Err Memory) = Consumes old new []

-- a source with old left was read for a line, and has new left
abbrev pub ReadsLine : Option (List ℕ) → Option (List ℕ) → List ℕ → Result LineEnd LineFault
    → Type 0
ReadsLine old new line result =
    (raw : List ℕ) × HasNoLineFeed raw × TakesLine old new raw line result
