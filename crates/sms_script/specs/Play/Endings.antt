-- The ways in which playing a script ends. The source had old left and has new left; the sink had
-- taken before and has taken now.
use Rattle.std.specs.Prelude.{◌≡◌, ℕ, ◌+◌, ◌<◌, ◌≤◌, ◌⊎◌, List, [], ◌∷◌, ◌++◌, length, Option, Some, None, Result}
use Rattle.std.specs.Io.KnownBytes.{Appends, Consumes, IsAtEnd}
use Rattle.sms_script.specs.Lines.{lines, line_feed, line_limit, strip_carriage_return, HasNoLineFeed, AreWhole}
use Rattle.sms_script.specs.Lines.Reading.{ShowsLonger}
use Rattle.sms_script.specs.Meaning.Memory.{MayRunOut}
use Rattle.sms_script.specs.Play.Network.{Conduct}
use Rattle.sms_script.specs.Play.Played.{Played, LinesPlayed, told, told_in_the_end, told_of}
use Rattle.sms_script.specs.Play.Puts.{IsPutOf}
use Rattle.sms_script.specs.Script.{lines_limit, script_of}
use Rattle.sms_script.specs.Transcript.{Happened}
use Rattle.sms_script.specs.declared.fault.PlayFault.{PlayFault}
use Rattle.sms_script.specs.declared.fault.PlayFault.TheVariants as faults
use Rattle.sms_script.specs.declared.fault.ScriptFault.{ScriptFault}
use Rattle.sms_script.specs.declared.fault.ScriptFault.TheVariants as reasons

-- a line with its line feed, not too long
pub record IsFedLine (rest : List ℕ) : Type 0 where
  pub raw : List ℕ
  pub no_feed : HasNoLineFeed raw
  pub fed : rest ≡ raw ++ line_feed ∷ []
  pub short : length (strip_carriage_return raw) ≤ line_limit

-- the last line of the source, without a line feed, not too long
pub record IsLastLine (rest : List ℕ) (new : Option (List ℕ)) : Type 0 where
  pub no_feed : HasNoLineFeed rest
  pub short : length rest ≤ line_limit
  pub ended : IsAtEnd new

-- no more than one line
abbrev pub IsOneLine : List ℕ → Option (List ℕ) → Type 0
IsOneLine rest new = IsFedLine rest ⊎ IsLastLine rest new

-- octets of a line that was not read to its end
pub record IsPartOfLine (rest : List ℕ) : Type 0 where
  pub no_feed : HasNoLineFeed rest
  pub few : length rest ≤ line_limit + 1

-- a line may come after these whole lines, and it was read
pub record IsNextLine (whole rest : List ℕ) (new : Option (List ℕ)) : Type 0 where
  pub few : (script_of (lines whole)).settings.lines < lines_limit
  pub one : IsOneLine rest new

-- Of a line too many its first octet was read; of one that is too long no octet after the one that
-- shows it.
abbrev pub IsCutOff : ScriptFault → List ℕ → Option (List ℕ) → Type 0
IsCutOff reasons.TooManyLines rest new = (octet : ℕ) × (rest ≡ octet ∷ [])
IsCutOff reasons.LineTooLong rest new = HasNoLineFeed rest × ShowsLonger rest new
IsCutOff _ rest new = ⊥

-- After whole lines one more was read, for which memory may run out: a phone, an event, or a text
-- typed to a bad name. No other fault is told so, nor one of an address that is a number.
pub record IsRunOut (whole rest : List ℕ) (new : Option (List ℕ)) : Type 0 where
  pub one : IsNextLine whole rest new
  pub line : List ℕ
  pub is_line : lines (whole ++ rest) ≡ lines whole ++ line ∷ []
  pub may : MayRunOut (script_of (lines whole)).settings.known line

-- What was read of the line in which playing ended, after whole lines: of a line at fault no octet
-- after the one that shows the fault, or the whole line; where memory ran out, nothing, or the
-- whole line.
abbrev pub IsUnplayed : PlayFault → List ℕ → List ℕ → Option (List ℕ) → Type 0
IsUnplayed (faults.Script n why) whole rest new =
    ((script_of (lines (whole ++ rest))).fault ≡ Some (n, why))
    × (IsNextLine whole rest new ⊎ IsCutOff why rest new)
IsUnplayed faults.Read whole rest new = IsPartOfLine rest
IsUnplayed faults.Memory whole rest new = (rest ≡ []) ⊎ IsRunOut whole rest new
IsUnplayed faults.Write whole rest new = ⊥

-- Whole lines were read, and played; then some of one more line was read, and it was not played.
-- Just the lines of the events before it were written.
pub record StopsInLine {N : Type 0} (c : Conduct N) (old new before now : Option (List ℕ))
    (fault : PlayFault) : Type 0 where
  pub whole : List ℕ
  pub rest : List ℕ
  pub are_whole : AreWhole whole
  pub taken : Consumes old new (whole ++ rest)
  pub unplayed : IsUnplayed fault whole rest new
  pub played : LinesPlayed c (lines whole)
  pub wrote : Appends before now (told_of (lines whole) played)

-- Whole lines were read, and played, and after them a line with an event, which happened. The lines
-- of the events before it were written, and a front of its own, of which a write failed.
pub record StopsInEvent {N : Type 0} (c : Conduct N) (old new before now : Option (List ℕ))
    : Type 0 where
  pub whole : List ℕ
  pub rest : List ℕ
  pub are_whole : AreWhole whole
  pub taken : Consumes old new (whole ++ rest)
  pub one : IsOneLine rest new
  pub faultless : (script_of (lines (whole ++ rest))).fault ≡ None
  pub played : LinesPlayed c (lines whole)
  pub last : Happened
  pub network : N
  pub happened : Played c (script_of (lines (whole ++ rest))) (played.happened ++ last ∷ []) (Some network)
  pub front : List ℕ
  pub back : List ℕ
  pub told_is :
      told (script_of (lines (whole ++ rest))).settings (played.happened ++ last ∷ [])
      ≡ told_of (lines whole) played ++ (front ++ back)
  pub wrote : Appends before now (told_of (lines whole) played ++ front)

-- The source has told its end, none of the lines is an event, and memory ran out before the network
-- began. Nothing was written.
pub record StopsUnbegun (old new before now : Option (List ℕ)) : Type 0 where
  pub read : List ℕ
  pub taken : Consumes old new read
  pub ended : IsAtEnd new
  pub faultless : (script_of (lines read)).fault ≡ None
  pub no_events : (script_of (lines read)).events ≡ []
  pub wrote : Appends before now []

-- The source has told its end. All lines were read, and played; the lines of the events were
-- written, and of the lines of the phones what this result says.
pub record PlaysToEnd {N : Type 0} (c : Conduct N) (old new before now : Option (List ℕ))
    (result : Result (Unit {0}) PlayFault) : Type 0 where
  pub read : List ℕ
  pub taken : Consumes old new read
  pub ended : IsAtEnd new
  pub faultless : (script_of (lines read)).fault ≡ None
  pub happened : List Happened
  pub network : N
  pub played : Played c (script_of (lines read)) happened (Some network)
  pub front : List ℕ
  pub told_is : IsPutOf (told_in_the_end (script_of (lines read)).settings (c.ends network)) front result
  pub wrote : Appends before now (told (script_of (lines read)).settings happened ++ front)
