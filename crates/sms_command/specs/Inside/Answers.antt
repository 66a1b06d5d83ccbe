-- What is written in answer to a request.
use Rattle.std.specs.Prelude.{◌≡◌, ℕ, List, Option, None, Some, ⊤}
use Rattle.sms_told.specs.declared.form.Form.{Form}
use Rattle.sms_told.specs.declared.form.Form.TheVariants.{Plain, Json}
use Rattle.sms_encode.specs.Drafts.{WritesDraft}
use Rattle.sms_split.specs.Segments.{WritesSegments}
use Rattle.sms_command.specs.declared.words.Joined.{Joined}
use Rattle.sms_command.specs.declared.words.Played.{Played}
use Rattle.sms_command.specs.declared.words.Request.{Request}
use Rattle.sms_command.specs.declared.words.Request.TheVariants.{Chart, Encode, Join, Play, Show, Split}
use Rattle.sms_command.specs.declared.words.StateFile.{StateFile}
use Rattle.sms_command.specs.Inside.Joins.{JoinsLines}
use Rattle.sms_command.specs.Inside.Shows.{WritesShown}
use Rattle.sms_command.specs.Inside.Tellers.{WritesChart, WritesObjects}

-- this holds of the octets that the input has, where they are known
abbrev pub OfInput : Option (List ℕ) → (List ℕ → Type 0) → Type 0
OfInput input P = (octets : List ℕ) → input ≡ Some octets → P octets

-- Of what a transcript tells `sms_world` speaks.
abbrev pub WritesPlayed : Form → Played → (input written written_then : Option (List ℕ)) → Type 0
WritesPlayed Plain asked input written written_then = ⊤
WritesPlayed Json asked input written written_then =
    OfInput input (λ octets. WritesObjects asked octets written written_then)

-- Where a state is kept, `sms_kept` says what is written.
abbrev pub WritesJoined : Option StateFile → (input written written_then : Option (List ℕ))
    → Type 0
WritesJoined (Some state) input written written_then = ⊤
WritesJoined None input written written_then =
    OfInput input (λ octets. JoinsLines octets written written_then)

-- The answer to a request is written, where all is done and nothing was at fault.
abbrev pub Answers : Request → (input written written_then : Option (List ℕ)) → Type 0
Answers (Show shown) input written written_then =
    WritesShown shown.form shown.has_lines input written written_then
Answers Chart input written written_then =
    OfInput input (λ octets. WritesChart octets written written_then)
Answers (Join joined) input written written_then =
    WritesJoined joined.state input written written_then
Answers (Play played) input written written_then =
    WritesPlayed played.form played input written written_then
Answers (Encode draft) input written written_then = WritesDraft draft written written_then
Answers (Split long) input written written_then = WritesSegments long written written_then
