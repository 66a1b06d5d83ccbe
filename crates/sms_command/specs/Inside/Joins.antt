-- What becomes of a joiner with a line.
use Rattle.std.specs.Prelude.{◌≡◌, ◌⊎◌, ℕ, List, Option, Some, codes}
use Rattle.std.specs.List.{flat_map}
use Rattle.sms_script.specs.Lines.{lines}
use Rattle.sms_field.specs.Address.Value.{AddressValue}
use Rattle.sms_page.specs.Page.{PageValue, Puts}
use Rattle.sms_told.specs.Sets.{set_text}
use Rattle.sms_feed.specs.Takers.{HandsToOutput}
use Rattle.sms_stream.specs.declared.piece.Piece.{Piece}
use Rattle.sms_stream.specs.Stream.{StreamValue}
use Rattle.sms_stream.specs.Taking.{Takes}
use Rattle.sms_command.specs.declared.joining.Joining.{Joining}

-- a piece of this line is taken
pub record TakesOne (old new : StreamValue) (number : ℕ) (page page_then : PageValue) : Type 0 where
  pub recipient : Option AddressValue
  pub piece : Piece
  pub takes : Takes old new number recipient piece page page_then

-- A piece of the line is taken, or all stays as it was, since the line has none or is at fault.
abbrev pub JoinsLine : StreamValue → StreamValue → ℕ → PageValue → PageValue → Type 0
JoinsLine old new number page page_then =
    TakesOne old new number page page_then ⊎ (new ≡ old)

-- What a line does.
abbrev pub joins : Joining → ℕ → Option (List ℕ) → PageValue → Joining → PageValue → Type 0
joins old number line page new page_then = JoinsLine old.stream new.stream number page page_then

-- What the end does: the sets that are open are told, in order.
abbrev pub ends : Joining → PageValue → Joining → PageValue → Type 0
ends old page new page_then = (new.stream ≡ old.stream) × Puts page page_then
    (flat_map (set_text old.stream.telling.form (codes "open")) old.stream.joiner.told)

-- The lines are joined from some joiner on, each once and in order, and at the end the open sets
-- are told. All that is told is written.
pub record JoinsLines (octets : List ℕ) (written written_then : Option (List ℕ)) : Type 0 where
  pub first : Joining
  pub last : Joining
  pub hands : HandsToOutput joins ends first written (lines octets) last written_then
