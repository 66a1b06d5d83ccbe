-- What takers do with lines, and with the page on which they tell of them.
use Rattle.std.specs.Prelude.{◌≡◌, ◌⊎◌, ℕ, true, false, List, [], ◌∷◌, length, take, Option, None, Some, MatchBool}
use Rattle.std.specs.Str.{IsTrimAscii}
use Rattle.std.specs.Io.KnownBytes.{Appends}
use Rattle.sms_page.specs.Page.{PageValue}
use Rattle.sms_feed.specs.Lines.{few, next_number}
use Rattle.sms_feed.specs.Shown.{Stays}
use Rattle.sms_feed.specs.Units.{is_nothing}

-- What a taker does with a line, by its number and its octets, or none where these are too many:
-- how it and the page stand before and after.
abbrev pub Takes : Type 0 → Type 1
Takes T = T → ℕ → Option (List ℕ) → PageValue → T → PageValue → Type 0

-- A line that is too long is handed on without its octets; another one without the blanks around
-- it, or passed over where it has no unit.
abbrev pub Hands : {T : Type 0} → Takes T → T → ℕ → Option (List ℕ) → PageValue → T → PageValue
    → Type 0
Hands takes old number None page new page_then = takes old number None page new page_then
Hands takes old number (Some line) page new page_then =
    (unit : List ℕ) × IsTrimAscii line unit
    × MatchBool (is_nothing unit) ((new ≡ old) × (page_then ≡ page))
    (takes old number (Some unit) page new page_then)

-- A taker, what was written, and the page.
pub record Standing (T : Type 0) : Type 0 where
  pub taker : T
  pub written : Option (List ℕ)
  pub page : PageValue

-- The line is handed on once. Before and after it what stands on the page may be written.
pub record HandsOnce {T : Type 0} (takes : Takes T) (old : Standing T) (number : ℕ)
    (line : Option (List ℕ)) (new : Standing T) : Type 0 where
  pub written : Option (List ℕ)
  pub page : PageValue
  pub before : Stays old.written old.page written page
  pub page_then : PageValue
  pub hands : Hands takes old.taker number line page new.taker page_then
  pub after : Stays written page_then new.written new.page

-- Memory runs out for what is told of the line, and had not before: the page goes back to where it
-- was and is written, and the line is handed on once more.
pub record HandsAgain {T : Type 0} (takes : Takes T) (old : Standing T) (number : ℕ)
    (line : Option (List ℕ)) (new : Standing T) : Type 0 where
  pub written : Option (List ℕ)
  pub page : PageValue
  pub before : Stays old.written old.page written page
  pub was_whole : page.is_cut ≡ false
  pub between : T
  pub lost : PageValue
  pub hands : Hands takes old.taker number line page between lost
  pub cut : lost.is_cut ≡ true
  pub second : HandsOnce takes
      (record {
        taker = between;
        written = written;
        page = record { octets = take (length page.octets) lost.octets; is_cut = false };
      }) number line new

abbrev pub HandsOne : {T : Type 0} → Takes T → Standing T → ℕ → Option (List ℕ) → Standing T
    → Type 0
HandsOne takes old number line new =
    HandsOnce takes old number line new ⊎ HandsAgain takes old number line new

-- All these lines are handed on, each once and in order, with the numbers after this one.
abbrev pub HandsAll : {T : Type 0} → Takes T → Standing T → ℕ → List (List ℕ) → Standing T
    → Type 0
HandsAll takes old n [] new =
    (new.taker ≡ old.taker) × Stays old.written old.page new.written new.page
HandsAll {T} takes old n (line ∷ lines) new =
    (between : Standing T) × HandsOne takes old (next_number n) (few line) between
    × HandsAll takes between (next_number n) lines new

abbrev pub standing : {T : Type 0} → T → Option (List ℕ) → PageValue → Standing T
standing taker written page = record { taker = taker; written = written; page = page }

-- What a taker does when no line is left: how it and the page stand before and after.
abbrev pub Ends : Type 0 → Type 1
Ends T = T → PageValue → T → PageValue → Type 0

-- All these lines are handed on, and then the taker ends.
pub record HandsToEnd {T : Type 0} (takes : Takes T) (ends : Ends T) (old : Standing T) (n : ℕ)
    (lines : List (List ℕ)) (new : Standing T) : Type 0 where
  pub last : Standing T
  pub hands : HandsAll takes old n lines last
  pub written : new.written ≡ last.written
  pub at_last : ends last.taker last.page new.taker new.page

-- The same from an empty page on, and what stands on the page at the end is written, whole.
pub record HandsToOutput {T : Type 0} (takes : Takes T) (ends : Ends T) (old : T)
    (written : Option (List ℕ)) (lines : List (List ℕ)) (new : T)
    (written_then : Option (List ℕ)) : Type 0 where
  pub last : Standing T
  pub hands : HandsToEnd takes ends (standing old written (record { octets = []; is_cut = false }))
      0 lines last
  pub taker : new ≡ last.taker
  pub whole : last.page.is_cut ≡ false
  pub rest : Appends last.written written_then last.page.octets
