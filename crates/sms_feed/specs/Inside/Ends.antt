-- A reader may pass this by: contracts of private functions, and proofs, alone cite it.
--
-- Where the next line ends.
use Rattle.std.specs.Prelude.{◌≡◌, ◌⊎◌, ℕ, ◌+◌, ◌<◌, Bool, true, false, if◌then◌else◌, List, [], ◌∷◌, length, take, drop, Option, None, Some}
use Rattle.sms_script.specs.Lines.{line_feed, strip_carriage_return, HasNoLineFeed}
use Rattle.sms_feed.specs.Feed.{FeedValue}
use Rattle.sms_feed.specs.Lines.{few, next_number}
use Rattle.sms_feed.specs.declared.place.End.{End}
use Rattle.sms_feed.specs.declared.place.Lies.{Lies}

-- The next line ends there: at a line feed, or at the end of all.
pub record EndsAt (feed : FeedValue) (end : End) : Type 0 where
  pub front : HasNoLineFeed (take end.length feed.left)
  pub fed : end.has_feed ≡ true
      → drop end.length feed.left ≡ line_feed ∷ drop (end.length + 1) feed.left
  pub last : end.has_feed ≡ false → (end.length ≡ length feed.left) × (feed.has_ended ≡ true)
  pub some : end.has_feed ≡ false → (0 < length feed.left) ⊎ (feed.is_long ≡ true)

-- The end of the next line was not read, and where the reader has ended, there is none.
pub record HasNoEnd (feed : FeedValue) : Type 0 where
  pub no_feed : HasNoLineFeed feed.left
  pub ended : feed.has_ended ≡ true → (feed.left ≡ []) × (feed.is_long ≡ false)

-- the end, where it was read
abbrev pub Ends : FeedValue → Option End → Type 0
Ends feed (Some end) = EndsAt feed end
Ends feed None = HasNoEnd feed

-- how many octets a line and its line feed take
abbrev pub size : End → ℕ
size end = if end.has_feed then end.length + 1 else end.length

-- the octets of a line by what stands before its end, unless they are too many
abbrev pub octets_in : (is_long has_feed : Bool) → List ℕ → Option (List ℕ)
octets_in is_long has_feed front =
    if is_long then None
    else few (if has_feed then strip_carriage_return front else front)

-- those of the line that ends there
abbrev pub octets_to : FeedValue → End → Option (List ℕ)
octets_to feed end = octets_in feed.is_long end.has_feed (take end.length feed.left)

-- those of the line that lies there
abbrev pub octets_at : List ℕ → Lies → Option (List ℕ)
octets_at room line =
    octets_in line.is_long line.end.has_feed (take line.end.length (drop line.start room))

-- behind that line
abbrev pub behind : FeedValue → End → FeedValue
behind feed end = record {
  number = next_number feed.number;
  line = octets_to feed end;
  left = drop (size end) feed.left;
  is_long = false;
  has_ended = feed.has_ended;
}
