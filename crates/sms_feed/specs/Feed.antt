-- The lines of a reader, one after another.
use Rattle.std.specs.Prelude.{◌≡◌, ℕ, ◌+◌, ◌<◌, Bool, true, false, List, [], ◌++◌, length, Option, Some}
use Rattle.sms_script.specs.Lines.{line_limit, HasNoLineFeed}

pub record FeedValue : Type 0 where
  -- how many lines there are up to the one at which it stands
  pub number : ℕ
  -- the octets of this line; none where they are too many
  pub line : Option (List ℕ)
  -- the octets that were read and are of lines that come next
  pub left : List ℕ
  -- whether the front of the next line was thrown away, since the line is too long
  pub is_long : Bool
  -- whether the reader has said that nothing is left
  pub has_ended : Bool

-- These octets come next: those that are left, behind those that were thrown away, and then what
-- the reader will give.
pub record Awaits (feed : FeedValue) (remaining : Option (List ℕ)) (octets : List ℕ) : Type 0 where
  pub thrown : List ℕ
  pub later : List ℕ
  pub known : remaining ≡ Some later
  pub whole : octets ≡ thrown ++ (feed.left ++ later)
  pub ended : feed.has_ended ≡ true → later ≡ []
  pub none : feed.is_long ≡ false → thrown ≡ []
  pub long : feed.is_long ≡ true → (line_limit + 1 < length thrown) × HasNoLineFeed thrown
