-- Where a feed stands that goes on to the next line.
use Rattle.std.specs.Prelude.{◌≡◌, ℕ, Bool, true, false, List, [], ◌∷◌, Option, Result, Ok, Err}
use Rattle.sms_script.specs.Lines.{lines}
use Rattle.sms_feed.specs.Lines.{few, next_number}
use Rattle.sms_feed.specs.Feed.{FeedValue, Awaits}
use Rattle.sms_feed.specs.declared.fault.FeedFault.{FeedFault}

-- It stands at the first line of these octets, and the lines behind that one come next.
pub record StandsAtFirst (octets : List ℕ) (new : FeedValue) (remaining : Option (List ℕ)) : Type 0 where
  pub first : List ℕ
  pub rest : List ℕ
  pub is_first : lines octets ≡ first ∷ lines rest
  pub line : new.line ≡ few first
  pub behind : Awaits new remaining rest

-- Of the octets that come next it goes on to the first line, or there are none. After a fault the
-- same octets come next as before.
abbrev pub GoesOn : List ℕ → Result Bool FeedFault → FeedValue → Option (List ℕ) → Type 0
GoesOn octets (Ok true) new remaining = StandsAtFirst octets new remaining
GoesOn octets (Ok false) new remaining = (octets ≡ []) × Awaits new remaining []
GoesOn octets (Err fault) new remaining = Awaits new remaining octets

-- the number of the line at which it then stands
abbrev pub number_then : ℕ → Result Bool FeedFault → ℕ
number_then n (Ok true) = next_number n
number_then n (Ok false) = n
number_then n (Err fault) = n
