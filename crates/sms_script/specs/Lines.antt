-- The lines of a list of octets are those of std's `str::lines`: a line ends with a line feed,
-- which the last one may lack, and a carriage return before a line feed is dropped. After the last
-- line feed there is a line only where there is an octet.
pub mod Reading
pub use Rattle.std.specs.Str.Lines.{lines, strip_carriage_return}
use Rattle.std.specs.Prelude.{◌≡◌, ◌⊎◌, ℕ, List, [], ◌∷◌, ◌++◌, ◌==◌, false}

abbrev pub line_feed : ℕ
line_feed = 10

abbrev pub carriage_return : ℕ
carriage_return = 13

-- the octets of a line in its greatest length, without its line feed and the carriage return before
-- it
abbrev pub line_limit : ℕ
line_limit = 4096

-- none of the octets is a line feed
abbrev pub HasNoLineFeed : List ℕ → Type 0
HasNoLineFeed [] = Unit {0}
HasNoLineFeed (octet ∷ octets) = ((octet == line_feed) ≡ false) × HasNoLineFeed octets

-- whole lines: what follows them begins a line
abbrev pub AreWhole : List ℕ → Type 0
AreWhole read = (more : List ℕ) → lines (read ++ more) ≡ lines read ++ lines more

-- the last octet is a line feed
abbrev pub EndsLine : List ℕ → Type 0
EndsLine text = (front : List ℕ) × (text ≡ front ++ line_feed ∷ [])

-- nothing, or lines of which the last one has its line feed too
abbrev pub AreLines : List ℕ → Type 0
AreLines text = (text ≡ []) ⊎ EndsLine text
