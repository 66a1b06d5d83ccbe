-- The texts that were ever typed. A text is known by its number: they are counted from 0 over all
-- phones, in the order of typing. The list has the newest first.
pub mod TypedTo
pub mod Taken
pub mod Finished
pub mod Stands
pub mod Keys
use Rattle.std.specs.Prelude.{ℕ, List, [], Option, Some, None}
use Rattle.sms_join.specs.declared.units.Units.{Units}
use Rattle.sms_join.specs.declared.units.Units.TheVariants.{Gsm}
use Rattle.sms_party.specs.Sent.{nth}
use Rattle.sms_party.specs.Sender.Texts.{Text, size_of}
use Rattle.sms_party.specs.Sender.Segments.{piece_of}

-- how many segments a text has
abbrev pub size_in : List Text → ℕ → ℕ
size_in texts t = size_of (nth texts t)

-- the units of a segment; segments count from 1
abbrev pub units_in : Option Text → ℕ → Units
units_in None s = Gsm []
units_in (Some t) s = piece_of t s
