-- What the answer to an offer is, in code.
use Rattle.std.specs.Prelude.{◌≡◌, ℕ, Bool, true, not, Result, Ok, Err}
use Rattle.std.specs.Str.{chars}
use Rattle.std.specs.String.{string_bytes}
use Rattle.sms_join.specs.declared.offer.Offer.{Offer}
use Rattle.sms_join.specs.declared.offer.Offer.TheVariants as offers
use Rattle.sms_join.specs.declared.offer.OfferFault.{OfferFault}
use Rattle.sms_join.specs.declared.offer.OfferFault.TheVariants as faults
use Rattle.sms_join.specs.Reading.{text_of_segments}
use Rattle.sms_join.specs.Piece.{Piece}
use Rattle.sms_join.specs.Joiner.Sets.{is_open}
use Rattle.sms_join.specs.Joiner.{Joiner, Answer, Repeat, Kept, Finished, TooManyOpen, answer}

-- The piece is the first of its set.
abbrev pub is_first : Joiner → Piece → Bool
is_first j p = not (is_open j.kept p.key)

-- This answer, to a first piece of a set or to a later one, is said: a set that is whole is read as
-- its text. Memory may run out only for a first piece that is kept, which opens a set, and for one
-- that makes its set whole, which makes a text; not for a repeat, nor for a later piece that is
-- kept.
abbrev pub SaysAnswer : Answer → (first : Bool) → Result Offer OfferFault → Type 0
SaysAnswer Repeat first (Ok offers.Repeat) = Unit {0}
SaysAnswer Kept first (Ok offers.Kept) = Unit {0}
SaysAnswer Kept first (Err faults.Memory) = first ≡ true
SaysAnswer (Finished units) first (Ok (offers.Finished text)) =
    chars (string_bytes text) ≡ text_of_segments units
SaysAnswer (Finished units) first (Err faults.Memory) = Unit {0}
SaysAnswer TooManyOpen first (Err faults.TooManyOpen) = Unit {0}
SaysAnswer _ _ _ = ⊥

-- A call says the answer to the piece, at a joiner with this number of open sets at most.
abbrev pub Says : ℕ → Joiner → Piece → Result Offer OfferFault → Type 0
Says open_max j p result = SaysAnswer (answer open_max j p) (is_first j p) result
