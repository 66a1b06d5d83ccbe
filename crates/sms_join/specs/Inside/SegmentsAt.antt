-- A reader may pass this by: contracts of private functions, and proofs, alone cite it.
use Rattle.std.specs.Prelude.{◌≡◌, ℕ, zero, suc, ◌+◌, ◌≤◌, List, [], ◌∷◌, length, slice_range}
use Rattle.sms_join.specs.declared.cut.TheConstants.{SEGMENTS_MAX}
use Rattle.sms_join.specs.declared.units.Units.{Units}
use Rattle.sms_join.specs.declared.segment.Segment.{Segment}
use Rattle.sms_join.specs.UnitsOfText.{numbers, alphabet_in, units_in}

-- the units from one place up to another
abbrev pub part_of : Units → ℕ → ℕ → Units
part_of units start end = units_in (alphabet_in units) (slice_range (numbers units) start end)

-- no end stands before the one ahead of it, and the last stands at the end of all
abbrev pub RiseTo : ℕ → List ℕ → ℕ → Type 0
RiseTo start [] all = start ≡ all
RiseTo start (end ∷ ends) all = (start ≤ end) × RiseTo end ends all

abbrev pub AreEnds : Units → List ℕ → Type 0
AreEnds units ends = RiseTo 0 ends (length (numbers units)) × (length ends ≤ SEGMENTS_MAX)

-- the pieces of units, each from the end of the one before it to its own
abbrev pub pieces_at : Units → ℕ → List ℕ → List Units
pieces_at units start [] = []
pieces_at units start (end ∷ ends) = part_of units start end ∷ pieces_at units end ends

-- these pieces as segments, from this sequence on
abbrev pub segments_from : Units → ℕ → ℕ → ℕ → List ℕ → List Segment
segments_from units maximum sequence start [] = []
segments_from units maximum sequence start (end ∷ ends) =
    record { units = part_of units start end; maximum = maximum; sequence = sequence }
    ∷ segments_from units maximum (sequence + 1) end ends

abbrev pub segments_at : Units → List ℕ → List Segment
segments_at units ends = segments_from units (length ends) 1 0 ends

-- where the piece of an index starts, the first of all at `start`
abbrev pub start_at : ℕ → List ℕ → ℕ → ℕ
start_at start ends zero = start
start_at start [] (suc index) = start
start_at start (end ∷ ends) (suc index) = start_at end ends index
