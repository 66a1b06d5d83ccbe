-- A reader may pass this by: lemmas, for the proofs of this crate and of those above it.
--
-- 16-bit units and their octets.
use Rattle.std.proofs.Common.{◌≡◌, ℕ, suc, ◌*◌, ◌<◌, List, [], ◌∷◌, length, get_or, arith}
use Rattle.sms_text.specs.Octets.{IsOctets}
use Rattle.sms_text.specs.Utf16.{AreUnits, octets_high_first}

-- a unit takes two octets
pub length-octets_high_first : (units : List ℕ) → length (octets_high_first units) ≡ 2 * length units
unfolding octets_high_first
length-octets_high_first [] = omega arith
length-octets_high_first (u ∷ units) = omega (arith, length-octets_high_first units)

pub units_from_reads : (xs : List ℕ) → ((k : ℕ) → get_or xs k 0 < 65536) → AreUnits xs
units_from_reads [] h = tt
units_from_reads (x ∷ xs) h = (h 0, units_from_reads xs (λ (k : ℕ). h (suc k)))

pub octets_are : (units : List ℕ) → AreUnits units → IsOctets (octets_high_first units)
unfolding octets_high_first
octets_are [] are = tt
octets_are (unit ∷ others) are = (omega (arith, are.0), (omega arith, octets_are others are.1))
