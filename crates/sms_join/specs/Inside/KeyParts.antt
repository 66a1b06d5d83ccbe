-- A reader may pass this by: contracts of private functions, and proofs, alone cite it.
--
-- Keys, compared part by part.
use Rattle.std.specs.Prelude.{ℕ, Bool, false, ◌&&◌, ◌==◌, List, Option, None, Some}
use Rattle.std.specs.Str.{bytes_eq}
use Rattle.sms_tpdu.specs.declared.user_data.concat.Concat.{Concat}
use Rattle.sms_tpdu.specs.declared.user_data.concat.Width.{Width}
use Rattle.sms_join.specs.declared.key.Key.{Key}
use Rattle.sms_join.specs.declared.key.Key.TheVariants.{Single, Segmented, SingleTo, SegmentedTo}
use Rattle.sms_join.specs.Key.{same_width}

-- The numbers are those of the place.
abbrev pub same_place : Width → ℕ → ℕ → Concat → Bool
same_place width reference maximum place =
    same_width width place.width && (reference == place.reference && maximum == place.maximum)

-- A message in one piece has this time stamp, one in segments these numbers.
abbrev pub has_numbers : Key → List ℕ → Option Concat → Bool
has_numbers (Single origin own) stamp None = bytes_eq own stamp
has_numbers (SingleTo recipient origin own) stamp None = bytes_eq own stamp
has_numbers (Segmented origin width reference maximum) stamp (Some place) =
    same_place width reference maximum place
has_numbers (SegmentedTo recipient origin width reference maximum) stamp (Some place) =
    same_place width reference maximum place
has_numbers _ _ _ = false
