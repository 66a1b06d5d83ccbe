-- The segments of a text (3GPP TS 23.040, 9.2.3.24.1).
pub mod User
pub mod Value
pub mod Written
use Rattle.std.specs.Prelude.{◌≡◌, ℕ, List, length, map}
use Rattle.std.specs.List.{AllByRecursion, range_with_len}
use Rattle.sms_tpdu.specs.declared.user_data.concat.Width.{Width}
use Rattle.sms_join.specs.declared.units.Units.{Units}
use Rattle.sms_join.specs.declared.segment.Segment.{Segment}
use Rattle.sms_join.specs.Cut.{IsCut}

-- Each piece has its sequence, from 1, and the number of pieces.
pub record AreNumbered (pieces : List Units) (segments : List Segment) : Type 0 where
  pub units : map (λ (s : Segment). s.units) segments ≡ pieces
  pub sequences : map (λ (s : Segment). s.sequence) segments ≡ range_with_len 1 (length pieces)
  pub maximum : AllByRecursion (λ (s : Segment). s.maximum ≡ length pieces) segments

-- The segments are the pieces of the text, numbered.
abbrev pub AreSegments : Width → List ℕ → List Segment → Type 0
AreSegments width text segments =
    (pieces : List Units) × IsCut width text pieces × AreNumbered pieces segments
