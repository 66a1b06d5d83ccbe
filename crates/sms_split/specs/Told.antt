-- What is told of the segments of a text.
use Rattle.std.specs.Prelude.{ℕ, ◌+◌, List, [], ◌∷◌, length}
use Rattle.sms_tpdu.specs.declared.user_data.concat.Width.{Width}
use Rattle.sms_tpdu.specs.declared.user_data.UserData.{UserData}
use Rattle.sms_join.specs.declared.segment.Segment.{Segment}
use Rattle.sms_join.specs.Segments.User.{dcs_of, user_of}
use Rattle.sms_national.specs.Segments.{Cut}
use Rattle.sms_national.specs.Segments as national
use Rattle.sms_split.specs.Names.{alphabet_name, tables_name}

-- What is told of one segment.
pub record SegmentTold : Type 0 where
  -- which it is, from 1 on
  pub sequence : ℕ
  -- how many there are
  pub maximum : ℕ
  -- the name of its alphabet
  pub alphabet : List ℕ
  -- the coding scheme of its alphabet (TP-DCS)
  pub coding_scheme : ℕ
  -- its user data (TP-UD)
  pub user : UserData

-- a segment whose reference has this width
abbrev pub told_of : Width → ℕ → Segment → SegmentTold
told_of width reference segment =
    record {
      sequence = segment.sequence;
      maximum = segment.maximum;
      alphabet = alphabet_name segment.units;
      coding_scheme = dcs_of segment.units;
      user = user_of width reference segment;
    }

-- the segment of this sequence under national language tables, with its user data
abbrev pub national_told : Cut → ℕ → UserData → SegmentTold
national_told cut sequence user =
    record {
      sequence = sequence;
      maximum = length cut.pieces;
      alphabet = tables_name cut.tables;
      coding_scheme = 0;
      user = user;
    }

-- those of pieces, from this sequence on
abbrev pub national_tolds : Cut → ℕ → ℕ → List (List ℕ) → List SegmentTold
national_tolds cut reference sequence [] = []
national_tolds cut reference sequence (piece ∷ pieces) =
    national_told cut sequence (national.user_of cut reference sequence piece)
    ∷ national_tolds cut reference (sequence + 1) pieces
