-- What a line tells before its octets, as the code has it.
use Rattle.std.specs.Prelude.{◌≡◌, ℕ, ◌+◌, ◌++◌, Bool, false, List, Option, Some, slice_get}
use Rattle.std.specs.Io.KnownBytes.{Appends}
use Rattle.sms_page.specs.Object.{Token, texts}
use Rattle.sms_told.specs.declared.form.Form.{Form}
use Rattle.sms_told.specs.declared.form.Form.TheVariants.{Plain, Json}
use Rattle.sms_told.specs.Texts.{line_end}
use Rattle.sms_tpdu.specs.UserData.{has_header, length_in}
use Rattle.sms_national.specs.Segments.{Cut, user_of}
use Rattle.sms_split.specs.declared.head.Head.{Head}
use Rattle.sms_split.specs.declared.long_text.LongText.{LongText}
use Rattle.sms_split.specs.Lines.{IsLineOf, coding, coding_members, line_object, line_text}
use Rattle.sms_split.specs.Told.{SegmentTold, national_told}

-- it tells that of a segment
pub record IsHead (head : Head) (told : SegmentTold) : Type 0 where
  pub sequence : head.sequence ≡ told.sequence
  pub maximum : head.maximum ≡ told.maximum
  pub alphabet : head.alphabet.now ≡ told.alphabet
  pub coding_scheme : head.coding_scheme ≡ told.coding_scheme
  pub headed : head.has_header ≡ has_header told.user
  pub size : head.length ≡ length_in told.user

-- the line with these octets
abbrev pub head_line : Bool → Head → List ℕ → List ℕ
head_line is_data head octets =
    line_text head.sequence head.maximum
    (coding is_data head.alphabet.now head.coding_scheme head.has_header) head.length octets

abbrev pub head_object : Bool → Head → List ℕ → List Token
head_object is_data head octets =
    line_object head.sequence head.maximum
    (coding_members is_data head.alphabet.now head.coding_scheme head.has_header)
    head.length octets

-- the line, or the object in a line
abbrev pub head_text : Form → Bool → Head → List ℕ → List ℕ
head_text Plain is_data head octets = head_line is_data head octets
head_text Json is_data head octets = texts false (head_object is_data head octets) ++ line_end

-- The line of a segment is written.
pub record WritesLine (long : LongText) (told : SegmentTold)
    (written written_then : Option (List ℕ)) : Type 0 where
  pub line : List ℕ
  pub is_line : IsLineOf long told line
  pub written_so : Appends written written_then line

-- The line of the piece of an index, which counts from 0, is written.
pub record WritesPiece (long : LongText) (cut : Cut) (index : ℕ)
    (written written_then : Option (List ℕ)) : Type 0 where
  pub piece : List ℕ
  pub found : slice_get cut.pieces index ≡ Some piece
  pub writes : WritesLine long
      (national_told cut (index + 1) (user_of cut long.reference (index + 1) piece))
      written written_then
