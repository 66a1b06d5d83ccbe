-- The segments of a text as user data alone, one after another (3GPP TS 23.040, 9.2.3.24).
use Rattle.std.specs.Prelude.{◌≡◌, ℕ, ◌+◌, ◌<◌, ◌≤◌, Bool, true, false, List, [], ◌∷◌, ◌++◌, length, drop}
use Rattle.std.specs.List.{concat}
use Rattle.std.specs.Str.{chars}
use Rattle.sms_tpdu.specs.UserData.{has_header, length_in}
use Rattle.sms_tpdu.specs.UserData.Alone.{SpellsAlone}
use Rattle.sms_tpdu.specs.UserData.Singles.{single_octets}
use Rattle.sms_tpdu.specs.declared.user_data.UserData.{UserData}
use Rattle.sms_tpdu.specs.declared.user_data.concat.Width.{Width}
use Rattle.sms_join.specs.Segments.User.{dcs_of, user_of}
use Rattle.sms_join.specs.Segments.{AreSegments}
use Rattle.sms_join.specs.declared.segment.Segment.{Segment}
use Rattle.sms_join.specs.declared.units.Units.{Units}
use Rattle.sms_join.specs.declared.units.Units.TheVariants.{Gsm, Ucs2}
use Rattle.sms_c.specs.Class.{are_spare}
use Rattle.sms_c.specs.HandedOut.{ArePut}
use Rattle.sms_c.specs.Parts.{bit, bits_of}
use Rattle.sms_c.specs.Writing.{is_set}
use Rattle.sms_c.specs.WritingFaults.{FitsReference}
use Rattle.sms_c.specs.declared.data_splitting.DataFields.{DataFields}
use Rattle.sms_c.specs.declared.data_splitting.DataSegment.{DataSegment}

-- all spare octets are 0, and the reference has its width
abbrev pub FitsData : DataFields → Type 0
FitsData fields = (are_spare fields.spare ≡ true) × FitsReference fields.segments

-- ---- a segment

-- septets one an octet, where that is asked for; and else as in a unit after TP-UDL
abbrev pub SpellsApart : Bool → Units → UserData → List ℕ → Type 0
SpellsApart true (Gsm septets) user octets = octets ≡ single_octets user
SpellsApart true (Ucs2 units) user octets = SpellsAlone user octets
SpellsApart false units user octets = SpellsAlone user octets

-- where its octets lie, TP-DCS, TP-UDHI and TP-UDL
abbrev pub segment_told : ℕ → ℕ → Units → UserData → DataSegment
segment_told place size units user = record {
  octets = record { offset = place; length = size };
  dcs = dcs_of units;
  has_header = bit (has_header user);
  length = length_in user;
}

-- ---- all segments

-- each has its octets: the header that tells its place, and its units
abbrev pub SpellEachApart : Bool → Width → ℕ → List Segment → List (List ℕ) → Type 0
SpellEachApart single width reference [] [] = Unit {0}
SpellEachApart single width reference [] (part ∷ parts) = ⊥
SpellEachApart single width reference (segment ∷ segments) [] = ⊥
SpellEachApart single width reference (segment ∷ segments) (part ∷ parts) =
    SpellsApart single segment.units (user_of width reference segment) part
    × SpellEachApart single width reference segments parts

-- what is told of those that stand one after another from a place on
abbrev pub segments_told : Width → ℕ → ℕ → List Segment → List (List ℕ) → List DataSegment
segments_told width reference place [] parts = []
segments_told width reference place (segment ∷ segments) [] = []
segments_told width reference place (segment ∷ segments) (part ∷ parts) =
    segment_told place (length part) segment.units (user_of width reference segment)
    ∷ segments_told width reference (place + length part) segments parts

-- the octets of all, one after another, and what is told of each
pub record AreApart (single : Bool) (width : Width) (reference : ℕ) (segments : List Segment)
    (octets : List ℕ) (told : List DataSegment) : Type 0 where
  pub parts : List (List ℕ)
  pub spelled : SpellEachApart single width reference segments parts
  pub joined : octets ≡ concat parts
  pub are_told : told ≡ segments_told width reference 0 segments parts

-- what becomes of the segments of a text that is cut into so many, at most 255 (3GPP TS 23.040,
-- 9.2.3.24.1)
pub record OfDataSplit (fields : DataFields) (text : List ℕ) (count : ℕ)
    (Out : List ℕ → List DataSegment → Type 0) : Type 0 where
  pub width : Width
  pub width_is : fields.segments.width ≡ bits_of width
  pub segments : List Segment
  pub cut : AreSegments width (chars text) segments
  pub counted : count ≡ length segments
  pub few : count ≤ 255
  pub octets : List ℕ
  pub told : List DataSegment
  pub apart : AreApart (is_set fields.single) width fields.segments.reference segments octets told
  pub out : Out octets told

-- ---- as they are handed out

-- octets, and what is told of them, stand at the front of what had room for them; the rest is as it
-- was
pub record PartsArePut (before after : List ℕ) (needed : ℕ)
    (parts_before parts_after : List DataSegment) (octets : List ℕ) (told : List DataSegment)
    : Type 0 where
  pub put : ArePut before after needed octets
  pub room : length told ≤ length parts_before
  pub written : parts_after ≡ told ++ drop (length told) parts_before

-- octets, or what is told of them, have no room; nothing is written, and it is told how many octets
-- there are
pub record PartsLackRoom (before after : List ℕ) (needed : ℕ)
    (parts_before parts_after : List DataSegment) (octets : List ℕ) (told : List DataSegment)
    : Type 0 where
  pub long : length octets ≤ length before → length parts_before < length told
  pub same : after ≡ before
  pub same_parts : parts_after ≡ parts_before
  pub counted : needed ≡ length octets
