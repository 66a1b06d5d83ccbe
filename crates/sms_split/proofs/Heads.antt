-- What a line tells before its octets.
use Rattle.std.proofs.Common.{◌≡◌, ℕ, ◌<◌, Bool, true, false, List, ◌∷◌, ◌++◌, length, drop, Option, Some, None, refl, ap, sym, subst, ◌∙◌, arith}
use Rattle.std.specs.Prelude.{◌==◌, Result, Ok, Err, OnOk, nat_lt, is_some, not, if◌then◌else◌}
use Rattle.std.proofs.lemmas.Bool.{eqb-true, eqb-false, lt-ltb}
use Rattle.sms_tpdu.specs.declared.user_data.concat.Width.{Width}
use Rattle.sms_tpdu.specs.declared.user_data.UserData.{UserData}
use Rattle.sms_tpdu.specs.UserData.{SpellsUserData, has_header, header_octets, length_in}
use Rattle.sms_tpdu.specs.UserData.Alone.{SpellsAlone}
use Rattle.sms_tpdu.specs.UserData.Concatenation.{element_for}
use Rattle.sms_tpdu.specs.UserData.Elements.{element_octets}
use Rattle.sms_join.specs.declared.segment.Segment.{Segment}
use Rattle.sms_join.specs.Segments.User.{IsSendable, user_of}
use Rattle.sms_split.specs.declared.head.Head.{Head}
use Rattle.sms_split.specs.declared.long_text.LongText.{LongText}
use Rattle.std.specs.Io.KnownBytes.{Appends}
use Rattle.sms_page.specs.Object.{texts}
use Rattle.sms_told.specs.declared.form.Form.{Form}
use Rattle.sms_told.specs.declared.form.Form.TheVariants.{Plain, Json}
use Rattle.sms_told.specs.Texts.{line_end}
use Rattle.sms_split.specs.Lines.{coding, coding_members, line_object, line_text, segment_object, segment_text, segment_line}
use Rattle.sms_split.specs.Octets.{HasOctets}
use Rattle.sms_split.specs.Told.{SegmentTold}
use Rattle.sms_split.specs.Inside.Heads.{IsHead, WritesLine, head_line, head_object, head_text}

-- the octets behind the length are the user data alone
pub behind_length : (user : UserData) (octets rest : List ℕ) (udl : ℕ) → SpellsUserData user octets → octets ≡ udl ∷ rest → (udl ≡ length_in user) × SpellsAlone user rest
behind_length user octets rest udl s e =
    let same : udl ∷ rest ≡ length_in user ∷ (header_octets user.header ++ s.written) = sym e ∙ s.parts in
    (cc, record { written = s.written; spells_body = s.spells_body; parts = ap (λ (l : List ℕ). drop 1 l) same })

-- there is an octet
pub has_length : (user : UserData) (octets : List ℕ) → SpellsUserData user octets → 0 < length octets
has_length user octets s = subst (λ (l : List ℕ). 0 < length l) (sym s.parts) (omega arith)

-- the line is that of the segment
head_line_is : (is_data : Bool) (head : Head) (told : SegmentTold) (octets : List ℕ) → IsHead head told → head_line is_data head octets ≡ segment_line is_data told octets
head_line_is is_data head told octets is =
    λ i. line_text (is.sequence i) (is.maximum i) (coding is_data (is.alphabet i) (is.coding_scheme i) (is.headed i)) (is.size i) octets

head_object_is : (is_data : Bool) (head : Head) (told : SegmentTold) (octets : List ℕ) → IsHead head told → head_object is_data head octets ≡ segment_object is_data told octets
head_object_is is_data head told octets is =
    λ i. line_object (is.sequence i) (is.maximum i) (coding_members is_data (is.alphabet i) (is.coding_scheme i) (is.headed i)) (is.size i) octets

head_text_is : (form : Form) (is_data : Bool) (head : Head) (told : SegmentTold) (octets : List ℕ) → IsHead head told → head_text form is_data head octets ≡ segment_text form is_data told octets
head_text_is Plain is_data head told octets is = head_line_is is_data head told octets is
head_text_is Json is_data head told octets is = λ i. texts false (head_object_is is_data head told octets is i) ++ line_end

line_told : (long : LongText) (told : SegmentTold) (head : Head) (octets : List ℕ) (written written_then : Option (List ℕ)) → IsHead head told → HasOctets long.is_single told.user octets
    → Appends written written_then (head_text long.form long.is_data head octets) → WritesLine long told written written_then
line_told long told head octets written written_then is has w = record {
  line = head_text long.form long.is_data head octets;
  is_line = (octets, has, head_text_is long.form long.is_data head told octets is);
  written_so = w;
}

pub writes_line : {A E : Type 0} (r : Result A E) (long : LongText) (told : SegmentTold) (head : Head) (octets : List ℕ) (written written_then : Option (List ℕ)) → IsHead head told → HasOctets long.is_single told.user octets
    → OnOk r (Appends written written_then (head_text long.form long.is_data head octets)) → OnOk r (WritesLine long told written written_then)
writes_line (Ok a) long told head octets written written_then is has w = line_told long told head octets written written_then is has w
writes_line (Err e) long told head octets written written_then is has w = tt

-- a header stands in front where there are other segments
abbrev header_if : Bool → List ℕ → Option (List ℕ)
header_if b header = if b then None else Some header

headed : (b : Bool) (header : List ℕ) → is_some (header_if b header) ≡ not b
headed true header = refl
headed false header = refl

pub has_place : (width : Width) (reference : ℕ) (segment : Segment) → IsSendable width segment → nat_lt 1 segment.maximum ≡ has_header (user_of width reference segment)
has_place width reference segment is =
    by_test (segment.maximum == 1) refl
    ∙ sym (headed (segment.maximum == 1) (element_octets (element_for width reference segment.maximum segment.sequence)))
  where
    by_test : (b : Bool) → (segment.maximum == 1) ≡ b → nat_lt 1 segment.maximum ≡ not b
    by_test true e = ap (λ (n : ℕ). nat_lt 1 n) (eqb-true segment.maximum 1 e)
    by_test false e = lt-ltb 1 segment.maximum (omega (arith, is.first, is.last, eqb-false segment.maximum 1 e))
