-- User data alone, with no unit around them, as C tells how they stand (3GPP TS 23.040, 9.2.3.24).
use Rattle.std.specs.Prelude.{◌≡◌, ℕ, ◌-◌, ◌==◌, ◌&&◌, ◌||◌, Bool, true, false, List, length, is_some, option_map, Option, Some, Ok, if◌then◌else◌, MatchResult}
use Rattle.sms_field.specs.Coding.{alphabet_at}
use Rattle.sms_field.specs.Reading.{Reads}
use Rattle.sms_field.specs.Reading.WholeAnswer.{IsFaultOf}
use Rattle.sms_field.specs.declared.coding.Alphabet.{Alphabet}
use Rattle.sms_field.specs.declared.coding.Alphabet.TheVariants.{Gsm7, Ucs2}
use Rattle.sms_field.specs.declared.refusal.Fault.{Fault}
use Rattle.sms_field.specs.declared.span.Span.{Span}
use Rattle.sms_tpdu.specs.UserData.Alone.{count_for, data_of, length_by}
use Rattle.sms_tpdu.specs.UserData.ConcatenationFound.{concat_of_header}
use Rattle.sms_tpdu.specs.UserData.Languages.{IsToldIn, text_of_body_under}
use Rattle.sms_tpdu.specs.UserData.Singles.{singles_for, singles_of}
use Rattle.sms_tpdu.specs.UserData.Spans.{body_count, span_of, spans_before}
use Rattle.sms_tpdu.specs.UserData.Text.{text_of_body}
use Rattle.sms_tpdu.specs.declared.fault.UnitFault.{UnitFault}
use Rattle.sms_tpdu.specs.declared.fault.UnitFault.TheVariants as unit
use Rattle.sms_tpdu.specs.declared.user_data.UserData.{UserData}
use Rattle.sms_tpdu.specs.declared.user_data.data_fault.DataFault.{DataFault}
use Rattle.sms_tpdu.specs.declared.user_data.data_fault.DataFault.TheVariants as single
use Rattle.sms_tpdu.specs.declared.user_data.spans.UserSpans.{UserSpans}
use Rattle.sms_tpdu.specs.declared.user_data.view.alone.Length.{Length}
use Rattle.sms_tpdu.specs.declared.user_data.view.alone.Length.TheVariants.{Told, Whole}
use Rattle.sms_language.specs.declared.tables.Tables.{Tables}
use Rattle.sms_c.specs.Class.{are_spare}
use Rattle.sms_c.specs.HandedOut.{OfText}
use Rattle.sms_c.specs.Parts.{alphabet_of_dcs, bit, place_seen, span_at, span_if}
use Rattle.sms_c.specs.Status.{data_refused, unit_refused}
use Rattle.sms_c.specs.Writing.{is_set}
use Rattle.sms_c.specs.declared.reading.data.DataForm.{DataForm}
use Rattle.sms_c.specs.declared.reading.data.DataSeen.{DataSeen}
use Rattle.sms_c.specs.declared.status.Refused.{Refused}

-- ---- how they stand

-- one of three ways, with a length under the second alone; spare octets are 0
abbrev pub fits_form : DataForm → Bool
fits_form form =
    (form.standing == 1 || ((form.standing == 0 || form.standing == 2) && form.length == 0))
    && are_spare form.spare

abbrev pub headed : DataForm → Bool
headed form = is_set form.has_header

abbrev pub alphabet_in : DataForm → Alphabet
alphabet_in form = alphabet_at form.dcs

abbrev pub has_septets : Alphabet → Bool
has_septets Gsm7 = true
has_septets _ = false

-- the third way: septets stand one an octet, where there are some
abbrev pub are_single : DataForm → Bool
are_single form = form.standing == 2 && has_septets (alphabet_in form)

-- packed, with a length that is told, or as many as fit whole
abbrev pub length_told : DataForm → Length
length_told form = if form.standing == 1 then Told form.length else Whole

-- ---- as they are read

abbrev pub length_of : DataForm → List ℕ → ℕ
length_of form octets = length_by (length_told form) (alphabet_in form) (length octets)

pub record ReadsPacked (form : DataForm) (octets : List ℕ) (value : UserData) (used : ℕ)
    : Type 0 where
  pub count : ℕ
  pub counted : count_for (headed form) (alphabet_in form) (length_of form octets) ≡ Ok count
  pub read : Reads (data_of (headed form) (alphabet_in form) count) value octets used

pub record ReadsSingles (form : DataForm) (octets : List ℕ) (value : UserData) (used : ℕ)
    : Type 0 where
  pub total : ℕ
  pub counted : singles_for (headed form) (length octets) ≡ Ok total
  pub read : Reads (singles_of (headed form) total) value octets used

abbrev pub ReadsBy : Bool → DataForm → List ℕ → UserData → ℕ → Type 0
ReadsBy true = ReadsSingles
ReadsBy false = ReadsPacked

abbrev pub ReadsData : DataForm → List ℕ → UserData → ℕ → Type 0
ReadsData form = ReadsBy (are_single form) form

pub record IsUnreadData (form : DataForm) (octets : List ℕ) : Type 0 where
  pub none : (value : UserData) (used : ℕ) → ReadsData form octets value used → ⊥

-- ---- as they are refused: a length that cannot be at place 0, and else the first octet at fault

pub record RefusesPacked (form : DataForm) (octets : List ℕ) (refused : Refused) : Type 0 where
  pub fault : Fault UnitFault
  pub is : MatchResult (count_for (headed form) (alphabet_in form) (length_of form octets))
      (λ count. IsFaultOf (data_of (headed form) (alphabet_in form) count) unit.Short octets fault)
      (λ why. fault ≡ record { place = 0; why = why })
  pub told : refused ≡ unit_refused fault

pub record RefusesSingles (form : DataForm) (octets : List ℕ) (refused : Refused) : Type 0 where
  pub fault : Fault DataFault
  pub is : MatchResult (singles_for (headed form) (length octets))
      (λ total. IsFaultOf (singles_of (headed form) total) single.Short octets fault)
      (λ why. fault ≡ record { place = 0; why = why })
  pub told : refused ≡ data_refused fault

abbrev pub RefusesBy : Bool → DataForm → List ℕ → Refused → Type 0
RefusesBy true = RefusesSingles
RefusesBy false = RefusesPacked

abbrev pub RefusesData : DataForm → List ℕ → Refused → Type 0
RefusesData form = RefusesBy (are_single form) form

-- ---- where their parts lie

-- a header, if there is one, that ends before a place
abbrev pub header_before : ℕ → Option (List ℕ) → Option Span
header_before end = option_map (λ header. span_of (end - length header) (length header))

-- septets that stand one an octet, and end before a place
abbrev pub singles_before : ℕ → UserData → UserSpans
singles_before end user =
    let size : ℕ = body_count user.body in
    record {
      header = header_before (end - size) user.header;
      body = span_of (end - size) size;
      fill = 0;
    }

abbrev pub spans_by : Bool → ℕ → UserData → UserSpans
spans_by true = singles_before
spans_by false = spans_before

pub record ShowsBy (single : Bool) (dcs : ℕ) (value : UserData) (seen : DataSeen) : Type 0 where
  pub header : seen.header ≡ span_if (spans_by single seen.used value).header
  pub body : seen.body ≡ span_at (spans_by single seen.used value).body
  pub fill : seen.fill ≡ (spans_by single seen.used value).fill
  pub count : seen.count ≡ body_count value.body
  pub has_header : seen.has_header ≡ bit (is_some value.header)
  pub place : seen.place ≡ place_seen (concat_of_header value.header)
  pub alphabet : seen.alphabet ≡ alphabet_of_dcs dcs
  pub is_single : seen.single ≡ bit single

abbrev pub ShowsData : DataForm → UserData → DataSeen → Type 0
ShowsData form = ShowsBy (are_single form) form.dcs

-- ---- their text

-- septets, by the tables of the default alphabet or by those that the header tells, or UCS-2
abbrev pub IsTextBy : Bool → Alphabet → UserData → List ℕ → Type 0
IsTextBy false alphabet value text = text_of_body alphabet value.body ≡ Some text
IsTextBy true alphabet value text =
    (tables : Tables) × IsToldIn value.header tables
    × (text_of_body_under tables alphabet value.body ≡ Some text)

abbrev pub is_text : Alphabet → Bool
is_text Gsm7 = true
is_text Ucs2 = true
is_text _ = false

-- they are read, and are no text (8-bit, compressed)
pub record LacksText (form : DataForm) (octets : List ℕ) : Type 0 where
  pub value : UserData
  pub used : ℕ
  pub read : ReadsData form octets value used
  pub none : is_text (alphabet_in form) ≡ false

-- they are read, and this is their text
pub record HasText (form : DataForm) (octets text : List ℕ) : Type 0 where
  pub value : UserData
  pub used : ℕ
  pub read : ReadsData form octets value used
  pub is : IsTextBy (is_set form.languages) (alphabet_in form) value text

-- what becomes of their text
pub record OfDataText (form : DataForm) (octets : List ℕ) (Out : List ℕ → Type 0) : Type 0 where
  pub text : List ℕ
  pub has : HasText form octets text
  pub told : OfText text Out
