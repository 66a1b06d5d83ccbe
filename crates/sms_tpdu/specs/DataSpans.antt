-- Where data lie that a unit carries as octets, TP-UD of a report and TP-CD of a command, and the
-- header at their front (3GPP TS 23.040, 9.2.3.24).
use Rattle.std.specs.Prelude.{◌≡◌, ℕ, ◌+◌, ◌-◌, Bool, true, false, List, [], ◌∷◌, length, take, Option, Some, None, option_map, nat_le, if◌then◌else◌}
use Rattle.sms_field.specs.declared.span.Span.{Span}
use Rattle.sms_field.specs.Reading.Lies.{octets_at}
use Rattle.sms_tpdu.specs.UserData.Spans.{HeaderLies, span_of}
use Rattle.sms_tpdu.specs.declared.data_spans.DataSpans.{DataSpans}
use Rattle.sms_tpdu.specs.declared.report.parts.ReportData.{ReportData}

-- TP-UDH: where TP-UDHI says that there is one, as many octets as its length octet counts, if so
-- many follow
abbrev pub header_in : Bool → List ℕ → Option (List ℕ)
header_in false octets = None
header_in true [] = None
header_in true (size ∷ others) =
    if nat_le size (length others) then Some (take size others) else None

-- data of a unit that was read at the front of the input, in so many octets
pub record DataLie (headed : Bool) (octets : List ℕ) (input : List ℕ) (used : ℕ)
    (spans : DataSpans) : Type 0 where
  -- they are the last of the octets that were read
  pub lie : octets_at input spans.octets ≡ octets
  pub ends : spans.octets.offset + spans.octets.length ≡ used
  pub header : HeaderLies (header_in headed octets) input spans.header

-- data that a report has, or has not
abbrev pub DataLieIf : Bool → Option ReportData → List ℕ → ℕ → Option DataSpans → Type 0
DataLieIf headed None input used None = Unit {0}
DataLieIf headed None input used (Some spans) = ⊥
DataLieIf headed (Some user) input used None = ⊥
DataLieIf headed (Some user) input used (Some spans) = DataLie headed user.octets input used spans

-- ---- computed

-- of data that end before a place
abbrev pub header_before : ℕ → Bool → List ℕ → Option Span
header_before end false octets = None
header_before end true [] = None
header_before end true (size ∷ others) =
    if nat_le size (length others) then Some (span_of (end - length others) size) else None

abbrev pub data_before : ℕ → Bool → List ℕ → DataSpans
data_before end headed octets =
    record {
      octets = span_of (end - length octets) (length octets);
      header = header_before end headed octets;
    }

abbrev pub data_before_if : ℕ → Bool → Option ReportData → Option DataSpans
data_before_if end headed user = option_map (λ user. data_before end headed user.octets) user
