-- The text that the data of a report carry (3GPP TS 23.040, 9.2.3.16 and 9.2.3.24).
use Rattle.std.specs.Prelude.{ℕ, suc, Bool, true, false, List, length, drop, Option, Some, None, option_map, nat_le, if◌then◌else◌}
use Rattle.std.specs.Option.{option_and_then}
use Rattle.sms_field.specs.declared.coding.Alphabet.{Alphabet}
use Rattle.sms_tpdu.specs.DataSpans.{header_in}
use Rattle.sms_tpdu.specs.UserData.{body_of}
use Rattle.sms_tpdu.specs.UserData.Lengths.{length_of_header}
use Rattle.sms_tpdu.specs.UserData.Text.{text_of_body}
use Rattle.sms_tpdu.specs.Report.AnnouncedParts.{report_alphabet}
use Rattle.sms_tpdu.specs.declared.report.parts.ReportData.{ReportData}
use Rattle.sms_tpdu.specs.declared.user_data.body.Body.{Body}

-- how many octets a header takes, with its length octet, where TP-UDHI says that there is one;
-- none where it does not lie in the data
abbrev pub octets_of_header : Bool → List ℕ → Option ℕ
octets_of_header false octets = Some 0
octets_of_header true octets = option_map (λ header. suc (length header)) (header_in true octets)

-- what stands after them, if TP-UDL has room for them
abbrev pub body_after : Alphabet → ℕ → List ℕ → ℕ → Option Body
body_after alphabet count octets taken =
    if nat_le (length_of_header alphabet taken) count
    then Some (body_of alphabet taken count (drop taken octets))
    else None

-- after the header, in septets, or in octets of UCS-2; without a data coding scheme in septets
abbrev pub text_of_data : Bool → Option ℕ → ReportData → Option (List ℕ)
text_of_data has_header dcs user =
    option_and_then (text_of_body (report_alphabet dcs))
    (option_and_then (body_after (report_alphabet dcs) user.length user.octets)
    (octets_of_header has_header user.octets))

abbrev pub text_of_report : Bool → Option ℕ → Option ReportData → Option (List ℕ)
text_of_report has_header dcs user = option_and_then (text_of_data has_header dcs) user
