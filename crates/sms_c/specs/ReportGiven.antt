-- The parts of a report that C gives to be written.
use Rattle.std.specs.Prelude.{ℕ, ◌==◌, ◌&&◌, not, Bool, true, false, nat_le, List, [], ◌∷◌, length, Option, Some, None, Result, Ok, Err, if◌then◌else◌}
use Rattle.sms_tpdu.specs.Report.AnnouncedParts.{report_alphabet}
use Rattle.sms_tpdu.specs.UserData.Lengths.{octets_of_length}
use Rattle.sms_tpdu.specs.declared.report.parts.ReportData.{ReportData}
use Rattle.sms_tpdu.specs.declared.report.parts.TheConstants.{REPORT_DATA_MAX}
use Rattle.sms_c.specs.Writing.{is_set}
use Rattle.sms_c.specs.declared.status.Failure.{Failure}
use Rattle.sms_c.specs.declared.status.Failure.TheVariants.{OutOfRange, TooLong}

-- an octet, where it is said to be there
abbrev pub octet_given : ℕ → ℕ → Option ℕ
octet_given there octet = if is_set there then Some octet else None

-- a header lies in the data that it is announced for: as many octets follow its length octet as that
-- counts (3GPP TS 23.040, 9.2.3.24)
abbrev pub header_fits : Bool → List ℕ → Bool
header_fits false octets = true
header_fits true [] = false
header_fits true (size ∷ others) = nat_le size (length others)

-- TP-UDL counts the octets, and an announced header lies in them
abbrev pub fit_together : Bool → Option ℕ → ℕ → List ℕ → Bool
fit_together headed dcs count octets =
    (length octets == octets_of_length (report_alphabet dcs) count) && header_fits headed octets

-- neither octets nor what speaks of them
abbrev pub is_nothing : Bool → ℕ → List ℕ → Bool
is_nothing headed count octets = not headed && ((count == 0) && (length octets == 0))

-- TP-UDL and TP-UD, if data are said to be there, or why they cannot stand
abbrev pub user_given : Bool → Option ℕ → Bool → ℕ → List ℕ → Result (Option ReportData) Failure
user_given headed dcs there count octets =
    if nat_le (length octets) REPORT_DATA_MAX
    then (if there
    then (if fit_together headed dcs count octets
    then Ok (Some (record { length = count; octets = octets }))
    else Err OutOfRange)
    else (if is_nothing headed count octets then Ok None else Err OutOfRange))
    else Err TooLong
