-- The parts of a report that its indicator says are there (3GPP TS 23.040, 9.2.2.1a, 9.2.2.2a and
-- 9.2.3.27): protocol identifier, data coding scheme, data, in this order.
use Rattle.std.specs.Prelude.{ℕ, ◌<◌, List, [], ◌∷◌, ◌++◌, Option, Some, None, is_some, IfSome, ◌≡◌, ◌≤◌, length, Result, Ok, Err, nat_le, if◌then◌else◌}
use Rattle.sms_field.specs.Field.{Field, ◌>>=◌, always, octet, octet_by, octets_of}
use Rattle.sms_field.specs.Field.Optional.{part_if}
use Rattle.sms_field.specs.Coding.{alphabet_at}
use Rattle.sms_field.specs.declared.coding.Alphabet.{Alphabet}
use Rattle.sms_field.specs.declared.coding.Alphabet.TheVariants.{Gsm7}
use Rattle.sms_tpdu.specs.declared.report.indicator.Indicator.{Indicator}
use Rattle.sms_tpdu.specs.declared.report.parts.TheConstants.{REPORT_DATA_MAX}
use Rattle.sms_tpdu.specs.declared.report.parts.ReportData.{ReportData}
use Rattle.sms_tpdu.specs.declared.fault.UnitFault.{UnitFault}
use Rattle.sms_tpdu.specs.declared.fault.UnitFault.TheVariants.{Short, DataTooLong}
use Rattle.sms_text.specs.Octets.{IsOctets}
use Rattle.sms_tpdu.specs.UserData.Lengths.{octets_of_length}

-- a length of at most 159 octets
abbrev pub report_length : Alphabet → ℕ → Result ℕ UnitFault
report_length alphabet count =
    if nat_le (octets_of_length alphabet count) REPORT_DATA_MAX then Ok count else Err DataTooLong

unfoldable pub report_data : Alphabet → Field ReportData UnitFault
report_data alphabet = do
  -- TP-UDL; above 159 octets: DataTooLong
  count ← octet_by Short (report_length alphabet)
  -- TP-UD
  octets ← octets_of Short (octets_of_length alphabet count)
  always (record { length = count; octets = octets })

-- what has a spelling: the length is that of the octets
pub record IsReportData (alphabet : Alphabet) (user : ReportData) : Type 0 where
  pub small : user.length < 256
  pub counted : length user.octets ≡ octets_of_length alphabet user.length
  pub few : length user.octets ≤ REPORT_DATA_MAX
  pub octets : IsOctets user.octets

abbrev pub data_in : ℕ → List ℕ → ReportData
data_in count octets = record { length = count; octets = octets }

abbrev pub report_data_octets : ReportData → List ℕ
report_data_octets user = user.length ∷ user.octets

-- without a data coding scheme it is the 7-bit alphabet
abbrev pub report_alphabet : Option ℕ → Alphabet
report_alphabet None = Gsm7
report_alphabet (Some dcs) = alphabet_at dcs

-- the parts that may be there
pub record Parts : Type 0 where
  -- TP-PID
  pub pid : Option ℕ
  -- TP-DCS
  pub dcs : Option ℕ
  -- TP-UDL and TP-UD
  pub user : Option ReportData

unfoldable pub parts : Indicator → Field Parts UnitFault
parts there = do
  -- TP-PID
  pid ← part_if there.pid (octet Short)
  -- TP-DCS
  dcs ← part_if there.dcs (octet Short)
  -- TP-UDL and TP-UD
  user ← part_if there.user (report_data (report_alphabet dcs))
  always (record { pid = pid; dcs = dcs; user = user })

-- ---- as they are written

abbrev pub indicator_of : Parts → Indicator
indicator_of those =
    record { pid = is_some those.pid; dcs = is_some those.dcs; user = is_some those.user }

-- what has a spelling
pub record AreParts (those : Parts) : Type 0 where
  pub pid : IfSome those.pid (λ n. n < 256)
  pub dcs : IfSome those.dcs (λ n. n < 256)
  pub user : IfSome those.user (IsReportData (report_alphabet those.dcs))

abbrev pub octet_if_some : Option ℕ → List ℕ
octet_if_some None = []
octet_if_some (Some octet) = octet ∷ []

abbrev pub data_if_some : Option ReportData → List ℕ
data_if_some None = []
data_if_some (Some user) = report_data_octets user

abbrev pub parts_octets : Parts → List ℕ
parts_octets those = octet_if_some those.pid ++ (octet_if_some those.dcs ++ data_if_some those.user)
