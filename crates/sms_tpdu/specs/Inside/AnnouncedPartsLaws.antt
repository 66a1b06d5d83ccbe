-- A reader may pass this by: lemmas, for the proofs of this crate and of those above it.
--
-- The parts of a report are a lawful field, and what is written is read back.
use Rattle.std.proofs.Common.{◌≡◌, ℕ, ◌<◌, ◌≤◌, leb, List, [], ◌∷◌, Option, Some, None, is_some, Ok, refl, lit<}
use Rattle.std.specs.Prelude.{IfSome}
use Rattle.std.proofs.lemmas.Bool.{le-leb}
use Rattle.sms_text.specs.Octets.{IsOctets}
use Rattle.sms_field.specs.Field.{octet, IsSelfContained, IsLawful}
use Rattle.sms_field.specs.declared.coding.Alphabet.{Alphabet}
use Rattle.sms_field.specs.declared.coding.Alphabet.TheVariants.{Gsm7, EightBit, Ucs2, Compressed}
use Rattle.sms_field.specs.Inside.ChainLaws.{chain_lawful, chain_self_contained}
use Rattle.sms_field.specs.Inside.OctetLists.{octets-append}
use Rattle.sms_field.specs.Inside.SingleLaws.{always_self, always_lawful, octet_self, octet_lawful, octet_by_self, octet_by_lawful, octets_of_self, octets_of_lawful, apart_else}
use Rattle.sms_tpdu.specs.UserData.Lengths.{octets_of_length}
use Rattle.sms_field.specs.Inside.ChainReading.{chained, ended}
use Rattle.sms_field.specs.Field.Optional.{part_if}
use Rattle.sms_field.specs.Inside.OptionalLaws.{part_if_self, part_if_lawful}
use Rattle.sms_tpdu.specs.Report.AnnouncedParts.{Parts, report_length, report_data, IsReportData, report_data_octets, report_alphabet, parts, indicator_of, AreParts, octet_if_some, data_if_some, parts_octets}
use Rattle.sms_tpdu.specs.declared.report.indicator.Indicator.{Indicator}
use Rattle.sms_tpdu.specs.declared.report.parts.ReportData.{ReportData}
use Rattle.sms_tpdu.specs.declared.fault.UnitFault.{UnitFault}
use Rattle.sms_tpdu.specs.declared.fault.UnitFault.TheVariants.{Short, DataTooLong}

-- ---- data

any_length : (alphabet : Alphabet) → report_length alphabet 0 ≡ Ok 0
any_length Gsm7 = refl
any_length EightBit = refl
any_length Ucs2 = refl
any_length Compressed = refl

report_data_self : (alphabet : Alphabet) → IsSelfContained (report_data alphabet)
unfolding report_data
report_data_self alphabet =
    chain_self_contained _ _ (octet_by_self Short (report_length alphabet)) (λ count.
    chain_self_contained _ _ (octets_of_self Short (octets_of_length alphabet count)) (λ octets.
    always_self UnitFault _))

report_data_lawful : (alphabet : Alphabet) → IsLawful Short (report_data alphabet)
unfolding report_data
report_data_lawful alphabet =
    chain_lawful _ _ Short (octet_by_self Short (report_length alphabet)) (octet_by_lawful Short (report_length alphabet) (0, lit< tt, 0, any_length alphabet) (λ o. apart_else Short (leb (octets_of_length alphabet o) 159) o DataTooLong (λ e. cc))) (λ count _ _ _.
    chain_lawful _ _ Short (octets_of_self Short (octets_of_length alphabet count)) (octets_of_lawful Short (octets_of_length alphabet count)) (λ octets _ _ _.
    always_lawful Short _))

few_octets : (alphabet : Alphabet) (count : ℕ) → octets_of_length alphabet count ≤ 159 → report_length alphabet count ≡ Ok count
few_octets alphabet count h = rw (le-leb (octets_of_length alphabet count) 159 h) refl

counted : (alphabet : Alphabet) (user : ReportData) → IsReportData alphabet user → octets_of_length alphabet user.length ≤ 159
counted alphabet user fits = rw fits.counted at fits.few

report_data_again : (alphabet : Alphabet) (user : ReportData) (rest : List ℕ) → IsReportData alphabet user → (report_data alphabet).reads user (report_data_octets user) rest
unfolding report_data
report_data_again alphabet user rest fits =
    chained _ _ user.length user (user.length ∷ []) user.octets rest (user.length, refl, few_octets alphabet user.length (counted alphabet user fits)) (
    ended _ _ user.octets user user.octets rest (refl, fits.counted)
    (refl, refl))

-- ---- parts that are there or not

octet_again : (value : Option ℕ) (rest : List ℕ) → (part_if (is_some value) (octet Short)).reads value (octet_if_some value) rest
octet_again None rest = (refl, refl)
octet_again (Some value) rest = ended _ _ value (Some value) (value ∷ []) rest refl (refl, refl)

data_again : (alphabet : Alphabet) (user : Option ReportData) (rest : List ℕ) → IfSome user (IsReportData alphabet) → (part_if (is_some user) (report_data alphabet)).reads user (data_if_some user) rest
data_again alphabet None rest fits = (refl, refl)
data_again alphabet (Some user) rest fits = ended _ _ user (Some user) (report_data_octets user) rest (report_data_again alphabet user rest fits) (refl, refl)

-- ---- all parts

pub parts_self : (there : Indicator) → IsSelfContained (parts there)
unfolding parts
parts_self there =
    chain_self_contained _ _ (part_if_self there.pid (octet Short) (octet_self Short)) (λ pid.
    chain_self_contained _ _ (part_if_self there.dcs (octet Short) (octet_self Short)) (λ dcs.
    chain_self_contained _ _ (part_if_self there.user (report_data (report_alphabet dcs)) (report_data_self (report_alphabet dcs))) (λ user.
    always_self UnitFault _)))

pub parts_lawful : (there : Indicator) → IsLawful Short (parts there)
unfolding parts
parts_lawful there =
    chain_lawful _ _ Short (part_if_self there.pid (octet Short) (octet_self Short)) (part_if_lawful Short there.pid (octet Short) (octet_self Short) (octet_lawful Short)) (λ pid _ _ _.
    chain_lawful _ _ Short (part_if_self there.dcs (octet Short) (octet_self Short)) (part_if_lawful Short there.dcs (octet Short) (octet_self Short) (octet_lawful Short)) (λ dcs _ _ _.
    chain_lawful _ _ Short (part_if_self there.user (report_data (report_alphabet dcs)) (report_data_self (report_alphabet dcs))) (part_if_lawful Short there.user (report_data (report_alphabet dcs)) (report_data_self (report_alphabet dcs)) (report_data_lawful (report_alphabet dcs))) (λ user _ _ _.
    always_lawful Short _)))

pub parts_again : (those : Parts) (rest : List ℕ) → AreParts those → (parts (indicator_of those)).reads those (parts_octets those) rest
unfolding parts
parts_again those rest fits =
    chained _ _ those.pid those (octet_if_some those.pid) _ rest (octet_again those.pid _) (
    chained _ _ those.dcs those (octet_if_some those.dcs) _ rest (octet_again those.dcs _) (
    ended _ _ those.user those (data_if_some those.user) rest (data_again (report_alphabet those.dcs) those.user rest fits.user)
    (refl, refl)))

octet_is : (value : Option ℕ) → IfSome value (λ n. n < 256) → IsOctets (octet_if_some value)
octet_is None small = tt
octet_is (Some n) small = (small, tt)

data_are : (alphabet : Alphabet) (user : Option ReportData) → IfSome user (IsReportData alphabet) → IsOctets (data_if_some user)
data_are alphabet None fits = tt
data_are alphabet (Some user) fits = (fits.small, fits.octets)

pub parts_are_octets : (those : Parts) → AreParts those → IsOctets (parts_octets those)
parts_are_octets those fits = octets-append (octet_if_some those.pid) _ (octet_is those.pid fits.pid) (octets-append (octet_if_some those.dcs) _ (octet_is those.dcs fits.dcs) (data_are (report_alphabet those.dcs) those.user fits.user))
