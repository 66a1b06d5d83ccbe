-- A reader may pass this by: lemmas, for the proofs of this crate and of those above it.
--
-- How long each unit is as it is written.
use Rattle.std.proofs.Common.{ℕ, ◌+◌, ◌*◌, ◌≤◌, Bool, true, false, cond, List, [], ◌∷◌, ◌++◌, length, replicate, Option, Some, None, ap, arith, length-append}
use Rattle.std.specs.Prelude.{IfSome}
use Rattle.std.proofs.lemmas.List.{length-replicate}
use Rattle.sms_text.specs.Bits.{PackedPlain, septet_bits}
use Rattle.sms_text.specs.Inside.PackingLaws.{length-octet_bits, length-septet_bits}
use Rattle.sms_field.specs.Address.{address_octets}
use Rattle.sms_field.specs.Inside.AddressLengthLaws.{address_few}
use Rattle.sms_field.specs.Coding.{alphabet_at}
use Rattle.sms_field.specs.declared.coding.Alphabet.{Alphabet}
use Rattle.sms_field.specs.declared.coding.Alphabet.TheVariants.{Gsm7, EightBit, Ucs2, Compressed}
use Rattle.sms_field.specs.declared.validity.Validity.{Validity}
use Rattle.sms_field.specs.declared.validity.Validity.TheVariants as period
use Rattle.sms_tpdu.specs.Sizes.{greatest_size, greatest_status_size, greatest_command_size, IsWithin}
use Rattle.sms_tpdu.specs.UserData.Lengths.{fill_bits}
use Rattle.sms_tpdu.specs.UserData.{header_octets, BodyFits, FitsAlphabet, SpellsBody, SpellsUserData}
use Rattle.sms_tpdu.specs.Submit.ValidityPeriod.{validity_octets, IsInRange}
use Rattle.sms_tpdu.specs.Submit.{SpellsSubmit}
use Rattle.sms_tpdu.specs.Deliver.{SpellsDeliver}
use Rattle.sms_tpdu.specs.Report.AnnouncedParts.{Parts, IsReportData, report_alphabet, indicator_of, AreParts, octet_if_some, data_if_some, parts_octets}
use Rattle.sms_tpdu.specs.Report.{parts_in, SpellsReport, SpellsSubmitAck, SpellsSubmitError, SpellsDeliverAck, SpellsDeliverError}
use Rattle.sms_tpdu.specs.Report.Indicated.{is_any, optional_parts_octets}
use Rattle.sms_tpdu.specs.Report.Octet.{FirstOctet, on_submission, on_delivery}
use Rattle.sms_tpdu.specs.Report.ParameterIndicator.{indicator_octet}
use Rattle.sms_tpdu.specs.Report.Kind.{KindPart, no_part, failure_cause, centre_stamp}
use Rattle.sms_tpdu.specs.Command.{SpellsCommand}
use Rattle.sms_tpdu.specs.StatusReport.{SpellsStatusReport}
use Rattle.sms_tpdu.specs.StatusReport as status_report
use Rattle.sms_tpdu.specs.declared.report.parts.ReportData.{ReportData}
use Rattle.sms_tpdu.specs.declared.user_data.body.Body.{Body}
use Rattle.sms_tpdu.specs.declared.user_data.body.Body.TheVariants as body
use Rattle.sms_tpdu.specs.declared.user_data.UserData.{UserData}

-- ---- user data

packed_bits : (fill : ℕ) (septets packed : List ℕ) → PackedPlain fill septets packed → 8 * length packed ≤ fill + 7 * length septets + 7
packed_bits fill septets packed p =
    omega (arith, p.few, ap length p.parts, length-octet_bits packed, length-append (replicate fill 0 ++ septet_bits septets) (replicate p.spare 0), length-append (replicate fill 0) (septet_bits septets), length-septet_bits septets, length-replicate {A = ℕ} fill 0, length-replicate {A = ℕ} p.spare 0)

body_within : (alphabet : Alphabet) (taken : ℕ) (b : Body) (written : List ℕ) → BodyFits alphabet taken b → SpellsBody taken b written → taken + length written ≤ 140
body_within Gsm7 taken (body.Septets septets) written fits p = omega (arith, fits.0, packed_bits (fill_bits taken) septets written p.0)
body_within Gsm7 taken (body.Octets octets) written fits p = absurd fits
body_within EightBit taken (body.Septets septets) written fits p = absurd fits
body_within EightBit taken (body.Octets octets) written fits p = omega (arith, fits.0, ap length p)
body_within Ucs2 taken (body.Septets septets) written fits p = absurd fits
body_within Ucs2 taken (body.Octets octets) written fits p = omega (arith, fits.0, ap length p)
body_within Compressed taken (body.Septets septets) written fits p = absurd fits
body_within Compressed taken (body.Octets octets) written fits p = omega (arith, fits.0, ap length p)

pub user_data_within : (alphabet : Alphabet) (u : UserData) (octets : List ℕ) → FitsAlphabet alphabet u → SpellsUserData u octets → length octets ≤ 141
user_data_within alphabet u octets fits p =
    let h = body_within alphabet (length (header_octets u.header)) u.body p.written fits.1 p.spells_body in
    omega (arith, h, ap length p.parts, length-append (header_octets u.header) p.written)

-- ---- messages

validity_within : (v : Validity) → IsInRange v → length (validity_octets v) ≤ 7
validity_within period.Absent fits = omega arith
validity_within (period.Relative value) fits = omega arith
validity_within (period.Enhanced values) fits = omega (arith, fits.0)
validity_within (period.Absolute end) fits = omega (arith, fits.0)

pub submit_within : IsWithin greatest_size SpellsSubmit
submit_within s octets p =
    let fits = p.submittable in
    let a = address_few s.target fits.target in
    let v = validity_within s.validity fits.validity in
    let u = user_data_within (alphabet_at s.dcs) s.user p.written fits.user p.user in
    omega (arith, a, v, u, ap length p.parts, length-append (address_octets s.target) (s.pid ∷ s.dcs ∷ (validity_octets s.validity ++ p.written)), length-append (validity_octets s.validity) p.written)

pub deliver_within : IsWithin greatest_size SpellsDeliver
deliver_within d octets p =
    let fits = p.deliverable in
    let a = address_few d.origin fits.origin in
    let u = user_data_within (alphabet_at d.dcs) d.user p.written fits.user p.user in
    omega (arith, a, u, fits.stamp.0, ap length p.parts, length-append (address_octets d.origin) (d.pid ∷ d.dcs ∷ (d.stamp ++ p.written)), length-append d.stamp p.written)

-- ---- reports

octet_within : (value : Option ℕ) → length (octet_if_some value) ≤ 1
octet_within None = omega arith
octet_within (Some octet) = omega arith

data_within : (alphabet : Alphabet) (user : Option ReportData) → IfSome user (IsReportData alphabet) → length (data_if_some user) ≤ 160
data_within alphabet None fits = omega arith
data_within alphabet (Some user) fits = omega (arith, fits.few)

parts_within : (those : Parts) → AreParts those → length (parts_octets those) ≤ 162
parts_within those fits =
    omega (
      arith,
      octet_within those.pid,
      octet_within those.dcs,
      data_within (report_alphabet those.dcs) those.user fits.user,
      length-append (octet_if_some those.pid) (octet_if_some those.dcs ++ data_if_some those.user),
      length-append (octet_if_some those.dcs) (data_if_some those.user),
    )

-- both together have at most eight octets
abbrev AreShort : {C S : Type 0} → KindPart C → KindPart S → Type 0
AreShort {C} {S} cause stamp = (c : C) (s : S) → cause.is c → stamp.is s → length (cause.octets c) + length (stamp.octets s) ≤ 8

report_within : {C S : Type 0} (first : FirstOctet) (cause : KindPart C) (stamp : KindPart S) → AreShort cause stamp → IsWithin greatest_size (SpellsReport first cause stamp)
report_within first cause stamp short r octets p =
    omega (
      arith,
      parts_within (parts_in r) p.0.parts,
      short r.cause r.stamp p.0.cause p.0.stamp,
      ap length p.1,
      length-append (cause.octets r.cause) (indicator_octet (indicator_of (parts_in r)) ∷ (stamp.octets r.stamp ++ parts_octets (parts_in r))),
      length-append (stamp.octets r.stamp) (parts_octets (parts_in r)),
    )

pub submit_ack_within : IsWithin greatest_size SpellsSubmitAck
submit_ack_within = report_within on_submission no_part centre_stamp (λ c s is_cause is_stamp. omega (arith, is_stamp.0))

pub submit_error_within : IsWithin greatest_size SpellsSubmitError
submit_error_within = report_within on_submission failure_cause centre_stamp (λ c s is_cause is_stamp. omega (arith, is_stamp.0))

pub deliver_ack_within : IsWithin greatest_size SpellsDeliverAck
deliver_ack_within = report_within on_delivery no_part no_part (λ c s is_cause is_stamp. omega arith)

pub deliver_error_within : IsWithin greatest_size SpellsDeliverError
deliver_error_within = report_within on_delivery failure_cause no_part (λ c s is_cause is_stamp. omega arith)

optional_parts_within : (those : Parts) → AreParts those → length (optional_parts_octets those) ≤ 163
optional_parts_within those fits = go (is_any (indicator_of those))
  where
    go : (b : Bool) → length (cond b (indicator_octet (indicator_of those) ∷ parts_octets those) []) ≤ 163
    go true = omega (arith, parts_within those fits)
    go false = omega arith

pub status_report_within : IsWithin greatest_status_size SpellsStatusReport
status_report_within r octets p =
    let fits = p.0 in
    let a = address_few r.recipient fits.recipient in
    let those = status_report.parts_in r in
    let parts = optional_parts_within those fits.parts in
    let after : List ℕ = r.status ∷ optional_parts_octets those in
    omega (arith, a, parts, fits.stamp.0, fits.discharged.0, ap length p.1, length-append (address_octets r.recipient) (r.stamp ++ (r.discharged ++ after)), length-append r.stamp (r.discharged ++ after), length-append r.discharged after)

pub command_within : IsWithin greatest_command_size SpellsCommand
command_within c octets p =
    let fits = p.0 in
    let a = address_few c.target fits.target in
    omega (arith, a, fits.few, ap length p.1, length-append (address_octets c.target) (length c.octets ∷ c.octets))
