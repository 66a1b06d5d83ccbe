-- What is read of octets has a spelling: units, and headers.
use Rattle.std.proofs.Common.{◌≡◌, ℕ, suc, ◌+◌, ◌-◌, ◌<◌, ◌≤◌, Bool, true, false, cond, leb, List, length, Option, Ok, Err, refl, sym, subst, arith}
use Rattle.std.specs.Prelude.{IfSome}
use Rattle.std.proofs.lemmas.Bool.{leb-true}
use Rattle.sms_text.specs.Octets.{IsOctets}
use Rattle.sms_field.specs.Field.{octet, octet_by, octets_of}
use Rattle.sms_field.specs.Address.Value.{HasSpelling}
use Rattle.sms_field.specs.Coding.{alphabet_at}
use Rattle.sms_field.specs.Inside.ReadAddressLaws.{has_octet, has_stamp, has_up_to, has_address}
use Rattle.sms_field.specs.Reading.Values.{Has, Any}
use Rattle.sms_field.specs.Inside.ReadValueLaws.{has_chain, has_mapped, has_part}
use Rattle.sms_field.specs.Time.Stamp.{IsStamp}
use Rattle.sms_field.specs.declared.coding.Alphabet.{Alphabet}
use Rattle.sms_field.specs.declared.coding.Alphabet.TheVariants.{Gsm7, EightBit, Ucs2, Compressed}
use Rattle.sms_tpdu.specs.Deliver.{deliver, IsDeliverable}
use Rattle.sms_tpdu.specs.Report.Octet.{FirstOctet, on_submission, on_delivery}
use Rattle.sms_tpdu.specs.Report.Kind.{KindPart, no_part, failure_cause, centre_stamp}
use Rattle.sms_tpdu.specs.Report.AnnouncedParts.{report_length, report_data, IsReportData, report_alphabet, parts, AreParts}
use Rattle.sms_tpdu.specs.Report.{report, IsReport, deliver_ack, deliver_error, submit_ack, submit_error, IsDeliverAck, IsDeliverError, IsSubmitAck, IsSubmitError}
use Rattle.sms_tpdu.specs.Inside.IfMoreLaws.{has_if_more}
use Rattle.sms_tpdu.specs.Report.Indicated.{indicated_parts, no_parts, optional_parts}
use Rattle.sms_tpdu.specs.StatusReport.{status_report, IsStatusReport}
use Rattle.sms_tpdu.specs.Command.{command, IsCommand}
use Rattle.sms_tpdu.specs.Submit.{submit, IsSubmittable}
use Rattle.sms_tpdu.specs.Submit.ValidityPeriod.{validity, IsInRange}
use Rattle.sms_tpdu.specs.UserData.{FitsAlphabet, BodyFits, body_of, length_with_header, header_length, user_data}
use Rattle.sms_tpdu.specs.UserData.Header.{IsHeader, header}
use Rattle.sms_tpdu.specs.UserData.Lengths.{greatest_length, octets_of_length, length_of_header}
use Rattle.sms_tpdu.specs.declared.fault.UnitFault.TheVariants.{Short, DataTooLong, HeaderTooLong}
use Rattle.sms_tpdu.specs.declared.report.indicator.Indicator.{Indicator}
use Rattle.sms_tpdu.specs.declared.submit.validity.ValidityFormat.{ValidityFormat}
use Rattle.sms_tpdu.specs.declared.submit.validity.ValidityFormat.TheVariants.{Absent, Relative, Enhanced, Absolute}
use Rattle.sms_tpdu.proofs.BodyFits.{body_fits, header_small, no_room}

record IsChosen {A : Type 0} (b : Bool) (x v : A) : Type 0 where
  tested : b ≡ true
  value : v ≡ x

chosen : {A W : Type 0} (b : Bool) (x v : A) (why : W) → cond b (Ok x) (Err why) ≡ Ok v → IsChosen b x v
chosen true x v why e = record { tested = refl; value = cc }
chosen false x v why e = absurd cc

both_chosen : {A W : Type 0} (a b : Bool) (x v : A) (why other : W) → cond a (cond b (Ok x) (Err why)) (Err other) ≡ Ok v → IsChosen a x v
both_chosen true b x v why other e = let c = chosen b x v why e in record { tested = refl; value = c.value }
both_chosen false b x v why other e = absurd cc

abbrev AreCounted : ℕ → List ℕ → Type 0
AreCounted n octets = (length octets ≡ n) × IsOctets octets

has_counted : {W : Type 0} (short : W) (n : ℕ) → Has (AreCounted n) (octets_of short n)
has_counted short n v octets rest are r = (r.1, subst IsOctets r.0 are)

-- ---- user data

abbrev IsLength : Alphabet → ℕ → Type 0
IsLength alphabet count = count ≤ greatest_length alphabet

has_length : (alphabet : Alphabet) → Has (IsLength alphabet) (octet_by Short (length_with_header alphabet))
has_length alphabet v octets rest are r =
    let c = both_chosen (leb r.0 (greatest_length alphabet)) (leb (length_of_header alphabet 1) r.0) r.0 v HeaderTooLong DataTooLong r.2 in
    let few : r.0 ≤ greatest_length alphabet = leb-true r.0 (greatest_length alphabet) c.tested in
    subst (IsLength alphabet) (sym c.value) few

abbrev HasRoom : Alphabet → ℕ → ℕ → Type 0
HasRoom alphabet count size = length_of_header alphabet (size + 1) ≤ count

has_size : (alphabet : Alphabet) (count : ℕ) → Has (HasRoom alphabet count) (octet_by Short (header_length alphabet count))
has_size alphabet count v octets rest are r =
    let c = chosen (leb (length_of_header alphabet (r.0 + 1)) count) r.0 v HeaderTooLong r.2 in
    let room : HasRoom alphabet count r.0 = leb-true (length_of_header alphabet (r.0 + 1)) count c.tested in
    subst (HasRoom alphabet count) (sym c.value) room

has_user : (with_header : Bool) (alphabet : Alphabet) → Has (FitsAlphabet alphabet) (user_data with_header alphabet)
unfolding user_data
has_user false alphabet =
    has_chain (IsLength alphabet) (FitsAlphabet alphabet) _ _ (has_up_to Short (greatest_length alphabet) DataTooLong) (λ count few.
    has_chain (AreCounted (octets_of_length alphabet count)) (FitsAlphabet alphabet) _ _ (has_counted Short (octets_of_length alphabet count)) (λ octets h.
    λ v others rest are r. subst (FitsAlphabet alphabet) (sym r.0) (tt, body_fits alphabet 0 count octets few (no_room alphabet count) (omega (arith, h.0)) h.1)))
has_user true alphabet =
    has_chain (IsLength alphabet) (FitsAlphabet alphabet) _ _ (has_length alphabet) (λ count few.
    has_chain (HasRoom alphabet count) (FitsAlphabet alphabet) _ _ (has_size alphabet count) (λ size room.
    has_chain (AreCounted size) (FitsAlphabet alphabet) _ _ (has_counted Short size) (λ octets h.
    has_chain (AreCounted (octets_of_length alphabet count - (size + 1))) (FitsAlphabet alphabet) _ _ (has_counted Short (octets_of_length alphabet count - (size + 1))) (λ written k.
    λ v others rest are r.
    let small : length octets < 256 = subst (λ (n : ℕ). n < 256) (sym h.0) (header_small alphabet size count few room) in
    let taken : size + 1 ≡ suc (length octets) = omega (arith, h.0) in
    let fits : BodyFits alphabet (suc (length octets)) (body_of alphabet (size + 1) count written) = subst (λ (n : ℕ). BodyFits alphabet n (body_of alphabet (size + 1) count written)) taken (body_fits alphabet (size + 1) count written few room k.0 k.1) in
    subst (FitsAlphabet alphabet) (sym r.0) ((small, h.1), fits)))))

-- ---- messages

has_validity : (format : ValidityFormat) → Has IsInRange (validity format)
unfolding validity
has_validity Absent = λ v octets rest are r. subst IsInRange (sym r.0) tt
has_validity Relative = has_chain (λ octet. octet < 256) IsInRange _ _ (has_octet Short) (λ value h. λ v octets rest are r. subst IsInRange (sym r.0) h)
has_validity Enhanced = has_chain IsStamp IsInRange _ _ (has_stamp Short) (λ values h. λ v octets rest are r. subst IsInRange (sym r.0) h)
has_validity Absolute = has_chain IsStamp IsInRange _ _ (has_stamp Short) (λ end h. λ v octets rest are r. subst IsInRange (sym r.0) h)

pub has_submit : Has IsSubmittable submit
unfolding submit
has_submit =
    has_chain Any IsSubmittable _ _ (λ v octets rest are r. tt) (λ flags _.
    has_chain (λ octet. octet < 256) IsSubmittable _ _ (has_octet Short) (λ reference small.
    has_chain HasSpelling IsSubmittable _ _ has_address (λ target spelled.
    has_chain (λ octet. octet < 256) IsSubmittable _ _ (has_octet Short) (λ pid pid_small.
    has_chain (λ octet. octet < 256) IsSubmittable _ _ (has_octet Short) (λ dcs dcs_small.
    has_chain IsInRange IsSubmittable _ _ (has_validity flags.format) (λ period in_range.
    has_chain (FitsAlphabet (alphabet_at dcs)) IsSubmittable _ _ (has_user flags.header (alphabet_at dcs)) (λ user fits.
    λ v octets rest are r. subst IsSubmittable (sym r.0) (record { validity = in_range; reference = small; target = spelled; pid = pid_small; dcs = dcs_small; user = fits }))))))))

pub has_deliver : Has IsDeliverable deliver
unfolding deliver
has_deliver =
    has_chain Any IsDeliverable _ _ (λ v octets rest are r. tt) (λ flags _.
    has_chain HasSpelling IsDeliverable _ _ has_address (λ origin spelled.
    has_chain (λ octet. octet < 256) IsDeliverable _ _ (has_octet Short) (λ pid pid_small.
    has_chain (λ octet. octet < 256) IsDeliverable _ _ (has_octet Short) (λ dcs dcs_small.
    has_chain IsStamp IsDeliverable _ _ (has_stamp Short) (λ stamp is_stamp.
    has_chain (FitsAlphabet (alphabet_at dcs)) IsDeliverable _ _ (has_user flags.header (alphabet_at dcs)) (λ user fits.
    λ v octets rest are r. subst IsDeliverable (sym r.0) (record { origin = spelled; pid = pid_small; dcs = dcs_small; stamp = is_stamp; user = fits })))))))

-- ---- reports

few_counted : (alphabet : Alphabet) (count : ℕ) → octets_of_length alphabet count ≤ 159 → count < 256
few_counted Gsm7 count h = omega arith
few_counted EightBit count h = omega arith
few_counted Ucs2 count h = omega arith
few_counted Compressed count h = omega arith

abbrev AreFew : Alphabet → ℕ → Type 0
AreFew alphabet count = octets_of_length alphabet count ≤ 159

has_report_length : (alphabet : Alphabet) → Has (AreFew alphabet) (octet_by Short (report_length alphabet))
has_report_length alphabet v octets rest are r =
    let c = chosen (leb (octets_of_length alphabet r.0) 159) r.0 v DataTooLong r.2 in
    let few : AreFew alphabet r.0 = leb-true (octets_of_length alphabet r.0) 159 c.tested in
    subst (AreFew alphabet) (sym c.value) few

has_report_data : (alphabet : Alphabet) → Has (IsReportData alphabet) (report_data alphabet)
unfolding report_data
has_report_data alphabet =
    has_chain (AreFew alphabet) (IsReportData alphabet) _ _ (has_report_length alphabet) (λ count few.
    has_chain (AreCounted (octets_of_length alphabet count)) (IsReportData alphabet) _ _ (has_counted Short (octets_of_length alphabet count)) (λ octets h.
    λ v others rest are r. subst (IsReportData alphabet) (sym r.0) (record { small = few_counted alphabet count few; counted = h.0; few = subst (λ (n : ℕ). n ≤ 159) (sym h.0) few; octets = h.1 })))

abbrev IsSmall : Option ℕ → Type 0
IsSmall o = IfSome o (λ n. n < 256)

has_parts : (there : Indicator) → Has AreParts (parts there)
unfolding parts
has_parts there =
    has_chain IsSmall AreParts _ _ (has_part (λ n. n < 256) there.pid (octet Short) (has_octet Short)) (λ pid p.
    has_chain IsSmall AreParts _ _ (has_part (λ n. n < 256) there.dcs (octet Short) (has_octet Short)) (λ dcs d.
    has_chain (λ o. IfSome o (IsReportData (report_alphabet dcs))) AreParts _ _ (has_part (IsReportData (report_alphabet dcs)) there.user (report_data (report_alphabet dcs)) (has_report_data (report_alphabet dcs))) (λ user u.
    λ v octets rest are r. subst AreParts (sym r.0) (record { pid = p; dcs = d; user = u }))))

has_report : {C S : Type 0} (first : FirstOctet) (cause : KindPart C) (stamp : KindPart S) → Has cause.is cause.field → Has stamp.is stamp.field → Has (IsReport cause stamp) (report first cause stamp)
unfolding report
has_report first cause stamp of_cause of_stamp =
    has_chain Any (IsReport cause stamp) _ _ (λ v octets rest are r. tt) (λ with_header _.
    has_chain cause.is (IsReport cause stamp) _ _ of_cause (λ why is_cause.
    has_chain Any (IsReport cause stamp) _ _ (λ v octets rest are r. tt) (λ there _.
    has_chain stamp.is (IsReport cause stamp) _ _ of_stamp (λ time is_stamp.
    has_chain AreParts (IsReport cause stamp) _ _ (has_parts there) (λ those fits.
    λ v octets rest are r. subst (IsReport cause stamp) (sym r.0) (record { cause = is_cause; stamp = is_stamp; parts = fits }))))))

has_no_part : Has no_part.is no_part.field
has_no_part v octets rest are r = tt

pub has_submit_ack : Has IsSubmitAck submit_ack
has_submit_ack = has_report on_submission no_part centre_stamp has_no_part (has_stamp Short)

pub has_submit_error : Has IsSubmitError submit_error
has_submit_error = has_report on_submission failure_cause centre_stamp (has_octet Short) (has_stamp Short)

pub has_deliver_ack : Has IsDeliverAck deliver_ack
has_deliver_ack = has_report on_delivery no_part no_part has_no_part has_no_part

pub has_deliver_error : Has IsDeliverError deliver_error
has_deliver_error = has_report on_delivery failure_cause no_part (has_octet Short) has_no_part

has_optional_parts : Has AreParts optional_parts
unfolding indicated_parts
has_optional_parts =
    has_if_more AreParts no_parts indicated_parts (record { pid = tt; dcs = tt; user = tt }) (has_chain Any AreParts _ _ (λ v octets rest are r. tt) (λ there _. has_parts there))

pub has_status_report : Has IsStatusReport status_report
unfolding status_report
has_status_report =
    has_chain Any IsStatusReport _ _ (λ v octets rest are r. tt) (λ flags _.
    has_chain (λ octet. octet < 256) IsStatusReport _ _ (has_octet Short) (λ reference small.
    has_chain HasSpelling IsStatusReport _ _ has_address (λ recipient spelled.
    has_chain IsStamp IsStatusReport _ _ (has_stamp Short) (λ stamp is_stamp.
    has_chain IsStamp IsStatusReport _ _ (has_stamp Short) (λ discharged is_time.
    has_chain (λ octet. octet < 256) IsStatusReport _ _ (has_octet Short) (λ status status_small.
    has_mapped AreParts IsStatusReport _ optional_parts has_optional_parts (λ those fits.
    record { reference = small; recipient = spelled; stamp = is_stamp; discharged = is_time; status = status_small; parts = fits })))))))

pub has_command : Has IsCommand command
unfolding command
has_command =
    has_chain Any IsCommand _ _ (λ v octets rest are r. tt) (λ flags _.
    has_chain (λ octet. octet < 256) IsCommand _ _ (has_octet Short) (λ reference small.
    has_chain (λ octet. octet < 256) IsCommand _ _ (has_octet Short) (λ pid pid_small.
    has_chain (λ octet. octet < 256) IsCommand _ _ (has_octet Short) (λ kind kind_small.
    has_chain (λ octet. octet < 256) IsCommand _ _ (has_octet Short) (λ message message_small.
    has_chain HasSpelling IsCommand _ _ has_address (λ target spelled.
    has_chain (λ count. count ≤ 157) IsCommand _ _ (has_up_to Short 157 DataTooLong) (λ count few.
    has_chain (AreCounted count) IsCommand _ _ (has_counted Short count) (λ octets h.
    λ v others rest are r. subst IsCommand (sym r.0) (record { reference = small; pid = pid_small; kind = kind_small; message = message_small; target = spelled; few = subst (λ (n : ℕ). n ≤ 157) (sym h.0) few; octets = h.1 })))))))))

pub has_header : Has IsHeader header
unfolding header
has_header = has_chain (λ size. size ≤ 139) IsHeader _ _ (has_up_to Short 139 HeaderTooLong) (λ size few. λ v octets rest are r. (subst (λ (n : ℕ). n ≤ 139) (sym r.1) few, subst IsOctets r.0 are))
