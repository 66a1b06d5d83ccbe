-- An input has one refusal by each unit, and by a header.
use Rattle.std.proofs.Common.{◌≡◌, inl, inr, ℕ, ◌+◌, ◌-◌, Bool, true, false, List, [], ◌∷◌, ◌++◌, refl, sym, subst, ◌∙◌}
use Rattle.sms_field.specs.Address.{address}
use Rattle.sms_field.specs.Bit.{bit}
use Rattle.sms_field.specs.Coding.{alphabet_at}
use Rattle.sms_field.specs.Field.{octet, map_reason, up_to}
use Rattle.sms_field.specs.Inside.OneReason.{HasOneReason, ReadsOneWay, IsKnown}
use Rattle.sms_field.specs.Inside.OneRefusalLaws.{one_way_always, one_way_octet, one_way_by, one_way_octets, one_way_chain, one_way_part, one_way_address, one_reason_by, one_reason_octet, one_reason_octets, one_reason_map_reason, one_reason_mapped, one_reason_chain, one_reason_part, one_reason_address, one_refusal}
use Rattle.sms_field.specs.declared.coding.Alphabet.{Alphabet}
use Rattle.sms_tpdu.specs.Refusals.{IsRefusedOnce}
use Rattle.sms_tpdu.specs.Fault.{unit_fault}
use Rattle.sms_tpdu.specs.Deliver.{deliver}
use Rattle.sms_tpdu.specs.Deliver.Flags.{deliver_flags}
use Rattle.sms_tpdu.specs.Submit.{submit}
use Rattle.sms_tpdu.specs.Submit.Flags.{submit_flags}
use Rattle.sms_tpdu.specs.Submit.ValidityPeriod.{validity}
use Rattle.sms_tpdu.specs.UserData.{user_data, length_with_header, header_length}
use Rattle.sms_tpdu.specs.UserData.Header.{header}
use Rattle.sms_tpdu.specs.UserData.Lengths.{greatest_length, octets_of_length}
use Rattle.sms_tpdu.specs.Report.AnnouncedParts.{report_length, report_data, report_alphabet, parts}
use Rattle.sms_tpdu.specs.Report.Octet.{FirstOctet, on_submission, on_delivery}
use Rattle.sms_tpdu.specs.Report.Kind.{KindPart, no_part, failure_cause, centre_stamp}
use Rattle.sms_tpdu.specs.Report.ParameterIndicator.{AreFurther, further, indicator}
use Rattle.sms_tpdu.specs.Report.{report, deliver_ack, deliver_error, submit_ack, submit_error}
use Rattle.sms_tpdu.specs.Inside.IfMoreLaws.{one_reason_if_more}
use Rattle.sms_tpdu.specs.Report.Indicated.{indicated_parts, no_parts, optional_parts}
use Rattle.sms_tpdu.specs.StatusReport.{status_report, report_of}
use Rattle.sms_tpdu.specs.StatusReport.Flags.{status_report_flags}
use Rattle.sms_tpdu.specs.Command.{command}
use Rattle.sms_tpdu.specs.Command.Flags.{command_flags}
use Rattle.sms_tpdu.specs.declared.report.indicator.Indicator.{Indicator}
use Rattle.sms_tpdu.specs.declared.submit.validity.ValidityFormat.{ValidityFormat}
use Rattle.sms_tpdu.specs.declared.submit.validity.ValidityFormat.TheVariants.{Absent, Relative, Enhanced, Absolute}
use Rattle.sms_tpdu.specs.declared.fault.UnitFault.{UnitFault}
use Rattle.sms_tpdu.specs.declared.fault.UnitFault.TheVariants.{Short, WrongType, AddressTooLong, BadDigit, DataTooLong, HeaderTooLong}

is_short : IsKnown Short
is_short Short = inl refl
is_short WrongType = inr (λ e. cc)
is_short AddressTooLong = inr (λ e. cc)
is_short BadDigit = inr (λ e. cc)
is_short DataTooLong = inr (λ e. cc)
is_short HeaderTooLong = inr (λ e. cc)

-- ---- user data

one_way_user : (with_header : Bool) (alphabet : Alphabet) → ReadsOneWay (user_data with_header alphabet)
unfolding user_data
one_way_user false alphabet =
    one_way_chain _ _ (one_way_by Short (up_to (greatest_length alphabet) DataTooLong)) (λ count.
    one_way_chain _ _ (one_way_octets Short (octets_of_length alphabet count)) (λ octets. one_way_always UnitFault _))
one_way_user true alphabet =
    one_way_chain _ _ (one_way_by Short (length_with_header alphabet)) (λ count.
    one_way_chain _ _ (one_way_by Short (header_length alphabet count)) (λ size.
    one_way_chain _ _ (one_way_octets Short size) (λ octets.
    one_way_chain _ _ (one_way_octets Short (octets_of_length alphabet count - (size + 1))) (λ written. one_way_always UnitFault _))))

one_reason_user : (with_header : Bool) (alphabet : Alphabet) → HasOneReason (user_data with_header alphabet)
unfolding user_data
one_reason_user false alphabet =
    one_reason_chain _ _ (one_way_by Short (up_to (greatest_length alphabet) DataTooLong)) (one_reason_by Short (up_to (greatest_length alphabet) DataTooLong)) (λ count.
    one_reason_chain _ _ (one_way_octets Short (octets_of_length alphabet count)) (one_reason_octets Short (octets_of_length alphabet count)) (λ octets. λ f o w b p q. absurd p))
one_reason_user true alphabet =
    one_reason_chain _ _ (one_way_by Short (length_with_header alphabet)) (one_reason_by Short (length_with_header alphabet)) (λ count.
    one_reason_chain _ _ (one_way_by Short (header_length alphabet count)) (one_reason_by Short (header_length alphabet count)) (λ size.
    one_reason_chain _ _ (one_way_octets Short size) (one_reason_octets Short size) (λ octets.
    one_reason_chain _ _ (one_way_octets Short (octets_of_length alphabet count - (size + 1))) (one_reason_octets Short (octets_of_length alphabet count - (size + 1))) (λ written. λ f o w b p q. absurd p))))

-- ---- messages

one_way_validity : (format : ValidityFormat) → ReadsOneWay (validity format)
unfolding validity
one_way_validity Absent = one_way_always UnitFault _
one_way_validity Relative = one_way_chain _ _ (one_way_octet Short) (λ value. one_way_always UnitFault _)
one_way_validity Enhanced = one_way_chain _ _ (one_way_octets Short 7) (λ values. one_way_always UnitFault _)
one_way_validity Absolute = one_way_chain _ _ (one_way_octets Short 7) (λ end. one_way_always UnitFault _)

one_reason_validity : (format : ValidityFormat) → HasOneReason (validity format)
unfolding validity
one_reason_validity Absent = λ f o w b p q. absurd p
one_reason_validity Relative = one_reason_chain _ _ (one_way_octet Short) (one_reason_octet Short) (λ value. λ f o w b p q. absurd p)
one_reason_validity Enhanced = one_reason_chain _ _ (one_way_octets Short 7) (one_reason_octets Short 7) (λ values. λ f o w b p q. absurd p)
one_reason_validity Absolute = one_reason_chain _ _ (one_way_octets Short 7) (one_reason_octets Short 7) (λ end. λ f o w b p q. absurd p)

one_reason_named_address : HasOneReason (map_reason unit_fault address)
one_reason_named_address = one_reason_map_reason unit_fault address one_reason_address

one_reason_submit : HasOneReason submit
unfolding submit
one_reason_submit =
    one_reason_chain _ _ (one_way_by Short submit_flags) (one_reason_by Short submit_flags) (λ flags.
    one_reason_chain _ _ (one_way_octet Short) (one_reason_octet Short) (λ reference.
    one_reason_chain _ _ one_way_address one_reason_named_address (λ target.
    one_reason_chain _ _ (one_way_octet Short) (one_reason_octet Short) (λ pid.
    one_reason_chain _ _ (one_way_octet Short) (one_reason_octet Short) (λ dcs.
    one_reason_chain _ _ (one_way_validity flags.format) (one_reason_validity flags.format) (λ period.
    one_reason_chain _ _ (one_way_user flags.header (alphabet_at dcs)) (one_reason_user flags.header (alphabet_at dcs)) (λ user. λ f o w b p q. absurd p)))))))

one_reason_deliver : HasOneReason deliver
unfolding deliver
one_reason_deliver =
    one_reason_chain _ _ (one_way_by Short deliver_flags) (one_reason_by Short deliver_flags) (λ flags.
    one_reason_chain _ _ one_way_address one_reason_named_address (λ origin.
    one_reason_chain _ _ (one_way_octet Short) (one_reason_octet Short) (λ pid.
    one_reason_chain _ _ (one_way_octet Short) (one_reason_octet Short) (λ dcs.
    one_reason_chain _ _ (one_way_octets Short 7) (one_reason_octets Short 7) (λ stamp.
    one_reason_chain _ _ (one_way_user flags.header (alphabet_at dcs)) (one_reason_user flags.header (alphabet_at dcs)) (λ user. λ f o w b p q. absurd p))))))

-- ---- reports

one_further : (more : Bool) (xs ys rest left : List ℕ) → AreFurther more xs → AreFurther more ys → xs ++ rest ≡ ys ++ left → ys ≡ xs
one_further false xs ys rest left p q e = q ∙ sym p
one_further true [] ys rest left p q e = absurd p
one_further true (x ∷ xs) [] rest left p q e = absurd q
one_further true (x ∷ xs) (y ∷ ys) rest left p q e =
    let head : y ≡ x = cc in
    let tail : xs ++ rest ≡ ys ++ left = cc in
    let others = one_further (bit 7 x) xs ys rest left p (subst (λ (n : ℕ). AreFurther (bit 7 n) ys) head q) tail in
    cc

one_way_further : (more : Bool) → ReadsOneWay (further Short more)
one_way_further more v w xs ys rest left p q e = (refl, one_further more xs ys rest left p q e)

one_way_indicator : ReadsOneWay indicator
unfolding indicator
one_way_indicator = one_way_chain _ _ (one_way_octet Short) (λ first. one_way_chain _ _ (one_way_further (bit 7 first)) (λ skipped. one_way_always UnitFault _))

one_reason_indicator : HasOneReason indicator
unfolding indicator
one_reason_indicator = one_reason_chain _ _ (one_way_octet Short) (one_reason_octet Short) (λ first. one_reason_chain _ _ (one_way_further (bit 7 first)) (λ f o w b p q. absurd p) (λ skipped. λ f o w b p q. absurd p))

one_way_data : (alphabet : Alphabet) → ReadsOneWay (report_data alphabet)
unfolding report_data
one_way_data alphabet = one_way_chain _ _ (one_way_by Short (report_length alphabet)) (λ count. one_way_chain _ _ (one_way_octets Short (octets_of_length alphabet count)) (λ octets. one_way_always UnitFault _))

one_reason_data : (alphabet : Alphabet) → HasOneReason (report_data alphabet)
unfolding report_data
one_reason_data alphabet =
    one_reason_chain _ _ (one_way_by Short (report_length alphabet)) (one_reason_by Short (report_length alphabet)) (λ count.
    one_reason_chain _ _ (one_way_octets Short (octets_of_length alphabet count)) (one_reason_octets Short (octets_of_length alphabet count)) (λ octets. λ f o w b p q. absurd p))

one_way_parts : (there : Indicator) → ReadsOneWay (parts there)
unfolding parts
one_way_parts there =
    one_way_chain _ _ (one_way_part there.pid (octet Short) (one_way_octet Short)) (λ pid.
    one_way_chain _ _ (one_way_part there.dcs (octet Short) (one_way_octet Short)) (λ dcs.
    one_way_chain _ _ (one_way_part there.user (report_data (report_alphabet dcs)) (one_way_data (report_alphabet dcs))) (λ user. one_way_always UnitFault _)))

one_reason_parts : (there : Indicator) → HasOneReason (parts there)
unfolding parts
one_reason_parts there =
    one_reason_chain _ _ (one_way_part there.pid (octet Short) (one_way_octet Short)) (one_reason_part there.pid (octet Short) (one_way_octet Short) (one_reason_octet Short)) (λ pid.
    one_reason_chain _ _ (one_way_part there.dcs (octet Short) (one_way_octet Short)) (one_reason_part there.dcs (octet Short) (one_way_octet Short) (one_reason_octet Short)) (λ dcs.
    one_reason_chain _ _ (one_way_part there.user (report_data (report_alphabet dcs)) (one_way_data (report_alphabet dcs))) (one_reason_part there.user (report_data (report_alphabet dcs)) (one_way_data (report_alphabet dcs)) (one_reason_data (report_alphabet dcs))) (λ user.
    λ f o w b p q. absurd p)))

one_reason_report : {C S : Type 0} (first : FirstOctet) (cause : KindPart C) (stamp : KindPart S) → ReadsOneWay cause.field → HasOneReason cause.field → ReadsOneWay stamp.field → HasOneReason stamp.field → HasOneReason (report first cause stamp)
unfolding report
one_reason_report first cause stamp cause_way cause_reason stamp_way stamp_reason =
    one_reason_chain _ _ (one_way_by Short first.meaning) (one_reason_by Short first.meaning) (λ with_header.
    one_reason_chain _ _ cause_way cause_reason (λ why.
    one_reason_chain _ _ one_way_indicator one_reason_indicator (λ there.
    one_reason_chain _ _ stamp_way stamp_reason (λ time.
    one_reason_chain _ _ (one_way_parts there) (one_reason_parts there) (λ those. λ f o w b p q. absurd p)))))

one_way_no_part : ReadsOneWay no_part.field
one_way_no_part = one_way_always UnitFault tt

one_reason_no_part : HasOneReason no_part.field
one_reason_no_part f o w b p q = absurd p

one_reason_submit_ack : HasOneReason submit_ack
one_reason_submit_ack = one_reason_report on_submission no_part centre_stamp one_way_no_part one_reason_no_part (one_way_octets Short 7) (one_reason_octets Short 7)

one_reason_submit_error : HasOneReason submit_error
one_reason_submit_error = one_reason_report on_submission failure_cause centre_stamp (one_way_octet Short) (one_reason_octet Short) (one_way_octets Short 7) (one_reason_octets Short 7)

one_reason_deliver_ack : HasOneReason deliver_ack
one_reason_deliver_ack = one_reason_report on_delivery no_part no_part one_way_no_part one_reason_no_part one_way_no_part one_reason_no_part

one_reason_deliver_error : HasOneReason deliver_error
one_reason_deliver_error = one_reason_report on_delivery failure_cause no_part (one_way_octet Short) (one_reason_octet Short) one_way_no_part one_reason_no_part

one_reason_optional_parts : HasOneReason optional_parts
unfolding indicated_parts
one_reason_optional_parts = one_reason_if_more no_parts indicated_parts (one_reason_chain _ _ one_way_indicator one_reason_indicator (λ there. one_reason_parts there))

one_reason_status_report : HasOneReason status_report
unfolding status_report
one_reason_status_report =
    one_reason_chain _ _ (one_way_by Short status_report_flags) (one_reason_by Short status_report_flags) (λ flags.
    one_reason_chain _ _ (one_way_octet Short) (one_reason_octet Short) (λ reference.
    one_reason_chain _ _ one_way_address one_reason_named_address (λ recipient.
    one_reason_chain _ _ (one_way_octets Short 7) (one_reason_octets Short 7) (λ stamp.
    one_reason_chain _ _ (one_way_octets Short 7) (one_reason_octets Short 7) (λ discharged.
    one_reason_chain _ _ (one_way_octet Short) (one_reason_octet Short) (λ status.
    one_reason_mapped (report_of flags reference recipient stamp discharged status) optional_parts one_reason_optional_parts))))))

one_reason_command : HasOneReason command
unfolding command
one_reason_command =
    one_reason_chain _ _ (one_way_by Short command_flags) (one_reason_by Short command_flags) (λ flags.
    one_reason_chain _ _ (one_way_octet Short) (one_reason_octet Short) (λ reference.
    one_reason_chain _ _ (one_way_octet Short) (one_reason_octet Short) (λ pid.
    one_reason_chain _ _ (one_way_octet Short) (one_reason_octet Short) (λ kind.
    one_reason_chain _ _ (one_way_octet Short) (one_reason_octet Short) (λ message.
    one_reason_chain _ _ one_way_address one_reason_named_address (λ target.
    one_reason_chain _ _ (one_way_by Short (up_to 157 DataTooLong)) (one_reason_by Short (up_to 157 DataTooLong)) (λ count.
    one_reason_chain _ _ (one_way_octets Short count) (one_reason_octets Short count) (λ octets. λ f o w b p q. absurd p))))))))

one_reason_header : HasOneReason header
unfolding header
one_reason_header = one_reason_chain _ _ (one_way_by Short (up_to 139 HeaderTooLong)) (one_reason_by Short (up_to 139 HeaderTooLong)) (λ size. one_reason_octets Short size)

-- ---- one refusal

pub submit_refused_once : IsRefusedOnce Short submit
submit_refused_once = one_refusal Short submit is_short one_reason_submit

pub deliver_refused_once : IsRefusedOnce Short deliver
deliver_refused_once = one_refusal Short deliver is_short one_reason_deliver

pub submit_ack_refused_once : IsRefusedOnce Short submit_ack
submit_ack_refused_once = one_refusal Short submit_ack is_short one_reason_submit_ack

pub submit_error_refused_once : IsRefusedOnce Short submit_error
submit_error_refused_once = one_refusal Short submit_error is_short one_reason_submit_error

pub deliver_ack_refused_once : IsRefusedOnce Short deliver_ack
deliver_ack_refused_once = one_refusal Short deliver_ack is_short one_reason_deliver_ack

pub deliver_error_refused_once : IsRefusedOnce Short deliver_error
deliver_error_refused_once = one_refusal Short deliver_error is_short one_reason_deliver_error

pub status_report_refused_once : IsRefusedOnce Short status_report
status_report_refused_once = one_refusal Short status_report is_short one_reason_status_report

pub command_refused_once : IsRefusedOnce Short command
command_refused_once = one_refusal Short command is_short one_reason_command

pub header_refused_once : IsRefusedOnce Short header
header_refused_once = one_refusal Short header is_short one_reason_header
