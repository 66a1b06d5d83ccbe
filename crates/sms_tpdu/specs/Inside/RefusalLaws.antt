-- A reader may pass this by: lemmas, for the proofs of this crate and of those above it.
--
-- Each unit tells other types by the first octet.
use Rattle.std.proofs.Common.{◌≡◌, ℕ, Bool, true, false, cond, Result, Ok, Err}
use Rattle.sms_field.specs.Field.{Field, octet, octet_by, ◌>>=◌}
use Rattle.sms_field.specs.Address.{address}
use Rattle.sms_field.specs.Coding.{alphabet_at}
use Rattle.sms_field.specs.Inside.ReadableLaws.{unread}
use Rattle.sms_field.specs.Reading.Reasons.{Never}
use Rattle.sms_field.specs.Inside.ReasonLaws.{never_chain, never_part, never_by, never_map_reason, up_to_apart, starts_as, no_other, starts_apart}
use Rattle.sms_field.specs.declared.coding.Alphabet.{Alphabet}
use Rattle.sms_field.specs.declared.fault.AddressFault.TheVariants as addresses
use Rattle.sms_field.specs.declared.fault.FieldFault.{FieldFault}
use Rattle.sms_field.specs.declared.fault.FieldFault.TheVariants as fields
use Rattle.sms_tpdu.specs.Fault.{unit_fault}
use Rattle.sms_tpdu.specs.Refusals.{TellsOtherTypes}
use Rattle.sms_tpdu.specs.Deliver.{deliver}
use Rattle.sms_tpdu.specs.Deliver.Flags.{deliver_flags}
use Rattle.sms_tpdu.specs.Submit.{submit}
use Rattle.sms_tpdu.specs.Submit.Flags.{submit_flags}
use Rattle.sms_tpdu.specs.Submit.ValidityPeriod.{validity}
use Rattle.sms_tpdu.specs.UserData.{user_data, length_with_header, header_length}
use Rattle.sms_tpdu.specs.Report.AnnouncedParts.{report_length, report_data, report_alphabet, parts}
use Rattle.sms_tpdu.specs.Report.Octet.{FirstOctet, submit_report, deliver_report, on_submission, on_delivery}
use Rattle.sms_tpdu.specs.Report.Kind.{KindPart, no_part, failure_cause, centre_stamp}
use Rattle.sms_tpdu.specs.Report.ParameterIndicator.{indicator}
use Rattle.sms_tpdu.specs.Report.{report, deliver_ack, deliver_error, submit_ack, submit_error}
use Rattle.sms_tpdu.specs.Report.Indicated.{indicated_parts, optional_parts}
use Rattle.sms_tpdu.specs.Command.{command}
use Rattle.sms_tpdu.specs.Command.Flags.{command_flags}
use Rattle.sms_tpdu.specs.StatusReport.{status_report}
use Rattle.sms_tpdu.specs.StatusReport.Flags.{status_report_flags}
use Rattle.sms_tpdu.specs.declared.report.indicator.Indicator.{Indicator}
use Rattle.sms_tpdu.specs.declared.submit.validity.ValidityFormat.{ValidityFormat}
use Rattle.sms_tpdu.specs.declared.submit.validity.ValidityFormat.TheVariants.{Absent, Relative, Enhanced, Absolute}
use Rattle.sms_tpdu.specs.declared.fault.UnitFault.{UnitFault}
use Rattle.sms_tpdu.specs.declared.fault.UnitFault.TheVariants.{Short, WrongType, DataTooLong, HeaderTooLong}

-- only the first octet is refused as that of another type
tells_by : {F V : Type 0} (first : ℕ → Result F UnitFault) (second : F → Field V UnitFault) → ((flags : F) → Never WrongType (second flags)) → TellsOtherTypes (octet_by Short first >>= second) first
tells_by first second never = record {
  other = λ octets place h. starts_as Short WrongType first second octets place (λ e. cc) never h;
  bad = λ octets place why are n h. (unread _ Short octets place why are h, no_other Short WrongType why first second octets place n h);
  unread = λ octets s. starts_apart Short WrongType first second octets s;
}

-- ---- the fields after the first octet

field_apart : (f : FieldFault) → WrongType ≡ unit_fault f → ⊥
field_apart fields.Short e = cc
field_apart (fields.Address addresses.AddressTooLong) e = cc
field_apart (fields.Address addresses.BadDigit) e = cc

length_apart : (a b : Bool) (n : ℕ) → cond a (cond b (Ok n) (Err HeaderTooLong)) (Err DataTooLong) ≡ Err WrongType → ⊥
length_apart true true n e = cc
length_apart true false n e = cc
length_apart false b n e = cc

header_apart : (b : Bool) (n : ℕ) → cond b (Ok n) (Err HeaderTooLong) ≡ Err WrongType → ⊥
header_apart true n e = cc
header_apart false n e = cc

never_user : (header : Bool) (alphabet : Alphabet) → Never WrongType (user_data header alphabet)
unfolding user_data
never_user false alphabet =
    never_chain _ _ _ (never_by _ Short _ (λ o e. up_to_apart DataTooLong WrongType _ o (λ s. cc) e)) (λ count.
    never_chain _ _ _ (λ f o h. h) (λ octets. λ f o h. h))
never_user true alphabet =
    never_chain _ _ _ (never_by _ Short (length_with_header alphabet) (λ o e. length_apart _ _ o e)) (λ count.
    never_chain _ _ _ (never_by _ Short (header_length alphabet count) (λ o e. header_apart _ o e)) (λ size.
    never_chain _ _ _ (λ f o h. h) (λ header.
    never_chain _ _ _ (λ f o h. h) (λ octets. λ f o h. h))))

never_validity : (format : ValidityFormat) → Never WrongType (validity format)
unfolding validity
never_validity Absent = λ f o h. h
never_validity Relative = never_chain _ _ _ (λ f o h. h) (λ v. λ f o h. h)
never_validity Enhanced = never_chain _ _ _ (λ f o h. h) (λ v. λ f o h. h)
never_validity Absolute = never_chain _ _ _ (λ f o h. h) (λ v. λ f o h. h)

never_indicator : Never WrongType indicator
unfolding indicator
never_indicator = never_chain _ _ _ (λ f o h. h) (λ first. never_chain _ _ _ (λ f o h. h) (λ skipped. λ f o h. h))

report_apart : (b : Bool) (n : ℕ) → cond b (Ok n) (Err DataTooLong) ≡ Err WrongType → ⊥
report_apart true n e = cc
report_apart false n e = cc

never_report_data : (alphabet : Alphabet) → Never WrongType (report_data alphabet)
unfolding report_data
never_report_data alphabet =
    never_chain _ _ _ (never_by _ Short (report_length alphabet) (λ o e. report_apart _ o e)) (λ count.
    never_chain _ _ _ (λ f o h. h) (λ octets. λ f o h. h))

never_parts : (there : Indicator) → Never WrongType (parts there)
unfolding parts
never_parts there =
    never_chain _ _ _ (never_part WrongType there.pid (octet Short) (λ f o h. h)) (λ pid.
    never_chain _ _ _ (never_part WrongType there.dcs (octet Short) (λ f o h. h)) (λ dcs.
    never_chain _ _ _ (never_part WrongType there.user (report_data (report_alphabet dcs)) (never_report_data (report_alphabet dcs))) (λ user.
    λ f o h. h)))

never_optional_parts : Never WrongType optional_parts
unfolding indicated_parts
never_optional_parts = never_chain _ _ _ never_indicator (λ there. never_parts there)

-- ---- the units

pub submit_tells : TellsOtherTypes submit submit_flags
unfolding submit
submit_tells =
    tells_by submit_flags _ (λ flags.
    never_chain _ _ _ (λ f o h. h) (λ reference.
    never_chain _ _ _ (never_map_reason _ unit_fault address field_apart) (λ target.
    never_chain _ _ _ (λ f o h. h) (λ pid.
    never_chain _ _ _ (λ f o h. h) (λ dcs.
    never_chain _ _ _ (never_validity flags.format) (λ period.
    never_chain _ _ _ (never_user flags.header (alphabet_at dcs)) (λ user. λ f o h. h)))))))

pub deliver_tells : TellsOtherTypes deliver deliver_flags
unfolding deliver
deliver_tells =
    tells_by deliver_flags _ (λ flags.
    never_chain _ _ _ (never_map_reason _ unit_fault address field_apart) (λ origin.
    never_chain _ _ _ (λ f o h. h) (λ pid.
    never_chain _ _ _ (λ f o h. h) (λ dcs.
    never_chain _ _ _ (λ f o h. h) (λ stamp.
    never_chain _ _ _ (never_user flags.header (alphabet_at dcs)) (λ user. λ f o h. h))))))

report_tells : {C S : Type 0} (first : FirstOctet) (cause : KindPart C) (stamp : KindPart S) → Never WrongType cause.field → Never WrongType stamp.field → TellsOtherTypes (report first cause stamp) first.meaning
unfolding report
report_tells first cause stamp never_cause never_stamp =
    tells_by first.meaning _ (λ header.
    never_chain _ _ _ never_cause (λ why.
    never_chain _ _ _ never_indicator (λ there.
    never_chain _ _ _ never_stamp (λ time.
    never_chain _ _ _ (never_parts there) (λ those. λ f o h. h)))))

pub submit_ack_tells : TellsOtherTypes submit_ack submit_report
submit_ack_tells = report_tells on_submission no_part centre_stamp (λ f o h. h) (λ f o h. h)

pub submit_error_tells : TellsOtherTypes submit_error submit_report
submit_error_tells = report_tells on_submission failure_cause centre_stamp (λ f o h. h) (λ f o h. h)

pub deliver_ack_tells : TellsOtherTypes deliver_ack deliver_report
deliver_ack_tells = report_tells on_delivery no_part no_part (λ f o h. h) (λ f o h. h)

pub deliver_error_tells : TellsOtherTypes deliver_error deliver_report
deliver_error_tells = report_tells on_delivery failure_cause no_part (λ f o h. h) (λ f o h. h)

pub status_report_tells : TellsOtherTypes status_report status_report_flags
unfolding status_report
status_report_tells =
    tells_by status_report_flags _ (λ flags.
    never_chain _ _ _ (λ f o h. h) (λ reference.
    never_chain _ _ _ (never_map_reason _ unit_fault address field_apart) (λ recipient.
    never_chain _ _ _ (λ f o h. h) (λ stamp.
    never_chain _ _ _ (λ f o h. h) (λ discharged.
    never_chain _ _ _ (λ f o h. h) (λ status. never_optional_parts))))))

pub command_tells : TellsOtherTypes command command_flags
unfolding command
command_tells =
    tells_by command_flags _ (λ flags.
    never_chain _ _ _ (λ f o h. h) (λ reference.
    never_chain _ _ _ (λ f o h. h) (λ pid.
    never_chain _ _ _ (λ f o h. h) (λ kind.
    never_chain _ _ _ (λ f o h. h) (λ message.
    never_chain _ _ _ (never_map_reason _ unit_fault address field_apart) (λ target.
    never_chain _ _ _ (never_by _ Short _ (λ o e. up_to_apart DataTooLong WrongType _ o (λ s. cc) e)) (λ count.
    never_chain _ _ _ (λ f o h. h) (λ octets. λ f o h. h))))))))
