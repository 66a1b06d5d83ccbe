-- A reader may pass this by: lemmas, for the proofs of this crate and of those above it.
--
-- Each value has a spelling.
use Rattle.std.proofs.Common.{ℕ, List, ◌∷◌, ◌++◌, length, refl}
use Rattle.sms_field.specs.Address.{address_octets}
use Rattle.sms_field.specs.Inside.NameSpelling.{plain_octets, plain_octets_are, plainly_packed}
use Rattle.sms_tpdu.specs.Sizes.{HasEachSpelling}
use Rattle.sms_tpdu.specs.UnitLaws.{IsSpelling}
use Rattle.sms_tpdu.specs.UserData.Lengths.{fill_bits}
use Rattle.sms_tpdu.specs.UserData.{header_octets, data_length, SpellsBody, SpellsUserData}
use Rattle.sms_tpdu.specs.UserData.Header.{IsHeader, SpellsHeader}
use Rattle.sms_tpdu.specs.Submit.ValidityPeriod.{validity_octets}
use Rattle.sms_tpdu.specs.Submit.Flags.{submit_octet}
use Rattle.sms_tpdu.specs.Submit.{IsSubmittable, SpellsSubmit}
use Rattle.sms_tpdu.specs.Submit as submission
use Rattle.sms_tpdu.specs.Deliver.Flags.{deliver_octet}
use Rattle.sms_tpdu.specs.Deliver.{IsDeliverable, SpellsDeliver}
use Rattle.sms_tpdu.specs.Deliver as delivery
use Rattle.sms_tpdu.specs.Report.{IsSubmitAck, IsSubmitError, IsDeliverAck, IsDeliverError, SpellsSubmitAck, SpellsSubmitError, SpellsDeliverAck, SpellsDeliverError}
use Rattle.sms_tpdu.specs.Command.{IsCommand, command_octets, SpellsCommand}
use Rattle.sms_tpdu.specs.StatusReport.{IsStatusReport, status_report_octets, SpellsStatusReport}
use Rattle.sms_tpdu.specs.declared.user_data.body.Body.{Body}
use Rattle.sms_tpdu.specs.declared.user_data.body.Body.TheVariants as body
use Rattle.sms_tpdu.specs.declared.user_data.UserData.{UserData}

body_spelled : (taken : ℕ) (b : Body) → (written : List ℕ) × SpellsBody taken b written
body_spelled taken (body.Septets septets) = (plain_octets (fill_bits taken) septets, (plainly_packed (fill_bits taken) septets, plain_octets_are (fill_bits taken) septets))
body_spelled taken (body.Octets octets) = (octets, refl)

pub user_data_spelled : (u : UserData) → (octets : List ℕ) × SpellsUserData u octets
user_data_spelled u =
    let b = body_spelled (length (header_octets u.header)) u.body in
    (data_length (length (header_octets u.header)) u.body ∷ (header_octets u.header ++ b.0), record { written = b.0; spells_body = b.1; parts = refl })

pub submit_spelled : HasEachSpelling IsSubmittable SpellsSubmit
submit_spelled s is =
    let u = user_data_spelled s.user in
    (submit_octet (submission.flags_in s) ∷ s.reference ∷ (address_octets s.target ++ (s.pid ∷ s.dcs ∷ (validity_octets s.validity ++ u.0))), record { submittable = is; written = u.0; user = u.1; parts = refl })

pub deliver_spelled : HasEachSpelling IsDeliverable SpellsDeliver
deliver_spelled d is =
    let u = user_data_spelled d.user in
    (deliver_octet (delivery.flags_in d) ∷ (address_octets d.origin ++ (d.pid ∷ d.dcs ∷ (d.stamp ++ u.0))), record { deliverable = is; written = u.0; user = u.1; parts = refl })

-- each value that is one has the spelling that is computed
spelled_by : {V : Type 0} (is : V → Type 0) (octets_of : V → List ℕ) → HasEachSpelling is (IsSpelling is octets_of)
spelled_by is octets_of v h = (octets_of v, (h, refl))

pub submit_ack_spelled : HasEachSpelling IsSubmitAck SpellsSubmitAck
submit_ack_spelled = spelled_by _ _

pub submit_error_spelled : HasEachSpelling IsSubmitError SpellsSubmitError
submit_error_spelled = spelled_by _ _

pub deliver_ack_spelled : HasEachSpelling IsDeliverAck SpellsDeliverAck
deliver_ack_spelled = spelled_by _ _

pub deliver_error_spelled : HasEachSpelling IsDeliverError SpellsDeliverError
deliver_error_spelled = spelled_by _ _

pub status_report_spelled : HasEachSpelling IsStatusReport SpellsStatusReport
status_report_spelled = spelled_by IsStatusReport status_report_octets

pub command_spelled : HasEachSpelling IsCommand SpellsCommand
command_spelled = spelled_by IsCommand command_octets

pub header_spelled : HasEachSpelling IsHeader SpellsHeader
header_spelled value is = (length value ∷ value, (is, refl))
