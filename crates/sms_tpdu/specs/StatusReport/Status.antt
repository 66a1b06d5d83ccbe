-- What TP-ST says of a message (3GPP TS 23.040, 9.2.3.15).
use Rattle.std.specs.Prelude.{ℕ, ◌%◌, Bool, true, false, List, [], ◌∷◌, get_or, if◌then◌else◌}
use Rattle.sms_field.specs.Bit.{bit}
use Rattle.sms_tpdu.specs.declared.status_report.status.Status.{Status}
use Rattle.sms_tpdu.specs.declared.status_report.status.StatusGroup.{StatusGroup}
use Rattle.sms_tpdu.specs.declared.status_report.status.StatusGroup.TheVariants as group
use Rattle.sms_tpdu.specs.declared.status_report.status.StatusMeaning.{StatusMeaning}
use Rattle.sms_tpdu.specs.declared.status_report.status.StatusMeaning.TheVariants as meaning

-- the groups of named values, by bits 7, 6 and 5: the transaction is completed; a temporary error,
-- and the centre still tries; a permanent error; a temporary error, and the centre does not try any
-- more. With bit 7 no value is named.
abbrev pub group_of : Bool → Bool → Bool → StatusGroup
group_of false false false = group.Completed
group_of false false true = group.StillTrying
group_of false true false = group.PermanentError
group_of false true true = group.TemporaryError
group_of true a b = group.Reserved

abbrev pub temporary_errors : List StatusMeaning
temporary_errors =
    meaning.Congestion ∷ meaning.Busy ∷ meaning.NoResponse ∷ meaning.ServiceRejected
    ∷ meaning.QualityNotAvailable ∷ meaning.EntityError ∷ []

-- the values that the standard names, in their order, by the low half of the octet
abbrev pub named_values : StatusGroup → List StatusMeaning
named_values group.Completed = meaning.Received ∷ meaning.Unconfirmed ∷ meaning.Replaced ∷ []
named_values group.StillTrying = temporary_errors
named_values group.PermanentError =
    meaning.ProcedureError ∷ meaning.Incompatible ∷ meaning.ConnectionRejected
    ∷ meaning.NotObtainable ∷ meaning.QualityNotAvailable ∷ meaning.NoInterworking
    ∷ meaning.Expired ∷ meaning.DeletedBySender ∷ meaning.DeletedByCentre ∷ meaning.Unknown ∷ []
named_values group.TemporaryError = temporary_errors
named_values group.Reserved = []

-- with bit 4 the values are the service centre's own, and all that have no name are reserved
abbrev pub meaning_of : StatusGroup → Bool → ℕ → StatusMeaning
meaning_of group.Reserved own low = meaning.Reserved
meaning_of known own low =
    if own then meaning.CentreSpecific else get_or (named_values known) low meaning.Reserved

-- A phone takes a reserved value as 63, the service rejected: a temporary error, after which the
-- centre does not try any more.
abbrev pub counts_as : StatusGroup → StatusMeaning → StatusGroup
counts_as known meaning.Reserved = group.TemporaryError
counts_as known said = known

abbrev pub status_of : ℕ → Status
status_of octet =
    let known = group_of (bit 7 octet) (bit 6 octet) (bit 5 octet) in
    let said = meaning_of known (bit 4 octet) (octet % 16) in
    record { group = counts_as known said; meaning = said }
