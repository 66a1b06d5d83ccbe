-- Whom the accepted messages are for. Calls and acceptances have the newest first.
use Rattle.std.specs.Prelude.{◌≡◌, ℕ, List, [], ◌∷◌, Some}
use Rattle.sms_field.specs.Address.Value.{AddressValue}
use Rattle.sms_message.specs.Address.{phone_at}
use Rattle.sms_centre.specs.Centre.State.{Acceptance}
use Rattle.sms_centre.specs.Centre.Stamps.{Call, called_all}

-- the recipient of each is the phone that has its TP-DA
abbrev pub AreAddressed : List AddressValue → List Acceptance → Type 0
AreAddressed phones [] = Unit {0}
AreAddressed phones (a ∷ past) =
    (phone_at phones a.submission.target ≡ Some a.recipient) × AreAddressed phones past

abbrev pub RecipientsAreAddressed : Type 0
RecipientsAreAddressed =
    (limit : ℕ) (phones : List AddressValue) (calls : List Call)
    → AreAddressed phones (called_all limit phones calls).accepted
