-- Units that are written with the octets of their user data (3GPP TS 23.040, 9.2.3.24).
use Rattle.std.specs.Prelude.{ℕ, Bool, true, false, nat_le, List, [], ◌∷◌, length, take, drop, Option, Some, None, Result, Ok, Err, if◌then◌else◌}
use Rattle.sms_field.specs.Address.Value.{AddressValue}
use Rattle.sms_field.specs.Coding.{alphabet_at}
use Rattle.sms_field.specs.declared.coding.Alphabet.{Alphabet}
use Rattle.sms_field.specs.declared.coding.Alphabet.TheVariants.{Gsm7}
use Rattle.sms_field.specs.declared.validity.Validity.{Validity}
use Rattle.sms_tpdu.specs.Deliver.{Delivery}
use Rattle.sms_tpdu.specs.Submit.{Submission}
use Rattle.sms_tpdu.specs.declared.user_data.UserData.{UserData}
use Rattle.sms_tpdu.specs.declared.user_data.body.Body.TheVariants.{Octets}
use Rattle.sms_tpdu.specs.declared.user_data.lengths.TheConstants.{OCTETS_MAX}
use Rattle.sms_c.specs.AddressGiven.{address_given}
use Rattle.sms_c.specs.Class.{are_spare}
use Rattle.sms_c.specs.Times.{validity_of}
use Rattle.sms_c.specs.Writing.{is_set}
use Rattle.sms_c.specs.declared.writing.DeliverFields.{DeliverFields}
use Rattle.sms_c.specs.declared.writing.SubmitFields.{SubmitFields}
use Rattle.sms_c.specs.declared.status.Failure.{Failure}
use Rattle.sms_c.specs.declared.status.Failure.TheVariants.{OutOfRange, TooLong}

-- ---- TP-UD, of octets

-- a header at their front: a length octet, and as many octets; what follows is the body
abbrev pub in_parts : Bool → List ℕ → Result UserData Failure
in_parts false octets = Ok (record { header = None; body = Octets octets })
in_parts true [] = Err OutOfRange
in_parts true (size ∷ others) =
    if nat_le size (length others)
    then Ok (record { header = Some (take size others); body = Octets (drop size others) })
    else Err OutOfRange

-- of at most 140, under an alphabet that counts in octets
abbrev pub of_octets : Alphabet → Bool → List ℕ → Result UserData Failure
of_octets Gsm7 headed octets = Err OutOfRange
of_octets _ headed octets =
    if nat_le (length octets) OCTETS_MAX then in_parts headed octets else Err TooLong

-- ---- the units: spare octets and the message class are 0, since TP-DCS is given

abbrev pub if_free : {T : Type 0} → ℕ → List ℕ → Result T Failure → Result T Failure
if_free class spare given = if are_spare (class ∷ spare) then given else Err OutOfRange

abbrev pub data_delivery : DeliverFields → ℕ → AddressValue → UserData → Delivery
data_delivery fields dcs origin user =
    record {
      more = is_set fields.more;
      looped = is_set fields.looped;
      report = is_set fields.report;
      reply = is_set fields.reply;
      origin = origin;
      pid = fields.pid;
      dcs = dcs;
      stamp = fields.stamp.octets;
      user = user;
    }

abbrev pub data_submission : SubmitFields → ℕ → Validity → AddressValue → UserData → Submission
data_submission fields dcs validity target user =
    record {
      reject = is_set fields.reject;
      validity = validity;
      report = is_set fields.report;
      reply = is_set fields.reply;
      reference = fields.reference;
      target = target;
      pid = fields.pid;
      dcs = dcs;
      user = user;
    }

-- of what stands, or the first reason why one does not
abbrev pub with_origin : DeliverFields → ℕ → UserData → Result AddressValue Failure
    → Result Delivery Failure
with_origin fields dcs user (Err why) = Err why
with_origin fields dcs user (Ok origin) = Ok (data_delivery fields dcs origin user)

abbrev pub deliver_with : DeliverFields → ℕ → List ℕ → Result UserData Failure
    → Result Delivery Failure
deliver_with fields dcs origin (Err why) = Err why
deliver_with fields dcs origin (Ok user) = with_origin fields dcs user (address_given origin)

abbrev pub deliver_given : DeliverFields → ℕ → ℕ → List ℕ → List ℕ → Result Delivery Failure
deliver_given fields dcs headed origin octets =
    if_free fields.message_class fields.spare
    (deliver_with fields dcs origin (of_octets (alphabet_at dcs) (is_set headed) octets))

abbrev pub with_target : SubmitFields → ℕ → Validity → UserData → Result AddressValue Failure
    → Result Submission Failure
with_target fields dcs validity user (Err why) = Err why
with_target fields dcs validity user (Ok target) =
    Ok (data_submission fields dcs validity target user)

abbrev pub with_validity : SubmitFields → ℕ → List ℕ → UserData → Option Validity
    → Result Submission Failure
with_validity fields dcs target user None = Err OutOfRange
with_validity fields dcs target user (Some validity) =
    with_target fields dcs validity user (address_given target)

abbrev pub submit_with : SubmitFields → ℕ → List ℕ → Result UserData Failure
    → Result Submission Failure
submit_with fields dcs target (Err why) = Err why
submit_with fields dcs target (Ok user) =
    with_validity fields dcs target user (validity_of fields.validity)

abbrev pub submit_given : SubmitFields → ℕ → ℕ → List ℕ → List ℕ → Result Submission Failure
submit_given fields dcs headed target octets =
    if_free fields.message_class fields.spare
    (submit_with fields dcs target (of_octets (alphabet_at dcs) (is_set headed) octets))
