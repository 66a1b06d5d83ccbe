-- How much the centre puts out.
use Rattle.std.proofs.Common.{ℕ, true, false, nat_lt, List, [], ◌∷◌, Option, Some, None, arith}
use Rattle.std.specs.Prelude.{◌&&◌}
use Rattle.sms_field.specs.Address.Value.{AddressValue}
use Rattle.sms_tpdu.specs.Submit.{Submission}
use Rattle.sms_relay.specs.declared.side.Side.TheVariants.{FromPhone, ToPhone}
use Rattle.sms_centre.specs.declared.centre.check.Check.{Check}
use Rattle.sms_centre.specs.declared.centre.check.Check.TheVariants.{Refuse, Accept}
use Rattle.sms_message.specs.declared.message.TransferUnit.{TransferUnit}
use Rattle.sms_message.specs.declared.message.TransferUnit.TheVariants.{Submit, Deliver, OtherUnit, BadUnit}
use Rattle.sms_message.specs.declared.message.Relay.{Relay}
use Rattle.sms_message.specs.declared.message.Relay.TheVariants.{Transfer, Answer, UnknownType, Unreadable}
use Rattle.sms_message.specs.declared.message.Message.{Message}
use Rattle.sms_message.specs.declared.message.Message.TheVariants.{NotCp, Note, Tiny, Data}
use Rattle.sms_message.specs.declared.message.Tag.{Tag}
use Rattle.sms_message.specs.Message.{Origin, same_tag}
use Rattle.sms_message.specs.Few.{PutsFew, few_either}
use Rattle.sms_centre.specs.Centre.Few.{CentrePutsFewOut}
use Rattle.sms_centre.specs.Centre.{centre_opened, centre_answered, centre_receives}
use Rattle.sms_centre.specs.Centre.State.{Acceptance, Pushing, CentreState}
use Rattle.sms_centre.specs.Centre.Held.{unended}
use Rattle.sms_centre.specs.Centre.Submissions.{checked, centre_takes}
use Rattle.sms_centre.specs.Centre.Pushes.{pushes_first, centre_pushes}
use Rattle.sms_centre.specs.Centre.Verdicts.{settled, centre_hears}

was_checked : (c : CentreState) (now phone : ℕ) (tag : Tag) (s : Submission) (origin : Option Origin) (check : Check) → PutsFew (checked c now phone tag s origin check)
unfolding checked
was_checked c now phone tag s origin (Refuse cause failure) = omega arith
was_checked c now phone tag s origin (Accept recipient ends stamp) = omega arith

unit_taken : (limit : ℕ) (phones : List AddressValue) (c : CentreState) (now phone : ℕ) (tag : Tag) (unit : TransferUnit) (origin : Option Origin) → PutsFew (centre_takes limit phones c now phone tag unit origin)
unfolding centre_takes
unit_taken limit phones c now phone tag (Submit s) origin = was_checked c now phone tag s origin _
unit_taken limit phones c now phone tag (Deliver d) origin = omega arith
unit_taken limit phones c now phone tag OtherUnit origin = omega arith
unit_taken limit phones c now phone tag BadUnit origin = omega arith

opened : (limit : ℕ) (phones : List AddressValue) (c : CentreState) (now phone : ℕ) (tag : Tag) (relay : Relay) (origin : Option Origin) → PutsFew (centre_opened limit phones c now phone tag relay origin)
unfolding centre_opened
opened limit phones c now phone tag (Transfer FromPhone unit) origin = unit_taken limit phones c now phone tag unit origin
opened limit phones c now phone tag (Transfer ToPhone unit) origin = omega arith
opened limit phones c now phone tag (Answer side cause report) origin = omega arith
opened limit phones c now phone tag UnknownType origin = omega arith
opened limit phones c now phone tag Unreadable origin = omega arith

is_settled : (c : CentreState) (phone : ℕ) (tag : Tag) (a : Acceptance) (cause : Option ℕ) → PutsFew (settled c phone tag a cause)
unfolding settled
is_settled c phone tag a cause = omega arith

push_heard : (c : CentreState) (now phone : ℕ) (tag : Tag) (cause : Option ℕ) (latest : Option Pushing) → PutsFew (centre_hears c now phone tag cause latest)
unfolding centre_hears
push_heard c now phone tag cause None = omega arith
push_heard c now phone tag cause (Some p) =
    few_either (same_tag tag p.tag && nat_lt now p.message.ends) _ _ (is_settled c phone tag p.message cause) (omega arith)

answered : (c : CentreState) (now phone : ℕ) (tag : Tag) (relay : Relay) → PutsFew (centre_answered c now phone tag relay)
unfolding centre_answered
answered c now phone tag (Answer FromPhone cause report) = push_heard c now phone tag cause (c.line phone).latest
answered c now phone tag (Answer ToPhone cause report) = omega arith
answered c now phone tag (Transfer side unit) = omega arith
answered c now phone tag UnknownType = omega arith
answered c now phone tag Unreadable = omega arith

centre_few : (limit : ℕ) (phones : List AddressValue) (c : CentreState) (now phone : ℕ) (message : Message) (origin : Option Origin) → PutsFew (centre_receives limit phones c now phone message origin)
unfolding centre_receives
centre_few limit phones c now phone NotCp origin = omega arith
centre_few limit phones c now phone (Note flag value) origin = omega arith
centre_few limit phones c now phone (Tiny flag value) origin = omega arith
centre_few limit phones c now phone (Data false tag relay) origin = opened limit phones c now phone tag relay origin
centre_few limit phones c now phone (Data true tag relay) origin = answered c now phone tag relay

first_pushed : (phones : List AddressValue) (c : CentreState) (phone : ℕ) (queue : List Acceptance) → PutsFew (pushes_first phones c phone queue)
unfolding pushes_first
first_pushed phones c phone [] = omega arith
first_pushed phones c phone (a ∷ others) = omega arith

push_few : (phones : List AddressValue) (c : CentreState) (now phone : ℕ) → PutsFew (centre_pushes phones c now phone)
unfolding centre_pushes
push_few phones c now phone = first_pushed phones c phone (unended (c.line phone).queue now)

pub centre_puts_few_out : CentrePutsFewOut
centre_puts_few_out = record { when_received = centre_few; when_pushed = push_few }
