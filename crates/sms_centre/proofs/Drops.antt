-- What the centre drops puts nothing out.
use Rattle.std.proofs.Common.{ℕ, ◌&&◌, true, false, nat_lt, List, [], ◌∷◌, Option, Some, None, refl}
use Rattle.sms_field.specs.Address.Value.{AddressValue}
use Rattle.sms_relay.specs.declared.side.Side.TheVariants.{FromPhone, ToPhone}
use Rattle.sms_tpdu.specs.Submit.{Submission}
use Rattle.sms_message.specs.declared.message.TransferUnit.{TransferUnit}
use Rattle.sms_message.specs.declared.message.TransferUnit.TheVariants.{Submit, Deliver, OtherUnit, BadUnit}
use Rattle.sms_message.specs.declared.message.Relay.{Relay}
use Rattle.sms_message.specs.declared.message.Relay.TheVariants.{Transfer, Answer, UnknownType, Unreadable}
use Rattle.sms_message.specs.declared.message.Message.{Message}
use Rattle.sms_message.specs.declared.message.Message.TheVariants.{NotCp, Note, Tiny, Data}
use Rattle.sms_message.specs.declared.message.Tag.{Tag}
use Rattle.sms_centre.specs.declared.centre.check.Check.{Check}
use Rattle.sms_centre.specs.declared.centre.check.Check.TheVariants.{Refuse, Accept}
use Rattle.sms_message.specs.Message.{Origin, same_tag}
use Rattle.sms_centre.specs.Centre.{centre_opened, centre_answered, centre_receives}
use Rattle.sms_centre.specs.Centre.State.{Acceptance, Pushing, CentreState}
use Rattle.sms_centre.specs.Centre.Held.{unended}
use Rattle.sms_centre.specs.Centre.Checks.{books_of, checked_by}
use Rattle.sms_centre.specs.Centre.Submissions.{checked, centre_takes}
use Rattle.sms_centre.specs.Centre.Pushes.{pushes_first, centre_pushes}
use Rattle.sms_centre.specs.Centre.Verdicts.{settled, centre_hears}
use Rattle.sms_centre.specs.Centre.Drops.{CentreDropsPutNothingOut}
use Rattle.sms_message.specs.Drops.{DoesOrDrops, not_dropped, either_drops}

hears_none : (c : CentreState) (now phone : ℕ) (tag : Tag) (cause : Option ℕ) (latest : Option Pushing) → DoesOrDrops (centre_hears c now phone tag cause latest)
unfolding centre_hears settled
hears_none c now phone tag cause None = λ why e. refl
hears_none c now phone tag cause (Some p) =
    either_drops (same_tag tag p.tag && nat_lt now p.message.ends) _ _ (λ why e. not_dropped _ why _ e) (λ why e. refl)

checked_none : (c : CentreState) (now phone : ℕ) (tag : Tag) (s : Submission) (origin : Option Origin) (check : Check) → DoesOrDrops (checked c now phone tag s origin check)
unfolding checked
checked_none c now phone tag s origin (Refuse cause failure) = λ why e. not_dropped _ why _ e
checked_none c now phone tag s origin (Accept recipient ends stamp) = λ why e. not_dropped _ why _ e

takes_none : (limit : ℕ) (phones : List AddressValue) (c : CentreState) (now phone : ℕ) (tag : Tag) (unit : TransferUnit) (origin : Option Origin) → DoesOrDrops (centre_takes limit phones c now phone tag unit origin)
unfolding centre_takes
takes_none limit phones c now phone tag (Submit s) origin =
    checked_none c now phone tag s origin (checked_by limit phones (books_of c.accepted now phone s) now s)
takes_none limit phones c now phone tag (Deliver d) origin = λ why e. not_dropped _ why _ e
takes_none limit phones c now phone tag OtherUnit origin = λ why e. not_dropped _ why _ e
takes_none limit phones c now phone tag BadUnit origin = λ why e. not_dropped _ why _ e

opened_none : (limit : ℕ) (phones : List AddressValue) (c : CentreState) (now phone : ℕ) (tag : Tag) (relay : Relay) (origin : Option Origin) → DoesOrDrops (centre_opened limit phones c now phone tag relay origin)
unfolding centre_opened
opened_none limit phones c now phone tag (Transfer FromPhone unit) origin = takes_none limit phones c now phone tag unit origin
opened_none limit phones c now phone tag (Transfer ToPhone unit) origin = λ why e. refl
opened_none limit phones c now phone tag (Answer side cause report) origin = λ why e. refl
opened_none limit phones c now phone tag UnknownType origin = λ why e. not_dropped _ why _ e
opened_none limit phones c now phone tag Unreadable origin = λ why e. not_dropped _ why _ e

answered_none : (c : CentreState) (now phone : ℕ) (tag : Tag) (relay : Relay) → DoesOrDrops (centre_answered c now phone tag relay)
unfolding centre_answered
answered_none c now phone tag (Answer FromPhone cause report) = hears_none c now phone tag cause (c.line phone).latest
answered_none c now phone tag (Answer ToPhone cause report) = λ why e. refl
answered_none c now phone tag (Transfer side unit) = λ why e. refl
answered_none c now phone tag UnknownType = λ why e. refl
answered_none c now phone tag Unreadable = λ why e. refl

centre_none : (limit : ℕ) (phones : List AddressValue) (c : CentreState) (now phone : ℕ) (message : Message) (origin : Option Origin) → DoesOrDrops (centre_receives limit phones c now phone message origin)
unfolding centre_receives
centre_none limit phones c now phone NotCp origin = λ why e. refl
centre_none limit phones c now phone (Note flag value) origin = λ why e. refl
centre_none limit phones c now phone (Tiny flag value) origin = λ why e. refl
centre_none limit phones c now phone (Data false tag relay) origin = opened_none limit phones c now phone tag relay origin
centre_none limit phones c now phone (Data true tag relay) origin = answered_none c now phone tag relay

pushes_none : (phones : List AddressValue) (c : CentreState) (phone : ℕ) (queue : List Acceptance) → DoesOrDrops (pushes_first phones c phone queue)
unfolding pushes_first
pushes_none phones c phone [] = λ why e. refl
pushes_none phones c phone (a ∷ others) = λ why e. not_dropped _ why _ e

centre_pushes_none : (phones : List AddressValue) (c : CentreState) (now phone : ℕ) → DoesOrDrops (centre_pushes phones c now phone)
unfolding centre_pushes
centre_pushes_none phones c now phone = pushes_none phones c phone (unended (c.line phone).queue now)

pub centre_drops_put_nothing_out : CentreDropsPutNothingOut
centre_drops_put_nothing_out = record { when_received = centre_none; when_pushed = centre_pushes_none }
