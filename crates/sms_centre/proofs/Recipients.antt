-- Recipients have the addresses of their messages.
use Rattle.std.proofs.Common.{◌≡◌, ℕ, Bool, true, false, cond, ◌&&◌, nat_lt, List, [], ◌∷◌, refl, Some, None, Option, Result, Ok, Err}
use Rattle.std.proofs.lemmas.Bool.{cond_both}
use Rattle.sms_field.specs.Address.Value.{AddressValue}
use Rattle.sms_tpdu.specs.Submit.{Submission}
use Rattle.sms_relay.specs.declared.side.Side.TheVariants.{FromPhone, ToPhone}
use Rattle.sms_message.specs.Message.{same_tag, Origin}
use Rattle.sms_message.specs.declared.message.Tag.{Tag}
use Rattle.sms_message.specs.declared.message.TransferUnit.{TransferUnit}
use Rattle.sms_message.specs.declared.message.TransferUnit.TheVariants.{Submit, Deliver, OtherUnit, BadUnit}
use Rattle.sms_message.specs.declared.message.Relay.{Relay}
use Rattle.sms_message.specs.declared.message.Relay.TheVariants.{Transfer, Answer, UnknownType, Unreadable}
use Rattle.sms_message.specs.declared.message.Message.{Message}
use Rattle.sms_message.specs.declared.message.Message.TheVariants.{NotCp, Note, Tiny, Data}
use Rattle.sms_centre.specs.declared.centre.check.Check.{Check}
use Rattle.sms_centre.specs.declared.centre.check.Check.TheVariants.{Refuse, Accept}
use Rattle.sms_centre.specs.Centre.State.{Acceptance, Pushing, CentreState, new_centre}
use Rattle.sms_message.specs.Does.{Does}
use Rattle.sms_centre.specs.Centre.Held.{unended}
use Rattle.sms_centre.specs.Centre.Submissions.{checked, centre_takes}
use Rattle.sms_centre.specs.Centre.Checks.{Books, books_of, check_recipient, check_validity, checked_by}
use Rattle.sms_centre.specs.Centre.Pushes.{pushes_first, centre_pushes}
use Rattle.sms_centre.specs.Centre.Verdicts.{settled, centre_hears}
use Rattle.sms_centre.specs.Centre.{centre_opened, centre_answered, centre_receives}
use Rattle.sms_centre.specs.Centre.Stamps.{Call, Receive, Push, called, called_all}
use Rattle.sms_field.specs.Time.Computed.{end_of}
use Rattle.sms_field.specs.declared.validity.ValidityFault.{ValidityFault}
use Rattle.sms_field.specs.declared.validity.ValidityFault.TheVariants.{EnhancedValidity, NoMoment}
use Rattle.sms_message.specs.Address.{phone_at}
use Rattle.sms_centre.specs.Centre.Recipients.{AreAddressed, RecipientsAreAddressed}

-- ---- what is accepted is for the phone with its address

abbrev Gives : List AddressValue → Submission → Check → Type 0
Gives phones s (Refuse cause failure) = Unit {0}
Gives phones s (Accept r ends stamp) = phone_at phones s.target ≡ Some r

space_gives : (phones : List AddressValue) (s : Submission) (ends r stamp : ℕ) (a b d : Bool) → phone_at phones s.target ≡ Some r
    → Gives phones s (cond a (Refuse 21 0xC5) (cond b (Refuse 42 0xC0) (cond d (Refuse 38 0xC2) (Accept r ends stamp))))
space_gives phones s ends r stamp true b d h = tt
space_gives phones s ends r stamp false true d h = tt
space_gives phones s ends r stamp false false true h = tt
space_gives phones s ends r stamp false false false h = h

recipient_gives : (limit : ℕ) (phones : List AddressValue) (books : Books) (s : Submission) (ends : ℕ) (o : Option ℕ) → phone_at phones s.target ≡ o
    → Gives phones s (check_recipient limit books s ends o)
recipient_gives limit phones books s ends None h = tt
recipient_gives limit phones books s ends (Some r) h = space_gives phones s ends r (books.stamp r) _ _ _ h

ends_gives : (limit : ℕ) (phones : List AddressValue) (books : Books) (s : Submission) (ends : ℕ) (b : Bool)
    → Gives phones s (cond b (check_recipient limit books s ends (phone_at phones s.target)) (Refuse 21 0xC7))
ends_gives limit phones books s ends true = recipient_gives limit phones books s ends (phone_at phones s.target) refl
ends_gives limit phones books s ends false = tt

validity_gives : (limit : ℕ) (phones : List AddressValue) (books : Books) (now : ℕ) (s : Submission) (e : Result ℕ ValidityFault)
    → Gives phones s (check_validity limit phones books now s e)
validity_gives limit phones books now s (Err EnhancedValidity) = tt
validity_gives limit phones books now s (Err NoMoment) = tt
validity_gives limit phones books now s (Ok ends) = ends_gives limit phones books s ends (nat_lt now ends)

checked_gives : (limit : ℕ) (phones : List AddressValue) (books : Books) (now : ℕ) (s : Submission) → Gives phones s (checked_by limit phones books now s)
unfolding checked_by
checked_gives limit phones books now s = validity_gives limit phones books now s (end_of s.validity now)

checked_addressed : (phones : List AddressValue) (c : CentreState) (now phone : ℕ) (tag : Tag) (s : Submission) (origin : Option Origin) (k : Check) → Gives phones s k
    → AreAddressed phones c.accepted → AreAddressed phones (checked c now phone tag s origin k).after.accepted
unfolding checked
checked_addressed phones c now phone tag s origin (Refuse cause failure) g h = h
checked_addressed phones c now phone tag s origin (Accept recipient ends stamp) g h = (g, h)

hears_same : (c : CentreState) (now phone : ℕ) (tag : Tag) (cause : Option ℕ) (latest : Option Pushing) → (centre_hears c now phone tag cause latest).after.accepted ≡ c.accepted
unfolding centre_hears settled
hears_same c now phone tag cause None = refl
hears_same c now phone tag cause (Some p) =
    cond_both (same_tag tag p.tag && nat_lt now p.message.ends) _ _ (λ (d : Does CentreState). d.after.accepted ≡ c.accepted) (λ _. refl) (λ _. refl)

pushes_same : (phones : List AddressValue) (c : CentreState) (phone : ℕ) (queue : List Acceptance) → (pushes_first phones c phone queue).after.accepted ≡ c.accepted
unfolding pushes_first
pushes_same phones c phone [] = refl
pushes_same phones c phone (a ∷ others) = refl

takes_addressed : (limit : ℕ) (phones : List AddressValue) (c : CentreState) (now phone : ℕ) (tag : Tag) (u : TransferUnit) (origin : Option Origin)
    → AreAddressed phones c.accepted → AreAddressed phones (centre_takes limit phones c now phone tag u origin).after.accepted
unfolding centre_takes
takes_addressed limit phones c now phone tag (Submit s) origin h =
    checked_addressed phones c now phone tag s origin (checked_by limit phones (books_of c.accepted now phone s) now s) (checked_gives limit phones (books_of c.accepted now phone s) now s) h
takes_addressed limit phones c now phone tag (Deliver d) origin h = h
takes_addressed limit phones c now phone tag OtherUnit origin h = h
takes_addressed limit phones c now phone tag BadUnit origin h = h

opened_addressed : (limit : ℕ) (phones : List AddressValue) (c : CentreState) (now phone : ℕ) (tag : Tag) (r : Relay) (origin : Option Origin)
    → AreAddressed phones c.accepted → AreAddressed phones (centre_opened limit phones c now phone tag r origin).after.accepted
unfolding centre_opened
opened_addressed limit phones c now phone tag (Transfer FromPhone u) origin h = takes_addressed limit phones c now phone tag u origin h
opened_addressed limit phones c now phone tag (Transfer ToPhone u) origin h = h
opened_addressed limit phones c now phone tag (Answer side cause report) origin h = h
opened_addressed limit phones c now phone tag UnknownType origin h = h
opened_addressed limit phones c now phone tag Unreadable origin h = h

answered_addressed : (phones : List AddressValue) (c : CentreState) (now phone : ℕ) (tag : Tag) (r : Relay) → AreAddressed phones c.accepted → AreAddressed phones (centre_answered c now phone tag r).after.accepted
unfolding centre_answered
answered_addressed phones c now phone tag (Answer FromPhone cause report) h = rw (hears_same c now phone tag cause (c.line phone).latest) h
answered_addressed phones c now phone tag (Answer ToPhone cause report) h = h
answered_addressed phones c now phone tag (Transfer side u) h = h
answered_addressed phones c now phone tag UnknownType h = h
answered_addressed phones c now phone tag Unreadable h = h

receives_addressed : (limit : ℕ) (phones : List AddressValue) (c : CentreState) (now phone : ℕ) (m : Message) (origin : Option Origin)
    → AreAddressed phones c.accepted → AreAddressed phones (centre_receives limit phones c now phone m origin).after.accepted
unfolding centre_receives
receives_addressed limit phones c now phone NotCp origin h = h
receives_addressed limit phones c now phone (Note flag value) origin h = h
receives_addressed limit phones c now phone (Tiny flag value) origin h = h
receives_addressed limit phones c now phone (Data false tag r) origin h = opened_addressed limit phones c now phone tag r origin h
receives_addressed limit phones c now phone (Data true tag r) origin h = answered_addressed phones c now phone tag r h

called_addressed : (limit : ℕ) (phones : List AddressValue) (c : CentreState) (call : Call) → AreAddressed phones c.accepted → AreAddressed phones (called limit phones c call).accepted
unfolding centre_pushes
called_addressed limit phones c (Receive now phone m origin) h = receives_addressed limit phones c now phone m origin h
called_addressed limit phones c (Push now phone) h = rw (pushes_same phones c phone (unended (c.line phone).queue now)) h

pub recipients_are_addressed : RecipientsAreAddressed
unfolding new_centre
recipients_are_addressed limit phones [] = tt
recipients_are_addressed limit phones (call ∷ past) = called_addressed limit phones (called_all limit phones past) call (recipients_are_addressed limit phones past)
