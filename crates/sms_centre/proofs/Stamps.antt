-- The law of stamps.
use Rattle.std.proofs.Common.{◌≡◌, ℕ, suc, ◌<◌, ◌≤◌, max, Bool, true, false, cond, ◌&&◌, eqb, nat_lt, List, [], ◌∷◌, refl, sym, subst, arith, Some, None, Option}
use Rattle.std.proofs.lemmas.Bool.{eqb-false, cond_both}
use Rattle.sms_field.specs.Address.Value.{AddressValue}
use Rattle.sms_tpdu.specs.Submit.{Submission}
use Rattle.sms_relay.specs.declared.side.Side.TheVariants.{FromPhone, ToPhone}
use Rattle.sms_message.specs.Message.{same_tag, Origin}
use Rattle.sms_message.specs.declared.message.Tag.{Tag}
use Rattle.sms_message.specs.declared.message.TransferUnit.{TransferUnit}
use Rattle.sms_message.specs.declared.message.TransferUnit.TheVariants.{Submit, Deliver, OtherUnit, BadUnit}
use Rattle.sms_message.specs.declared.message.Relay.{Relay}
use Rattle.sms_message.specs.declared.message.Relay.TheVariants.{Transfer, Answer, UnknownType, Unreadable}
use Rattle.sms_message.specs.declared.message.Message.{Message}
use Rattle.sms_message.specs.declared.message.Message.TheVariants.{NotCp, Note, Tiny, Data}
use Rattle.sms_centre.specs.declared.centre.check.Check.{Check}
use Rattle.sms_centre.specs.declared.centre.check.Check.TheVariants.{Refuse, Accept}
use Rattle.sms_centre.specs.Centre.State.{Acceptance, Pushing, CentreState, new_centre}
use Rattle.sms_message.specs.Does.{Does}
use Rattle.sms_centre.specs.Centre.Held.{next_stamp, unended}
use Rattle.sms_centre.specs.Centre.Submissions.{checked, centre_takes}
use Rattle.sms_centre.specs.Centre.Checks.{checked_by, books_of}
use Rattle.sms_centre.specs.Centre.Pushes.{pushes_first, centre_pushes}
use Rattle.sms_centre.specs.Centre.Verdicts.{settled, centre_hears}
use Rattle.sms_centre.specs.Centre.{centre_opened, centre_answered, centre_receives}
use Rattle.sms_centre.specs.Centre.Stamps.{Call, Receive, Push, called, called_all, AreBelow, IsRising, StampsRise}
use Rattle.sms_centre.proofs.Taking.{GivesStamp, checked_gives}

below_more : (past : List Acceptance) (recipient n m : ℕ) → n ≤ m → AreBelow past recipient n → AreBelow past recipient m
below_more [] recipient n m l h = h
below_more (a ∷ past) recipient n m l h =
    ((λ e. let f = h.0 e in let f' : a.stamp < n = f in omega arith), below_more past recipient n m l h.1)

next_above : (past : List Acceptance) (recipient now : ℕ) → AreBelow past recipient (next_stamp past recipient now)
next_above [] recipient now = tt
next_above (a ∷ past) recipient now = go (eqb a.recipient recipient) refl (next_above past recipient now)
  where
    go : (b : Bool) → eqb a.recipient recipient ≡ b → AreBelow past recipient (next_stamp past recipient now)
        → (a.recipient ≡ recipient → a.stamp < cond b (max (suc a.stamp) (next_stamp past recipient now)) (next_stamp past recipient now))
        × AreBelow past recipient (cond b (max (suc a.stamp) (next_stamp past recipient now)) (next_stamp past recipient now))
    go true e h = ((λ _. omega arith), below_more past recipient _ _ (omega arith) h)
    go false e h = ((λ f. absurd (eqb-false _ _ e f)), h)

checked_rises : (c : CentreState) (now phone : ℕ) (tag : Tag) (s : Submission) (origin : Option Origin) (k : Check) → GivesStamp (books_of c.accepted now phone s) now k
    → IsRising c.accepted → IsRising (checked c now phone tag s origin k).after.accepted
unfolding checked
checked_rises c now phone tag s origin (Refuse cause failure) g h = h
checked_rises c now phone tag s origin (Accept recipient ends stamp) g h = (subst (AreBelow c.accepted recipient) (sym g.0) (next_above c.accepted recipient now), h)

pub hears_same : (c : CentreState) (now phone : ℕ) (tag : Tag) (cause : Option ℕ) (latest : Option Pushing) → (centre_hears c now phone tag cause latest).after.accepted ≡ c.accepted
unfolding centre_hears settled
hears_same c now phone tag cause None = refl
hears_same c now phone tag cause (Some p) =
    cond_both (same_tag tag p.tag && nat_lt now p.message.ends) _ _ (λ (d : Does CentreState). d.after.accepted ≡ c.accepted) (λ _. refl) (λ _. refl)

pub pushes_same : (phones : List AddressValue) (c : CentreState) (phone : ℕ) (queue : List Acceptance) → (pushes_first phones c phone queue).after.accepted ≡ c.accepted
unfolding pushes_first
pushes_same phones c phone [] = refl
pushes_same phones c phone (a ∷ others) = refl

takes_rises : (limit : ℕ) (phones : List AddressValue) (c : CentreState) (now phone : ℕ) (tag : Tag) (u : TransferUnit) (origin : Option Origin)
    → IsRising c.accepted → IsRising (centre_takes limit phones c now phone tag u origin).after.accepted
unfolding centre_takes
takes_rises limit phones c now phone tag (Submit s) origin h =
    checked_rises c now phone tag s origin (checked_by limit phones (books_of c.accepted now phone s) now s) (checked_gives limit phones (books_of c.accepted now phone s) now s) h
takes_rises limit phones c now phone tag (Deliver d) origin h = h
takes_rises limit phones c now phone tag OtherUnit origin h = h
takes_rises limit phones c now phone tag BadUnit origin h = h

opened_rises : (limit : ℕ) (phones : List AddressValue) (c : CentreState) (now phone : ℕ) (tag : Tag) (r : Relay) (origin : Option Origin)
    → IsRising c.accepted → IsRising (centre_opened limit phones c now phone tag r origin).after.accepted
unfolding centre_opened
opened_rises limit phones c now phone tag (Transfer FromPhone u) origin h = takes_rises limit phones c now phone tag u origin h
opened_rises limit phones c now phone tag (Transfer ToPhone u) origin h = h
opened_rises limit phones c now phone tag (Answer side cause report) origin h = h
opened_rises limit phones c now phone tag UnknownType origin h = h
opened_rises limit phones c now phone tag Unreadable origin h = h

answered_rises : (c : CentreState) (now phone : ℕ) (tag : Tag) (r : Relay) → IsRising c.accepted → IsRising (centre_answered c now phone tag r).after.accepted
unfolding centre_answered
answered_rises c now phone tag (Answer FromPhone cause report) h = rw (hears_same c now phone tag cause (c.line phone).latest) h
answered_rises c now phone tag (Answer ToPhone cause report) h = h
answered_rises c now phone tag (Transfer side u) h = h
answered_rises c now phone tag UnknownType h = h
answered_rises c now phone tag Unreadable h = h

receives_rises : (limit : ℕ) (phones : List AddressValue) (c : CentreState) (now phone : ℕ) (m : Message) (origin : Option Origin)
    → IsRising c.accepted → IsRising (centre_receives limit phones c now phone m origin).after.accepted
unfolding centre_receives
receives_rises limit phones c now phone NotCp origin h = h
receives_rises limit phones c now phone (Note flag value) origin h = h
receives_rises limit phones c now phone (Tiny flag value) origin h = h
receives_rises limit phones c now phone (Data false tag r) origin h = opened_rises limit phones c now phone tag r origin h
receives_rises limit phones c now phone (Data true tag r) origin h = answered_rises c now phone tag r h

called_rises : (limit : ℕ) (phones : List AddressValue) (c : CentreState) (call : Call) → IsRising c.accepted → IsRising (called limit phones c call).accepted
unfolding centre_pushes
called_rises limit phones c (Receive now phone m origin) h = receives_rises limit phones c now phone m origin h
called_rises limit phones c (Push now phone) h = rw (pushes_same phones c phone (unended (c.line phone).queue now)) h

pub stamps_rise : StampsRise
unfolding new_centre
stamps_rise limit phones [] = tt
stamps_rise limit phones (call ∷ past) = called_rises limit phones (called_all limit phones past) call (stamps_rise limit phones past)
