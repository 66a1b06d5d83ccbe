-- Octets that say nothing change no party.
use Rattle.std.proofs.Common.{◌≡◌, ℕ, Bool, true, false, cond, eqb, ltb, [], length, refl, sym, ap, ◌∙◌, subst, None, inl, inr}
use Rattle.std.proofs.lemmas.Bool.{cond_both, eqb-true}
use Rattle.sms_relay.specs.declared.side.Side.TheVariants.{FromPhone, ToPhone}
use Rattle.sms_message.specs.declared.message.TransferUnit.TheVariants.{Submit, Deliver, OtherUnit, BadUnit}
use Rattle.sms_message.specs.declared.message.Relay.TheVariants.{Transfer, Answer, UnknownType, Unreadable}
use Rattle.sms_message.specs.declared.message.Message.{Message}
use Rattle.sms_message.specs.declared.message.Message.TheVariants.{NotCp, Note, Tiny, Data}
use Rattle.sms_message.specs.Message.Laws.{OneMessageIsRead}
use Rattle.sms_centre.specs.Centre.{centre_opened, centre_answered, centre_receives}
use Rattle.sms_message.specs.Changed.{changed}
use Rattle.sms_centre.specs.Centre.Submissions.{centre_takes}
use Rattle.sms_party.specs.Sent.{Place, Centre, Phone}
use Rattle.sms_party.specs.Sender.Putting.{sender_drops}
use Rattle.sms_party.specs.Sender.Answers.{sender_receives}
use Rattle.sms_party.specs.Receiver.{receiver_takes, receiver_opened}
use Rattle.sms_world.specs.Told.{Told}
use Rattle.sms_world.specs.Machine.{Machine}
use Rattle.sms_world.specs.Machine.Event.{Act, SlipsIn}
use Rattle.sms_world.specs.Machine.Next.{Next, next, stays, by_sender, by_receiver, by_centre, of_centre, comes, comes_to_phone, phone_of}
use Rattle.sms_world.specs.Machine.Step.{Acts}
use Rattle.sms_world.specs.Unread.{UnreadChangesNothing, says_nothing, PartiesStay, NothingSaidChangesNoParty}

stays_all : (m : Machine) (told : Told) → PartiesStay m (stays m told).after
unfolding stays
stays_all m told = record { senders = refl; centre = refl; receivers = λ p. refl }

changed_same : {X : Type 0} (f : ℕ → X) (n q : ℕ) → changed f n (f n) q ≡ f q
changed_same f n q = go (eqb q n) refl
  where
    go : (b : Bool) → eqb q n ≡ b → cond b (f n) (f q) ≡ f q
    go true e = ap f (sym (eqb-true q n e))
    go false e = refl

come_stays : (m : Machine) (place : Place) (v : Message) → says_nothing v ≡ true → PartiesStay m (comes m place v None None).after
unfolding comes comes_to_phone by_sender by_receiver by_centre of_centre centre_receives centre_opened centre_answered centre_takes sender_receives sender_drops receiver_opened receiver_takes
come_stays m place (Note flag value) h = cc
come_stays m place (Data flag tag (Answer side cause report)) h = cc
come_stays m place (Data flag tag (Transfer side (Submit s))) h = cc
come_stays m place (Data flag tag (Transfer side (Deliver d))) h = cc
come_stays m (Centre p) NotCp h = record { senders = refl; centre = refl; receivers = λ q. refl }
come_stays m (Centre p) (Tiny flag value) h = record { senders = refl; centre = refl; receivers = λ q. refl }
come_stays m (Centre p) (Data false tag (Transfer FromPhone OtherUnit)) h = record { senders = refl; centre = refl; receivers = λ q. refl }
come_stays m (Centre p) (Data false tag (Transfer FromPhone BadUnit)) h = record { senders = refl; centre = refl; receivers = λ q. refl }
come_stays m (Centre p) (Data false tag (Transfer ToPhone OtherUnit)) h = record { senders = refl; centre = refl; receivers = λ q. refl }
come_stays m (Centre p) (Data false tag (Transfer ToPhone BadUnit)) h = record { senders = refl; centre = refl; receivers = λ q. refl }
come_stays m (Centre p) (Data true tag (Transfer side OtherUnit)) h = record { senders = refl; centre = refl; receivers = λ q. refl }
come_stays m (Centre p) (Data true tag (Transfer side BadUnit)) h = record { senders = refl; centre = refl; receivers = λ q. refl }
come_stays m (Centre p) (Data false tag UnknownType) h = record { senders = refl; centre = refl; receivers = λ q. refl }
come_stays m (Centre p) (Data true tag UnknownType) h = record { senders = refl; centre = refl; receivers = λ q. refl }
come_stays m (Centre p) (Data false tag Unreadable) h = record { senders = refl; centre = refl; receivers = λ q. refl }
come_stays m (Centre p) (Data true tag Unreadable) h = record { senders = refl; centre = refl; receivers = λ q. refl }
come_stays m (Phone p) NotCp h = stays_all m _
come_stays m (Phone p) (Tiny flag value) h = stays_all m _
come_stays m (Phone p) (Data true tag (Transfer side OtherUnit)) h = record { senders = refl; centre = refl; receivers = λ q. refl }
come_stays m (Phone p) (Data true tag (Transfer side BadUnit)) h = record { senders = refl; centre = refl; receivers = λ q. refl }
come_stays m (Phone p) (Data true tag UnknownType) h = record { senders = refl; centre = refl; receivers = λ q. refl }
come_stays m (Phone p) (Data true tag Unreadable) h = record { senders = refl; centre = refl; receivers = λ q. refl }
come_stays m (Phone p) (Data false tag (Transfer ToPhone OtherUnit)) h = record { senders = refl; centre = refl; receivers = changed_same m.receiver p }
come_stays m (Phone p) (Data false tag (Transfer ToPhone BadUnit)) h = record { senders = refl; centre = refl; receivers = changed_same m.receiver p }
come_stays m (Phone p) (Data false tag (Transfer FromPhone OtherUnit)) h = record { senders = refl; centre = refl; receivers = changed_same m.receiver p }
come_stays m (Phone p) (Data false tag (Transfer FromPhone BadUnit)) h = record { senders = refl; centre = refl; receivers = changed_same m.receiver p }
come_stays m (Phone p) (Data false tag UnknownType) h = record { senders = refl; centre = refl; receivers = changed_same m.receiver p }
come_stays m (Phone p) (Data false tag Unreadable) h = record { senders = refl; centre = refl; receivers = changed_same m.receiver p }

pub nothing_said : OneMessageIsRead → NothingSaidChangesNoParty
nothing_said one m place octets message reads h told put n step = go step.2
  where
    v : Message
    v = step.1.0

    same : v ≡ message
    same = one octets message v step.1.1 reads step.1.2

    there : PartiesStay m (next m (SlipsIn place v)).after
    there = unfold next in
        cond_both (ltb (phone_of place) (length m.phones)) _ _ (λ (r : Next). PartiesStay m r.after)
        (λ _. come_stays m place v (ap says_nothing same ∙ h)) (λ _. stays_all m _)

    go : Acts m step.0 told put n → PartiesStay m n
    go (inl s) = subst (PartiesStay m) s.2 (subst (λ (a : Act). PartiesStay m (next m a).after) (sym step.1.3) there)
    go (inr s) = subst (PartiesStay m) s.3 (record { senders = refl; centre = refl; receivers = λ p. refl })

-- nothing is done
abbrev IsIdle : Machine → Next → Type 0
IsIdle m r = (r.after ≡ m) × (r.put ≡ [])

not_cp_idle : (m : Machine) (place : Place) → IsIdle m (comes m place NotCp None None)
unfolding comes comes_to_phone stays by_centre of_centre centre_receives
not_cp_idle m (Centre p) = (refl, refl)
not_cp_idle m (Phone p) = (refl, refl)

stays_idle : (m : Machine) (told : Told) → IsIdle m (stays m told)
unfolding stays
stays_idle m told = (refl, refl)

pub unread_nothing : OneMessageIsRead → UnreadChangesNothing
unread_nothing one m place octets reads told put n step = go step.2
  where
    same : step.1.0 ≡ NotCp
    same = one octets NotCp step.1.0 step.1.1 reads step.1.2

    there : IsIdle m (next m (SlipsIn place NotCp))
    there = unfold next in
        cond_both (ltb (phone_of place) (length m.phones)) _ _ (IsIdle m) (λ _. not_cp_idle m place) (λ _. stays_idle m _)

    is : step.0 ≡ SlipsIn place NotCp
    is = step.1.3 ∙ ap (SlipsIn place) same

    go : Acts m step.0 told put n → (n ≡ m) × (put ≡ [])
    go (inl s) =
        let h : IsIdle m (next m step.0) = subst (λ (a : Act). IsIdle m (next m a)) (sym is) there in
        (sym s.2 ∙ h.0, sym s.1 ∙ h.1)
    go (inr s) = (sym s.3, sym s.2)
