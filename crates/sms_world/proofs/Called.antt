-- The senders of a run are as some calls leave them, and so the texts that have ended at a phone are the first that were typed there.
use Rattle.std.proofs.Common.{◌≡◌, ℕ, zero, suc, ◌+◌, ◌-◌, Bool, true, false, nat_lt, List, [], ◌∷◌, ◌++◌, length, reverse, Option, Some, None, refl, sym, ap, ◌∙◌, subst, arith, inl, inr, ◌⊎◌}
use Rattle.std.specs.List.{slice_get}
use Rattle.std.proofs.lemmas.Bool.{cond_both}
use Rattle.std.proofs.lemmas.List.{reverse-append, length-reverse}
use Rattle.sms_field.specs.Address.Value.{AddressValue}
use Rattle.sms_field.specs.Time.Computed.{end_of_2099}
use Rattle.sms_message.specs.Message.{Origin}
use Rattle.sms_message.specs.declared.message.Message.{Message}
use Rattle.sms_message.specs.declared.message.Message.TheVariants.{NotCp, Note, Tiny, Data}
use Rattle.sms_party.specs.Sent.{Place, Centre, Phone, Sent}
use Rattle.sms_party.specs.Sender.Answers.{sender_takes}
use Rattle.sms_party.specs.Sender.Ended.{Call, Compose, TimeOut, Take, called, called_all, IsTypedAt, AreTyped, EndedAreTyped}
use Rattle.sms_party.specs.Sender.Texts.{Text, SenderState, new_senders}
use Rattle.sms_script.specs.declared.script.limits.Limits.{Limits}
use Rattle.sms_world.specs.Machine.{Machine, start}
use Rattle.sms_world.specs.Machine.Event.{Event, Act, TypesText, MovesPacket, EndsWait, HandsOver, MovesClock, SlipsIn}
use Rattle.sms_world.specs.Machine.Next.{Next, next, stays, by_sender, by_centre, by_receiver, comes, comes_to_phone, carries, packet, ticked}
use Rattle.sms_world.specs.Machine.Step.{Acts, RunWith}
use Rattle.sms_world.specs.Told.{Told}

abbrev AreCalled : Limits → SenderState → Type 0
AreCalled limits x = (calls : List Call) × (x ≡ called_all limits.wide limits.reject calls)

one_more : (limits : Limits) (x : SenderState) (call : Call) → AreCalled limits x → AreCalled limits (called x call)
one_more limits x call h = (call ∷ h.0, ap (λ (y : SenderState). called y call) h.1)

to_phone_called : (limits : Limits) (m : Machine) (phone : ℕ) (message : Message) (origin : Option Origin) → AreCalled limits m.senders → AreCalled limits (comes_to_phone m phone message origin).after.senders
unfolding comes_to_phone by_sender by_receiver stays sender_takes
to_phone_called limits m phone NotCp origin h = h
to_phone_called limits m phone (Note flag value) origin h = h
to_phone_called limits m phone (Tiny flag value) origin h = h
to_phone_called limits m phone (Data true tag relay) origin h = one_more limits m.senders (Take phone (Data true tag relay)) h
to_phone_called limits m phone (Data false tag relay) origin h = h

comes_called : (limits : Limits) (m : Machine) (place : Place) (message : Message) (origin : Option Origin) (putting : Option ℕ) → AreCalled limits m.senders
    → AreCalled limits (comes m place message origin putting).after.senders
unfolding comes by_centre
comes_called limits m (Centre phone) message origin putting h = h
comes_called limits m (Phone phone) message origin putting h = to_phone_called limits m phone message origin h

carries_called : (limits : Limits) (m : Machine) (x : Option Sent) → AreCalled limits m.senders → AreCalled limits (carries m x).after.senders
unfolding carries stays
carries_called limits m None h = h
carries_called limits m (Some x) h = comes_called limits m x.to x.message x.origin x.putting h

stays_called : (limits : Limits) (m : Machine) (told : Told) → AreCalled limits m.senders → AreCalled limits (stays m told).after.senders
unfolding stays
stays_called limits m told h = h

next_called : (limits : Limits) (m : Machine) (act : Act) → AreCalled limits m.senders → AreCalled limits (next m act).after.senders
unfolding next by_sender by_centre ticked
next_called limits m (TypesText phone target characters pieces) h =
    cond_both (nat_lt phone (length m.phones)) _ _ (λ (n : Next). AreCalled limits n.after.senders) (λ _. one_more limits m.senders (Compose phone target characters pieces) h) (λ _. stays_called limits m _ h)
next_called limits m (MovesPacket k) h = carries_called limits m (packet m k) h
next_called limits m (EndsWait phone) h =
    cond_both (nat_lt phone (length m.phones)) _ _ (λ (n : Next). AreCalled limits n.after.senders) (λ _. one_more limits m.senders (TimeOut phone) h) (λ _. stays_called limits m _ h)
next_called limits m (HandsOver phone) h =
    cond_both (nat_lt phone (length m.phones)) _ _ (λ (n : Next). AreCalled limits n.after.senders) (λ _. h) (λ _. stays_called limits m _ h)
next_called limits m (MovesClock seconds) h =
    cond_both (nat_lt (m.clock + seconds) end_of_2099) _ _ (λ (n : Next). AreCalled limits n.after.senders) (λ _. h) (λ _. stays_called limits m _ h)
next_called limits m (SlipsIn (Centre phone) message) h =
    cond_both (nat_lt phone (length m.phones)) _ _ (λ (n : Next). AreCalled limits n.after.senders) (λ _. comes_called limits m (Centre phone) message None None h) (λ _. stays_called limits m _ h)
next_called limits m (SlipsIn (Phone phone) message) h =
    cond_both (nat_lt phone (length m.phones)) _ _ (λ (n : Next). AreCalled limits n.after.senders) (λ _. comes_called limits m (Phone phone) message None None h) (λ _. stays_called limits m _ h)

acts_called : (limits : Limits) (m n : Machine) (act : Act) (told : Told) (put : List Sent) → Acts m act told put n → AreCalled limits m.senders → AreCalled limits n.senders
acts_called limits m n act told put (inl s) h = subst (λ (v : Machine). AreCalled limits v.senders) s.2 (next_called limits m act h)
acts_called limits m n act told put (inr s) h = subst (λ (v : Machine). AreCalled limits v.senders) s.3 h

run_called : (Keeps : Machine → Event → Type 0) (limits : Limits) (phones : List AddressValue) (past : List (Event × Told)) (m : Machine) → RunWith Keeps (start limits phones) past m → AreCalled limits m.senders
unfolding start
run_called Keeps limits phones [] m run = subst (λ (v : Machine). AreCalled limits v.senders) run ([], refl)
run_called Keeps limits phones (e ∷ past) m (old, run, keeps, (put, (act, is, acts))) = acts_called limits old m act e.1 put acts (run_called Keeps limits phones past old run)

last_or_before : {X : Type 0} (xs : List X) (x : X) (place : ℕ) (y : X) → slice_get (xs ++ x ∷ []) place ≡ Some y → (slice_get xs place ≡ Some y) ⊎ ((place ≡ length xs) × (x ≡ y))
last_or_before [] x zero y e = let same : x ≡ y = cc in inr (refl, same)
last_or_before [] x (suc place) y e = absurd cc
last_or_before (z ∷ xs) x zero y e = inl e
last_or_before {X} (z ∷ xs) x (suc place) y e = go (last_or_before xs x place y e)
  where
    go : (slice_get xs place ≡ Some y) ⊎ ((place ≡ length xs) × (x ≡ y)) → (slice_get xs place ≡ Some y) ⊎ ((suc place ≡ suc (length xs)) × (x ≡ y))
    go (inl k) = inl k
    go (inr k) = inr (ap suc k.0, k.1)

-- the text of this place among those that ended, the first typed first
typed_there : (texts : List Text) (phone : ℕ) (ended : List (ℕ × Bool)) (place n : ℕ) (good : Bool) → AreTyped texts phone ended → slice_get (reverse ended) place ≡ Some (n, good) → IsTypedAt texts phone (suc place) n
typed_there texts phone [] place n good h e = absurd cc
typed_there texts phone (x ∷ ended) place n good h e =
    go (λ k. typed_there texts phone ended place n good h.1 k) (last_or_before (reverse ended) x place (n, good) (subst (λ l. slice_get l place ≡ Some (n, good)) (reverse-append (x ∷ []) ended) e))
  where
    go : (slice_get (reverse ended) place ≡ Some (n, good) → IsTypedAt texts phone (suc place) n)
        → (slice_get (reverse ended) place ≡ Some (n, good)) ⊎ ((place ≡ length (reverse ended)) × (x ≡ (n, good))) → IsTypedAt texts phone (suc place) n
    go earlier (inl k) = earlier k
    go earlier (inr k) =
        let same : suc (length ended) ≡ suc place = ap suc (sym (k.0 ∙ length-reverse ended)) in
        subst (λ i. IsTypedAt texts phone i n) same (subst (λ (y : ℕ × Bool). IsTypedAt texts phone (suc (length ended)) y.0) k.1 h.0)

pub ended_typed : (Keeps : Machine → Event → Type 0) → EndedAreTyped → (limits : Limits) (phones : List AddressValue) (past : List (Event × Told)) (m : Machine) → RunWith Keeps (start limits phones) past m
    → (phone place n : ℕ) (good : Bool) → slice_get (reverse (m.senders.sender phone).ended) place ≡ Some (n, good) → IsTypedAt m.senders.texts phone (suc place) n
ended_typed Keeps law limits phones past m run phone place n good there =
    let c = run_called Keeps limits phones past m run in
    let typed = subst (λ (x : SenderState). AreTyped x.texts phone (x.sender phone).ended) (sym c.1) (law limits.wide limits.reject c.0 phone) in
    typed_there m.senders.texts phone (m.senders.sender phone).ended place n good typed there
