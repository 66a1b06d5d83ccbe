-- Each event keeps that every message of a segment has its piece, and that each segment is accepted at most once.
use Rattle.std.proofs.Common.{◌≡◌, ◌≢◌, ℕ, zero, suc, ◌+◌, Bool, true, false, cond, ltb, List, [], ◌∷◌, ◌++◌, length, refl, sym, ap, ◌∙◌, subst, Some, None, Option, ◌⊎◌, inl, inr, Contains}
use Rattle.std.specs.List.{AllByRecursion}
use Rattle.sms_message.specs.Message.Answers.{answers}
use Rattle.sms_message.specs.Does.{Does}
use Rattle.std.proofs.lemmas.Bool.{cond_both}
use Rattle.sms_field.specs.Address.Value.{AddressValue}
use Rattle.sms_tpdu.specs.Deliver.{Delivery}
use Rattle.sms_relay.specs.declared.side.Side.TheVariants.{FromPhone}
use Rattle.sms_join.specs.declared.units.Units.{Units}
use Rattle.sms_join.specs.Joiner.{answer}
use Rattle.sms_message.specs.declared.message.Report.{Report}
use Rattle.sms_message.specs.declared.message.Relay.{Relay}
use Rattle.sms_message.specs.declared.message.Message.{Message}
use Rattle.sms_message.specs.declared.message.Message.TheVariants.{NotCp, Note, Tiny, Data}
use Rattle.sms_message.specs.declared.message.Tag.{Tag}
use Rattle.sms_field.specs.Time.Computed.{end_of_2099}
use Rattle.sms_message.specs.Message.{Origin}
use Rattle.sms_centre.specs.Centre.State.{Acceptance, CentreState, new_centre}
use Rattle.sms_centre.specs.Centre.{centre_receives}
use Rattle.sms_centre.specs.Centre.Pushes.{centre_pushes}
use Rattle.sms_party.specs.Sent.{Place, Centre, Phone, Sent, bare, Sends}
use Rattle.sms_world.specs.Told.{Told}
use Rattle.sms_party.specs.Sender.Texts.{Text, SenderState, new_sender, width_of}
use Rattle.sms_party.specs.Sender.Calls.{composes, times_out}
use Rattle.sms_party.specs.Sender.Answers.{sender_receives}
use Rattle.sms_party.specs.Receiver.State.{ReceiverState, ReceiverLimits}
use Rattle.sms_script.specs.declared.script.limits.Limits.{Limits}
use Rattle.sms_party.specs.Receiver.{receiver_opened}
use Rattle.sms_world.proofs.Offered.{units_in_delivery, offers, is_taken, each_offer, each_opened}
use Rattle.sms_party.specs.Receiver.Pieces.{piece_in}
use Rattle.sms_world.specs.Machine.{Machine, start}
use Rattle.sms_world.specs.Machine.Event.{Event, Compose, Carry, Timeout, Push, Tick, Inject, Act, IsMetAs}
use Rattle.sms_world.specs.Machine.Next.{Next, next, stays, by_sender, by_centre, by_receiver, of_centre, pushed, origin_of, comes, comes_to_phone, carries, packet, ticked, to_centre, receiver_limits}
use Rattle.sms_world.specs.Machine.Step.{Acts, RunWith}
use Rattle.sms_world.specs.Texts.Keys.{is_from, stamp_given}
use Rattle.sms_world.specs.Orderly.{SubmissionsAreOrderly}
use Rattle.sms_world.proofs.Walk.{may_happen, sent_may_come, message_may_come}
use Rattle.sms_world.specs.Claims.Pieces.{AcceptedOnce, HasCut, IsSentOf, HasItsPiece, CentreSound, EachHasItsPiece, EachMessageHasItsPiece}
use Rattle.sms_world.specs.Headline.Once.{AcceptedAtMostOnce}
use Rattle.sms_world.proofs.Entries.{contains_none, contains_cases}
use Rattle.sms_world.proofs.Tested.{is_from_own, submissions_happen}
use Rattle.sms_world.proofs.Growing.{each_weaker, each_entered, each_nth, sent_more, centre_more}
use Rattle.sms_world.proofs.Senders.{Good, composes_good, times_out_good, sender_receives_good}
use Rattle.sms_world.proofs.Centres.{GoodCall, centre_receives_good, centre_pushes_good}

abbrev Grown : List Text → List Text → Type 0
Grown old new = (new ≡ old) ⊎ ((t : Text) × (new ≡ t ∷ old) × HasCut t)

by_sender_once : (m : Machine) (d : Sends SenderState) → EachHasItsPiece m → Good m.phones m.centre.accepted m.senders.texts d
    → EachHasItsPiece (by_sender m d).after
unfolding by_sender
by_sender_once m d h g =
    record {
      texts = texts' g.grown;
      senders = g.senders;
      centre = centre' g.grown;
      sent = each_entered (IsSentOf m.phones d.after.texts m.centre.accepted) d.put m.sent g.put (sent' g.grown);
    }
  where
    texts' : Grown m.senders.texts d.after.texts → AllByRecursion HasCut d.after.texts
    texts' (inl e) = subst (AllByRecursion HasCut) (sym e) h.texts
    texts' (inr e) = subst (AllByRecursion HasCut) (sym e.1) (e.2, h.texts)

    centre' : Grown m.senders.texts d.after.texts → CentreSound m.phones d.after.texts m.centre
    centre' (inl e) = subst (λ l. CentreSound m.phones l m.centre) (sym e) h.centre
    centre' (inr e) = subst (λ l. CentreSound m.phones l m.centre) (sym e.1) (centre_more e.0 m.senders.texts m.phones m.centre h.centre)

    sent' : Grown m.senders.texts d.after.texts → AllByRecursion (IsSentOf m.phones d.after.texts m.centre.accepted) m.sent
    sent' (inl e) = subst (λ l. AllByRecursion (IsSentOf m.phones l m.centre.accepted) m.sent) (sym e) h.sent
    sent' (inr e) = subst (λ l. AllByRecursion (IsSentOf m.phones l m.centre.accepted) m.sent) (sym e.1)
        (each_weaker (IsSentOf m.phones m.senders.texts m.centre.accepted) (IsSentOf m.phones (e.0 ∷ m.senders.texts) m.centre.accepted) m.sent
        (λ x s. sent_more e.0 m.senders.texts m.phones m.centre.accepted x s) h.sent)

by_centre_once : (m : Machine) (phone : ℕ) (origin : Option Origin) (putting : Option ℕ) (d : Does CentreState) → EachHasItsPiece m
    → GoodCall m.phones m.senders.texts m.centre phone origin putting d
    → EachHasItsPiece (by_centre m (of_centre phone origin putting d)).after
unfolding by_centre of_centre
by_centre_once m phone origin putting d h g =
    record {
      texts = h.texts;
      senders = h.senders;
      centre = g.centre;
      sent = each_entered (IsSentOf m.phones m.senders.texts d.after.accepted) _ m.sent g.put
          (each_weaker (IsSentOf m.phones m.senders.texts m.centre.accepted) (IsSentOf m.phones m.senders.texts d.after.accepted) m.sent g.sent h.sent);
    }

by_receiver_once : (m : Machine) (phone : ℕ) (d : Does ReceiverState) → EachHasItsPiece m → AllByRecursion (IsSentOf m.phones m.senders.texts m.centre.accepted) (to_centre phone d.put)
    → EachHasItsPiece (by_receiver m phone d).after
unfolding by_receiver
by_receiver_once m phone d h g =
    record {
      texts = h.texts;
      senders = h.senders;
      centre = h.centre;
      sent = each_entered (IsSentOf m.phones m.senders.texts m.centre.accepted) (to_centre phone d.put) m.sent g h.sent;
    }

stays_once : (m : Machine) (o : Told) → EachHasItsPiece m → EachHasItsPiece (stays m o).after
unfolding stays
stays_once m o h = h

-- a receiver puts out answers alone
pub receives_put : (P : Sent → Type 0) (now : ℕ) (limits : ReceiverLimits) (x : ReceiverState) (phone : ℕ) (tag : Tag) (v : Relay) (o : Option Origin)
    → ((v : Option ℕ) (r : Option Report) → AllByRecursion P (to_centre phone (answers FromPhone tag v r))) → AllByRecursion P (to_centre phone (receiver_opened limits x now tag v o).put)
receives_put P now limits x phone tag v o h =
    each_opened (λ (d : Does ReceiverState). AllByRecursion P (to_centre phone d.put)) limits x now tag v o (λ cause failure report. h _ _)
    (λ d e. each_offer (λ (d : Does ReceiverState). AllByRecursion P (to_centre phone d.put)) limits x now tag d o (units_in_delivery d) (λ cause failure e. h _ _) (λ us e f. h _ _)
    (λ us e f. offered d us)) tt
  where
    offered : (d : Delivery) (us : Units) → AllByRecursion P (to_centre phone (offers limits x tag d.origin (piece_in now d us) o (answer limits.open_max x.joiner (piece_in now d us))).put)
    offered d us = unfold offers in
        cond_both (is_taken (answer limits.open_max x.joiner (piece_in now d us))) _ _ (λ (d : Does ReceiverState). AllByRecursion P (to_centre phone d.put)) (λ _. h _ _) (λ _. h _ _)

pub answers_sent : (m : Machine) (phone : ℕ) (tag : Tag) (v : Option ℕ) (r : Option Report)
    → AllByRecursion (IsSentOf m.phones m.senders.texts m.centre.accepted) (to_centre phone (answers FromPhone tag v r))
unfolding bare
answers_sent m phone tag v r = (tt, (tt, tt))

to_phone_once : (m : Machine) (phone : ℕ) (v : Message) (o : Option Origin) → EachHasItsPiece m → EachHasItsPiece (comes_to_phone m phone v o).after
unfolding comes_to_phone
to_phone_once m phone NotCp o h = stays_once m _ h
to_phone_once m phone (Note flag value) o h = stays_once m _ h
to_phone_once m phone (Tiny flag value) o h = stays_once m _ h
to_phone_once m phone (Data true tag relay) o h =
    by_sender_once m (sender_receives m.senders phone tag relay) h (sender_receives_good m.phones m.centre.accepted m.senders phone tag relay h.senders)
to_phone_once m phone (Data false tag relay) o h =
    by_receiver_once m phone (receiver_opened (receiver_limits m.limits) (m.receiver phone) m.clock tag relay o) h
    (receives_put (IsSentOf m.phones m.senders.texts m.centre.accepted) m.clock (receiver_limits m.limits) (m.receiver phone) phone tag relay o (answers_sent m phone tag))

comes_once : (all : Bool) (m : Machine) (to : Place) (v : Message) (o : Option Origin) (putting : Option ℕ) → EachHasItsPiece m
    → HasItsPiece m.phones m.senders.texts m.centre.accepted v to o → message_may_come all m v to o ≡ true
    → EachHasItsPiece (comes m to v o putting).after
unfolding comes
comes_once all m (Centre phone) v o putting h x may =
    by_centre_once m phone None putting (centre_receives m.limits.held m.phones m.centre m.clock phone v o) h
    (centre_receives_good all m m.limits.held m.phones m.senders.texts phone putting v o h.centre x may)
comes_once all m (Phone phone) v o putting h x may = to_phone_once m phone v o h

carries_once : (all : Bool) (m : Machine) (x : Option Sent) → EachHasItsPiece m
    → ((y : Sent) → x ≡ Some y → IsSentOf m.phones m.senders.texts m.centre.accepted y) → sent_may_come all m x ≡ true
    → EachHasItsPiece (carries m x).after
unfolding carries
carries_once all m None h s may = stays_once m _ h
carries_once all m (Some x) h s may = comes_once all m x.to x.message x.origin x.putting h (s x refl) may

pub packet_sent : (m : Machine) (P : Sent → Type 0) (k : ℕ) → AllByRecursion P m.sent → (y : Sent) → packet m k ≡ Some y → P y
unfolding packet
packet_sent m P zero h y e = cc
packet_sent m P (suc k) h y e = each_nth P m.sent k y e h

pushes_once : (m : Machine) (phone : ℕ) (d : Does CentreState) → EachHasItsPiece m → GoodCall m.phones m.senders.texts m.centre phone (origin_of (d.after.line phone).latest) None d
    → EachHasItsPiece (by_centre m (pushed phone d)).after
unfolding pushed
pushes_once m phone d h g = by_centre_once m phone (origin_of (d.after.line phone).latest) None d h g

pub next_once : (all : Bool) (m : Machine) (e : Event) (act : Act) → IsMetAs (width_of m.senders.wide) e act → may_happen all m e ≡ true → EachHasItsPiece m → EachHasItsPiece (next m act).after
unfolding next may_happen ticked
next_once all m (Compose phone target characters) act is may h =
    subst (λ (v : Act). EachHasItsPiece (next m v).after) (sym is.3)
    (cond_both (ltb phone (length m.phones)) _ _ (λ (r : Next). EachHasItsPiece r.after)
    (λ _. by_sender_once m (composes m.senders phone target characters is.0) h
    (composes_good m.phones m.centre.accepted m.senders phone target characters is.0 is.1 is.2 h.senders))
    (λ _. stays_once m _ h))
next_once all m (Carry k) act is may h =
    subst (λ (v : Act). EachHasItsPiece (next m v).after) (sym is)
    (carries_once all m (packet m k) h (packet_sent m (IsSentOf m.phones m.senders.texts m.centre.accepted) k h.sent) may)
next_once all m (Timeout phone) act is may h =
    subst (λ (v : Act). EachHasItsPiece (next m v).after) (sym is)
    (cond_both (ltb phone (length m.phones)) _ _ (λ (r : Next). EachHasItsPiece r.after)
    (λ _. by_sender_once m (times_out m.senders phone) h (times_out_good m.phones m.centre.accepted m.senders phone h.senders))
    (λ _. stays_once m _ h))
next_once all m (Push phone) act is may h =
    subst (λ (v : Act). EachHasItsPiece (next m v).after) (sym is)
    (cond_both (ltb phone (length m.phones)) _ _ (λ (r : Next). EachHasItsPiece r.after)
    (λ _. pushes_once m phone (centre_pushes m.phones m.centre m.clock phone) h (centre_pushes_good m.phones m.senders.texts m.centre m.clock phone h.centre))
    (λ _. stays_once m _ h))
next_once all m (Tick seconds) act is may h =
    subst (λ (v : Act). EachHasItsPiece (next m v).after) (sym is)
    (cond_both (ltb (m.clock + seconds) end_of_2099) _ _ (λ (r : Next). EachHasItsPiece r.after)
    (λ _. record { texts = h.texts; senders = h.senders; centre = h.centre; sent = h.sent })
    (λ _. stays_once m _ h))
next_once all m (Inject place octets) act is may h = cc

pub start_once : (limits : Limits) (phones : List AddressValue) → EachHasItsPiece (start limits phones)
unfolding start new_centre new_sender
start_once limits phones =
    record {
      texts = tt;
      senders = λ p. record { pending = tt; under_way = refl };
      centre = record { accepted = tt; once = tt; queued = λ r. tt };
      sent = tt;
    }

step_once : (all : Bool) (m : Machine) (e : Event) (act : Act) (told : Told) (put : List Sent) (n : Machine)
    → IsMetAs (width_of m.senders.wide) e act → may_happen all m e ≡ true → EachHasItsPiece m → Acts m act told put n → EachHasItsPiece n
step_once all m e act told put n is may h (inl s) = subst EachHasItsPiece s.2 (next_once all m e act is may h)
step_once all m e act told put n is may h (inr s) = subst EachHasItsPiece s.3 h

pub once_run : (all : Bool) (Keeps : Machine → Event → Type 0)
    → ((m : Machine) (e : Event) → EachHasItsPiece m → Keeps m e → may_happen all m e ≡ true)
    → (limits : Limits) (phones : List AddressValue) (past : List (Event × Told)) (m : Machine)
    → RunWith Keeps (start limits phones) past m → EachHasItsPiece m
once_run all Keeps may limits phones [] m h = subst EachHasItsPiece h (start_once limits phones)
once_run all Keeps may limits phones (e ∷ past) m h =
    let ih : EachHasItsPiece h.0 = once_run all Keeps may limits phones past h.0 h.1 in
    step_once all h.0 e.0 h.3.1.0 e.1 h.3.0 m h.3.1.1 (may h.0 e.0 ih h.2) ih h.3.1.2

pub each_has_its_piece : EachMessageHasItsPiece
each_has_its_piece limits phones past m h = once_run false SubmissionsAreOrderly (λ n e p k. submissions_happen n e k) limits phones past m h

-- an acceptance of a segment, and the stamp that is given to it
given_of : (past : List Acceptance) (b : Acceptance) (o : Origin) → Contains past b → b.origin ≡ Some o → stamp_given past o ≡ None → ⊥
given_of [] b o c e n = contains_none b c
given_of (a ∷ past) b o c e n = go (contains_cases a past b c) (λ d g. given_of past b o d e g)
  where
    which : (q : Bool) → cond q (Some a.stamp) (stamp_given past o) ≡ None → (stamp_given past o ≡ None → ⊥) → ⊥
    which true g ih = cc
    which false g ih = ih g

    go : (a ≡ b) ⊎ Contains past b → (Contains past b → stamp_given past o ≡ None → ⊥) → ⊥
    go (inl same) ih =
        let f : is_from a.origin o ≡ true = is_from_own a.origin o (ap (λ (v : Acceptance). v.origin) same ∙ e) in
        let g : cond true (Some a.stamp) (stamp_given past o) ≡ None = subst (λ q. cond q (Some a.stamp) (stamp_given past o) ≡ None) f n in cc
    go (inr d) ih = which (is_from a.origin o) n (ih d)

once_at : (later earlier : List Acceptance) (a b : Acceptance) (o : Origin) → AcceptedOnce (later ++ a ∷ earlier) → Contains earlier b
    → a.origin ≡ Some o → b.origin ≢ Some o
once_at [] earlier a b o h c e f = given_of earlier b o c f (h.0 o e)
once_at (x ∷ later) earlier a b o h c e f = once_at later earlier a b o h.1 c e f

pub accepts_once : AcceptedAtMostOnce
accepts_once limits phones past m h later earlier a b o is c e =
    once_at later earlier a b o (subst AcceptedOnce is (each_has_its_piece limits phones past m h).centre.once) c e
