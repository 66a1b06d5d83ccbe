-- Each event of an orderly run keeps the claims.
use Rattle.std.proofs.Common.{◌≡◌, ℕ, zero, suc, ◌+◌, true, false, ◌||◌, ltb, List, [], ◌∷◌, map, take, length, refl, sym, ap, ◌∙◌, subst, Some, None, Option, ◌⊎◌, inl, inr}
use Rattle.std.specs.List.{AllByRecursion}
use Rattle.sms_world.specs.Inside.Below.{Below}
use Rattle.sms_message.specs.Does.{Does}
use Rattle.std.proofs.lemmas.Bool.{cond_both}
use Rattle.sms_field.specs.Address.Value.{AddressValue}
use Rattle.sms_tpdu.specs.Deliver.{Delivery}
use Rattle.sms_relay.specs.declared.side.Side.TheVariants.{FromPhone, ToPhone}
use Rattle.sms_join.specs.declared.units.Units.{Units}
use Rattle.sms_join.specs.Joiner.{new_joiner, answer}
use Rattle.sms_message.specs.declared.message.TransferUnit.TheVariants.{Submit, Deliver, OtherUnit, BadUnit}
use Rattle.sms_message.specs.declared.message.Relay.{Relay}
use Rattle.sms_message.specs.declared.message.Relay.TheVariants.{Transfer, Answer, UnknownType, Unreadable}
use Rattle.sms_message.specs.declared.message.Message.{Message}
use Rattle.sms_message.specs.declared.message.Message.TheVariants.{NotCp, Note, Tiny, Data}
use Rattle.sms_message.specs.declared.message.Tag.{Tag}
use Rattle.sms_field.specs.Time.Computed.{end_of_2099}
use Rattle.sms_message.specs.Message.{Origin}
use Rattle.sms_centre.specs.Centre.State.{CentreState, new_centre}
use Rattle.sms_centre.specs.Centre.{centre_receives}
use Rattle.sms_centre.specs.Centre.Pushes.{centre_pushes}
use Rattle.sms_party.specs.Sent.{nth, Place, Centre, Phone, Sent, Sends}
use Rattle.sms_world.specs.Told.{Told}
use Rattle.sms_party.specs.Sender.Texts.{Text, SenderState, width_of}
use Rattle.sms_party.specs.Sender.Segments.{piece_of}
use Rattle.sms_party.specs.Sender.Calls.{composes, times_out}
use Rattle.sms_party.specs.Sender.Answers.{sender_receives}
use Rattle.sms_party.specs.Receiver.State.{ReceiverState, new_receiver}
use Rattle.sms_script.specs.declared.script.limits.Limits.{Limits}
use Rattle.sms_party.specs.Receiver.{receiver_takes, receiver_opened}
use Rattle.sms_world.proofs.Offered.{units_in_delivery, offers, is_taken, each_offer}
use Rattle.sms_party.specs.Receiver.Offers.{offers_units}
use Rattle.sms_party.specs.Receiver.Pieces.{piece_in}
use Rattle.sms_world.specs.Machine.{Machine, start}
use Rattle.sms_world.specs.Machine.Event.{Event, Compose, Carry, Timeout, Push, Tick, Inject, Act, IsMetAs}
use Rattle.sms_world.specs.Machine.Next.{Next, next, stays, by_sender, by_centre, by_receiver, of_centre, pushed, origin_of, comes, comes_to_phone, carries, packet, ticked, receiver_limits}
use Rattle.sms_world.specs.Machine.Step.{Acts}
use Rattle.sms_world.specs.Orderly.{OrderlyRun, IsOrderly}
use Rattle.sms_world.specs.Orderly.Brought.{BringsDelivery}
use Rattle.sms_world.proofs.Walk.{may_happen, sent_may_come, message_may_come, relay_may_come, may_deliver}
use Rattle.sms_world.specs.Texts.Keys.{texts_of}
use Rattle.sms_world.specs.Texts.Finished.{finished}
use Rattle.sms_world.specs.Texts.Stands.{stands}
use Rattle.sms_world.specs.Claims.Pieces.{HasCut, IsSentOf, HasItsPiece, DeliveryOf, EachHasItsPiece}
use Rattle.sms_world.proofs.Standing.{ReceiverSound, Sound}
use Rattle.sms_world.specs.Claims.OpenSets.{OpenSetsAreOpenTexts}
use Rattle.sms_world.specs.Claims.RememberedKeys.{KeysAreOfFinished}
use Rattle.sms_world.specs.Headline.Stores.{StoresStand}
use Rattle.sms_world.proofs.Growing.{changed_each, nth_more}
use Rattle.sms_world.proofs.Senders.{Good, composes_good, times_out_good, sender_receives_good}
use Rattle.sms_world.proofs.Centres.{GoodCall, centre_receives_good, centre_pushes_good}
use Rattle.sms_world.proofs.Tested.{happens}
use Rattle.sms_world.proofs.Stamped.{Stamped, start_stamped, acts_stamped, rises}
use Rattle.sms_world.proofs.Clear.{may_arrive_there, may_deliver_there}
use Rattle.sms_world.proofs.Once.{next_once, start_once, packet_sent}
use Rattle.sms_world.proofs.Receivers.{receiver_stays, receiver_ages, takes_sound, told_units}

-- what stands at every phone
abbrev Stand : Machine → Type 0
Stand m = (phone : ℕ) → ReceiverSound m.limits.remembered m.phones m.senders.texts m.centre.accepted phone (m.receiver phone)

by_sender_stands : (m : Machine) (d : Sends SenderState) → Stand m → Good m.phones m.centre.accepted m.senders.texts d
    → Stand (by_sender m d).after
unfolding by_sender
by_sender_stands m d h g phone =
    receiver_stays m.phones m.senders.texts d.after.texts m.centre.accepted m.centre.accepted (grown g.grown) (λ o n e. e)
    m.limits.remembered phone (m.receiver phone) (h phone)
  where
    grown : (d.after.texts ≡ m.senders.texts) ⊎ ((t : Text) × (d.after.texts ≡ t ∷ m.senders.texts) × HasCut t)
        → (n : ℕ) (t : Text) → nth m.senders.texts n ≡ Some t → nth d.after.texts n ≡ Some t
    grown (inl e) n t f = ap (λ l. nth l n) e ∙ f
    grown (inr e) n t f = ap (λ l. nth l n) e.1 ∙ nth_more e.0 m.senders.texts n t f

by_centre_stands : (m : Machine) (from : ℕ) (origin : Option Origin) (putting : Option ℕ) (d : Does CentreState) → Stand m → GoodCall m.phones m.senders.texts m.centre from origin putting d
    → Stand (by_centre m (of_centre from origin putting d)).after
unfolding by_centre of_centre
by_centre_stands m from origin putting d h g phone =
    receiver_stays m.phones m.senders.texts m.senders.texts m.centre.accepted d.after.accepted (λ n t e. e) g.given
    m.limits.remembered phone (m.receiver phone) (h phone)

by_receiver_stands : (m : Machine) (r : ℕ) (d : Does ReceiverState) → Stand m
    → ReceiverSound m.limits.remembered m.phones m.senders.texts m.centre.accepted r d.after
    → Stand (by_receiver m r d).after
unfolding by_receiver
by_receiver_stands m r d h g =
    changed_each (ReceiverSound m.limits.remembered m.phones m.senders.texts m.centre.accepted) m.receiver r d.after g h

-- what an orderly run carries
pub record Orderly (m : Machine) : Type 0 where
  pub sound : Sound m
  pub stamped : Stamped m

module _ (law : Below) where
  -- a delivery
  delivery_stands : (m : Machine) (phone : ℕ) (tag : Tag) (d : Delivery) (o : Origin) → AllByRecursion HasCut m.senders.texts → Stand m
      → DeliveryOf m.phones m.senders.texts m.centre.accepted phone d o → may_deliver m phone d (units_in_delivery d) o ≡ true
      → ReceiverSound m.limits.remembered m.phones m.senders.texts m.centre.accepted phone
      (offers_units (receiver_limits m.limits) (m.receiver phone) m.clock tag d (Some o) (units_in_delivery d)).after
  unfolding may_deliver
  delivery_stands m phone tag d o c h x may =
      each_offer (λ (r : Does ReceiverState). ReceiverSound m.limits.remembered m.phones m.senders.texts m.centre.accepted phone r.after)
      (receiver_limits m.limits) (m.receiver phone) m.clock tag d (Some o) (units_in_delivery d) (λ cause failure e. h phone) (λ us e f. h phone) (λ us e f. offered us e)
    where
      offered : (us : Units) → units_in_delivery d ≡ Some us → ReceiverSound m.limits.remembered m.phones m.senders.texts m.centre.accepted phone
          (offers (receiver_limits m.limits) (m.receiver phone) tag d.origin (piece_in m.clock d us) (Some o) (answer m.limits.open_max (m.receiver phone).joiner (piece_in m.clock d us))).after
      offered us e = unfold offers in
          cond_both (is_taken (answer m.limits.open_max (m.receiver phone).joiner (piece_in m.clock d us))) _ _
          (λ (r : Does ReceiverState). ReceiverSound m.limits.remembered m.phones m.senders.texts m.centre.accepted phone r.after)
          (λ t. takes_sound law (receiver_limits m.limits) m.phones m.senders.texts m.centre.accepted phone (m.receiver phone) m.clock d o us c (h phone) x e
          (subst (λ v. may_deliver m phone d v o ≡ true) e may) t)
          (λ _. h phone)

  relay_stands : (m : Machine) (phone : ℕ) (tag : Tag) (v : Relay) (o : Option Origin) → AllByRecursion HasCut m.senders.texts → Stand m
      → HasItsPiece m.phones m.senders.texts m.centre.accepted (Data false tag v) (Phone phone) o → relay_may_come true m v (Phone phone) o ≡ true
      → ReceiverSound m.limits.remembered m.phones m.senders.texts m.centre.accepted phone
      (receiver_opened (receiver_limits m.limits) (m.receiver phone) m.clock tag v o).after
  unfolding receiver_opened receiver_takes units_in_delivery
  relay_stands m phone tag (Transfer ToPhone (Deliver d)) (Some o) c h x may = delivery_stands m phone tag d o c h x may
  relay_stands m phone tag (Transfer ToPhone (Deliver d)) None c h x may = absurd x
  relay_stands m phone tag (Transfer ToPhone (Submit s)) o c h x may = h phone
  relay_stands m phone tag (Transfer ToPhone OtherUnit) o c h x may = h phone
  relay_stands m phone tag (Transfer ToPhone BadUnit) o c h x may = h phone
  relay_stands m phone tag (Transfer FromPhone unit) o c h x may = h phone
  relay_stands m phone tag UnknownType o c h x may = h phone
  relay_stands m phone tag Unreadable o c h x may = h phone
  relay_stands m phone tag (Answer side cause report) o c h x may = h phone

  stays_stands : (m : Machine) (o : Told) → Stand m → Stand (stays m o).after
  unfolding stays
  stays_stands m o h = h

  to_phone_stands : (m : Machine) (phone : ℕ) (v : Message) (o : Option Origin) → EachHasItsPiece m → Stand m
      → HasItsPiece m.phones m.senders.texts m.centre.accepted v (Phone phone) o → message_may_come true m v (Phone phone) o ≡ true
      → Stand (comes_to_phone m phone v o).after
  unfolding comes_to_phone
  to_phone_stands m phone NotCp o s h x may = stays_stands m _ h
  to_phone_stands m phone (Tiny flag value) o s h x may = stays_stands m _ h
  to_phone_stands m phone (Note flag value) o s h x may = stays_stands m _ h
  to_phone_stands m phone (Data true tag relay) o s h x may =
      by_sender_stands m (sender_receives m.senders phone tag relay) h (sender_receives_good m.phones m.centre.accepted m.senders phone tag relay s.senders)
  to_phone_stands m phone (Data false tag relay) o s h x may =
      by_receiver_stands m phone (receiver_opened (receiver_limits m.limits) (m.receiver phone) m.clock tag relay o) h (relay_stands m phone tag relay o s.texts h x may)

  comes_stands : (m : Machine) (to : Place) (v : Message) (o : Option Origin) (putting : Option ℕ) → EachHasItsPiece m → Stand m
      → HasItsPiece m.phones m.senders.texts m.centre.accepted v to o → message_may_come true m v to o ≡ true
      → Stand (comes m to v o putting).after
  unfolding comes
  comes_stands m (Centre phone) v o putting s h x may =
      by_centre_stands m phone None putting (centre_receives m.limits.held m.phones m.centre m.clock phone v o) h
      (centre_receives_good true m m.limits.held m.phones m.senders.texts phone putting v o s.centre x may)
  comes_stands m (Phone phone) v o putting s h x may = to_phone_stands m phone v o s h x may

  carries_stands : (m : Machine) (x : Option Sent) → EachHasItsPiece m → Stand m
      → ((y : Sent) → x ≡ Some y → IsSentOf m.phones m.senders.texts m.centre.accepted y) → sent_may_come true m x ≡ true
      → Stand (carries m x).after
  unfolding carries
  carries_stands m None s h f may = stays_stands m _ h
  carries_stands m (Some x) s h f may = comes_stands m x.to x.message x.origin x.putting s h (f x refl) may

  pushes_stands : (m : Machine) (phone : ℕ) (d : Does CentreState) → Stand m → GoodCall m.phones m.senders.texts m.centre phone (origin_of (d.after.line phone).latest) None d
      → Stand (by_centre m (pushed phone d)).after
  unfolding pushed
  pushes_stands m phone d h g = by_centre_stands m phone (origin_of (d.after.line phone).latest) None d h g

  next_stands : (m : Machine) (e : Event) (act : Act) → IsMetAs (width_of m.senders.wide) e act → may_happen true m e ≡ true → EachHasItsPiece m → Stand m → Stand (next m act).after
  unfolding next may_happen ticked
  next_stands m (Compose phone target characters) act is may s h =
      subst (λ (v : Act). Stand (next m v).after) (sym is.3)
      (cond_both (ltb phone (length m.phones)) _ _ (λ (r : Next). Stand r.after)
      (λ _. by_sender_stands m (composes m.senders phone target characters is.0) h
      (composes_good m.phones m.centre.accepted m.senders phone target characters is.0 is.1 is.2 s.senders))
      (λ _. stays_stands m _ h))
  next_stands m (Carry k) act is may s h =
      subst (λ (v : Act). Stand (next m v).after) (sym is)
      (carries_stands m (packet m k) s h (packet_sent m (IsSentOf m.phones m.senders.texts m.centre.accepted) k s.sent) may)
  next_stands m (Timeout phone) act is may s h =
      subst (λ (v : Act). Stand (next m v).after) (sym is)
      (cond_both (ltb phone (length m.phones)) _ _ (λ (r : Next). Stand r.after)
      (λ _. by_sender_stands m (times_out m.senders phone) h (times_out_good m.phones m.centre.accepted m.senders phone s.senders))
      (λ _. stays_stands m _ h))
  next_stands m (Push phone) act is may s h =
      subst (λ (v : Act). Stand (next m v).after) (sym is)
      (cond_both (ltb phone (length m.phones)) _ _ (λ (r : Next). Stand r.after)
      (λ _. pushes_stands m phone (centre_pushes m.phones m.centre m.clock phone) h (centre_pushes_good m.phones m.senders.texts m.centre m.clock phone s.centre))
      (λ _. stays_stands m _ h))
  next_stands m (Tick seconds) act is may s h =
      subst (λ (v : Act). Stand (next m v).after) (sym is)
      (cond_both (ltb (m.clock + seconds) end_of_2099) _ _ (λ (r : Next). Stand r.after)
      (λ _ p. receiver_ages law m.limits.remembered m.phones m.senders.texts m.centre.accepted p (m.clock + seconds) (m.receiver p) (h p))
      (λ _. stays_stands m _ h))
  next_stands m (Inject place octets) act is may s h = cc

  -- one step, with or without memory
  pub step_sound : (m : Machine) (e : Event) (act : Act) (told : Told) (put : List Sent) (n : Machine)
      → IsMetAs (width_of m.senders.wide) e act → may_happen true m e ≡ true → Sound m → Acts m act told put n → Sound n
  step_sound m e act told put n is may h (inl s) =
      subst Sound s.2 (record { once = next_once true m e act is may h.once; receivers = next_stands m e act is may h.once h.receivers })
  step_sound m e act told put n is may h (inr s) = subst Sound s.3 h

  start_sound : (limits : Limits) (phones : List AddressValue) → Sound (start limits phones)
  unfolding start new_receiver new_joiner new_centre
  start_sound limits phones =
      record {
        once = start_once limits phones;
        receivers = λ p. record { taken = tt; open_sets = refl; apart = λ t u a b. cc; remembers = sym (ap (map (texts_of phones [] []).key) (none limits.remembered)); store = refl };
      }
    where
      none : (n : ℕ) → take n (let l : List ℕ = [] in l) ≡ []
      none zero = refl
      none (suc n) = refl

  -- ---- orderly runs

  -- an event that comes in order keeps the conditions of the induction
  pub orderly_happens : (m : Machine) (e : Event) → Orderly m → IsOrderly m e → may_happen true m e ≡ true
  orderly_happens m e h may = happens true m e may.plain may.repeats go
    where
      go : (phone : ℕ) (d : Delivery) (o : Origin) → BringsDelivery m e phone d (Some o) → (false || may_deliver m phone d (units_in_delivery d) o) ≡ true
      go phone d o b =
          let x : DeliveryOf m.phones m.senders.texts m.centre.accepted phone d o =
          packet_sent m (IsSentOf m.phones m.senders.texts m.centre.accepted) b.number h.sound.once.sent _ b.is in
          let p = told_units m.phones m.senders.texts m.centre.accepted phone d o x in
          may_deliver_there m phone d o (piece_of x.text o.segment) p
          (may_arrive_there m phone d o (piece_of x.text o.segment) (rises law.stamps m h.stamped) h.stamped.fit law.back h.sound.once.centre.accepted
          (h.sound.receivers phone).taken x p (λ c e other u ne f k. may.keys phone d o c b e other u ne f k) (may.late phone d o b))

  pub run_orderly : (limits : Limits) (phones : List AddressValue) (past : List (Event × Told)) (m : Machine)
      → OrderlyRun (start limits phones) past m → Orderly m
  run_orderly limits phones [] m h =
      subst Orderly h (record { sound = start_sound limits phones; stamped = start_stamped limits phones })
  run_orderly limits phones (e ∷ past) m h =
      let ih : Orderly h.0 = run_orderly limits phones past h.0 h.1 in
      record {
        sound = step_sound h.0 e.0 h.3.1.0 e.1 h.3.0 m h.3.1.1 (orderly_happens h.0 e.0 ih h.2) ih.sound h.3.1.2;
        stamped = acts_stamped h.0 h.3.1.0 e.1 h.3.0 m ih.stamped h.3.1.2;
      }

  pub open_sets_are_open_texts : OpenSetsAreOpenTexts
  open_sets_are_open_texts limits phones past m h phone =
      let s = (run_orderly limits phones past m h).sound.receivers phone in
      record { kept = s.open_sets; apart = s.apart }

  pub keys_are_of_finished : KeysAreOfFinished
  unfolding finished
  keys_are_of_finished limits phones past m h phone = ((run_orderly limits phones past m h).sound.receivers phone).remembers

  pub stores_stand : StoresStand
  unfolding stands finished
  stores_stand limits phones past m h phone = ((run_orderly limits phones past m h).sound.receivers phone).store
