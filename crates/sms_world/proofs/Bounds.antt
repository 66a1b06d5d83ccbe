-- No table holds more than it may.
use Rattle.std.proofs.Common.{◌≡◌, ℕ, ◌+◌, ◌≤◌, ◌<◌, Bool, true, false, not, ◌&&◌, leb, ltb, List, [], ◌∷◌, length, refl, subst, arith, Some, None, Option, inl, inr}
use Rattle.sms_message.specs.Does.{Does}
use Rattle.std.proofs.lemmas.Bool.{cond_both, leb-false}
use Rattle.sms_field.specs.Address.Value.{AddressValue}
use Rattle.sms_tpdu.specs.Deliver.{Delivery}
use Rattle.sms_join.specs.declared.units.Units.{Units}
use Rattle.sms_join.specs.Piece.{Piece}
use Rattle.sms_join.specs.Joiner.Sets.{open_sets, units_upto}
use Rattle.sms_join.specs.Joiner.{new_joiner, answer, answered, decided, is_repeat, is_whole, has_room, offered}
use Rattle.sms_message.specs.declared.message.Relay.{Relay}
use Rattle.sms_message.specs.declared.message.Message.{Message}
use Rattle.sms_message.specs.declared.message.Message.TheVariants.{NotCp, Note, Tiny, Data}
use Rattle.sms_message.specs.declared.message.Tag.{Tag}
use Rattle.sms_field.specs.Time.Computed.{end_of_2099}
use Rattle.sms_message.specs.Message.{Origin}
use Rattle.sms_party.specs.Sent.{nth, Place, Centre, Phone, Sent}
use Rattle.sms_world.specs.Told.{Told}
use Rattle.sms_party.specs.Receiver.State.{ReceiverState, new_receiver, ReceiverLimits}
use Rattle.sms_script.specs.declared.script.limits.Limits.{Limits}
use Rattle.sms_world.proofs.Offered.{stored, is_taken, offers, units_in_delivery, each_offer, each_opened}
use Rattle.sms_party.specs.Receiver.Offers.{is_full_for, takes}
use Rattle.sms_party.specs.Receiver.Pieces.{piece_in}
use Rattle.sms_party.specs.Receiver.{receiver_opened}
use Rattle.sms_party.specs.Receiver.Aging.{ages}
use Rattle.sms_party.specs.Sender.Texts.{size_of}
use Rattle.sms_join.specs.Joiner.Aging.{SetsStayFew}
use Rattle.sms_world.specs.Machine.Next.{of_centre, Next, next, stays, by_sender, by_centre, by_receiver, comes, comes_to_phone, carries, packet, ticked, pushed, phone_of, receiver_limits}
use Rattle.sms_world.specs.Machine.{Machine, start}
use Rattle.sms_world.specs.Machine.Event.{Event, Act, TypesText, MovesPacket, EndsWait, HandsOver, MovesClock, SlipsIn}
use Rattle.sms_world.specs.Machine.Step.{Acts, RunWith}
use Rattle.sms_world.proofs.Growing.{changed_each}

pub record IsBounded (limits : ReceiverLimits) (r : ReceiverState) : Type 0 where
  pub store : length r.store ≤ limits.store
  pub sets : open_sets r.joiner.kept ≤ limits.open_max

few_stored : (limits : ReceiverLimits) (r : ReceiverState) (origin : AddressValue) (p : Piece) → length r.store ≤ limits.store → is_full_for limits r p ≡ false
    → length (stored r.store origin (answer limits.open_max r.joiner p)) ≤ limits.store
unfolding answer decided stored
few_stored limits r origin p h n = go (is_repeat r.joiner p) (is_whole r.joiner p) (has_room limits.open_max r.joiner p) n
  where
    us : List Units
    us = units_upto (p ∷ r.joiner.kept) p.key p.maximum

    less : leb limits.store (length r.store) ≡ false → length r.store < limits.store
    less f = let z = leb-false limits.store (length r.store) f in omega arith

    and_true : (b : Bool) → (b && true) ≡ false → b ≡ false
    and_true true f = f
    and_true false f = refl

    go : (a b c : Bool) → (leb limits.store (length r.store) && (not a && b)) ≡ false
        → length (stored r.store origin (decided a b c us)) ≤ limits.store
    go true b c f = h
    go false true c f = let l = less (and_true (leb limits.store (length r.store)) f) in omega arith
    go false false true f = h
    go false false false f = h

module _ (law : SetsStayFew) where
  offer_bounded : (limits : ReceiverLimits) (r : ReceiverState) (origin : AddressValue) (p : Piece) (of : Option Origin)
      → IsBounded limits r → is_full_for limits r p ≡ false
      → IsBounded limits (record {
        joiner = answered limits.remembered r.joiner p (answer limits.open_max r.joiner p);
        store = stored r.store origin (answer limits.open_max r.joiner p);
        taken = takes r.taken of p;
      })
  unfolding offered
  offer_bounded limits r origin p of h n =
      record { store = few_stored limits r origin p h.store n; sets = law.0 limits.open_max limits.remembered r.joiner p h.sets }

  receives_bounded : (now : ℕ) (limits : ReceiverLimits) (r : ReceiverState) (tag : Tag) (v : Relay) (of : Option Origin)
      → IsBounded limits r → IsBounded limits (receiver_opened limits r now tag v of).after
  receives_bounded now limits r tag v of h =
      each_opened (λ (d : Does ReceiverState). IsBounded limits d.after) limits r now tag v of (λ cause failure report. h)
      (λ d e. each_offer (λ (d : Does ReceiverState). IsBounded limits d.after) limits r now tag d of (units_in_delivery d) (λ cause failure e. h) (λ us e f. h)
      (λ us e n. offered_bounded d us n)) h
    where
      offered_bounded : (d : Delivery) (us : Units) → is_full_for limits r (piece_in now d us) ≡ false
          → IsBounded limits (offers limits r tag d.origin (piece_in now d us) of (answer limits.open_max r.joiner (piece_in now d us))).after
      offered_bounded d us n = unfold offers in
          cond_both (is_taken (answer limits.open_max r.joiner (piece_in now d us))) _ _ (λ (x : Does ReceiverState). IsBounded limits x.after)
          (λ _. offer_bounded limits r d.origin (piece_in now d us) of h n) (λ _. h)

  abbrev Bounded : Machine → Type 0
  Bounded m = (phone : ℕ) → IsBounded (receiver_limits m.limits) (m.receiver phone)

  stays_bounded : (m : Machine) (told : Told) → Bounded m → Bounded (stays m told).after
  unfolding stays
  stays_bounded m told h = h

  comes_bounded : (m : Machine) (to : Place) (v : Message) (origin : Option Origin) (putting : Option ℕ) → Bounded m → Bounded (comes m to v origin putting).after
  unfolding comes comes_to_phone by_sender by_centre by_receiver of_centre
  comes_bounded m (Centre phone) v origin putting h = h
  comes_bounded m (Phone phone) NotCp origin putting h = stays_bounded m _ h
  comes_bounded m (Phone phone) (Note flag value) origin putting h = stays_bounded m _ h
  comes_bounded m (Phone phone) (Tiny flag value) origin putting h = stays_bounded m _ h
  comes_bounded m (Phone phone) (Data true tag relay) origin putting h = h
  comes_bounded m (Phone phone) (Data false tag relay) origin putting h =
      changed_each (λ i (r : ReceiverState). IsBounded (receiver_limits m.limits) r) m.receiver phone _
      (receives_bounded m.clock (receiver_limits m.limits) (m.receiver phone) tag relay origin (h phone)) h

  carries_bounded : (m : Machine) (x : Option Sent) → Bounded m → Bounded (carries m x).after
  unfolding carries
  carries_bounded m None h = stays_bounded m _ h
  carries_bounded m (Some x) h = comes_bounded m x.to x.message x.origin x.putting h

  next_bounded : (m : Machine) (act : Act) → Bounded m → Bounded (next m act).after
  unfolding next by_sender by_centre pushed of_centre ticked ages
  next_bounded m (TypesText phone target characters pieces) h =
      cond_both (ltb phone (length m.phones)) _ _ (λ (r : Next). Bounded r.after) (λ _. h) (λ _. stays_bounded m _ h)
  next_bounded m (MovesPacket k) h = carries_bounded m (packet m k) h
  next_bounded m (EndsWait phone) h =
      cond_both (ltb phone (length m.phones)) _ _ (λ (r : Next). Bounded r.after) (λ _. h) (λ _. stays_bounded m _ h)
  next_bounded m (HandsOver phone) h =
      cond_both (ltb phone (length m.phones)) _ _ (λ (r : Next). Bounded r.after) (λ _. h) (λ _. stays_bounded m _ h)
  next_bounded m (MovesClock seconds) h =
      cond_both (ltb (m.clock + seconds) end_of_2099) _ _ (λ (r : Next). Bounded r.after) (λ _ p. older p) (λ _. stays_bounded m _ h)
    where
      older : (p : ℕ) → IsBounded (receiver_limits m.limits) (ages (λ n. size_of (nth m.senders.texts n)) (m.clock + seconds) (m.receiver p))
      older p =
          let f = law.1 (m.clock + seconds) (m.receiver p).joiner in
          let k' = (h p).sets in
          record { store = (h p).store; sets = omega arith }
  next_bounded m (SlipsIn place message) h =
      cond_both (ltb (phone_of place) (length m.phones)) _ _ (λ (r : Next). Bounded r.after) (λ _. comes_bounded m place message None None h) (λ _. stays_bounded m _ h)

  acts_bounded : (m : Machine) (act : Act) (told : Told) (put : List Sent) (n : Machine) → Bounded m → Acts m act told put n → Bounded n
  acts_bounded m act told put n h (inl s) = subst Bounded s.2 (next_bounded m act h)
  acts_bounded m act told put n h (inr s) = subst Bounded s.3 h

  start_bounded : (limits : Limits) (phones : List AddressValue) → Bounded (start limits phones)
  unfolding start new_receiver new_joiner
  start_bounded limits phones p = record { store = omega arith; sets = omega arith }

  pub run_bounded : (Keeps : Machine → Event → Type 0) (limits : Limits) (phones : List AddressValue) (past : List (Event × Told)) (m : Machine)
      → RunWith Keeps (start limits phones) past m → (phone : ℕ) → IsBounded (receiver_limits m.limits) (m.receiver phone)
  run_bounded Keeps limits phones [] m h = subst Bounded h (start_bounded limits phones)
  run_bounded Keeps limits phones (e ∷ past) m h = acts_bounded h.0 h.3.1.0 e.1 h.3.0 m (run_bounded Keeps limits phones past h.0 h.1) h.3.1.2
