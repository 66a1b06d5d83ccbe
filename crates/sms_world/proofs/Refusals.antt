-- A delivery is refused only where a table is full or a growth is refused.
use Rattle.std.proofs.Common.{◌≡◌, ◌≢◌, ℕ, ◌<◌, ◌≤◌, Bool, true, false, not, ◌&&◌, ◌||◌, leb, ltb, eqb, List, [], ◌∷◌, length, refl, sym, ap, ◌∙◌, subst, arith, Some, None, Option, Ok, ◌⊎◌, inl, inr}
use Rattle.sms_world.specs.Inside.Below.{Below}
use Rattle.sms_world.proofs.Arrived.{each_piece}
use Rattle.sms_message.specs.Does.{Does}
use Rattle.std.proofs.lemmas.Bool.{cond_both, and_parts, and_from, leb-true, eq-eqb, ne_eqb, ltb-true, ltb-false}
use Rattle.std.proofs.lemmas.List.{length-map}
use Rattle.sms_tpdu.specs.Deliver.{Delivery}
use Rattle.sms_join.specs.declared.units.Units.{Units}
use Rattle.sms_join.specs.Joiner.Sets.{open_sets}
use Rattle.sms_join.specs.Joiner as join
use Rattle.sms_join.specs.Joiner.{answer, is_repeat, is_whole}
use Rattle.sms_join.specs.Arrivals.{Arrival, Texts, has_piece, has_pieces, is_done, completed, is_listed, has_text, open_texts}
use Rattle.sms_join.specs.Arrivals.Joining.{is_clear, is_recent}
use Rattle.sms_relay.specs.declared.side.Side.TheVariants.{ToPhone}
use Rattle.sms_message.specs.declared.message.TransferUnit.TheVariants.{Deliver}
use Rattle.sms_message.specs.declared.message.Relay.TheVariants.{Transfer}
use Rattle.sms_message.specs.declared.message.Message.TheVariants.{Data}
use Rattle.sms_message.specs.declared.message.Tag.{Tag}
use Rattle.sms_message.specs.Message.{Origin}
use Rattle.sms_party.specs.Sent.{nth, Sent, Phone}
use Rattle.sms_world.specs.Told.{Told, of_party}
use Rattle.sms_party.specs.Sender.Segments.{piece_of}
use Rattle.sms_party.specs.Sender.Texts.{size_of}
use Rattle.sms_party.specs.Receiver.State.{ReceiverState}
use Rattle.sms_world.proofs.Offered.{units_in_delivery, offers, is_taken, word_of, each_offer}
use Rattle.sms_party.specs.Receiver.Pieces.{piece_in}
use Rattle.sms_party.specs.Receiver.{receiver_takes, receiver_opened}
use Rattle.sms_party.specs.Receiver.Offers.{is_full_for, offers_units}
use Rattle.sms_world.specs.Machine.{Machine}
use Rattle.sms_world.specs.Machine.Event.{Carry, Act, MovesPacket}
use Rattle.sms_world.specs.Machine.Next.{Next, next, packet, carries, comes, comes_to_phone, by_receiver, to_centre, receiver_limits}
use Rattle.sms_world.specs.Machine.Step.{no_memory, Acts, Step}
use Rattle.sms_world.specs.Texts.{size_in}
use Rattle.sms_world.specs.Texts.TypedTo.{IsTypedTo}
use Rattle.sms_world.specs.Texts.Stands.{entry_in}
use Rattle.sms_world.specs.Texts.Keys.{texts_of}
use Rattle.sms_world.specs.Texts.Finished.{finished}
use Rattle.sms_world.specs.Orderly.{IsOrderly}
use Rattle.sms_world.specs.Orderly.Brought.{BringsDelivery}
use Rattle.sms_world.specs.Claims.Pieces.{IsSentOf, HasItsPiece, DeliveryOf}
use Rattle.sms_world.specs.Headline.Refused.{is_taking, no_room, no_room_put, StoreIsFull, SetsAreFull, WasRefused, Received, RefusedOnlyWhereFull}
use Rattle.sms_world.proofs.Walk.{may_happen, may_deliver, may_arrive}
use Rattle.sms_world.proofs.Standing.{ReceiverSound, Sound}
use Rattle.sms_world.proofs.Receivers.{arrival_of, all_of, told_units, told_sequence}
use Rattle.sms_world.proofs.Bounds.{IsBounded, run_bounded}
use Rattle.sms_world.proofs.Once.{packet_sent}
use Rattle.sms_world.proofs.Headline.{Orderly, orderly_happens, run_orderly}

-- the store is full, and the piece would complete a text that is not in it
record StoreFull (m : Machine) (phone : ℕ) (a : Arrival) : Type 0 where
  full : length (finished m phone) ≡ m.limits.store
  absent : is_listed (finished m phone) a.text ≡ false
  completes : is_done (size_in m.senders.texts) (a ∷ (m.receiver phone).taken) a.text ≡ true

-- as many texts are open as may be, none of the text's segments was taken, and the piece does not complete it
record SetsFull (m : Machine) (phone : ℕ) (a : Arrival) : Type 0 where
  full : length (open_texts (size_in m.senders.texts) (m.receiver phone).taken (m.receiver phone).taken) ≡ m.limits.open_max
  none_taken : has_text (m.receiver phone).taken a.text ≡ false
  incomplete : is_done (size_in m.senders.texts) (a ∷ (m.receiver phone).taken) a.text ≡ false

-- what becomes of an arrival
abbrev Became : Machine → ℕ → Arrival → Tag → Told → List Sent → Machine → Type 0
Became old phone a tag told put new =
    (is_taking told ≡ true)
    ⊎ ((told ≡ no_room) × (put ≡ no_room_put phone tag) × (new.receiver phone ≡ old.receiver phone) × (new.senders ≡ old.senders) × (StoreFull old phone a ⊎ SetsFull old phone a))
    ⊎ ((told ≡ no_memory) × (put ≡ []) × (new ≡ old))

abbrev Left : Machine → ℕ → Arrival → Tag → Does ReceiverState → Type 0
Left m phone a tag d =
    (is_taking (of_party d.answer) ≡ true)
    ⊎ ((of_party d.answer ≡ no_room) × (to_centre phone d.put ≡ no_room_put phone tag) × (d.after ≡ m.receiver phone) × (StoreFull m phone a ⊎ SetsFull m phone a))

taking : (given : join.Answer) → is_taken given ≡ true → is_taking (Ok (word_of given)) ≡ true
unfolding is_taken word_of
taking join.Repeat h = refl
taking join.Kept h = refl
taking (join.Finished us) h = refl
taking join.TooManyOpen h = h

not_taken : (given : join.Answer) → is_taken given ≡ false → given ≡ join.TooManyOpen
unfolding is_taken
not_taken join.Repeat h = cc
not_taken join.Kept h = cc
not_taken (join.Finished us) h = cc
not_taken join.TooManyOpen h = refl

antisym : (m n : ℕ) → m ≤ n → n ≤ m → m ≡ n
antisym m n a b = omega arith

module _ (law : Below) (m : Machine) (phone : ℕ) (tag : Tag) (d : Delivery) (o : Origin) (units : Units)
    (h : ReceiverSound m.limits.remembered m.phones m.senders.texts m.centre.accepted phone (m.receiver phone))
    (x : DeliveryOf m.phones m.senders.texts m.centre.accepted phone d o)
    (bound : IsBounded (receiver_limits m.limits) (m.receiver phone))
    (p : units_in_delivery d ≡ Some units)
    (may : may_arrive m.limits.remembered m.senders.texts (m.receiver phone).taken (record { text = o.text; piece = piece_in m.clock d units }) ≡ true) where
  a : Arrival
  a = record { text = o.text; piece = piece_in m.clock d units }

  r : ReceiverState
  r = m.receiver phone

  y : Texts
  y = texts_of m.phones m.senders.texts m.centre.accepted

  rules : (is_clear m.limits.remembered (size_in m.senders.texts) (m.receiver phone).taken (m.receiver phone).taken (record { text = o.text; piece = piece_in m.clock d units }) ≡ true)
      × (is_recent m.limits.remembered (size_in m.senders.texts) (m.receiver phone).taken (record { text = o.text; piece = piece_in m.clock d units }) ≡ true)
  rules = and_parts (is_clear m.limits.remembered (size_in m.senders.texts) (m.receiver phone).taken (m.receiver phone).taken (record { text = o.text; piece = piece_in m.clock d units }))
      (is_recent m.limits.remembered (size_in m.senders.texts) (m.receiver phone).taken (record { text = o.text; piece = piece_in m.clock d units })) may

  store_full : is_full_for (receiver_limits m.limits) (m.receiver phone) (piece_in m.clock d units) ≡ true → StoreFull m phone (record { text = o.text; piece = piece_in m.clock d units })
  unfolding texts_of finished
  store_full f =
      let q = and_parts (leb m.limits.store (length (m.receiver phone).store))
      (not (is_repeat (m.receiver phone).joiner (piece_in m.clock d units)) && is_whole (m.receiver phone).joiner (piece_in m.clock d units)) f in
      let q' = and_parts (not (is_repeat (m.receiver phone).joiner (piece_in m.clock d units))) (is_whole (m.receiver phone).joiner (piece_in m.clock d units)) q.1 in
      let long : m.limits.store ≤ length (m.receiver phone).store = leb-true _ _ q.0 in
      let same : length (m.receiver phone).store ≡ length (completed (size_in m.senders.texts) (m.receiver phone).taken) =
      ap length h.store ∙ length-map (completed (size_in m.senders.texts) (m.receiver phone).taken) (λ n. entry_in m.phones (nth m.senders.texts n)) in
      let fresh = law.fresh m.limits.open_max m.limits.remembered (texts_of m.phones m.senders.texts m.centre.accepted) (m.receiver phone).taken
      (record { text = o.text; piece = piece_in m.clock d units }) (m.receiver phone).joiner
      (all_of m.phones m.senders.texts m.centre.accepted phone (m.receiver phone).taken h.taken) (record { kept = h.open_sets; finished = h.remembers })
      (arrival_of m.phones m.senders.texts m.centre.accepted phone m.clock d o units x p).is_of rules.0 rules.1
      (from_not (is_repeat (m.receiver phone).joiner (piece_in m.clock d units)) q'.0) in
      let long' : length (m.receiver phone).store ≤ m.limits.store = bound.store in
      let full : length (completed (size_in m.senders.texts) (m.receiver phone).taken) ≡ m.limits.store = sym same ∙ antisym _ _ long' long in
      record { full = full; absent = fresh.unlisted; completes = sym fresh.whole ∙ q'.1 }
    where
      from_not : (b : Bool) → not b ≡ true → b ≡ false
      from_not true e = sym e
      from_not false e = refl

  sets_full : answer m.limits.open_max (m.receiver phone).joiner (piece_in m.clock d units) ≡ join.TooManyOpen → SetsFull m phone (record { text = o.text; piece = piece_in m.clock d units })
  unfolding texts_of
  sets_full e =
      let t = law.turned m.limits.open_max m.limits.remembered (texts_of m.phones m.senders.texts m.centre.accepted) (m.receiver phone).taken
      (record { text = o.text; piece = piece_in m.clock d units }) (m.receiver phone).joiner
      (all_of m.phones m.senders.texts m.centre.accepted phone (m.receiver phone).taken h.taken) (record { kept = h.open_sets; finished = h.remembers }) h.apart
      (arrival_of m.phones m.senders.texts m.centre.accepted phone m.clock d o units x p).is_of rules.0 rules.1 e in
      let most : open_sets (m.receiver phone).joiner.kept ≤ m.limits.open_max = bound.sets in
      let count : open_sets (m.receiver phone).joiner.kept ≡ length (open_texts (size_in m.senders.texts) (m.receiver phone).taken (m.receiver phone).taken) =
      ap open_sets h.open_sets ∙ law.rooms (texts_of m.phones m.senders.texts m.centre.accepted) (m.receiver phone).taken
      (all_of m.phones m.senders.texts m.centre.accepted phone (m.receiver phone).taken h.taken) h.apart in
      let most' = subst (λ n. n ≤ m.limits.open_max) count most in
      record { full = antisym _ _ most' t.full; none_taken = t.none_taken; incomplete = t.incomplete }

  left : Left m phone (record { text = o.text; piece = piece_in m.clock d units }) tag (offers_units (receiver_limits m.limits) (m.receiver phone) m.clock tag d (Some o) (Some units))
  left =
      each_offer (Left m phone (record { text = o.text; piece = piece_in m.clock d units }) tag) (receiver_limits m.limits) (m.receiver phone) m.clock tag d (Some o) (Some units)
      (λ cause failure e. cc)
      (λ us e f. let same : us ≡ units = cc in
      inr (refl, refl, refl, inl (store_full (subst (λ u. is_full_for (receiver_limits m.limits) (m.receiver phone) (piece_in m.clock d u) ≡ true) same f))))
      (λ us e n. let same : units ≡ us = cc in
      subst (λ u. Left m phone (record { text = o.text; piece = piece_in m.clock d units }) tag (offers (receiver_limits m.limits) (m.receiver phone) tag d.origin (piece_in m.clock d u) (Some o) (answer m.limits.open_max (m.receiver phone).joiner (piece_in m.clock d u)))) same offered)
    where
      offered : Left m phone (record { text = o.text; piece = piece_in m.clock d units }) tag
          (offers (receiver_limits m.limits) (m.receiver phone) tag d.origin (piece_in m.clock d units) (Some o) (answer m.limits.open_max (m.receiver phone).joiner (piece_in m.clock d units)))
      offered = unfold offers in
          cond_both (is_taken (answer m.limits.open_max (m.receiver phone).joiner (piece_in m.clock d units))) _ _ (Left m phone (record { text = o.text; piece = piece_in m.clock d units }) tag)
          (λ t. inl (taking _ t))
          (λ t. inr (refl, refl, refl, inr (sets_full (not_taken _ t))))

-- one step that brings a delivery
delivered : Below → (old : Machine) (k phone : ℕ) (tag : Tag) (putting : Option ℕ) (d : Delivery) (o : Origin) (told : Told) (put : List Sent) (new : Machine) (units : Units)
    → Sound old → IsBounded (receiver_limits old.limits) (old.receiver phone) → packet old k ≡ Some (record { message = Data false tag (Transfer ToPhone (Deliver d)); to = Phone phone; origin = Some o; putting = putting }) → may_happen true old (Carry k) ≡ true
    → DeliveryOf old.phones old.senders.texts old.centre.accepted phone d o → units_in_delivery d ≡ Some units
    → Acts old (MovesPacket k) told put new
    → Became old phone (record { text = o.text; piece = piece_in old.clock d units }) tag told put new
unfolding next carries comes comes_to_phone receiver_opened receiver_takes units_in_delivery by_receiver may_happen may_deliver
delivered law old k phone tag putting d o told put new units s bound brings may x p step = go step
  where
    rule : may_arrive old.limits.remembered old.senders.texts (old.receiver phone).taken (record { text = o.text; piece = piece_in old.clock d units }) ≡ true
    rule = let e = brings in let f : may_deliver old phone d (units_in_delivery d) o ≡ true = rw e at may in subst (λ v. may_deliver old phone d v o ≡ true) p f

    did : Does ReceiverState
    did = offers_units (receiver_limits old.limits) (old.receiver phone) old.clock tag d (Some o) (units_in_delivery d)

    is_next : next old (MovesPacket k) ≡ by_receiver old phone did
    is_next = ap (carries old) brings

    l : Left old phone (record { text = o.text; piece = piece_in old.clock d units }) tag did
    l = subst (λ v. Left old phone (record { text = o.text; piece = piece_in old.clock d units }) tag (offers_units (receiver_limits old.limits) (old.receiver phone) old.clock tag d (Some o) v)) (sym p)
        (left law old phone tag d o units (s.receivers phone) x bound p rule)

    at_phone : (by_receiver old phone did).after.receiver phone ≡ did.after
    at_phone = rw (eq-eqb phone phone refl) refl

    go : Acts old (MovesPacket k) told put new → Became old phone (record { text = o.text; piece = piece_in old.clock d units }) tag told put new
    go (inr z) = inr (inr (sym z.1, sym z.2, sym z.3))
    go (inl z) = which l
      where
        word : of_party did.answer ≡ told
        word = sym (ap (λ (v : Next). v.answer) is_next) ∙ z.0

        after : (by_receiver old phone did).after ≡ new
        after = sym (ap (λ (v : Next). v.after) is_next) ∙ z.2

        put_is : to_centre phone did.put ≡ put
        put_is = sym (ap (λ (v : Next). v.put) is_next) ∙ z.1

        which : Left old phone (record { text = o.text; piece = piece_in old.clock d units }) tag did
            → Became old phone (record { text = o.text; piece = piece_in old.clock d units }) tag told put new
        which (inl t) = inl (ap is_taking (sym word) ∙ t)
        which (inr t) =
            inr (inl (sym word ∙ t.0, sym put_is ∙ t.1, ap (λ (v : Machine). v.receiver phone) (sym after) ∙ (at_phone ∙ t.2), ap (λ (v : Machine). v.senders) (sym after), t.3))

-- ---- in terms of segments

-- of the pieces of a text that has arrived whole with this one, the others were there before
others_taken : (size : ℕ → ℕ) (past : List Arrival) (a : Arrival) (n : ℕ) → a.piece.sequence ≡ n → is_done size (a ∷ past) a.text ≡ true
    → (s : ℕ) → 0 < s → s ≤ size a.text → s ≢ n → has_piece past a.text s ≡ true
others_taken size past a n e h s f l ne =
    and_none (subst (λ b. ((eqb a.text a.text && b) || has_piece past a.text s) ≡ true) (ne_eqb a.piece.sequence s (λ g. ne (sym g ∙ e)))
    (each_piece (a ∷ past) a.text (size a.text) s h f l))
  where
    and_none : ((eqb a.text a.text && false) || has_piece past a.text s) ≡ true → has_piece past a.text s ≡ true
    and_none g = go (eqb a.text a.text) g
      where
        go : (b : Bool) → ((b && false) || has_piece past a.text s) ≡ true → has_piece past a.text s ≡ true
        go true g = g
        go false g = g

no_piece : (past : List Arrival) (n s : ℕ) → has_text past n ≡ false → has_piece past n s ≡ true → ⊥
no_piece [] n s h g = cc
no_piece (a ∷ past) n s h g = go (eqb a.text n) (eqb a.piece.sequence s) h g (no_piece past n s)
  where
    go : (b c : Bool) → (b || has_text past n) ≡ false → ((b && c) || has_piece past n s) ≡ true
        → (has_text past n ≡ false → has_piece past n s ≡ true → ⊥) → ⊥
    go true c h g ih = cc
    go false c h g ih = ih h g

one_is_all : (size : ℕ → ℕ) (past : List Arrival) (a : Arrival) → a.piece.sequence ≡ 1 → size a.text ≡ 1 → is_done size (a ∷ past) a.text ≡ true
one_is_all size past a e f =
    subst (λ n. has_pieces (a ∷ past) a.text n ≡ true) (sym f)
    (and_from _ _ (subst (λ b. (b || has_piece past a.text 1) ≡ true) (sym (and_from _ _ (eq-eqb a.text a.text refl) (eq-eqb a.piece.sequence 1 e))) refl) refl)

module _ (m : Machine) (phone : ℕ) (a : Arrival) (o : Origin) (text : a.text ≡ o.text) (sequence : a.piece.sequence ≡ o.segment)
    (from : 0 < o.segment) (within : o.segment ≤ size_in m.senders.texts o.text) where
  store_is_full : StoreFull m phone a → StoreIsFull m phone o
  store_is_full h =
      record {
        full = h.full;
        unfinished = subst (λ n. is_listed (finished m phone) n ≡ false) text h.absent;
        last = λ s f l ne.
            subst (λ n. has_piece (m.receiver phone).taken n s ≡ true) text
            (others_taken (size_in m.senders.texts) (m.receiver phone).taken a o.segment sequence h.completes s f
            (subst (λ n. s ≤ size_in m.senders.texts n) (sym text) l) ne);
      }

  sets_are_full : SetsFull m phone a → SetsAreFull m phone o
  sets_are_full h =
      record {
        full = h.full;
        none_taken = λ s t. no_piece (m.receiver phone).taken o.text s (subst (λ n. has_text (m.receiver phone).taken n ≡ false) text h.none_taken) t;
        more = go (ltb 1 (size_in m.senders.texts o.text)) refl;
      }
    where
      go : (b : Bool) → ltb 1 (size_in m.senders.texts o.text) ≡ b → 1 < size_in m.senders.texts o.text
      go true e = ltb-true _ _ e
      go false e =
          let l = ltb-false _ _ e in
          let one : o.segment ≡ 1 = omega arith in
          let size : size_in m.senders.texts o.text ≡ 1 = omega arith in
          let whole = one_is_all (size_in m.senders.texts) (m.receiver phone).taken a (sequence ∙ one) (ap (size_in m.senders.texts) text ∙ size) in
          let q : true ≡ false = sym whole ∙ h.incomplete in cc

  received : (tag : Tag) (told : Told) (put : List Sent) (new : Machine) → Became m phone a tag told put new → Received m phone o tag told put new
  received tag told put new (inl t) = inl t
  received tag told put new (inr (inr t)) = inr (inr t)
  received tag told put new (inr (inl t)) =
      inr (inl (record { answered = t.0; put_out = t.1; receives = t.2; sends = t.3; full = which t.4 }))
    where
      which : StoreFull m phone a ⊎ SetsFull m phone a → StoreIsFull m phone o ⊎ SetsAreFull m phone o
      which (inl f) = inl (store_is_full f)
      which (inr f) = inr (sets_are_full f)

pub refused_only_where_full : Below → RefusedOnlyWhereFull
refused_only_where_full law limits phones past old run event may told put new step phone d origin brings =
    by_origin origin brings (packet_sent old (IsSentOf old.phones old.senders.texts old.centre.accepted) brings.number s.sound.once.sent _ brings.is)
  where
    s : Orderly old
    s = run_orderly law limits phones past old run

    by_origin : (origin : Option Origin) → (brings : BringsDelivery old event phone d origin) → HasItsPiece old.phones old.senders.texts old.centre.accepted (Data false brings.tag (Transfer ToPhone (Deliver d))) (Phone phone) origin
        → (o : Origin) × (origin ≡ Some o) × IsTypedTo old phone o.text × Received old phone o brings.tag told put new
    by_origin None b x = absurd x
    by_origin (Some o) b x = (
      o,
      refl,
      record { text = x.text; typed = x.segment.found; to_phone = x.recipient },
      received old phone (record { text = o.text; piece = piece_in old.clock d (piece_of x.text o.segment) }) o refl
          (told_sequence old.phones old.senders.texts old.centre.accepted phone old.clock d o (piece_of x.text o.segment) x) x.segment.from_one
          (subst (λ v. o.segment ≤ size_of v) (sym x.segment.found) x.segment.within) b.tag told put new
          (delivered law old b.number phone b.tag b.putting d o told put new (piece_of x.text o.segment) s.sound
          (run_bounded law.few IsOrderly limits phones past old run phone)
          b.is
          (subst (λ e. may_happen true old e ≡ true) b.carries (orderly_happens law old event s may)) x
          (told_units old.phones old.senders.texts old.centre.accepted phone d o x)
          (acts step)),
    )
      where
        acts : Step old event told put new → Acts old (MovesPacket b.number) told put new
        acts step =
            let step' : Step old (Carry b.number) told put new = subst (λ e. Step old e told put new) b.carries step in
            subst (λ (v : Act). Acts old v told put new) step'.1 step'.2
