-- Right notes stay right at each event that comes in order.
use Rattle.std.proofs.Common.{◌≡◌, ◌≢◌, ℕ, zero, suc, ◌+◌, ◌<◌, ◌≤◌, max, Bool, true, false, not, ◌&&◌, ◌||◌, cond, eqb, leb, ltb, List, [], ◌∷◌, map, length, Option, Some, None, Result, Ok, Err, inl, inr, refl, sym, ap, ◌∙◌, subst, arith}
use Rattle.std.specs.List.{AllByRecursion}
use Rattle.std.specs.Option.{option_map}
use Rattle.std.proofs.lemmas.Bool.{cond_both, eq-eqb, eqb-true, ltb-true}
use Rattle.sms_field.specs.Address.Value.{AddressValue}
use Rattle.sms_field.specs.Time.Computed.{end_of_2099, end_of}
use Rattle.sms_field.specs.declared.validity.ValidityFault.{ValidityFault}
use Rattle.sms_field.specs.declared.validity.ValidityFault.TheVariants.{EnhancedValidity, NoMoment}
use Rattle.sms_field.specs.declared.validity.Validity.TheVariants.{Absent}
use Rattle.sms_tpdu.specs.Deliver.{Delivery}
use Rattle.sms_tpdu.specs.Submit.{Submission}
use Rattle.sms_join.specs.declared.units.Units.{Units}
use Rattle.sms_join.specs.Joiner.{answer}
use Rattle.sms_join.specs.Cut.{IsCut}
use Rattle.sms_relay.specs.declared.side.Side.TheVariants.{FromPhone, ToPhone}
use Rattle.sms_message.specs.declared.message.TransferUnit.{TransferUnit}
use Rattle.sms_message.specs.declared.message.TransferUnit.TheVariants.{Submit, Deliver, OtherUnit, BadUnit}
use Rattle.sms_message.specs.declared.message.Relay.{Relay}
use Rattle.sms_message.specs.declared.message.Relay.TheVariants.{Transfer, Answer, UnknownType, Unreadable}
use Rattle.sms_message.specs.declared.message.Message.{Message}
use Rattle.sms_message.specs.declared.message.Message.TheVariants.{NotCp, Note, Tiny, Data}
use Rattle.sms_message.specs.declared.message.Tag.{Tag}
use Rattle.sms_message.specs.declared.outcome.Outcome.TheVariants as outcome
use Rattle.sms_message.specs.Address.{phone_at}
use Rattle.sms_message.specs.Changed.{changed}
use Rattle.sms_message.specs.Does.{Does, drops}
use Rattle.sms_message.specs.declared.outcome.Dropped.TheVariants as dropped
use Rattle.sms_message.specs.Message.{Origin, tag_of, same_tag}
use Rattle.sms_centre.specs.Centre.{centre_opened, centre_answered, centre_receives}
use Rattle.sms_centre.specs.Centre.State.{Acceptance, Pushing, Line, CentreState}
use Rattle.sms_centre.specs.Centre.Held.{unended, next_stamp}
use Rattle.sms_centre.specs.Centre.Stamps.{IsRising}
use Rattle.sms_centre.specs.declared.centre.check.Check.{Check}
use Rattle.sms_centre.specs.declared.centre.check.Check.TheVariants.{Refuse, Accept}
use Rattle.sms_centre.specs.Centre.Checks.{Books, books_of, check_space, check_recipient, check_validity, checked_by}
use Rattle.sms_centre.specs.Centre.Submissions.{checked, centre_takes}
use Rattle.sms_centre.specs.Centre.Pushes.{after_push, pushes_first, centre_pushes}
use Rattle.sms_centre.specs.Centre.Verdicts.{settled, centre_hears}
use Rattle.sms_party.specs.Sent.{nth, Place, Centre, Phone, Sent, Sends}
use Rattle.sms_party.specs.Sender.Texts.{Text, SenderState, width_of}
use Rattle.sms_party.specs.Sender.Segments.{submission_of}
use Rattle.sms_party.specs.Sender.Calls.{composes, times_out}
use Rattle.sms_party.specs.Sender.Answers.{sender_receives}
use Rattle.sms_party.specs.Receiver.State.{ReceiverState}
use Rattle.sms_party.specs.Receiver.{receiver_opened, receiver_takes}
use Rattle.sms_party.specs.Receiver.Offers.{offers_units}
use Rattle.sms_party.specs.Receiver.Pieces.{piece_in}
use Rattle.sms_world.specs.declared.fault.WorldFault.{WorldFault}
use Rattle.sms_world.specs.declared.fault.WorldFault.TheVariants.{NoSuchPacket, NoSuchPhone, ClockEnd, Party}
use Rattle.sms_world.specs.Inside.Below.{Below}
use Rattle.sms_world.specs.Told.{Told, of_party}
use Rattle.sms_world.specs.Machine.{Machine}
use Rattle.sms_world.specs.Machine.Event.{Event, Compose, Carry, Timeout, Push, Tick, Inject, Act, TypesText, MovesPacket, EndsWait, HandsOver, MovesClock, SlipsIn, IsMetAs}
use Rattle.sms_world.specs.Machine.Next.{Next, next, stays, entered, by_sender, by_receiver, by_centre, of_centre, origin_of, pushed, to_phone, to_centre, comes, comes_to_phone, carries, packet, ticked, receiver_limits}
use Rattle.sms_world.specs.Machine.Step.{Acts, Step}
use Rattle.sms_world.specs.Texts.{size_in}
use Rattle.sms_world.specs.Texts.Keys.{stamp_given}
use Rattle.sms_world.specs.Claims.Pieces.{IsTyped, IsSentOf, HasItsPiece, DeliveryOf, SubmissionOf, EachHasItsPiece, CentreSound}
use Rattle.sms_world.specs.Ledger.{Mark, Submits, Delivers, Neither, mark_of, message_mark, delivery_mark, mark_at, TextNote, note_of, SenderNoted, called, called_marks, ReceiverNote, ReceiverNoted, heard, ends_given, stamped_so, Ledger, IsLedgerOf}
use Rattle.sms_world.specs.Noted.{Facts, AreFacts, neithers, with_marks, sender_noted, recipient_of, holds, submission_noted, delivery_noted, push_mark, push_noted, other_noted, carry_noted, noted}
use Rattle.sms_world.proofs.Untyped.{late_untyped, answers_untyped}
use Rattle.sms_world.proofs.Calling.{Called, late_called, answers_called, composes_called}
use Rattle.sms_world.proofs.Centres.{each_unended}
use Rattle.sms_world.proofs.Checked.{nth_map, nth_noted}
use Rattle.sms_world.proofs.Clear.{only_to}
use Rattle.sms_world.proofs.Growing.{changed_each}
use Rattle.sms_world.proofs.Holding.{found_by_stamp, stamp_at, ends_more, stamped_more, free_more}
use Rattle.sms_world.proofs.Keeping.{Grown, marks_more, to_phone_neither, composes_grown, late_grown, answers_grown, by_sender_right, by_centre_right, by_receiver_right}
use Rattle.sms_world.proofs.Noting.{takes_noted, ages_noted}
use Rattle.sms_world.proofs.Offered.{units_in_delivery, offers, is_taken, each_offer}
use Rattle.sms_world.proofs.Once.{packet_sent}
use Rattle.sms_world.proofs.Replaced.{everywhere, changed_here, changed_elsewhere, not_changed}
use Rattle.sms_world.proofs.Stamped.{Stamped, rises}
use Rattle.sms_world.proofs.Standing.{Sound}
use Rattle.sms_world.proofs.Walk.{may_happen, sent_may_come, message_may_come, may_deliver}

-- ---- what the centre accepts

record Accepts (books : Books) (recipient : Option ℕ) (ends r e t : ℕ) : Type 0 where
  recipient_is : recipient ≡ Some r
  ends_are : ends ≡ e
  stamp_is : books.stamp r ≡ t

space_accepts : (limit : ℕ) (books : Books) (s : Submission) (ends q r e t : ℕ) → check_space limit books s ends q ≡ Accept r e t → Accepts books (Some q) ends r e t
space_accepts limit books s ends q r e t h = go (s.reject && books.is_held q) (leb limit books.count) (leb end_of_2099 (books.stamp q)) h
  where
    go : (a b c : Bool) → cond a (Refuse 21 0xC5) (cond b (Refuse 42 0xC0) (cond c (Refuse 38 0xC2) (Accept q ends (books.stamp q)))) ≡ Accept r e t
        → Accepts books (Some q) ends r e t
    go true b c h = cc
    go false true c h = cc
    go false false true h = cc
    go false false false h =
        let x : q ≡ r = cc in
        let y : ends ≡ e = cc in
        let z : books.stamp q ≡ t = cc in
        record { recipient_is = ap (λ (i : ℕ). Some i) x; ends_are = y; stamp_is = subst (λ i. books.stamp i ≡ t) x z }

recipient_accepts : (limit : ℕ) (books : Books) (s : Submission) (ends r e t : ℕ) (q : Option ℕ) → check_recipient limit books s ends q ≡ Accept r e t → Accepts books q ends r e t
recipient_accepts limit books s ends r e t None h = cc
recipient_accepts limit books s ends r e t (Some q) h = space_accepts limit books s ends q r e t h

accepts_so : (limit : ℕ) (phones : List AddressValue) (books : Books) (now : ℕ) (s : Submission) (r e t : ℕ) → s.validity ≡ Absent
    → checked_by limit phones books now s ≡ Accept r e t → Accepts books (phone_at phones s.target) (now + 172800) r e t
unfolding checked_by
accepts_so limit phones books now s r e t absent h =
    go (ltb now (now + 172800)) (subst (λ v. check_validity limit phones books now s (end_of v now) ≡ Accept r e t) absent h)
  where
    go : (b : Bool) → cond b (check_recipient limit books s (now + 172800) (phone_at phones s.target)) (Refuse 21 0xC7) ≡ Accept r e t
        → Accepts books (phone_at phones s.target) (now + 172800) r e t
    go true g = recipient_accepts limit books s (now + 172800) r e t (phone_at phones s.target) g
    go false g = cc

hears_same : (c : CentreState) (now phone : ℕ) (tag : Tag) (cause : Option ℕ) (latest : Option Pushing) → (centre_hears c now phone tag cause latest).after.accepted ≡ c.accepted
unfolding centre_hears settled
hears_same c now phone tag cause None = refl
hears_same c now phone tag cause (Some p) =
    cond_both (same_tag tag p.tag && ltb now p.message.ends) _ _ (λ (d : Does CentreState). d.after.accepted ≡ c.accepted) (λ _. refl) (λ _. refl)

-- where no submission comes, nothing is accepted
centre_same : (limit : ℕ) (phones : List AddressValue) (c : CentreState) (now phone : ℕ) (v : Message) (o : Option Origin)
    → ((tag : Tag) (s : Submission) → v ≡ Data false tag (Transfer FromPhone (Submit s)) → ⊥)
    → (centre_receives limit phones c now phone v o).after.accepted ≡ c.accepted
unfolding centre_receives centre_opened centre_answered centre_takes
centre_same limit phones c now phone NotCp o n = refl
centre_same limit phones c now phone (Note flag value) o n = refl
centre_same limit phones c now phone (Tiny flag value) o n = refl
centre_same limit phones c now phone (Data false tag (Transfer FromPhone (Submit s))) o n = absurd (n tag s refl)
centre_same limit phones c now phone (Data false tag (Transfer FromPhone (Deliver d))) o n = refl
centre_same limit phones c now phone (Data false tag (Transfer FromPhone OtherUnit)) o n = refl
centre_same limit phones c now phone (Data false tag (Transfer FromPhone BadUnit)) o n = refl
centre_same limit phones c now phone (Data false tag (Transfer ToPhone unit)) o n = refl
centre_same limit phones c now phone (Data false tag (Answer side cause report)) o n = refl
centre_same limit phones c now phone (Data false tag UnknownType) o n = refl
centre_same limit phones c now phone (Data false tag Unreadable) o n = refl
centre_same limit phones c now phone (Data true tag (Answer FromPhone cause report)) o n = hears_same c now phone tag cause (c.line phone).latest
centre_same limit phones c now phone (Data true tag (Answer ToPhone cause report)) o n = refl
centre_same limit phones c now phone (Data true tag (Transfer side unit)) o n = refl
centre_same limit phones c now phone (Data true tag UnknownType) o n = refl
centre_same limit phones c now phone (Data true tag Unreadable) o n = refl

-- ---- nothing changes

module _ (l : Ledger) (m : Machine) (h : IsLedgerOf l m) where
  -- of a sender that did nothing
  same_sender : (phone : ℕ) → IsLedgerOf (record {
    marks = l.marks;
    texts = l.texts;
    sender = changed l.sender phone (l.sender phone);
    ends = l.ends;
    stamped = l.stamped;
    free = l.free;
    receiver = l.receiver;
  }) m
  same_sender phone =
      record {
        marks = h.marks;
        texts = h.texts;
        senders = λ p. subst (λ s. SenderNoted (m.senders.sender p) s) (sym (not_changed l.sender phone p)) (h.senders p);
        ends = h.ends;
        stamped = h.stamped;
        free = h.free;
        receivers = h.receivers;
      }

  same_receiver : (phone : ℕ) → IsLedgerOf (record {
    marks = l.marks;
    texts = l.texts;
    sender = l.sender;
    ends = l.ends;
    stamped = l.stamped;
    free = l.free;
    receiver = changed l.receiver phone (l.receiver phone);
  }) m
  same_receiver phone =
      record {
        marks = h.marks;
        texts = h.texts;
        senders = h.senders;
        ends = h.ends;
        stamped = h.stamped;
        free = h.free;
        receivers = λ p. subst (λ r. ReceiverNoted (size_in m.senders.texts) m.clock (m.receiver p) r) (sym (not_changed l.receiver phone p)) (h.receivers p);
      }

  pub no_marks : (k : ℕ) → k ≡ 0 → IsLedgerOf (with_marks l (neithers k)) m
  no_marks k e =
      subst (λ i. IsLedgerOf (with_marks l (neithers i)) m) (sym e)
      (record { marks = h.marks; texts = h.texts; senders = h.senders; ends = h.ends; stamped = h.stamped; free = h.free; receivers = h.receivers })

-- an event that is answered by a fault
fault_right : (l : Ledger) (m : Machine) → IsLedgerOf l m → (reject : Bool) (now : ℕ) (e : Event) (why : WorldFault) (f : Facts) → f.put ≡ 0
    → IsLedgerOf (noted l reject now e (Err why) f) m
unfolding noted
fault_right l m h reject now (Compose phone target characters) why f z = same_sender l m h phone
fault_right l m h reject now (Timeout phone) why f z = same_sender l m h phone
fault_right l m h reject now (Push phone) why f z = h
fault_right l m h reject now (Tick seconds) why f z = h
fault_right l m h reject now (Inject place octets) why f z = h
fault_right l m h reject now (Carry k) why f z = go (mark_at l.marks k)
  where
    other : (to : Place) → IsLedgerOf (other_noted l reject f (Err why) to) m
    other (Centre phone) = no_marks l m h f.put z
    other (Phone phone) = same_sender l m h phone

    go : (v : Option Mark) → IsLedgerOf (carry_noted l reject now f (Err why) v) m
    go None = h
    go (Some (Submits text segment again)) = no_marks l m h f.put z
    go (Some (Delivers phone text segment)) = no_marks _ m (same_receiver l m h phone) f.put z
    go (Some Neither) = other f.to

-- ---- a message comes

-- the facts of what was done, as the case of a packet needs them
pub record Given (f : Facts) (r : Next) (to : Place) : Type 0 where
  pub as_many : f.put ≡ length r.put
  pub goes : f.to ≡ to

module _ (law : Below) (m : Machine) (l : Ledger) (sound : Sound m) (h : IsLedgerOf l m) where
  -- a submission
  submission_right : (phone : ℕ) (tag : Tag) (s : Submission) (o : Origin) (putting : Option ℕ) (f : Facts) → SubmissionOf m.senders.texts phone s o
      → (k : Check) → checked_by m.limits.held m.phones (books_of m.centre.accepted m.clock phone s) m.clock s ≡ k
      → f.put ≡ length (to_phone phone None putting (checked m.centre m.clock phone tag s (Some o) k).put)
      → IsLedgerOf (with_marks (submission_noted l m.clock o (of_party (checked m.centre m.clock phone tag s (Some o) k).answer)) (neithers f.put))
      (by_centre m (of_centre phone None putting (checked m.centre m.clock phone tag s (Some o) k))).after
  unfolding checked
  submission_right phone tag s o putting f x (Refuse cause failure) e z =
      subst (λ i. IsLedgerOf (with_marks l (neithers i)) (by_centre m (of_centre phone None putting (checked m.centre m.clock phone tag s (Some o) (Refuse cause failure)))).after) (sym z)
      (by_centre_right l m h phone putting (checked m.centre m.clock phone tag s (Some o) (Refuse cause failure)) refl)
  submission_right phone tag s o putting f x (Accept r ends stamp) e z = unfold by_centre of_centre in
      subst (λ v. IsLedgerOf (with_marks (holds l m.clock o v) (neithers f.put)) (by_centre m (of_centre phone None putting (checked m.centre m.clock phone tag s (Some o) (Accept r ends stamp)))).after) (sym recipient)
      (record {
        marks = marks_more l.marks m.sent (to_phone phone None putting (checked m.centre m.clock phone tag s (Some o) (Accept r ends stamp)).put) (neithers f.put) h.marks
            (to_phone_neither phone putting (checked m.centre m.clock phone tag s (Some o) (Accept r ends stamp)).put ∙ ap neithers (sym z));
        texts = h.texts;
        senders = h.senders;
        ends = λ p. ends_at p;
        stamped = λ q i. stamped_at q i;
        free = λ q. free_at q;
        receivers = h.receivers;
      })
    where
      absent : s.validity ≡ Absent
      absent = unfold submission_of in ap (λ (v : Submission). v.validity) x.is

      target : s.target ≡ x.text.target
      target = unfold submission_of in ap (λ (v : Submission). v.target) x.is

      so : Accepts (books_of m.centre.accepted m.clock phone s) (phone_at m.phones s.target) (m.clock + 172800) r ends stamp
      so = accepts_so m.limits.held m.phones (books_of m.centre.accepted m.clock phone s) m.clock s r ends stamp absent e

      recipient : recipient_of (nth l.texts o.text) ≡ Some r
      recipient =
          ap (λ (ts : List TextNote). recipient_of (nth ts o.text)) h.texts
          ∙ (ap recipient_of (nth_noted m.phones m.senders.texts o.text x.text x.segment.found) ∙ (sym (ap (phone_at m.phones) target) ∙ so.recipient_is))

      a : Acceptance
      a = record { phone = phone; submission = s; recipient = r; stamp = stamp; ends = ends; origin = Some o }

      stamp_is : stamp ≡ max (l.free r) m.clock
      stamp_is = sym so.stamp_is ∙ (stamp_at m.centre.accepted r m.clock ∙ ap (λ i. max i m.clock) (sym (h.free r)))

      ends_at : (p : Origin) → cond (eqb o.text p.text && eqb o.segment p.segment) (Some (m.clock + 172800)) (l.ends p)
          ≡ ends_given (record { phone = phone; submission = s; recipient = r; stamp = stamp; ends = ends; origin = Some o } ∷ m.centre.accepted) p
      ends_at p =
          ap (λ i. cond (eqb o.text p.text && eqb o.segment p.segment) (Some i) (l.ends p)) so.ends_are
          ∙ ap (λ v. cond (eqb o.text p.text && eqb o.segment p.segment) (Some ends) v) (h.ends p)

      stamped_at : (q i : ℕ) → cond (eqb r q && eqb (max (l.free r) m.clock) i) (Some o) (l.stamped q i)
          ≡ stamped_so (record { phone = phone; submission = s; recipient = r; stamp = stamp; ends = ends; origin = Some o } ∷ m.centre.accepted) q i
      stamped_at q i =
          ap (λ v. cond (eqb r q && eqb v i) (Some o) (l.stamped q i)) (sym stamp_is)
          ∙ ap (λ v. cond (eqb r q && eqb stamp i) (Some o) v) (h.stamped q i)

      free_at : (q : ℕ) → cond (eqb q r) (suc (max (l.free r) m.clock)) (l.free q)
          ≡ next_stamp (record { phone = phone; submission = s; recipient = r; stamp = stamp; ends = ends; origin = Some o } ∷ m.centre.accepted) q 0
      free_at q =
          ap (λ v. cond (eqb q r) (suc v) (l.free q)) (sym stamp_is)
          ∙ (ap (λ v. cond (eqb q r) (suc stamp) v) (h.free q)
          ∙ sym (free_more (record { phone = phone; submission = s; recipient = r; stamp = stamp; ends = ends; origin = Some o }) m.centre.accepted m.clock (sym so.stamp_is) q))

  -- a delivery
  taken_right : (phone : ℕ) (tag : Tag) (d : Delivery) (o : Origin) → DeliveryOf m.phones m.senders.texts m.centre.accepted phone d o
      → may_deliver m phone d (units_in_delivery d) o ≡ true
      → ReceiverNoted (size_in m.senders.texts) m.clock (offers_units (receiver_limits m.limits) (m.receiver phone) m.clock tag d (Some o) (units_in_delivery d)).after
      (heard m.clock (l.receiver phone) o.text (of_party (offers_units (receiver_limits m.limits) (m.receiver phone) m.clock tag d (Some o) (units_in_delivery d)).answer))
  unfolding may_deliver
  taken_right phone tag d o x may =
      each_offer (λ (r : Does ReceiverState). ReceiverNoted (size_in m.senders.texts) m.clock r.after (heard m.clock (l.receiver phone) o.text (of_party r.answer)))
      (receiver_limits m.limits) (m.receiver phone) m.clock tag d (Some o) (units_in_delivery d)
      (λ cause failure e. h.receivers phone) (λ us e g. h.receivers phone) (λ us e g. offered us e)
    where
      offered : (us : Units) → units_in_delivery d ≡ Some us
          → ReceiverNoted (size_in m.senders.texts) m.clock
          (offers (receiver_limits m.limits) (m.receiver phone) tag d.origin (piece_in m.clock d us) (Some o) (answer m.limits.open_max (m.receiver phone).joiner (piece_in m.clock d us))).after
          (heard m.clock (l.receiver phone) o.text (of_party (offers (receiver_limits m.limits) (m.receiver phone) tag d.origin (piece_in m.clock d us) (Some o) (answer m.limits.open_max (m.receiver phone).joiner (piece_in m.clock d us))).answer))
      offered us e = unfold offers in
          cond_both (is_taken (answer m.limits.open_max (m.receiver phone).joiner (piece_in m.clock d us))) _ _
          (λ (r : Does ReceiverState). ReceiverNoted (size_in m.senders.texts) m.clock r.after (heard m.clock (l.receiver phone) o.text (of_party r.answer)))
          (λ t. takes_noted law (receiver_limits m.limits) m.phones m.senders.texts m.centre.accepted phone (m.receiver phone) m.clock d o us (l.receiver phone)
          (sound.receivers phone) x e (subst (λ v. may_deliver m phone d v o ≡ true) e may) t (h.receivers phone))
          (λ _. h.receivers phone)

  pub delivery_right : (phone : ℕ) (tag : Tag) (d : Delivery) (o : Origin) (f : Facts) → DeliveryOf m.phones m.senders.texts m.centre.accepted phone d o
      → may_deliver m phone d (units_in_delivery d) o ≡ true
      → f.put ≡ length (to_centre phone (offers_units (receiver_limits m.limits) (m.receiver phone) m.clock tag d (Some o) (units_in_delivery d)).put)
      → IsLedgerOf (with_marks (delivery_noted l m.clock phone o.text (of_party (offers_units (receiver_limits m.limits) (m.receiver phone) m.clock tag d (Some o) (units_in_delivery d)).answer)) (neithers f.put))
      (by_receiver m phone (offers_units (receiver_limits m.limits) (m.receiver phone) m.clock tag d (Some o) (units_in_delivery d))).after
  delivery_right phone tag d o f x may z =
      subst (λ i. IsLedgerOf (with_marks (delivery_noted l m.clock phone o.text (of_party (offers_units (receiver_limits m.limits) (m.receiver phone) m.clock tag d (Some o) (units_in_delivery d)).answer)) (neithers i))
      (by_receiver m phone (offers_units (receiver_limits m.limits) (m.receiver phone) m.clock tag d (Some o) (units_in_delivery d))).after) (sym z)
      (by_receiver_right l m h phone (offers_units (receiver_limits m.limits) (m.receiver phone) m.clock tag d (Some o) (units_in_delivery d))
      (heard m.clock (l.receiver phone) o.text (of_party (offers_units (receiver_limits m.limits) (m.receiver phone) m.clock tag d (Some o) (units_in_delivery d)).answer))
      (taken_right phone tag d o x may))

  abbrev pub Right : Place → Message → Option Origin → Option ℕ → Facts → Type 0
  Right to v origin putting f =
      IsLedgerOf (carry_noted l m.senders.reject m.clock f (comes m to v origin putting).answer (Some (message_mark v to origin))) (comes m to v origin putting).after

  -- to the centre comes something else
  other_up : (phone : ℕ) (v : Message) (origin : Option Origin) (putting : Option ℕ) (f : Facts) → message_mark v (Centre phone) origin ≡ Neither
      → ((tag : Tag) (s : Submission) → v ≡ Data false tag (Transfer FromPhone (Submit s)) → ⊥)
      → Given f (comes m (Centre phone) v origin putting) (Centre phone) → Right (Centre phone) v origin putting f
  unfolding comes
  other_up phone v origin putting f e n g =
      subst (λ k. IsLedgerOf (carry_noted l m.senders.reject m.clock f (comes m (Centre phone) v origin putting).answer (Some k)) (comes m (Centre phone) v origin putting).after) (sym e)
      (subst (λ to. IsLedgerOf (other_noted l m.senders.reject f (comes m (Centre phone) v origin putting).answer to) (comes m (Centre phone) v origin putting).after) (sym g.goes)
      (subst (λ i. IsLedgerOf (with_marks l (neithers i)) (comes m (Centre phone) v origin putting).after) (sym as_many)
      (by_centre_right l m h phone putting (centre_receives m.limits.held m.phones m.centre m.clock phone v origin)
      (centre_same m.limits.held m.phones m.centre m.clock phone v origin n))))
    where
      as_many : f.put ≡ length (to_phone phone None putting (centre_receives m.limits.held m.phones m.centre m.clock phone v origin).put)
      as_many = unfold by_centre of_centre in g.as_many

  pub up_right : (phone : ℕ) (v : Message) (origin : Option Origin) (putting : Option ℕ) (f : Facts) → HasItsPiece m.phones m.senders.texts m.centre.accepted v (Centre phone) origin
      → Given f (comes m (Centre phone) v origin putting) (Centre phone) → Right (Centre phone) v origin putting f
  unfolding comes centre_receives centre_opened centre_takes by_centre checked of_centre checked_by
  up_right phone (Data false tag (Transfer FromPhone (Submit s))) (Some o) putting f x g =
      submission_right phone tag s o putting f x (checked_by m.limits.held m.phones (books_of m.centre.accepted m.clock phone s) m.clock s) refl (unfold by_centre of_centre in g.as_many)
  up_right phone (Data false tag (Transfer FromPhone (Submit s))) None putting f x g = absurd x
  up_right phone NotCp origin putting f x g = absurd x
  up_right phone (Tiny flag value) origin putting f x g = absurd x
  up_right phone (Note flag value) origin putting f x g = other_up phone (Note flag value) origin putting f refl (λ t s e. cc) g
  up_right phone (Data true tag relay) origin putting f x g = other_up phone (Data true tag relay) origin putting f refl (λ t s e. cc) g
  up_right phone (Data false tag (Transfer FromPhone (Deliver d))) origin putting f x g = other_up phone (Data false tag (Transfer FromPhone (Deliver d))) origin putting f refl (λ t s e. cc) g
  up_right phone (Data false tag (Transfer FromPhone OtherUnit)) origin putting f x g = absurd x
  up_right phone (Data false tag (Transfer FromPhone BadUnit)) origin putting f x g = absurd x
  up_right phone (Data false tag (Transfer ToPhone (Submit s))) origin putting f x g = other_up phone (Data false tag (Transfer ToPhone (Submit s))) origin putting f refl (λ t s e. cc) g
  up_right phone (Data false tag (Transfer ToPhone (Deliver d))) origin putting f x g = absurd x
  up_right phone (Data false tag (Transfer ToPhone OtherUnit)) origin putting f x g = absurd x
  up_right phone (Data false tag (Transfer ToPhone BadUnit)) origin putting f x g = absurd x
  up_right phone (Data false tag (Answer side cause report)) origin putting f x g = other_up phone (Data false tag (Answer side cause report)) origin putting f refl (λ t s e. cc) g
  up_right phone (Data false tag UnknownType) origin putting f x g = absurd x
  up_right phone (Data false tag Unreadable) origin putting f x g = absurd x

  -- a phone's sender is called
  sent_right : (phone : ℕ) (f : Facts) (d : Sends SenderState) → Called m.senders phone (l.sender phone) d → Grown m.senders.texts d.after.texts (of_party d.answer)
      → ((number : ℕ) (t : Text) (before : List Text) → (by_sender m d).answer ≡ Ok (outcome.Typed number) → (by_sender m d).after.senders.texts ≡ t ∷ before → f.text ≡ note_of (by_sender m d).after.phones t)
      → IsLedgerOf (sender_noted l m.senders.reject phone f.text (of_party d.answer)) (by_sender m d).after
  sent_right phone f d c g t = by_sender_right l m h phone d f.text sound.receivers c g (unfold by_sender in t)

  -- to a phone comes something else
  other_down : (phone : ℕ) (v : Message) (origin : Option Origin) (putting : Option ℕ) (f : Facts) → message_mark v (Phone phone) origin ≡ Neither → f.to ≡ Phone phone
      → IsLedgerOf (sender_noted l m.senders.reject phone f.text (comes m (Phone phone) v origin putting).answer) (comes m (Phone phone) v origin putting).after
      → Right (Phone phone) v origin putting f
  other_down phone v origin putting f e z r =
      subst (λ k. IsLedgerOf (carry_noted l m.senders.reject m.clock f (comes m (Phone phone) v origin putting).answer (Some k)) (comes m (Phone phone) v origin putting).after) (sym e)
      (subst (λ to. IsLedgerOf (other_noted l m.senders.reject f (comes m (Phone phone) v origin putting).answer to) (comes m (Phone phone) v origin putting).after) (sym z) r)

  -- what a receiver drops
  dropped_right : (phone : ℕ) (f : Facts) (tag : Tag) (v : Relay) (origin : Option Origin)
      → receiver_opened (receiver_limits m.limits) (m.receiver phone) m.clock tag v origin ≡ drops (m.receiver phone) dropped.Unmatched
      → IsLedgerOf (sender_noted l m.senders.reject phone f.text (by_receiver m phone (receiver_opened (receiver_limits m.limits) (m.receiver phone) m.clock tag v origin)).answer)
      (by_receiver m phone (receiver_opened (receiver_limits m.limits) (m.receiver phone) m.clock tag v origin)).after
  dropped_right phone f tag v origin e =
      subst (λ (d : Does ReceiverState). IsLedgerOf (sender_noted l m.senders.reject phone f.text (by_receiver m phone d).answer) (by_receiver m phone d).after) (sym e)
      (unfold by_receiver in (record {
        marks = h.marks;
        texts = h.texts;
        senders = (same_sender l m h phone).senders;
        ends = h.ends;
        stamped = h.stamped;
        free = h.free;
        receivers = λ p. subst (λ r. ReceiverNoted (size_in m.senders.texts) m.clock r (l.receiver p)) (sym (not_changed m.receiver phone p)) (h.receivers p);
      }))

  down_right : (phone : ℕ) (v : Message) (origin : Option Origin) (putting : Option ℕ) (f : Facts) → HasItsPiece m.phones m.senders.texts m.centre.accepted v (Phone phone) origin
      → message_may_come true m v (Phone phone) origin ≡ true
      → Given f (comes m (Phone phone) v origin putting) (Phone phone) → Right (Phone phone) v origin putting f
  unfolding comes comes_to_phone
  down_right phone NotCp origin putting f x may g = absurd x
  down_right phone (Tiny flag value) origin putting f x may g = absurd x
  down_right phone (Note flag value) origin putting f x may g =
      other_down phone (Note flag value) origin putting f refl g.goes (unfold stays in same_sender l m h phone)
  down_right phone (Data true tag relay) origin putting f x may g =
      other_down phone (Data true tag relay) origin putting f refl g.goes
      (unfold by_sender in sent_right phone f (sender_receives m.senders phone tag relay)
      (answers_called m.senders phone (l.sender phone) sound.once.senders (h.senders phone) tag relay) (answers_grown m.senders phone tag relay)
      (λ number t before e s. absurd (answers_untyped m.senders phone tag relay number e)))
  down_right phone (Data false tag (Transfer ToPhone (Deliver d))) (Some o) putting f x may g = unfold by_receiver receiver_opened receiver_takes units_in_delivery in
      delivery_right phone tag d o f x may g.as_many
  down_right phone (Data false tag (Transfer ToPhone (Deliver d))) None putting f x may g = absurd x
  down_right phone (Data false tag (Transfer ToPhone (Submit s))) origin putting f x may g = absurd x
  down_right phone (Data false tag (Transfer ToPhone OtherUnit)) origin putting f x may g = absurd x
  down_right phone (Data false tag (Transfer ToPhone BadUnit)) origin putting f x may g = absurd x
  down_right phone (Data false tag (Transfer FromPhone (Submit s))) origin putting f x may g = absurd x
  down_right phone (Data false tag (Transfer FromPhone (Deliver d))) origin putting f x may g =
      other_down phone (Data false tag (Transfer FromPhone (Deliver d))) origin putting f refl g.goes
      (dropped_right phone f tag (Transfer FromPhone (Deliver d)) origin (unfold receiver_opened in refl))
  down_right phone (Data false tag (Transfer FromPhone OtherUnit)) origin putting f x may g = absurd x
  down_right phone (Data false tag (Transfer FromPhone BadUnit)) origin putting f x may g = absurd x
  down_right phone (Data false tag (Answer side cause report)) origin putting f x may g =
      other_down phone (Data false tag (Answer side cause report)) origin putting f refl g.goes
      (dropped_right phone f tag (Answer side cause report) origin (unfold receiver_opened in refl))
  down_right phone (Data false tag UnknownType) origin putting f x may g = absurd x
  down_right phone (Data false tag Unreadable) origin putting f x may g = absurd x

  come_right : (to : Place) (v : Message) (origin : Option Origin) (putting : Option ℕ) (f : Facts) → HasItsPiece m.phones m.senders.texts m.centre.accepted v to origin
      → message_may_come true m v to origin ≡ true → Given f (comes m to v origin putting) to → Right to v origin putting f
  come_right (Centre phone) v origin putting f x may g = up_right phone v origin putting f x g
  come_right (Phone phone) v origin putting f x may g = down_right phone v origin putting f x may g

  -- ---- the events

  -- what was done at an event
  abbrev Kept : Event → Facts → Next → Type 0
  Kept e f r = AreFacts m e r.answer r.put r.after f → IsLedgerOf (noted l m.senders.reject m.clock e r.answer f) r.after

  nowhere : (e : Event) (f : Facts) (why : WorldFault) → Kept e f (stays m (Err why))
  unfolding stays
  nowhere e f why g = fault_right l m h m.senders.reject m.clock e why f g.as_many

  typed_kept : (phone : ℕ) (target : AddressValue) (characters : List ℕ) (pieces : List Units) (f : Facts) → IsCut (width_of m.senders.wide) characters pieces
      → Kept (Compose phone target characters) f (by_sender m (composes m.senders phone target characters pieces))
  unfolding noted
  typed_kept phone target characters pieces f cut g = unfold by_sender in
      sent_right phone f (composes m.senders phone target characters pieces)
      (composes_called m.senders phone (l.sender phone) sound.once.senders (h.senders phone) target characters pieces cut)
      (composes_grown m.senders phone target characters pieces)
      (λ number t before e s. g.text_is phone target characters number t before refl e s)

  late_kept : (phone : ℕ) (f : Facts) → Kept (Timeout phone) f (by_sender m (times_out m.senders phone))
  unfolding noted
  late_kept phone f g = unfold by_sender in
      sent_right phone f (times_out m.senders phone) (late_called m.senders phone (l.sender phone) sound.once.senders (h.senders phone)) (late_grown m.senders phone)
      (λ number t before e s. absurd (late_untyped m.senders phone number e))

  carry_kept : (k : ℕ) (f : Facts) → may_happen true m (Carry k) ≡ true → Kept (Carry k) f (carries m (packet m k))
  unfolding may_happen noted carries stays
  carry_kept k f may g =
      go (packet m k) refl may g
    where
      there : mark_at l.marks k ≡ option_map mark_of (packet m k)
      there = unfold packet in at k
        where
          at : (k : ℕ) → mark_at l.marks k ≡ option_map mark_of (packet m k)
          at zero = unfold packet in refl
          at (suc k) = unfold packet in ap (λ marks. nth marks k) h.marks ∙ nth_map mark_of m.sent k

      go : (v : Option Sent) → packet m k ≡ v → sent_may_come true m v ≡ true → AreFacts m (Carry k) (carries m v).answer (carries m v).put (carries m v).after f
          → IsLedgerOf (carry_noted l m.senders.reject m.clock f (carries m v).answer (mark_at l.marks k)) (carries m v).after
      go None e may g = nowhere (Carry k) f NoSuchPacket g
      go (Some x) e may g =
          subst (λ v. IsLedgerOf (carry_noted l m.senders.reject m.clock f (carries m (Some x)).answer v) (carries m (Some x)).after) (sym (there ∙ ap (option_map mark_of) e))
          (come_right x.to x.message x.origin x.putting f (packet_sent m (IsSentOf m.phones m.senders.texts m.centre.accepted) k sound.once.sent x e) may
          (record { as_many = g.as_many; goes = g.goes k x refl e }))

  tick_kept : (later : ℕ) (seconds : ℕ) (f : Facts) → m.clock ≤ later → IsLedgerOf l (ticked m later)
  unfolding ticked
  tick_kept later seconds f le =
      record {
        marks = h.marks;
        texts = h.texts;
        senders = h.senders;
        ends = h.ends;
        stamped = h.stamped;
        free = h.free;
        receivers = λ p. ages_noted law m.limits.remembered m.phones m.senders.texts m.centre.accepted p m.clock later (m.receiver p) (l.receiver p) le (sound.receivers p) (h.receivers p);
      }

  -- a push
  push_kept : (phone : ℕ) (f : Facts) → IsRising m.centre.accepted → (queue : List Acceptance)
      → AllByRecursion (λ a. (a.recipient ≡ phone) × IsTyped m.phones m.senders.texts m.centre.accepted a) queue
      → Kept (Push phone) f (by_centre m (pushed phone (pushes_first m.phones m.centre phone queue)))
  unfolding noted by_centre pushed of_centre pushes_first
  push_kept phone f rising [] q g = h
  push_kept phone f rising (a ∷ others) q g =
      record {
        marks = marks_more l.marks m.sent (pushed phone (pushes_first m.phones m.centre phone (a ∷ others))).put (push_mark phone (l.stamped phone f.stamp) ∷ []) h.marks (ap (λ k. k ∷ []) mark);
        texts = h.texts;
        senders = h.senders;
        ends = h.ends;
        stamped = h.stamped;
        free = h.free;
        receivers = h.receivers;
      }
    where
      o : Origin
      o = q.0.1.0

      latest : (changed m.centre.line phone (after_push (m.centre.line phone) a others) phone).latest ≡ Some (record { tag = tag_of (m.centre.line phone).pushes; message = a })
      latest = ap (λ (k : Line). k.latest) (changed_here m.centre.line phone (after_push (m.centre.line phone) a others))

      found : stamped_so m.centre.accepted phone a.stamp ≡ Some q.0.1.0
      found =
          found_by_stamp m.centre.accepted q.0.1.0 phone a.stamp rising
          (only_to m.phones m.senders.texts m.centre.accepted m.centre.accepted q.0.1.0 q.0.1.2.text phone q.0.1.2.segment.found
          (q.0.1.2.recipient ∙ ap (λ (i : ℕ). Some i) q.0.0) sound.once.centre.accepted)
          q.0.1.2.given

      noted_origin : l.stamped phone f.stamp ≡ Some q.0.1.0
      noted_origin =
          ap (l.stamped phone) (g.stamp_is phone (record { tag = tag_of (m.centre.line phone).pushes; message = a }) refl refl latest)
          ∙ (h.stamped phone a.stamp ∙ found)

      mark : delivery_mark (Phone phone) (origin_of (changed m.centre.line phone (after_push (m.centre.line phone) a others) phone).latest) ≡ push_mark phone (l.stamped phone f.stamp)
      mark =
          ap (delivery_mark (Phone phone)) (ap origin_of latest ∙ q.0.1.1) ∙ sym (ap (push_mark phone) noted_origin)

  pub next_right : (e : Event) (act : Act) (f : Facts) → IsRising m.centre.accepted → IsMetAs (width_of m.senders.wide) e act → may_happen true m e ≡ true → Kept e f (next m act)
  unfolding next centre_pushes
  next_right (Compose phone target characters) act f rising is may =
      subst (λ (v : Act). Kept (Compose phone target characters) f (next m v)) (sym is.3)
      (cond_both (ltb phone (length m.phones)) _ _ (Kept (Compose phone target characters) f)
      (λ _. typed_kept phone target characters is.0 f is.2) (λ _. nowhere (Compose phone target characters) f NoSuchPhone))
  next_right (Carry k) act f rising is may = subst (λ (v : Act). Kept (Carry k) f (next m v)) (sym is) (carry_kept k f may)
  next_right (Timeout phone) act f rising is may =
      subst (λ (v : Act). Kept (Timeout phone) f (next m v)) (sym is)
      (cond_both (ltb phone (length m.phones)) _ _ (Kept (Timeout phone) f) (λ _. late_kept phone f) (λ _. nowhere (Timeout phone) f NoSuchPhone))
  next_right (Push phone) act f rising is may =
      subst (λ (v : Act). Kept (Push phone) f (next m v)) (sym is)
      (cond_both (ltb phone (length m.phones)) _ _ (Kept (Push phone) f)
      (λ _. push_kept phone f rising (unended (m.centre.line phone).queue m.clock)
      (each_unended (λ a. (a.recipient ≡ phone) × IsTyped m.phones m.senders.texts m.centre.accepted a) (m.centre.line phone).queue m.clock (sound.once.centre.queued phone)))
      (λ _. nowhere (Push phone) f NoSuchPhone))
  next_right (Tick seconds) act f rising is may =
      subst (λ (v : Act). Kept (Tick seconds) f (next m v)) (sym is)
      (cond_both (ltb (m.clock + seconds) end_of_2099) _ _ (Kept (Tick seconds) f)
      (λ _ g. unfold noted in tick_kept (m.clock + seconds) seconds f (omega arith)) (λ _. nowhere (Tick seconds) f ClockEnd))
  next_right (Inject place octets) act f rising is may = absurd (unfold may_happen in (let q : false ≡ true = may in cc))

  pub step_right : (e : Event) (act : Act) (told : Told) (put : List Sent) (n : Machine) (f : Facts) → IsRising m.centre.accepted
      → IsMetAs (width_of m.senders.wide) e act → may_happen true m e ≡ true → Acts m act told put n → AreFacts m e told put n f
      → IsLedgerOf (noted l m.senders.reject m.clock e told f) n
  step_right e act told put n f rising is may (inl s) g =
      subst (λ v. IsLedgerOf (noted l m.senders.reject m.clock e told f) v) s.2
      (subst (λ v. IsLedgerOf (noted l m.senders.reject m.clock e v f) (next m act).after) s.0
      (next_right e act f rising is may
      (subst (λ v. AreFacts m e v (next m act).put (next m act).after f) (sym s.0) (subst (λ v. AreFacts m e told v (next m act).after f) (sym s.1) (subst (λ v. AreFacts m e told put v f) (sym s.2) g)))))
  step_right e act told put n f rising is may (inr s) g =
      subst (λ v. IsLedgerOf (noted l m.senders.reject m.clock e told f) v) s.3
      (subst (λ v. IsLedgerOf (noted l m.senders.reject m.clock e v f) m) s.1
      (fault_right l m h m.senders.reject m.clock e (Party dropped.Memory) f (g.as_many ∙ ap length (sym s.2))))
