-- Right notes of packets and acceptances stay right at each event of an honest run.
use Rattle.std.proofs.Common.{◌≡◌, ◌≢◌, ℕ, zero, suc, ◌+◌, ◌-◌, ◌<◌, ◌≤◌, Bool, true, false, cond, not, ◌&&◌, ◌||◌, eqb, leb, ltb, List, [], ◌∷◌, ◌++◌, map, length, Option, Some, None, Result, Ok, Err, inl, inr, ◌⊎◌, refl, sym, ap, ◌∙◌, subst, arith}
use Rattle.std.specs.List.{AllByRecursion}
use Rattle.std.specs.Option.{option_map}
use Rattle.std.proofs.lemmas.Bool.{cond_both}
use Rattle.std.proofs.lemmas.List.{length-map}
use Rattle.sms_field.specs.Address.Value.{AddressValue}
use Rattle.sms_field.specs.Time.Computed.{end_of, end_of_2099}
use Rattle.sms_field.specs.declared.validity.ValidityFault.{ValidityFault}
use Rattle.sms_field.specs.declared.validity.ValidityFault.TheVariants.{EnhancedValidity, NoMoment}
use Rattle.sms_tpdu.specs.Submit.{Submission}
use Rattle.sms_relay.specs.declared.side.Side.TheVariants.{FromPhone, ToPhone}
use Rattle.sms_join.specs.declared.units.Units.{Units}
use Rattle.sms_message.specs.declared.message.TransferUnit.{TransferUnit}
use Rattle.sms_message.specs.declared.message.TransferUnit.TheVariants.{Submit, Deliver, OtherUnit, BadUnit}
use Rattle.sms_message.specs.declared.message.Relay.{Relay}
use Rattle.sms_message.specs.declared.message.Relay.TheVariants.{Transfer, Answer, UnknownType, Unreadable}
use Rattle.sms_message.specs.declared.message.Message.{Message}
use Rattle.sms_message.specs.declared.message.Message.TheVariants.{NotCp, Note, Tiny, Data}
use Rattle.sms_message.specs.declared.message.Tag.{Tag}
use Rattle.sms_message.specs.declared.outcome.Outcome.{Outcome}
use Rattle.sms_message.specs.declared.outcome.Outcome.TheVariants as outcome
use Rattle.sms_message.specs.declared.outcome.Dropped.TheVariants as dropped
use Rattle.sms_message.specs.Address.{phone_at}
use Rattle.sms_message.specs.Changed.{changed}
use Rattle.sms_message.specs.Does.{Does}
use Rattle.sms_message.specs.Message.{Origin, same_tag}
use Rattle.sms_centre.specs.declared.centre.check.Check.{Check}
use Rattle.sms_centre.specs.declared.centre.check.Check.TheVariants.{Refuse, Accept}
use Rattle.sms_centre.specs.Centre.{centre_opened, centre_answered, centre_receives}
use Rattle.sms_centre.specs.Centre.State.{Acceptance, CentreState, Pushing}
use Rattle.sms_centre.specs.Centre.Checks.{Books, check_space, check_recipient, check_validity, checked_by, books_of}
use Rattle.sms_centre.specs.Centre.Held.{unended}
use Rattle.sms_centre.specs.Centre.Submissions.{checked, centre_takes}
use Rattle.sms_centre.specs.Centre.Verdicts.{centre_hears, settled}
use Rattle.sms_centre.specs.Centre.Pushes.{centre_pushes, pushes_first}
use Rattle.sms_party.specs.Sent.{nth, Place, Centre, Phone, Sent, Sends, bare}
use Rattle.sms_party.specs.Sender.Texts.{Text, Sender, SenderState, width_of}
use Rattle.sms_party.specs.Sender.Putting.{sender_drops}
use Rattle.sms_party.specs.Sender.Calls.{composes, times_out}
use Rattle.sms_party.specs.Sender.Answers.{sender_receives}
use Rattle.sms_party.specs.Receiver.{receiver_opened}
use Rattle.sms_party.specs.Receiver.State.{ReceiverState}
use Rattle.sms_world.specs.declared.fault.WorldFault.{WorldFault}
use Rattle.sms_world.specs.declared.fault.WorldFault.TheVariants.{NoSuchPhone, NoSuchPacket, ClockEnd, Party}
use Rattle.sms_world.specs.declared.notes.mark.Part.{Part}
use Rattle.sms_world.specs.Claims.Pieces.{SubmissionOf, HasItsPiece, IsSentOf, HasCut}
use Rattle.sms_world.specs.Told.{Told, of_party}
use Rattle.sms_world.specs.Ledger.{Mark, mark_of, SenderNote, SenderNoted, called, called_marks}
use Rattle.sms_world.specs.Traces.{Trace, Seen, Submits, Answers, Other, Brought, HeldNote, part_of, segment_up, trace_of, adds, held_of, end_in, seen_submission, seen_unit, seen_relay, seen_of, brought_to, brought_of, brought_at, IsTypedThere, IsUnitThere, IsRelayThere, IsMessageThere, IsOfItsPhone, Traces, AreTracesOf, trace_at}
use Rattle.sms_world.specs.Traced.{bare_trace, called_traces, called_outs, numbers_after, call_traced, bare_traces, with_traces, holds, holds_if, submission_traced, taken_traced, down_traced, way_traced, carry_traced, traced}
use Rattle.sms_world.specs.Doubts.{IsHonest}
use Rattle.sms_world.specs.Machine.{Machine}
use Rattle.sms_world.specs.Machine.Event.{Event, Compose, Carry, Timeout, Push, Tick, Inject, Act, IsMetAs}
use Rattle.sms_world.specs.Machine.Next.{Next, entered, next, stays, by_sender, by_receiver, by_centre, of_centre, origin_of, pushed, to_phone, to_centre, comes, comes_to_phone, carries, packet, ticked, receiver_limits}
use Rattle.sms_world.specs.Machine.Step.{Acts, no_memory}
use Rattle.sms_world.proofs.Calling.{Called, composes_called, late_called, answers_called}
use Rattle.sms_world.proofs.Checked.{nth_map}
use Rattle.sms_world.proofs.Growing.{each_weaker, each_entered, nth_more}
use Rattle.sms_world.proofs.Replaced.{everywhere, changed_here, changed_elsewhere, not_changed}
use Rattle.sms_world.proofs.Senders.{SendersSound, Good, composes_good, times_out_good, sender_receives_good}
use Rattle.sms_world.proofs.Tracing.{numbers_of, called_few, Counted, late_counted, answers_counted, composes_counted}

-- ---- lists

map_entered : {X Y : Type 0} (f : X → Y) (ys xs : List X) → map f (entered ys xs) ≡ entered (map f ys) (map f xs)
map_entered f [] xs = refl
map_entered f (y ∷ ys) xs = map_entered f ys (y ∷ xs)

pub length_entered : {X : Type 0} (ys xs : List X) → length (entered ys xs) ≡ length ys + length xs
length_entered [] xs = omega arith
length_entered (y ∷ ys) xs = let e = length_entered ys (y ∷ xs) in omega (arith, e)

sent_more : (old : List Trace) (sent put : List Sent) (more : List Trace) → old ≡ map trace_of sent → more ≡ map trace_of put
    → entered more old ≡ map trace_of (entered put sent)
sent_more old sent put more h e = ap (λ l. entered l old) e ∙ (ap (entered (map trace_of put)) h ∙ sym (map_entered trace_of put sent))

down_bare : (phone : ℕ) (origin : Option Origin) (putting : Option ℕ) (vs : List Message)
    → bare_traces (length (to_phone phone origin putting vs)) putting ≡ map trace_of (to_phone phone origin putting vs)
down_bare phone origin putting [] = refl
down_bare phone origin putting (v ∷ vs) = ap (λ l. bare_trace putting ∷ l) (down_bare phone origin putting vs)

up_bare : (phone : ℕ) (vs : List Message) → bare_traces (length (to_centre phone vs)) None ≡ map trace_of (to_centre phone vs)
unfolding bare
up_bare phone [] = refl
up_bare phone (v ∷ vs) = ap (λ l. bare_trace None ∷ l) (up_bare phone vs)

-- ---- of which phone's texts packets are

abbrev Own : List Text → Sent → Type 0
Own texts x = IsOfItsPhone texts x.to x.origin x.message

unit_own : (texts texts' : List Text) (phone : ℕ) (o : Origin) → ((t : Text) → nth texts o.text ≡ Some t → nth texts' o.text ≡ Some t)
    → (u : TransferUnit) → IsUnitThere texts phone o u → IsUnitThere texts' phone o u
unit_own texts texts' phone o f (Submit s) h = (h.0, f h.0 h.1, h.2)
unit_own texts texts' phone o f (Deliver d) h = tt
unit_own texts texts' phone o f OtherUnit h = tt
unit_own texts texts' phone o f BadUnit h = tt

message_own : (texts texts' : List Text) (phone : ℕ) (o : Origin) → ((t : Text) → nth texts o.text ≡ Some t → nth texts' o.text ≡ Some t)
    → (v : Message) → IsMessageThere texts phone o v → IsMessageThere texts' phone o v
message_own texts texts' phone o f (Data flag tag (Transfer side u)) h = unit_own texts texts' phone o f u h
message_own texts texts' phone o f (Data flag tag (Answer side cause report)) h = tt
message_own texts texts' phone o f (Data flag tag UnknownType) h = tt
message_own texts texts' phone o f (Data flag tag Unreadable) h = tt
message_own texts texts' phone o f NotCp h = tt
message_own texts texts' phone o f (Note flag value) h = tt
message_own texts texts' phone o f (Tiny flag value) h = tt

place_own : (texts texts' : List Text) → ((n : ℕ) (t : Text) → nth texts n ≡ Some t → nth texts' n ≡ Some t)
    → (to : Place) (origin : Option Origin) (v : Message) → IsOfItsPhone texts to origin v → IsOfItsPhone texts' to origin v
place_own texts texts' f (Centre phone) (Some o) v h = message_own texts texts' phone o (f o.text) v h
place_own texts texts' f (Centre phone) None v h = tt
place_own texts texts' f (Phone phone) origin v h = tt

-- what has its piece is of its phone
unit_from : (phones : List AddressValue) (texts : List Text) (accepted : List Acceptance) (phone : ℕ) (o : Origin) (flag : Bool) (tag : Tag) (side : _) (u : TransferUnit)
    → HasItsPiece phones texts accepted (Data flag tag (Transfer side u)) (Centre phone) (Some o) → IsUnitThere texts phone o u
unit_from phones texts accepted phone o flag tag side (Submit s) h = (h.text, h.segment.found, h.sender)
unit_from phones texts accepted phone o flag tag side (Deliver d) h = tt
unit_from phones texts accepted phone o flag tag side OtherUnit h = tt
unit_from phones texts accepted phone o flag tag side BadUnit h = tt

message_from : (phones : List AddressValue) (texts : List Text) (accepted : List Acceptance) (to : Place) (origin : Option Origin) (v : Message)
    → HasItsPiece phones texts accepted v to origin → IsOfItsPhone texts to origin v
message_from phones texts accepted (Centre phone) (Some o) (Data flag tag (Transfer side u)) h = unit_from phones texts accepted phone o flag tag side u h
message_from phones texts accepted (Centre phone) (Some o) (Data flag tag (Answer side cause report)) h = tt
message_from phones texts accepted (Centre phone) (Some o) (Data flag tag UnknownType) h = tt
message_from phones texts accepted (Centre phone) (Some o) (Data flag tag Unreadable) h = tt
message_from phones texts accepted (Centre phone) (Some o) NotCp h = tt
message_from phones texts accepted (Centre phone) (Some o) (Note flag value) h = tt
message_from phones texts accepted (Centre phone) (Some o) (Tiny flag value) h = tt
message_from phones texts accepted (Centre phone) None v h = tt
message_from phones texts accepted (Phone phone) origin v h = tt

down_own : (texts : List Text) (phone : ℕ) (origin : Option Origin) (putting : Option ℕ) (vs : List Message) → AllByRecursion (Own texts) (to_phone phone origin putting vs)
down_own texts phone origin putting [] = tt
down_own texts phone origin putting (v ∷ vs) = (tt, down_own texts phone origin putting vs)

up_own : (texts : List Text) (phone : ℕ) (vs : List Message) → AllByRecursion (Own texts) (to_centre phone vs)
unfolding bare
up_own texts phone [] = tt
up_own texts phone (v ∷ vs) = (tt, up_own texts phone vs)

-- ---- a sender does this

module _ (t : Traces) (m : Machine) (phone : ℕ) (d : Sends SenderState) (right : AreTracesOf t m) where
  called_right : Called m.senders phone (t.sender phone) d → Counted m.senders phone d → Good m.phones m.centre.accepted m.senders.texts d
      → AreTracesOf (call_traced t m.senders.reject phone (of_party d.answer)) (by_sender m d).after
  unfolding by_sender
  called_right c k g =
      record {
        sent = sent_more t.sent m.sent d.put (called_traces (t.outs phone) marks) right.sent traces;
        numbers = ap (λ l. numbers_after l told) right.numbers ∙ sym k.numbers;
        senders = λ q. everywhere (λ i. SenderNoted (d.after.sender i) (changed t.sender phone note i)) phone q
            (subst (SenderNoted (d.after.sender phone)) (sym (changed_here t.sender phone note)) here)
            (λ ne. subst (λ (s : Sender). SenderNoted s (changed t.sender phone note q)) (sym (c.others q ne))
            (subst (SenderNoted (m.senders.sender q)) (sym (changed_elsewhere t.sender phone q note ne)) (right.senders q)));
        outs = λ q. everywhere (λ i. changed t.outs phone (called_outs (t.outs phone) marks) i ≡ (d.after.sender i).outs) phone q
            (changed_here t.outs phone (called_outs (t.outs phone) marks) ∙ counts)
            (λ ne. changed_elsewhere t.outs phone q (called_outs (t.outs phone) marks) ne ∙ (right.outs q ∙ ap (λ (s : Sender). s.outs) (sym (c.others q ne))));
        few = λ q. everywhere (λ i. (d.after.sender i).outs ≤ length (entered d.put m.sent)) phone q
            (let l = called_few (m.senders.sender phone).outs (map mark_of d.put) in let n = length-map d.put mark_of in let f = right.few phone in
            let e = length_entered d.put m.sent in let o = k.outs in omega (arith, l, n, f, e, o))
            (λ ne. let f = right.few q in let e = length_entered d.put m.sent in let o = ap (λ (s : Sender). s.outs) (c.others q ne) in omega (arith, f, e, o));
        held = right.held;
        own = each_entered (Own d.after.texts) d.put m.sent
            (each_weaker (IsSentOf m.phones d.after.texts m.centre.accepted) (Own d.after.texts) d.put (λ x h. message_from m.phones d.after.texts m.centre.accepted x.to x.origin x.message h) g.put)
            (each_weaker (Own m.senders.texts) (Own d.after.texts) m.sent (λ x h. place_own m.senders.texts d.after.texts grown x.to x.origin x.message h) right.own);
      }
    where
      told : Told
      told = of_party d.answer

      note : SenderNote
      note = called (length t.numbers) (t.sender phone) (of_party d.answer)

      marks : List Mark
      marks = called_marks (called (length t.numbers) (t.sender phone) (of_party d.answer)) m.senders.reject (of_party d.answer)

      size : length t.numbers ≡ length m.senders.texts
      size = ap length right.numbers ∙ length-map m.senders.texts (λ (x : Text). x.number)

      marks_are : called_marks (called (length t.numbers) (t.sender phone) (of_party d.answer)) m.senders.reject (of_party d.answer) ≡ map mark_of d.put
      marks_are = ap (λ n. called_marks (called n (t.sender phone) (of_party d.answer)) m.senders.reject (of_party d.answer)) size ∙ sym c.are

      traces : called_traces (t.outs phone) (called_marks (called (length t.numbers) (t.sender phone) (of_party d.answer)) m.senders.reject (of_party d.answer)) ≡ map trace_of d.put
      traces = ap (λ n. called_traces n (called_marks (called (length t.numbers) (t.sender phone) (of_party d.answer)) m.senders.reject (of_party d.answer))) (right.outs phone)
          ∙ (ap (called_traces (m.senders.sender phone).outs) marks_are ∙ sym k.traces)

      counts : called_outs (t.outs phone) (called_marks (called (length t.numbers) (t.sender phone) (of_party d.answer)) m.senders.reject (of_party d.answer)) ≡ (d.after.sender phone).outs
      counts = ap (λ n. called_outs n (called_marks (called (length t.numbers) (t.sender phone) (of_party d.answer)) m.senders.reject (of_party d.answer))) (right.outs phone)
          ∙ (ap (called_outs (m.senders.sender phone).outs) marks_are ∙ sym k.outs)

      here : SenderNoted (d.after.sender phone) (called (length t.numbers) (t.sender phone) (of_party d.answer))
      here = subst (λ n. SenderNoted (d.after.sender phone) (called n (t.sender phone) (of_party d.answer))) (sym size) c.sender

      grown : (n : ℕ) (x : Text) → nth m.senders.texts n ≡ Some x → nth d.after.texts n ≡ Some x
      grown n x e = by g.grown
        where
          by : (d.after.texts ≡ m.senders.texts) ⊎ ((y : Text) × (d.after.texts ≡ y ∷ m.senders.texts) × HasCut y) → nth d.after.texts n ≡ Some x
          by (inl f) = ap (λ l. nth l n) f ∙ e
          by (inr f) = ap (λ l. nth l n) f.1 ∙ nth_more f.0 m.senders.texts n x e

-- ---- others put out

-- what they put out is of no segment, and what was accepted is noted
module _ (t u : Traces) (m n : Machine) (put : List Sent) (putting : Option ℕ) (right : AreTracesOf t m) where
  others_right : u.sent ≡ t.sent → u.numbers ≡ t.numbers → ((p : ℕ) → u.sender p ≡ t.sender p) → ((p : ℕ) → u.outs p ≡ t.outs p)
      → n.senders ≡ m.senders → n.sent ≡ entered put m.sent → bare_traces (length put) putting ≡ map trace_of put → AllByRecursion (Own m.senders.texts) put
      → ((p r q : ℕ) → u.held p r q ≡ held_of n.centre.accepted p r q) → AreTracesOf (with_traces u (length put) putting) n
  others_right sent numbers sender outs same is bare own held =
      record {
        sent = ap (entered (bare_traces (length put) putting)) sent ∙ (sent_more t.sent m.sent put (bare_traces (length put) putting) right.sent bare ∙ ap (map trace_of) (sym is));
        numbers = numbers ∙ (right.numbers ∙ ap (λ (x : SenderState). map (λ (y : Text). y.number) x.texts) (sym same));
        senders = λ p. subst (λ (x : SenderState). SenderNoted (x.sender p) (u.sender p)) (sym same) (subst (SenderNoted (m.senders.sender p)) (sym (sender p)) (right.senders p));
        outs = λ p. outs p ∙ (right.outs p ∙ ap (λ (x : SenderState). (x.sender p).outs) (sym same));
        few = λ p.
            let f = right.few p in let e = length_entered put m.sent in let l = ap length is in
            let o = ap (λ (x : SenderState). (x.sender p).outs) same in omega (arith, f, e, l, o);
        held = held;
        own = subst (λ (x : SenderState). AllByRecursion (Own x.texts) n.sent) (sym same)
            (subst (AllByRecursion (Own m.senders.texts)) (sym is) (each_entered (Own m.senders.texts) put m.sent own right.own));
      }

-- ---- nothing happens

module _ (t : Traces) (m : Machine) (right : AreTracesOf t m) where
  bare_still : (putting : Option ℕ) → AreTracesOf (with_traces t 0 putting) m
  bare_still putting =
      record { sent = right.sent; numbers = right.numbers; senders = right.senders; outs = right.outs; few = right.few; held = right.held; own = right.own }

  call_still : (reject : Bool) (phone : ℕ) (why : WorldFault) → AreTracesOf (call_traced t reject phone (Err why)) m
  call_still reject phone why =
      record {
        sent = right.sent;
        numbers = right.numbers;
        senders = λ q. subst (SenderNoted (m.senders.sender q)) (sym (not_changed t.sender phone q)) (right.senders q);
        outs = λ q. not_changed t.outs phone q ∙ right.outs q;
        few = right.few;
        held = right.held;
        own = right.own;
      }

  taken_still : (phone : ℕ) (seen : Seen) (part : Option Part) (putting : Option ℕ) (why : WorldFault) → AreTracesOf (with_traces (taken_traced t phone seen part (Err why)) 0 putting) m
  taken_still phone (Submits reject reference recipient ends) part putting why = bare_still putting
  taken_still phone (Answers tag) part putting why = bare_still putting
  taken_still phone Other part putting why = bare_still putting

  down_still : (reject : Bool) (phone : ℕ) (seen : Seen) (why : WorldFault) → AreTracesOf (down_traced t reject phone seen (Err why) 0) m
  down_still reject phone (Submits again reference recipient ends) why = bare_still None
  down_still reject phone (Answers tag) why = call_still reject phone why
  down_still reject phone Other why = bare_still None

  carry_still : (reject : Bool) (trace : Option Trace) (b : Option Brought) (why : WorldFault) → AreTracesOf (carry_traced t reject trace b (Err why) 0) m
  carry_still reject None b why = right
  carry_still reject (Some trace) None why = right
  carry_still reject (Some trace) (Some b) why = go b.up
    where
      go : (up : Bool) → AreTracesOf (way_traced t reject up b.phone b.seen trace (Err why) 0) m
      go true = taken_still b.phone b.seen trace.segment trace.putting why
      go false = down_still reject b.phone b.seen why

  pub fault_still : (reject : Bool) (event : Event) (b : Option Brought) (why : WorldFault) → AreTracesOf (traced t reject event (Err why) b 0) m
  unfolding traced
  fault_still reject (Compose phone target characters) b why = call_still reject phone why
  fault_still reject (Timeout phone) b why = call_still reject phone why
  fault_still reject (Carry k) b why = carry_still reject (trace_at t.sent k) b why
  fault_still reject (Push phone) b why = bare_still None
  fault_still reject (Tick seconds) b why = right
  fault_still reject (Inject place octets) b why = right

-- ---- the centre

-- what was accepted is for the phone that has the address, and ends so
record Passed (phones : List AddressValue) (now : ℕ) (s : Submission) (r e : ℕ) : Type 0 where
  recipient : phone_at phones s.target ≡ Some r
  ends : end_of s.validity now ≡ Ok e

space_passed : (limit : ℕ) (books : Books) (s : Submission) (ends q r e stamp : ℕ) → check_space limit books s ends q ≡ Accept r e stamp → (q ≡ r) × (ends ≡ e)
space_passed limit books s ends q r e stamp h = go (s.reject && books.is_held q) (leb limit books.count) (leb end_of_2099 (books.stamp q)) h
  where
    go : (a b c : Bool) → cond a (Refuse 21 0xC5) (cond b (Refuse 42 0xC0) (cond c (Refuse 38 0xC2) (Accept q ends (books.stamp q)))) ≡ Accept r e stamp → (q ≡ r) × (ends ≡ e)
    go true b c h = cc
    go false true c h = cc
    go false false true h = cc
    go false false false h = let x : q ≡ r = cc in let y : ends ≡ e = cc in (x, y)

recipient_passed : (limit : ℕ) (phones : List AddressValue) (books : Books) (s : Submission) (ends r e stamp : ℕ) (q : Option ℕ)
    → check_recipient limit books s ends q ≡ Accept r e stamp → (q ≡ Some r) × (ends ≡ e)
recipient_passed limit phones books s ends r e stamp None h = cc
recipient_passed limit phones books s ends r e stamp (Some q) h =
    let p = space_passed limit books s ends q r e stamp h in (ap (λ (i : ℕ). Some i) p.0, p.1)

validity_passed : (limit : ℕ) (phones : List AddressValue) (books : Books) (now : ℕ) (s : Submission) (r e stamp : ℕ) (v : Result ℕ ValidityFault) → end_of s.validity now ≡ v
    → check_validity limit phones books now s v ≡ Accept r e stamp → Passed phones now s r e
validity_passed limit phones books now s r e stamp (Err EnhancedValidity) is h = cc
validity_passed limit phones books now s r e stamp (Err NoMoment) is h = cc
validity_passed limit phones books now s r e stamp (Ok ends) is h = go (ltb now ends) h
  where
    go : (b : Bool) → cond b (check_recipient limit books s ends (phone_at phones s.target)) (Refuse 21 0xC7) ≡ Accept r e stamp → Passed phones now s r e
    go true h =
        let p = recipient_passed limit phones books s ends r e stamp (phone_at phones s.target) h in
        record { recipient = p.0; ends = is ∙ ap (λ (i : ℕ). Ok i) p.1 }
    go false h = cc

passed : (limit : ℕ) (phones : List AddressValue) (books : Books) (now : ℕ) (s : Submission) (r e stamp : ℕ) → checked_by limit phones books now s ≡ Accept r e stamp → Passed phones now s r e
unfolding checked_by
passed limit phones books now s r e stamp h = validity_passed limit phones books now s r e stamp (end_of s.validity now) refl h

-- what is noted of a message that came is what was accepted then
module _ (t : Traces) (c : CentreState) (phones : List AddressValue) (now phone : ℕ) (part : Option Part) (origin : Option Origin) (is : part ≡ option_map part_of origin)
    (h : (p r q : ℕ) → t.held p r q ≡ held_of c.accepted p r q) where
  abbrev HeldAfter : Seen → Does CentreState → Type 0
  HeldAfter seen d = (p r q : ℕ) → (taken_traced t phone seen part (of_party d.answer)).held p r q ≡ held_of d.after.accepted p r q

  accepted_after : (s : Submission) (recipient ends : ℕ) (p r q : ℕ)
      → cond (eqb phone p && (eqb s.reference r && eqb recipient q)) (Some (adds (t.held p r q) part ends)) (t.held p r q)
      ≡ cond (eqb phone p && (eqb s.reference r && eqb recipient q)) (Some (adds (held_of c.accepted p r q) (option_map part_of origin) ends)) (held_of c.accepted p r q)
  accepted_after s recipient ends p r q =
      ap (λ (v : Option HeldNote). cond (eqb phone p && (eqb s.reference r && eqb recipient q)) (Some (adds v part ends)) v) (h p r q)
      ∙ ap (λ (v : Option Part). cond (eqb phone p && (eqb s.reference r && eqb recipient q)) (Some (adds (held_of c.accepted p r q) v ends)) (held_of c.accepted p r q)) is

  checked_after : (tag : Tag) (s : Submission) (k : Check) → ((r e stamp : ℕ) → k ≡ Accept r e stamp → Passed phones now s r e)
      → HeldAfter (seen_submission phones now s) (checked c now phone tag s origin k)
  unfolding checked
  checked_after tag s (Refuse cause failure) pass p r q = h p r q
  checked_after tag s (Accept recipient ends stamp) pass p r q =
      let e = pass recipient ends stamp refl in
      ap (λ (v : Option ℕ). (holds_if t phone s.reference v (end_in (end_of s.validity now)) part).held p r q) e.recipient
      ∙ (ap (λ (v : Result ℕ ValidityFault). (holds_if t phone s.reference (Some recipient) (end_in v) part).held p r q) e.ends
      ∙ accepted_after s recipient ends p r q)

  takes_after : (limit : ℕ) (tag : Tag) (u : TransferUnit) → HeldAfter (seen_unit phones now u) (centre_takes limit phones c now phone tag u origin)
  unfolding centre_takes
  takes_after limit tag (Submit s) =
      checked_after tag s (checked_by limit phones (books_of c.accepted now phone s) now s) (λ r e stamp f. passed limit phones (books_of c.accepted now phone s) now s r e stamp f)
  takes_after limit tag (Deliver d) = h
  takes_after limit tag OtherUnit = h
  takes_after limit tag BadUnit = h

  hears_after : (tag : Tag) (cause : Option ℕ) (latest : Option Pushing) → (p r q : ℕ) → t.held p r q ≡ held_of (centre_hears c now phone tag cause latest).after.accepted p r q
  unfolding centre_hears settled
  hears_after tag cause None p r q = h p r q
  hears_after tag cause (Some x) p r q =
      cond_both (same_tag tag x.tag && ltb now x.message.ends) _ _ (λ (d : Does CentreState). t.held p r q ≡ held_of d.after.accepted p r q) (λ _. h p r q) (λ _. h p r q)

  receives_after : (limit : ℕ) (v : Message) → HeldAfter (seen_of phones now v) (centre_receives limit phones c now phone v origin)
  unfolding centre_receives centre_opened centre_answered
  receives_after limit NotCp = h
  receives_after limit (Note flag value) = h
  receives_after limit (Tiny flag value) = h
  receives_after limit (Data false tag (Transfer FromPhone unit)) = takes_after limit tag unit
  receives_after limit (Data false tag (Transfer ToPhone unit)) = h
  receives_after limit (Data false tag (Answer side cause report)) = h
  receives_after limit (Data false tag UnknownType) = h
  receives_after limit (Data false tag Unreadable) = h
  receives_after limit (Data true tag (Answer FromPhone cause report)) = hears_after tag cause (c.line phone).latest
  receives_after limit (Data true tag (Answer ToPhone cause report)) = h
  receives_after limit (Data true tag (Transfer side unit)) = h
  receives_after limit (Data true tag UnknownType) = h
  receives_after limit (Data true tag Unreadable) = h

abbrev SameBut : Traces → ℕ → ℕ → Option ℕ → Option ℕ → Option Part → Told → Type 0
SameBut t phone reference recipient ends part v =
    ((submission_traced t phone reference recipient ends part v).sent ≡ t.sent) × ((submission_traced t phone reference recipient ends part v).numbers ≡ t.numbers)
    × ((p : ℕ) → (submission_traced t phone reference recipient ends part v).sender p ≡ t.sender p) × ((p : ℕ) → (submission_traced t phone reference recipient ends part v).outs p ≡ t.outs p)

-- what is noted of acceptances changes nothing else
taken_same : (t : Traces) (phone : ℕ) (seen : Seen) (part : Option Part) (told : Told)
    → ((taken_traced t phone seen part told).sent ≡ t.sent) × ((taken_traced t phone seen part told).numbers ≡ t.numbers)
    × ((p : ℕ) → (taken_traced t phone seen part told).sender p ≡ t.sender p) × ((p : ℕ) → (taken_traced t phone seen part told).outs p ≡ t.outs p)
taken_same t phone (Answers tag) part told = (refl, refl, (λ p. refl), (λ p. refl))
taken_same t phone Other part told = (refl, refl, (λ p. refl), (λ p. refl))
taken_same t phone (Submits reject reference recipient ends) part told = by told
  where
    held : (r e : Option ℕ) → ((holds_if t phone reference r e part).sent ≡ t.sent) × ((holds_if t phone reference r e part).numbers ≡ t.numbers)
        × ((p : ℕ) → (holds_if t phone reference r e part).sender p ≡ t.sender p) × ((p : ℕ) → (holds_if t phone reference r e part).outs p ≡ t.outs p)
    held (Some r) (Some e) = (refl, refl, (λ p. refl), (λ p. refl))
    held (Some r) None = (refl, refl, (λ p. refl), (λ p. refl))
    held None e = (refl, refl, (λ p. refl), (λ p. refl))

    by : (v : Told) → SameBut t phone reference recipient ends part v
    by (Ok outcome.Held) = held recipient ends
    by (Ok (outcome.Typed number)) = (refl, refl, (λ p. refl), (λ p. refl))
    by (Ok (outcome.Segment number segment)) = (refl, refl, (λ p. refl), (λ p. refl))
    by (Ok (outcome.Accepted number)) = (refl, refl, (λ p. refl), (λ p. refl))
    by (Ok (outcome.Failed number cause failure)) = (refl, refl, (λ p. refl), (λ p. refl))
    by (Ok (outcome.GaveUp number)) = (refl, refl, (λ p. refl), (λ p. refl))
    by (Ok (outcome.Repeated number)) = (refl, refl, (λ p. refl), (λ p. refl))
    by (Ok outcome.Idle) = (refl, refl, (λ p. refl), (λ p. refl))
    by (Ok (outcome.Refused cause failure)) = (refl, refl, (λ p. refl), (λ p. refl))
    by (Ok outcome.Pushed) = (refl, refl, (λ p. refl), (λ p. refl))
    by (Ok outcome.NothingWaits) = (refl, refl, (λ p. refl), (λ p. refl))
    by (Ok outcome.Delivered) = (refl, refl, (λ p. refl), (λ p. refl))
    by (Ok outcome.Returned) = (refl, refl, (λ p. refl), (λ p. refl))
    by (Ok outcome.Abandoned) = (refl, refl, (λ p. refl), (λ p. refl))
    by (Ok outcome.Finished) = (refl, refl, (λ p. refl), (λ p. refl))
    by (Ok outcome.Kept) = (refl, refl, (λ p. refl), (λ p. refl))
    by (Ok outcome.Repeat) = (refl, refl, (λ p. refl), (λ p. refl))
    by (Ok outcome.Ticked) = (refl, refl, (λ p. refl), (λ p. refl))
    by (Ok outcome.Noted) = (refl, refl, (λ p. refl), (λ p. refl))
    by (Err why) = (refl, refl, (λ p. refl), (λ p. refl))

pushes_accepted : (phones : List AddressValue) (c : CentreState) (phone : ℕ) (queue : List Acceptance) → (pushes_first phones c phone queue).after.accepted ≡ c.accepted
unfolding pushes_first
pushes_accepted phones c phone [] = refl
pushes_accepted phones c phone (a ∷ others) = refl

-- ---- an event

module _ (t : Traces) (m : Machine) (right : AreTracesOf t m) where
  pub trace_there : (k : ℕ) (x : Sent) → packet m k ≡ Some x → trace_at t.sent k ≡ Some (trace_of x)
  unfolding packet
  trace_there zero x e = cc
  trace_there (suc k) x e = ap (λ l. nth l k) right.sent ∙ (nth_map trace_of m.sent k ∙ ap (option_map trace_of) e)

module _ (t : Traces) (m : Machine) (right : AreTracesOf t m) (sound : SendersSound m.senders) where
  abbrev After : Event → Next → Type 0
  After event r = AreTracesOf (traced t m.senders.reject event r.answer (brought_at m event) (length r.put)) r.after

  stays_right : (event : Event) (why : WorldFault) → After event (stays m (Err why))
  unfolding stays
  stays_right event why = fault_still t m right m.senders.reject event (brought_at m event) why

  -- a packet comes
  abbrev Comes : Sent → Next → Type 0
  Comes y r =
      AreTracesOf (way_traced t m.senders.reject (brought_of m.phones m.clock y).up (brought_of m.phones m.clock y).phone (brought_of m.phones m.clock y).seen (trace_of y) r.answer (length r.put)) r.after

  up_right : (phone : ℕ) (v : Message) (origin : Option Origin) (putting : Option ℕ)
      → Comes (record { message = v; to = Centre phone; origin = origin; putting = putting }) (comes m (Centre phone) v origin putting)
  unfolding comes by_centre of_centre
  up_right phone v origin putting =
      let d = centre_receives m.limits.held m.phones m.centre m.clock phone v origin in
      let s = taken_same t phone (seen_of m.phones m.clock v) (option_map part_of origin) (of_party d.answer) in
      others_right t (taken_traced t phone (seen_of m.phones m.clock v) (option_map part_of origin) (of_party d.answer)) m _ (to_phone phone None putting d.put) putting right s.0 s.1 s.2 s.3 refl refl
      (down_bare phone None putting d.put) (down_own m.senders.texts phone None putting d.put)
      (receives_after t m.centre m.phones m.clock phone (option_map part_of origin) origin refl right.held m.limits.held v)

  heard : (phone : ℕ) (d : Does ReceiverState) → AreTracesOf (with_traces t (length (by_receiver m phone d).put) None) (by_receiver m phone d).after
  unfolding by_receiver
  heard phone d = others_right t t m _ (to_centre phone d.put) None right refl refl (λ p. refl) (λ p. refl) refl refl (up_bare phone d.put) (up_own m.senders.texts phone d.put) right.held

  dropped_right : (phone : ℕ) (tag : Tag) (relay : Relay) → sender_receives m.senders phone tag relay ≡ sender_drops m.senders dropped.Unmatched
      → AreTracesOf (with_traces t (length (by_sender m (sender_receives m.senders phone tag relay)).put) None) (by_sender m (sender_receives m.senders phone tag relay)).after
  unfolding by_sender sender_drops
  dropped_right phone tag relay e =
      subst (λ (d : Sends SenderState). AreTracesOf (with_traces t (length (by_sender m d).put) None) (by_sender m d).after) (sym e)
      (record { sent = right.sent; numbers = right.numbers; senders = right.senders; outs = right.outs; few = right.few; held = right.held; own = right.own })

  down_right : (phone : ℕ) (v : Message) (origin : Option Origin) (putting : Option ℕ)
      → Comes (record { message = v; to = Phone phone; origin = origin; putting = putting }) (comes m (Phone phone) v origin putting)
  unfolding comes comes_to_phone stays
  down_right phone NotCp origin putting = bare_still t m right None
  down_right phone (Note flag value) origin putting = bare_still t m right None
  down_right phone (Tiny flag value) origin putting = bare_still t m right None
  down_right phone (Data true tag (Answer side cause report)) origin putting = unfold by_sender in
      called_right t m phone (sender_receives m.senders phone tag (Answer side cause report)) right
      (answers_called m.senders phone (t.sender phone) sound (right.senders phone) tag (Answer side cause report))
      (answers_counted m.senders phone tag (Answer side cause report))
      (sender_receives_good m.phones m.centre.accepted m.senders phone tag (Answer side cause report) sound)
  down_right phone (Data true tag (Transfer side unit)) origin putting = dropped_right phone tag (Transfer side unit) (unfold sender_receives in refl)
  down_right phone (Data true tag UnknownType) origin putting = dropped_right phone tag UnknownType (unfold sender_receives in refl)
  down_right phone (Data true tag Unreadable) origin putting = dropped_right phone tag Unreadable (unfold sender_receives in refl)
  down_right phone (Data false tag (Transfer FromPhone (Submit s))) origin putting = heard phone _
  down_right phone (Data false tag (Transfer FromPhone (Deliver d))) origin putting = heard phone _
  down_right phone (Data false tag (Transfer FromPhone OtherUnit)) origin putting = heard phone _
  down_right phone (Data false tag (Transfer FromPhone BadUnit)) origin putting = heard phone _
  down_right phone (Data false tag (Transfer ToPhone unit)) origin putting = heard phone _
  down_right phone (Data false tag (Answer side cause report)) origin putting = heard phone _
  down_right phone (Data false tag UnknownType) origin putting = heard phone _
  down_right phone (Data false tag Unreadable) origin putting = heard phone _

  carries_right : (k : ℕ) (v : Option Sent) → packet m k ≡ v → After (Carry k) (carries m v)
  unfolding carries traced
  carries_right k None e = stays_right (Carry k) NoSuchPacket
  carries_right k (Some x) e =
      subst (λ b. AreTracesOf (carry_traced t m.senders.reject (trace_at t.sent k) b (comes m x.to x.message x.origin x.putting).answer (length (comes m x.to x.message x.origin x.putting).put))
      (comes m x.to x.message x.origin x.putting).after) (sym (ap (option_map (brought_of m.phones m.clock)) e))
      (subst (λ v. AreTracesOf (carry_traced t m.senders.reject v (Some (brought_of m.phones m.clock x)) (comes m x.to x.message x.origin x.putting).answer (length (comes m x.to x.message x.origin x.putting).put))
      (comes m x.to x.message x.origin x.putting).after) (sym (trace_there t m right k x e)) (go x.to))
    where
      go : (to : Place) → Comes (record { message = x.message; to = to; origin = x.origin; putting = x.putting }) (comes m to x.message x.origin x.putting)
      go (Centre phone) = up_right phone x.message x.origin x.putting
      go (Phone phone) = down_right phone x.message x.origin x.putting

  pushed_right : (phone : ℕ) → AreTracesOf (with_traces t (length (by_centre m (pushed phone (centre_pushes m.phones m.centre m.clock phone))).put) None)
      (by_centre m (pushed phone (centre_pushes m.phones m.centre m.clock phone))).after
  unfolding by_centre pushed of_centre centre_pushes
  pushed_right phone =
      let d = pushes_first m.phones m.centre phone (unended (m.centre.line phone).queue m.clock) in
      others_right t t m _ (to_phone phone (origin_of (d.after.line phone).latest) None d.put) None right refl refl (λ p. refl) (λ p. refl) refl refl
      (down_bare phone (origin_of (d.after.line phone).latest) None d.put) (down_own m.senders.texts phone (origin_of (d.after.line phone).latest) None d.put)
      (λ p r q. right.held p r q ∙ ap (λ l. held_of l p r q) (sym (pushes_accepted m.phones m.centre phone (unended (m.centre.line phone).queue m.clock))))

  next_right : (event : Event) (act : Act) → IsMetAs (width_of m.senders.wide) event act → IsHonest m event → After event (next m act)
  unfolding next traced by_sender ticked
  next_right (Compose phone target characters) act is may =
      subst (λ (a : Act). After (Compose phone target characters) (next m a)) (sym is.3)
      (cond_both (ltb phone (length m.phones)) _ _ (After (Compose phone target characters))
      (λ _. called_right t m phone (composes m.senders phone target characters is.0) right
      (composes_called m.senders phone (t.sender phone) sound (right.senders phone) target characters is.0 is.2)
      (composes_counted m.senders phone target characters is.0)
      (composes_good m.phones m.centre.accepted m.senders phone target characters is.0 is.1 is.2 sound))
      (λ _. stays_right (Compose phone target characters) NoSuchPhone))
  next_right (Carry k) act is may = subst (λ (a : Act). After (Carry k) (next m a)) (sym is) (carries_right k (packet m k) refl)
  next_right (Timeout phone) act is may =
      subst (λ (a : Act). After (Timeout phone) (next m a)) (sym is)
      (cond_both (ltb phone (length m.phones)) _ _ (After (Timeout phone))
      (λ _. called_right t m phone (times_out m.senders phone) right
      (late_called m.senders phone (t.sender phone) sound (right.senders phone))
      (late_counted m.senders phone)
      (times_out_good m.phones m.centre.accepted m.senders phone sound))
      (λ _. stays_right (Timeout phone) NoSuchPhone))
  next_right (Push phone) act is may =
      subst (λ (a : Act). After (Push phone) (next m a)) (sym is)
      (cond_both (ltb phone (length m.phones)) _ _ (After (Push phone)) (λ _. pushed_right phone) (λ _. stays_right (Push phone) NoSuchPhone))
  next_right (Tick seconds) act is may =
      subst (λ (a : Act). After (Tick seconds) (next m a)) (sym is)
      (cond_both (ltb (m.clock + seconds) end_of_2099) _ _ (After (Tick seconds))
      (λ _. record { sent = right.sent; numbers = right.numbers; senders = right.senders; outs = right.outs; few = right.few; held = right.held; own = right.own })
      (λ _. stays_right (Tick seconds) ClockEnd))
  next_right (Inject place octets) act is may = absurd ((may 0).plain)

  pub acts_right : (event : Event) (act : Act) → IsMetAs (width_of m.senders.wide) event act → IsHonest m event → (told : Told) (put : List Sent) (n : Machine) → Acts m act told put n
      → AreTracesOf (traced t m.senders.reject event told (brought_at m event) (length put)) n
  acts_right event act is may told put n (inl s) =
      subst (λ v. AreTracesOf (traced t m.senders.reject event v (brought_at m event) (length put)) n) s.0
      (subst (λ l. AreTracesOf (traced t m.senders.reject event (next m act).answer (brought_at m event) (length l)) n) s.1
      (subst (AreTracesOf (traced t m.senders.reject event (next m act).answer (brought_at m event) (length (next m act).put))) s.2 (next_right event act is may)))
  acts_right event act is may told put n (inr s) =
      subst (λ v. AreTracesOf (traced t m.senders.reject event v (brought_at m event) (length put)) n) s.1
      (subst (λ (l : List Sent). AreTracesOf (traced t m.senders.reject event no_memory (brought_at m event) (length l)) n) s.2
      (subst (AreTracesOf (traced t m.senders.reject event no_memory (brought_at m event) 0)) s.3
      (fault_still t m right m.senders.reject event (brought_at m event) (Party dropped.Memory))))
