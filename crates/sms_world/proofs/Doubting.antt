-- What right notes of packets and acceptances tell of an event is so.
use Rattle.std.proofs.Common.{◌≡◌, ℕ, zero, suc, ◌+◌, ◌-◌, ◌<◌, ◌≤◌, Bool, true, false, cond, not, ◌&&◌, ◌||◌, eqb, ltb, List, [], ◌∷◌, map, length, Option, Some, None, refl, sym, ap, ◌∙◌, subst, arith, inl, inr, get_or, Contains}
use Rattle.std.specs.List.{AllByRecursion}
use Rattle.std.specs.Option.{option_map, unwrap_or}
use Rattle.std.proofs.lemmas.Bool.{and_parts, eqb-true, eq-eqb, not-true}
use Rattle.sms_field.specs.Address.Value.{AddressValue}
use Rattle.sms_field.specs.Time.Computed.{end_of}
use Rattle.sms_tpdu.specs.Submit.{Submission}
use Rattle.sms_relay.specs.declared.side.Side.{Side}
use Rattle.sms_relay.specs.declared.side.Side.TheVariants.{FromPhone, ToPhone}
use Rattle.sms_message.specs.declared.message.TransferUnit.TheVariants.{Submit, Deliver, OtherUnit, BadUnit}
use Rattle.sms_message.specs.declared.message.Report.{Report}
use Rattle.sms_message.specs.declared.message.Relay.TheVariants.{Transfer, Answer, UnknownType, Unreadable}
use Rattle.sms_message.specs.declared.message.Message.{Message}
use Rattle.sms_message.specs.declared.message.Message.TheVariants.{NotCp, Note, Tiny, Data}
use Rattle.sms_message.specs.declared.message.Tag.{Tag}
use Rattle.sms_message.specs.Address.{phone_at, address_of}
use Rattle.sms_message.specs.Message.{Origin, tag_of, same_tag}
use Rattle.sms_centre.specs.Centre.State.{Acceptance}
use Rattle.sms_party.specs.Sent.{nth, Place, Centre, Phone, Sent}
use Rattle.sms_party.specs.Sender.Texts.{Text}
use Rattle.sms_world.specs.declared.doubt.Ground.{Ground}
use Rattle.sms_world.specs.declared.doubt.Ground.TheVariants.{AnswerToAnother, ReferenceUsedAgain, Injected}
use Rattle.sms_world.specs.declared.notes.mark.Part.{Part}
use Rattle.sms_world.specs.declared.order.TextSegment.{TextSegment}
use Rattle.sms_world.specs.Accepted.Answers.{AnswersAnswerWhatTheyName}
use Rattle.sms_world.specs.Accepted.References.{ReferencesAreNotUsedAgain}
use Rattle.sms_world.specs.Accepted.{IsHonestAt}
use Rattle.sms_world.specs.Breaches.{Brings}
use Rattle.sms_world.specs.Doubts.{IsHonest, Shakes}
use Rattle.sms_world.specs.Machine.{Machine}
use Rattle.sms_world.specs.Machine.Event.{Event, Compose, Carry, Timeout, Push, Tick, Inject}
use Rattle.sms_world.specs.Machine.Next.{packet}
use Rattle.sms_world.specs.Orderly.Brought.{BringsSubmission, BringsAnswer}
use Rattle.sms_world.specs.Traces.{Trace, Seen, Submits, Answers, Other, Brought, part_of, segment_up, trace_of, held_of, same_part, is_other_held, end_in, seen_submission, seen_of, brought_of, brought_to, brought_at, IsOfItsPhone, Traces, AreTracesOf, trace_at, is_putting, is_to_another, answer_ground, used_again, reference_ground, seen_ground, carried_ground, ground_at}
use Rattle.sms_world.specs.Traced.{IsGround}
use Rattle.sms_world.proofs.Accepted.{same_tag_is, phone_address}
use Rattle.sms_world.proofs.Checked.{nth_map}
use Rattle.sms_world.proofs.Entries.{each_at}
use Rattle.sms_world.proofs.HeldTold.{same_part_own, OtherHeld, other_held, none_held}
use Rattle.sms_world.proofs.Once.{packet_sent}
use Rattle.sms_world.proofs.Stamped.{Fits}
use Rattle.sms_world.proofs.TracesKept.{trace_there}

-- ---- which message it is

record IsAnswer (v : Message) (tag : Tag) : Type 0 where
  side : Side
  cause : Option ℕ
  report : Option Report
  is : v ≡ Data true tag (Answer side cause report)

answer_seen : (phones : List AddressValue) (now : ℕ) (v : Message) (tag : Tag) → seen_of phones now v ≡ Answers tag → IsAnswer v tag
answer_seen phones now NotCp tag e = cc
answer_seen phones now (Note flag value) tag e = cc
answer_seen phones now (Tiny flag value) tag e = cc
answer_seen phones now (Data true t (Answer side cause report)) tag e =
    let q : t ≡ tag = cc in record { side = side; cause = cause; report = report; is = ap (λ (x : Tag). Data true x (Answer side cause report)) q }
answer_seen phones now (Data true t (Transfer side unit)) tag e = cc
answer_seen phones now (Data true t UnknownType) tag e = cc
answer_seen phones now (Data true t Unreadable) tag e = cc
answer_seen phones now (Data false t (Transfer FromPhone (Submit s))) tag e = cc
answer_seen phones now (Data false t (Transfer FromPhone (Deliver d))) tag e = cc
answer_seen phones now (Data false t (Transfer FromPhone OtherUnit)) tag e = cc
answer_seen phones now (Data false t (Transfer FromPhone BadUnit)) tag e = cc
answer_seen phones now (Data false t (Transfer ToPhone unit)) tag e = cc
answer_seen phones now (Data false t (Answer side cause report)) tag e = cc
answer_seen phones now (Data false t UnknownType) tag e = cc
answer_seen phones now (Data false t Unreadable) tag e = cc

record IsSubmission (phones : List AddressValue) (v : Message) (reject : Bool) (reference : ℕ) (recipient : Option ℕ) : Type 0 where
  tag : Tag
  s : Submission
  is : v ≡ Data false tag (Transfer FromPhone (Submit s))
  reject_is : s.reject ≡ reject
  reference_is : s.reference ≡ reference
  recipient_is : phone_at phones s.target ≡ recipient

submission_seen : (phones : List AddressValue) (now : ℕ) (v : Message) (reject : Bool) (reference : ℕ) (recipient ends : Option ℕ)
    → seen_of phones now v ≡ Submits reject reference recipient ends → IsSubmission phones v reject reference recipient
submission_seen phones now NotCp reject reference recipient ends e = cc
submission_seen phones now (Note flag value) reject reference recipient ends e = cc
submission_seen phones now (Tiny flag value) reject reference recipient ends e = cc
submission_seen phones now (Data true t (Answer side cause report)) reject reference recipient ends e = cc
submission_seen phones now (Data true t (Transfer side unit)) reject reference recipient ends e = cc
submission_seen phones now (Data true t UnknownType) reject reference recipient ends e = cc
submission_seen phones now (Data true t Unreadable) reject reference recipient ends e = cc
submission_seen phones now (Data false t (Transfer FromPhone (Submit s))) reject reference recipient ends e =
    let x : s.reject ≡ reject = cc in
    let y : s.reference ≡ reference = cc in
    let z : phone_at phones s.target ≡ recipient = cc in
    record { tag = t; s = s; is = refl; reject_is = x; reference_is = y; recipient_is = z }
submission_seen phones now (Data false t (Transfer FromPhone (Deliver d))) reject reference recipient ends e = cc
submission_seen phones now (Data false t (Transfer FromPhone OtherUnit)) reject reference recipient ends e = cc
submission_seen phones now (Data false t (Transfer FromPhone BadUnit)) reject reference recipient ends e = cc
submission_seen phones now (Data false t (Transfer ToPhone unit)) reject reference recipient ends e = cc
submission_seen phones now (Data false t (Answer side cause report)) reject reference recipient ends e = cc
submission_seen phones now (Data false t UnknownType) reject reference recipient ends e = cc
submission_seen phones now (Data false t Unreadable) reject reference recipient ends e = cc

-- ---- tests

-- the other way round
not_to_another : (outs last : ℕ) (putting : Option ℕ) → outs ≡ suc last → is_to_another outs (tag_of last) putting ≡ false → putting ≡ Some last
not_to_another outs last putting e f = go (is_putting putting last) refl (subst (λ n. is_to_another n (tag_of last) putting ≡ false) e f)
  where
    own : same_tag (tag_of last) (tag_of last) ≡ true
    own = rw (eq-eqb (tag_of last).value (tag_of last).value refl, eq-eqb (tag_of last).reference (tag_of last).reference refl) refl

    is : (v : Option ℕ) → is_putting v last ≡ true → v ≡ Some last
    is None g = cc
    is (Some k) g = ap (λ (i : ℕ). Some i) (eqb-true k last g)

    go : (b : Bool) → is_putting putting last ≡ b → (same_tag (tag_of last) (tag_of last) && not (is_putting putting last)) ≡ false → putting ≡ Some last
    go true g h = is putting g
    go false g h =
        let q : (same_tag (tag_of last) (tag_of last) && not (is_putting putting last)) ≡ true = rw (own, g) refl in
        let z : true ≡ false = sym q ∙ h in cc

-- an answer to another than the last
record ToAnother (outs : ℕ) (tag : Tag) (putting : Option ℕ) : Type 0 where
  last : ℕ
  outs_is : outs ≡ suc last
  tag_is : tag ≡ tag_of last
  other : putting ≡ Some last → ⊥

to_another : (outs : ℕ) (tag : Tag) (putting : Option ℕ) → is_to_another outs tag putting ≡ true → ToAnother outs tag putting
to_another zero tag putting e = cc
to_another (suc last) tag putting e =
    let p = and_parts (same_tag tag (tag_of last)) (not (is_putting putting last)) e in
    record {
      last = last;
      outs_is = refl;
      tag_is = same_tag_is tag (tag_of last) p.0;
      other = λ f.
          let q : is_putting putting last ≡ true = subst (λ v. is_putting v last ≡ true) (sym f) (eq-eqb last last refl) in
          let z : true ≡ false = sym q ∙ not-true (is_putting putting last) p.1 in cc;
    }

module _ (t : Traces) (m : Machine) (right : AreTracesOf t m) (fit : AllByRecursion (Fits m.phones) m.centre.accepted) where
  -- ---- where nothing is told, the conditions hold

  module _ (k : ℕ) (none : ground_at t m.clock (Carry k) (brought_at m (Carry k)) ≡ None) where
    -- what is told of the packet
    told_of : (x : Sent) → packet m k ≡ Some x
        → seen_ground t m.clock (brought_of m.phones m.clock x).up (brought_of m.phones m.clock x).phone (brought_of m.phones m.clock x).seen (trace_of x) ≡ None
    told_of x e =
        subst (λ v. carried_ground t m.clock v (Some (brought_of m.phones m.clock x)) ≡ None) (trace_there_of k x e)
        (subst (λ b. carried_ground t m.clock (trace_at t.sent k) b ≡ None) (ap (option_map (brought_of m.phones m.clock)) e) none)
      where
        trace_there_of : (i : ℕ) (y : Sent) → packet m i ≡ Some y → trace_at t.sent i ≡ Some (trace_of y)
        trace_there_of i y f = trace_there t m right i y f

    same_number : (number : ℕ) → Carry k ≡ Carry number → number ≡ k
    same_number number e = let q : k ≡ number = cc in sym q

    answers_hold : (phone : ℕ) → AnswersAnswerWhatTheyName phone m (Carry k)
    answers_hold phone last putting outs b =
        not_to_another (t.outs phone) last putting (right.outs phone ∙ outs)
        (none_of (is_to_another (t.outs phone) (tag_of last) putting)
        (told_of _ (subst (λ i. packet m i ≡ Some (record { message = Data true (tag_of last) (Answer b.side b.cause b.report); to = Phone phone; origin = b.origin; putting = putting })) (same_number b.number b.carries) b.is)))
      where
        none_of : (v : Bool) → cond {A = Option Ground} v (Some (AnswerToAnother phone)) None ≡ None → v ≡ false
        none_of true e = cc
        none_of false e = refl

    references_hold : (phone : ℕ) → ReferencesAreNotUsedAgain phone m (Carry k)
    references_hold phone s o b rejects a there lasts phone_is reference target =
        let told = told_of _ (subst (λ i. packet m i ≡ Some (record { message = Data false b.tag (Transfer FromPhone (Submit s)); to = Centre phone; origin = Some o; putting = b.putting })) (same_number b.number b.carries) b.is) in
        let recipient : phone_at m.phones s.target ≡ Some a.recipient = ap (phone_at m.phones) (sym target) ∙ (each_at (Fits m.phones) m.centre.accepted a fit there).recipient in
        let told' = subst (λ (r : Option ℕ). reference_ground t m.clock phone s.reject s.reference r (Some (part_of o)) ≡ None) recipient told in
        let free = none_of (is_other_held (t.held phone s.reference a.recipient) (Some (part_of o)) m.clock) told' in
        let all = none_held m.centre.accepted phone s.reference a.recipient (Some (part_of o)) m.clock
        (sym (ap (λ h. is_other_held h (Some (part_of o)) m.clock) (right.held phone s.reference a.recipient)) ∙ free) in
        origin_is a.origin (each_at _ m.centre.accepted a all there phone_is reference refl lasts)
      where
        none_of : (v : Bool) → cond {A = Option Ground} (s.reject && v) (Some (used_again t phone (part_of o))) None ≡ None → v ≡ false
        none_of false e = refl
        none_of true e = go s.reject rejects e
          where
            go : (r : Bool) → r ≡ true → cond {A = Option Ground} (r && true) (Some (used_again t phone (part_of o))) None ≡ None → true ≡ false
            go true f g = cc
            go false f g = cc

        origin_is : (v : Option Origin) → option_map part_of v ≡ Some (part_of o) → v ≡ Some o
        origin_is None e = cc
        origin_is (Some q) e =
            let p : part_of q ≡ part_of o = cc in
            let x : q.text ≡ o.text = ap (λ (y : Part). y.text) p in
            let z : q.segment ≡ o.segment = ap (λ (y : Part). y.segment) p in
            λ i. Some (record { text = x i; segment = z i })

    carry_honest : IsHonest m (Carry k)
    carry_honest phone = record { answers = answers_hold phone; references = references_hold phone; plain = tt }

  -- ---- what is told is so

  abbrev Tells : ℕ → Option Ground → Type 0
  Tells k None = Unit {0}
  Tells k (Some why) = Shakes why m (Carry k)

  module _ (k : ℕ) (x : Sent) (there : packet m k ≡ Some x) where
    answer_shakes : (phone : ℕ) (tag : Tag) → x.to ≡ Phone phone → IsAnswer x.message tag → Tells k (answer_ground t phone tag x.putting)
    answer_shakes phone tag to w = go (is_to_another (t.outs phone) tag x.putting) refl
      where
        same : x ≡ record { message = Data true tag (Answer w.side w.cause w.report); to = Phone phone; origin = x.origin; putting = x.putting }
        same = λ i. record { message = w.is i; to = to i; origin = x.origin; putting = x.putting }

        brings : BringsAnswer m (Carry k) phone tag x.putting
        brings = record { number = k; carries = refl; side = w.side; cause = w.cause; report = w.report; origin = x.origin; is = there ∙ ap (λ (y : Sent). Some y) same }

        go : (b : Bool) → is_to_another (t.outs phone) tag x.putting ≡ b → Tells k (cond b (Some (AnswerToAnother phone)) None)
        go false e = tt
        go true e = λ h.
            let a = to_another (t.outs phone) tag x.putting e in
            a.other (h a.last x.putting (sym (right.outs phone) ∙ a.outs_is) (subst (λ (v : Tag). BringsAnswer m (Carry k) phone v x.putting) a.tag_is brings))

    module _ (phone : ℕ) (to : x.to ≡ Centre phone) (reject : Bool) (reference r : ℕ) (w : IsSubmission m.phones x.message reject reference (Some r)) (o : Origin) (from : x.origin ≡ Some o) where
      brought : BringsSubmission m (Carry k) phone w.s (Some o)
      brought = record { number = k; carries = refl; tag = w.tag; putting = x.putting; is = there ∙ ap (λ (y : Sent). Some y) same }
        where
          same : x ≡ record { message = Data false w.tag (Transfer FromPhone (Submit w.s)); to = Centre phone; origin = Some o; putting = x.putting }
          same = λ i. record { message = w.is i; to = to i; origin = from i; putting = x.putting }

      breaks : reject ≡ true → is_other_held (t.held phone reference r) (Some (part_of o)) m.clock ≡ true → ReferencesAreNotUsedAgain phone m (Carry k) → ⊥
      breaks rejects e h =
          let other = other_held m.centre.accepted phone reference r (Some (part_of o)) m.clock
          (sym (ap (λ v. is_other_held v (Some (part_of o)) m.clock) (right.held phone reference r)) ∙ e) in
          let a = other.a in
          let target : a.submission.target ≡ w.s.target
          = sym (phone_address m.phones a.submission.target a.recipient (each_at (Fits m.phones) m.centre.accepted a fit other.there).recipient)
          ∙ phone_address m.phones w.s.target a.recipient (w.recipient_is ∙ ap (λ (i : ℕ). Some i) (sym other.recipient_is)) in
          let z : a.origin ≡ Some o = h w.s o brought (w.reject_is ∙ rejects) a other.there other.lasts other.phone_is (other.reference_is ∙ sym w.reference_is) target in
          let q : true ≡ false = sym (same_part_own (option_map part_of a.origin) (Some (part_of o)) (ap (option_map part_of) z)) ∙ other.other in cc

      segment_brought : Brings m (Carry k) (record { phone = phone; text = unwrap_or (nth t.numbers o.text) 0; segment = o.segment })
      segment_brought =
          let own : IsOfItsPhone m.senders.texts x.to x.origin x.message = packet_sent m (λ (y : Sent). IsOfItsPhone m.senders.texts y.to y.origin y.message) k right.own x there in
          let typed : (u : Text) × (nth m.senders.texts o.text ≡ Some u) × (u.phone ≡ phone)
          = subst (λ (v : Message). IsOfItsPhone m.senders.texts (Centre phone) (Some o) v) w.is
          (subst (λ (v : Option Origin). IsOfItsPhone m.senders.texts (Centre phone) v x.message) from (subst (λ (v : Place). IsOfItsPhone m.senders.texts v x.origin x.message) to own)) in
          record {
            origin = o;
            text = typed.0;
            there = typed.1;
            typed_at = typed.2;
            numbered = sym (ap (λ (l : List ℕ). unwrap_or (nth l o.text) 0) right.numbers
                ∙ ap (λ (v : Option ℕ). unwrap_or v 0) (nth_map (λ (y : Text). y.number) m.senders.texts o.text ∙ ap (option_map (λ (y : Text). y.number)) typed.1));
            as_segment = refl;
            comes = inl (phone, w.s, brought);
          }

    reference_shakes : (phone : ℕ) (reject : Bool) (reference : ℕ) (recipient : Option ℕ) → x.to ≡ Centre phone → IsSubmission m.phones x.message reject reference recipient
        → Tells k (reference_ground t m.clock phone reject reference recipient (trace_of x).segment)
    reference_shakes phone reject reference None to w = tt
    reference_shakes phone reject reference (Some r) to w =
        subst (λ (v : Place). Tells k (reference_ground t m.clock phone reject reference (Some r) (segment_up v x.origin))) (sym to) (go x.origin refl)
      where
        by : (o : Origin) → x.origin ≡ Some o → (b : Bool) → (reject && is_other_held (t.held phone reference r) (Some (part_of o)) m.clock) ≡ b
            → Tells k (cond b (Some (used_again t phone (part_of o))) None)
        by o from false e = tt
        by o from true e =
            let p = and_parts reject (is_other_held (t.held phone reference r) (Some (part_of o)) m.clock) e in
            (breaks phone to reject reference r w o from p.0 p.1, segment_brought phone to reject reference r w o from)

        go : (origin : Option Origin) → x.origin ≡ origin → Tells k (reference_ground t m.clock phone reject reference (Some r) (option_map part_of origin))
        go None from = tt
        go (Some o) from = by o from (reject && is_other_held (t.held phone reference r) (Some (part_of o)) m.clock) refl

    seen_shakes : Tells k (seen_ground t m.clock (brought_of m.phones m.clock x).up (brought_of m.phones m.clock x).phone (brought_of m.phones m.clock x).seen (trace_of x))
    seen_shakes = go x.to refl (seen_of m.phones m.clock x.message) refl
      where
        go : (to : Place) → x.to ≡ to → (seen : Seen) → seen_of m.phones m.clock x.message ≡ seen
            → Tells k (seen_ground t m.clock (brought_to to seen).up (brought_to to seen).phone (brought_to to seen).seen (trace_of x))
        go (Centre phone) to (Submits reject reference recipient ends) e =
            reference_shakes phone reject reference recipient to (submission_seen m.phones m.clock x.message reject reference recipient ends e)
        go (Centre phone) to (Answers tag) e = tt
        go (Centre phone) to Other e = tt
        go (Phone phone) to (Submits reject reference recipient ends) e = tt
        go (Phone phone) to (Answers tag) e = answer_shakes phone tag to (answer_seen m.phones m.clock x.message tag e)
        go (Phone phone) to Other e = tt

  carry_tells : (k : ℕ) → Tells k (ground_at t m.clock (Carry k) (brought_at m (Carry k)))
  carry_tells k = go (packet m k) refl
    where
      nobody : (v : Option Trace) → Tells k (carried_ground t m.clock v None)
      nobody None = tt
      nobody (Some trace) = tt

      go : (v : Option Sent) → packet m k ≡ v → Tells k (carried_ground t m.clock (trace_at t.sent k) (option_map (brought_of m.phones m.clock) v))
      go None e = nobody (trace_at t.sent k)
      go (Some x) e =
          subst (λ v. Tells k (carried_ground t m.clock v (Some (brought_of m.phones m.clock x)))) (sym (trace_there t m right k x e)) (seen_shakes k x e)

  carry_told : (k : ℕ) → IsGround (ground_at t m.clock (Carry k) (brought_at m (Carry k))) m (Carry k)
  carry_told k = go (ground_at t m.clock (Carry k) (brought_at m (Carry k))) refl (carry_tells k)
    where
      go : (v : Option Ground) → ground_at t m.clock (Carry k) (brought_at m (Carry k)) ≡ v → Tells k v → IsGround v m (Carry k)
      go None e h = carry_honest k e
      go (Some why) e h = h

  pub ground_told : (event : Event) → IsGround (ground_at t m.clock event (brought_at m event)) m event
  ground_told (Carry k) = carry_told k
  ground_told (Inject place octets) = λ r. r
  ground_told (Compose phone target characters) = λ p. record { answers = λ last putting outs b. let q = b.carries in cc; references = λ s o b. let q = b.carries in absurd cc; plain = tt }
  ground_told (Timeout phone) = λ p. record { answers = λ last putting outs b. let q = b.carries in cc; references = λ s o b. let q = b.carries in absurd cc; plain = tt }
  ground_told (Push phone) = λ p. record { answers = λ last putting outs b. let q = b.carries in cc; references = λ s o b. let q = b.carries in absurd cc; plain = tt }
  ground_told (Tick seconds) = λ p. record { answers = λ last putting outs b. let q = b.carries in cc; references = λ s o b. let q = b.carries in absurd cc; plain = tt }
