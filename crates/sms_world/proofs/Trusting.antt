-- A world that tells whether `accepted` means accepted goes on at each event.
use Rattle.std.proofs.Common.{◌≡◌, ℕ, zero, suc, min, ◌+◌, ◌-◌, ◌^◌, ◌<◌, ◌≤◌, Bool, true, false, not, cond, eqb, List, [], ◌∷◌, ◌++◌, length, length-append, Option, Some, None, is_some, Ok, Err, refl, sym, ap, ◌∙◌, subst, arith, ◌⊎◌, inl, inr}
use Rattle.std.specs.List.{AllByRecursion, slice_get}
use Rattle.std.specs.Option.{option_map}
use Rattle.std.proofs.lemmas.List.{append-nil, length-reverse}
use Rattle.sms_field.specs.Address.Value.{AddressValue}
use Rattle.sms_message.specs.Address.{are_distinct}
use Rattle.sms_message.specs.declared.outcome.Outcome.{Outcome}
use Rattle.sms_message.specs.declared.outcome.Dropped.TheVariants.{Memory}
use Rattle.sms_party.specs.Sent.{nth, Place, Centre, Phone, Sent}
use Rattle.sms_party.specs.Sender.Texts.{new_sender}
use Rattle.sms_centre.specs.Centre.State.{new_centre}
use Rattle.sms_script.specs.Transcript.Lines.{PacketValue}
use Rattle.sms_script.specs.declared.script.limits.Limits.{Limits}
use Rattle.sms_world.specs.declared.fault.WorldFault.{WorldFault}
use Rattle.sms_world.specs.declared.fault.WorldFault.TheVariants.{Party}
use Rattle.sms_world.specs.declared.doubt.Doubt.{Doubt}
use Rattle.sms_world.specs.declared.doubt.Ground.{Ground}
use Rattle.sms_world.specs.declared.doubt.Ground.TheVariants.{AnswerToAnother, ReferenceUsedAgain, Injected}
use Rattle.sms_world.specs.declared.traces.TraceNotes.{TraceNotes}
use Rattle.sms_world.specs.declared.world.way.Way.{Way}
use Rattle.sms_world.specs.Accepted.{IsHonestAt}
use Rattle.sms_world.specs.Determined.{RunsAreDetermined}
use Rattle.sms_world.specs.Doubts.{IsHonest, HonestRun, Shakes, FirstDoubt, IsMeant}
use Rattle.sms_world.specs.Inside.Below.{Below}
use Rattle.sms_world.specs.Inside.Asked.{way_at}
use Rattle.sms_world.specs.Inside.NotesValue.{IsCounted}
use Rattle.sms_world.specs.Inside.TraceFollowed.{AreTraceRows, doubt_after, HonestStep, FollowsTraces}
use Rattle.sms_world.specs.Inside.TraceValue.{traces_in, trace_tables_in, IsBroughtFor, IsTraceFor, IsCountedAt, IsBroughtBy}
use Rattle.sms_world.specs.Ledger.{SenderNote, SenderNoted}
use Rattle.sms_world.specs.Machine.{Machine, start}
use Rattle.sms_world.specs.Machine.Event.{Event, Compose, Carry, Timeout, Push, Tick, Inject}
use Rattle.sms_world.specs.Machine.Next.{packet}
use Rattle.sms_world.specs.Machine.Step.{Step, RunWith, Run}
use Rattle.sms_world.specs.Told.{Told}
use Rattle.sms_world.specs.TraceTables.{traces_of}
use Rattle.sms_world.specs.Traced.{call_traced, with_traces, taken_traced, down_traced, way_traced, carry_traced, traced, IsGround, TracesTell}
use Rattle.sms_world.specs.Traces.{Trace, Seen, Submits, Answers, Other, Brought, seen_of, brought_of, brought_to, brought_at, Traces, new_traces, TraceAlike, AreTracesOf, trace_at, seen_ground, carried_ground, ground_at}
use Rattle.sms_world.specs.Trusted.{TrustedValue, TracesFollow, TrustsBy, ComesTrusted, IsTrusted, BeginsTrusted, GoesOnTrusted, AcceptedIsTold, AcceptedMeansAccepted}
use Rattle.sms_world.specs.Watched.{WatchedValue, LedTo, IsWatched, ComesOf, BeginsWatched, GoesOnWatched}
use Rattle.sms_world.specs.World.Claims.{AcceptedWereAccepted}
use Rattle.sms_world.specs.World.Parties.{place_at}
use Rattle.sms_world.specs.World.Standing.{ArePacketsOf, StandsFor}
use Rattle.sms_world.specs.World.Steps.{Steps}
use Rattle.sms_world.specs.World.Value.{WorldValue}
use Rattle.sms_world.proofs.Accepted.{run_true}
use Rattle.sms_world.proofs.Alike.{for_nobody}
use Rattle.sms_world.proofs.Doubting.{ground_told}
use Rattle.sms_world.proofs.Replaced.{not_changed}
use Rattle.sms_world.proofs.Counted.{few_accepted}
use Rattle.sms_world.proofs.Factual.{as_many as as_many_packets, put_nothing, how_many, phone_there, goes_so}
use Rattle.sms_world.proofs.FewOut.{step_few}
use Rattle.sms_world.proofs.Followed.{sender_row}
use Rattle.sms_world.proofs.Fitting.{run_fits}
use Rattle.sms_world.proofs.Stamped.{run_stamped}
use Rattle.sms_world.proofs.TracesKept.{acts_right}

-- ---- runs

pub plain_run : (first : Machine) (past : List (Event × Told)) (m : Machine) → HonestRun first past m → Run first past m
plain_run first [] m h = h
plain_run first (e ∷ past) m h = (h.0, plain_run first past h.0 h.1, tt, h.3)

honest_at : (phone : ℕ) (first : Machine) (past : List (Event × Told)) (m : Machine) → HonestRun first past m → RunWith (IsHonestAt phone) first past m
honest_at phone first [] m h = h
honest_at phone first (e ∷ past) m h = (h.0, honest_at phone first past h.0 h.1, h.2 phone, h.3)

-- ---- the laws

pub traces_tell : TracesTell
traces_tell =
    record {
      tell = λ limits phones past m distinct run t right event. ground_told t m right (run_stamped IsHonest limits phones past m run).fit event;
      stay = λ limits phones past m distinct run t right event may told put n step.
          acts_right t m right (run_true 0 limits phones past m (honest_at 0 (start limits phones) past m run)).sound event step.0 step.1 may told put n step.2;
    }

-- ---- alike notes

pub same : (t : Traces) → TraceAlike t t
same t = record { sent = refl; numbers = refl; sender = λ p. refl; outs = λ p. refl; held = λ p r q. refl }

pub flip : (t u : Traces) → TraceAlike t u → TraceAlike u t
flip t u a = record { sent = sym a.sent; numbers = sym a.numbers; sender = λ p. sym (a.sender p); outs = λ p. sym (a.outs p); held = λ p r q. sym (a.held p r q) }

pub joined : (t u v : Traces) → TraceAlike t u → TraceAlike u v → TraceAlike t v
joined t u v a b =
    record {
      sent = b.sent ∙ a.sent;
      numbers = b.numbers ∙ a.numbers;
      sender = λ p. b.sender p ∙ a.sender p;
      outs = λ p. b.outs p ∙ a.outs p;
      held = λ p r q. b.held p r q ∙ a.held p r q;
    }

pub alike_right : (t u : Traces) (m : Machine) → TraceAlike t u → AreTracesOf t m → AreTracesOf u m
alike_right t u m a h =
    record {
      sent = a.sent ∙ h.sent;
      numbers = a.numbers ∙ h.numbers;
      senders = λ p. subst (SenderNoted (m.senders.sender p)) (sym (a.sender p)) (h.senders p);
      outs = λ p. a.outs p ∙ h.outs p;
      few = h.few;
      held = λ p r q. a.held p r q ∙ h.held p r q;
      own = h.own;
    }

pub new_right : (limits : Limits) (phones : List AddressValue) → AreTracesOf new_traces (start limits phones)
unfolding start new_centre new_sender
new_right limits phones =
    record {
      sent = refl;
      numbers = refl;
      senders = λ p. record { pending = refl; some = omega arith; accepted = refl };
      outs = λ p. refl;
      few = λ p. omega arith;
      held = λ p r q. refl;
      own = tt;
    }

-- ---- the doubt

pub none_told : (o : Option Doubt) (r : Bool) → is_some o ≡ not r → r ≡ true → o ≡ None
none_told None r e t = refl
none_told (Some d) r e t = let q : true ≡ false = e ∙ ap not t in cc

pub honest_of : (o : Option Doubt) (r : Bool) → is_some o ≡ not r → o ≡ None → r ≡ true
honest_of o true e none = refl
honest_of o false e none = let q : false ≡ true = sym (ap is_some none) ∙ e in cc

no_doubt : (doubt : Option Doubt) (number : ℕ) (why : Option Ground) → doubt_after doubt number why ≡ None → (doubt ≡ None) × (why ≡ None)
no_doubt (Some d) number why e = cc
no_doubt None number None e = (refl, refl)
no_doubt None number (Some g) e = cc

shaken : (why : Ground) (m : Machine) (event : Event) → Shakes why m event → IsHonest m event → ⊥
shaken (AnswerToAnother phone) m event s h = s (h phone).answers
shaken (ReferenceUsedAgain x) m event s h = s.0 (h x.phone).references
shaken Injected m event s h = s (h 0).plain

-- ---- an event more

module _ (law : TracesTell) (determined : RunsAreDetermined) where
  -- the last state of an honest run is that of the run
  same_before : (limits : Limits) (phones : List AddressValue) (past : List (Event × Told)) (m n : Machine) → HonestRun (start limits phones) past n → Run (start limits phones) past m → n ≡ m
  same_before limits phones past m n h r = determined.run (start limits phones) past n m (plain_run (start limits phones) past n h) r

  module _ (limits : Limits) (phones : List AddressValue) (past : List (Event × Told)) (last : Machine) (run : Run (start limits phones) past last) (event : Event) (told : Told) (n : Machine) where
    abbrev Told' : Option Doubt → Type 0
    Told' d = IsMeant (start limits phones) ((event, told) ∷ past) n d

    -- it came before
    doubted : (d : Doubt) → IsMeant (start limits phones) past last (Some d) → Told' (Some d)
    doubted d h = (
      record {
        later = (event, told) ∷ h.0.later;
        event = h.0.event;
        told = h.0.told;
        earlier = h.0.earlier;
        parts = ap (λ l. (event, told) ∷ l) h.0.parts;
        before = h.0.before;
        honest = h.0.honest;
        shakes = h.0.shakes;
        number = h.0.number;
      },
      λ r. h.1 (subst (HonestRun (start limits phones) past) (same_before limits phones past last r.0 r.1 run) r.1),
    )

    -- it comes now
    doubts : (number : ℕ) (why : Ground) → HonestRun (start limits phones) past last → Shakes why last event → number ≡ min (suc (length past)) (2 ^ 64 - 1)
        → Told' (Some (record { event = number; why = why }))
    doubts number why h s e = (
      record { later = []; event = event; told = told; earlier = past; parts = refl; before = last; honest = h; shakes = s; number = e },
      λ r. shaken why last event s (subst (λ (v : Machine). IsHonest v event) (same_before limits phones past last r.0 r.1 run) r.2),
    )

  module _ (old new : WatchedValue) (t u : Traces) (doubt after : Option Doubt) (event : Event) (told : Told) (brought : Option Brought)
      (steps : Steps event old.world told new.world) (goes : GoesOnWatched event old told new) (brings : IsBroughtBy old.world event brought)
      (number : ℕ) (counts : number ≡ min (old.events + 1) (2 ^ 64 - 1)) (is : after ≡ doubt_after doubt number (ground_at t old.world.clock event brought))
      (follows : after ≡ None → FollowsTraces event old.world t told new.world u) where
    pub goes_by : (limits : Limits) (phones : List AddressValue) (past : List (Event × Told)) (last : Machine) → Run (start limits phones) past last
        → TrustsBy old t doubt limits phones past last
        → (n : Machine) × Run (start limits phones) ((event, told) ∷ past) n × TrustsBy new u after limits phones ((event, told) ∷ past) n
    goes_by limits phones past last run by = (
      s.1,
      on,
      record { led = led; tells = (told_now after refl).0; notes = (told_now after refl).1 },
    )
      where
        w : ComesOf limits phones ((event, told) ∷ past) new
        w = goes limits phones past (last, run, by.led)

        s : (put : List Sent) × (n : Machine) × Step last event told put n × StandsFor new.world n
            × (packets : List PacketValue) × (new.world.packets ≡ old.world.packets ++ packets) × ArePacketsOf packets put
        s = steps last by.led.stands

        on : Run (start limits phones) ((event, told) ∷ past) s.1
        on = (last, run, tt, (s.0, s.2))

        led : LedTo new limits phones ((event, told) ∷ past) s.1
        led = subst (λ (v : Machine). LedTo new limits phones ((event, told) ∷ past) v) (determined.run (start limits phones) ((event, told) ∷ past) w.0 s.1 w.1 on) w.2

        why : ground_at t old.world.clock event brought ≡ ground_at t last.clock event (brought_at last event)
        why = ap (λ now. ground_at t now event brought) (sym by.led.stands.clock_is) ∙ ap (ground_at t last.clock event) (brings last by.led.stands)

        counted : number ≡ min (suc (length past)) (2 ^ 64 - 1)
        counted = let c = by.led.counted in omega (arith, c, counts)

        -- what is so while nothing was doubted
        honest_so : doubt ≡ None → HonestRun (start limits phones) past last × AreTracesOf t last × IsGround (ground_at t old.world.clock event brought) last event
        honest_so e =
            let h = subst (IsMeant (start limits phones) past last) e by.tells in
            let r = subst (λ (v : Option Doubt). TracesFollow v t last) e by.notes in
            (h, r, subst (λ v. IsGround v last event) (sym why) (law.tell limits phones past last by.led.watches.distinct h t r event))

        told_now : (a : Option Doubt) → after ≡ a → IsMeant (start limits phones) ((event, told) ∷ past) s.1 after × TracesFollow after u s.1
        told_now None e =
            let none = no_doubt doubt number (ground_at t old.world.clock event brought) (sym is ∙ e) in
            let so = honest_so none.0 in
            let may = subst (λ v. IsGround v last event) none.1 so.2 in (
              subst (IsMeant (start limits phones) ((event, told) ∷ past) s.1) (sym e) (last, so.0, may, (s.0, s.2)),
              subst (λ (v : Option Doubt). TracesFollow v u s.1) (sym e)
                  (follows e s.1 (record {
                    limits = limits;
                    phones = phones;
                    past = past;
                    before = last;
                    distinct = by.led.watches.distinct;
                    run = so.0;
                    reject = by.led.watches.settled.reject_is ∙ sym (ap (λ (l : Limits). l.reject) by.led.watches.settled.limits_are);
                    right = so.1;
                    honest = may;
                    stands = by.led.stands;
                    put = s.0;
                    step = s.2;
                    after = s.3;
                    packets = s.4;
                    more = s.5;
                    are = s.6;
                  })),
            )
        told_now (Some d) e = (go doubt refl (ground_at t old.world.clock event brought) refl, subst (λ (v : Option Doubt). TracesFollow v u s.1) (sym e) tt)
          where
            go : (b : Option Doubt) → doubt ≡ b → (g : Option Ground) → ground_at t old.world.clock event brought ≡ g → IsMeant (start limits phones) ((event, told) ∷ past) s.1 after
            go (Some c) f g k =
                subst (IsMeant (start limits phones) ((event, told) ∷ past) s.1) (sym (is ∙ ap (λ v. doubt_after v number (ground_at t old.world.clock event brought)) f))
                (doubted limits phones past last run event told s.1 c (subst (IsMeant (start limits phones) past last) f by.tells))
            go None f None k = let q : Some d ≡ None = sym e ∙ (is ∙ (ap (λ v. doubt_after v number (ground_at t old.world.clock event brought)) f ∙ ap (doubt_after None number) k)) in cc
            go None f (Some g) k =
                let so = honest_so f in
                subst (IsMeant (start limits phones) ((event, told) ∷ past) s.1)
                (sym (is ∙ (ap (λ v. doubt_after v number (ground_at t old.world.clock event brought)) f ∙ ap (doubt_after None number) k)))
                (doubts limits phones past last run event told s.1 number g so.0 (subst (λ v. IsGround v last event) k so.2) counted)

-- ---- in terms of the tables

trusts_alike : (watched : WatchedValue) (t u : Traces) (doubt : Option Doubt) (limits : Limits) (phones : List AddressValue) (past : List (Event × Told)) (last : Machine) → TraceAlike t u
    → TrustsBy watched t doubt limits phones past last → TrustsBy watched u doubt limits phones past last
trusts_alike watched t u None limits phones past last a h = record { led = h.led; tells = h.tells; notes = alike_right t u last a h.notes }
trusts_alike watched t u (Some d) limits phones past last a h = record { led = h.led; tells = h.tells; notes = tt }

to_tables : (n : TraceNotes) → TraceAlike (traces_in n) (traces_of (trace_tables_in n))
to_tables n = record { sent = refl; numbers = refl; sender = λ p. sender_row n.senders.items p; outs = λ p. refl; held = λ p r q. refl }

module _ (law : TracesTell) (determined : RunsAreDetermined) (old new : WatchedValue) (before later : TraceNotes) (doubt after : Option Doubt) (event : Event) (told : Told) (brought : Option Brought)
    (steps : Steps event old.world told new.world) (goes : GoesOnWatched event old told new) (brings : IsBroughtBy old.world event brought)
    (number : ℕ) (counts : number ≡ min (old.events + 1) (2 ^ 64 - 1)) (is : after ≡ doubt_after doubt number (ground_at (traces_in before) old.world.clock event brought))
    (follows : after ≡ None → FollowsTraces event old.world (traces_in before) told new.world (traces_in later)) where
  goes_tables : (limits : Limits) (phones : List AddressValue) (past : List (Event × Told)) (last : Machine) → Run (start limits phones) past last
      → TrustsBy old (traces_of (trace_tables_in before)) doubt limits phones past last
      → (n : Machine) × Run (start limits phones) ((event, told) ∷ past) n × TrustsBy new (traces_of (trace_tables_in later)) after limits phones ((event, told) ∷ past) n
  goes_tables limits phones past last run by =
      let r = goes_by law determined old new (traces_in before) (traces_in later) doubt after event told brought steps goes brings number counts is follows limits phones past last run
      (trusts_alike old (traces_of (trace_tables_in before)) (traces_in before) doubt limits phones past last (flip (traces_in before) (traces_of (trace_tables_in before)) (to_tables before)) by) in
      (r.0, r.1, trusts_alike new (traces_in later) (traces_of (trace_tables_in later)) after limits phones ((event, told) ∷ past) r.0 (to_tables later) r.2)

  pub goes_trusted : GoesOnTrusted event (record { watched = old; notes = trace_tables_in before; doubt = doubt }) told (record { watched = new; notes = trace_tables_in later; doubt = after })
  goes_trusted limits phones past c = goes_tables limits phones past c.0 c.1 c.2

  pub stays_trusted : IsTrusted (record { watched = old; notes = trace_tables_in before; doubt = doubt }) → IsTrusted (record { watched = new; notes = trace_tables_in later; doubt = after })
  stays_trusted h =
      let r = goes_tables h.limits h.phones h.past h.last h.by.led.watches.run h.by in
      record { limits = h.limits; phones = h.phones; past = (event, told) ∷ h.past; last = r.0; by = r.2 }

-- ---- a fault

module _ (t : Traces) (reject : Bool) (why : WorldFault) where
  no_more : (putting : Option ℕ) → TraceAlike t (with_traces t 0 putting)
  no_more putting = record { sent = refl; numbers = refl; sender = λ p. refl; outs = λ p. refl; held = λ p r q. refl }

  no_call : (phone : ℕ) → TraceAlike t (call_traced t reject phone (Err why))
  no_call phone = record { sent = refl; numbers = refl; sender = λ p. not_changed t.sender phone p; outs = λ p. not_changed t.outs phone p; held = λ p r q. refl }

  no_taking : (phone : ℕ) (seen : Seen) (part : _) (putting : Option ℕ) → TraceAlike t (with_traces (taken_traced t phone seen part (Err why)) 0 putting)
  no_taking phone (Submits again reference recipient ends) part putting = no_more putting
  no_taking phone (Answers tag) part putting = no_more putting
  no_taking phone Other part putting = no_more putting

  no_way : (up : Bool) (phone : ℕ) (seen : Seen) (trace : Trace) → TraceAlike t (way_traced t reject up phone seen trace (Err why) 0)
  no_way true phone seen trace = no_taking phone seen trace.segment trace.putting
  no_way false phone (Submits again reference recipient ends) trace = no_more None
  no_way false phone (Answers tag) trace = no_call phone
  no_way false phone Other trace = no_more None

  no_packet : (trace : Option Trace) (b : Option Brought) → TraceAlike t (carry_traced t reject trace b (Err why) 0)
  no_packet None b = same t
  no_packet (Some trace) None = same t
  no_packet (Some trace) (Some b) = no_way b.up b.phone b.seen trace

  pub fault_alike : (event : Event) (b : Option Brought) → TraceAlike t (traced t reject event (Err why) b 0)
  unfolding traced
  fault_alike (Compose phone target characters) b = no_call phone
  fault_alike (Timeout phone) b = no_call phone
  fault_alike (Carry k) b = no_packet (trace_at t.sent k) b
  fault_alike (Push phone) b = no_more None
  fault_alike (Tick seconds) b = same t
  fault_alike (Inject place octets) b = same t

module _ (law : TracesTell) (event : Event) (old : WorldValue) (t : Traces) (new : WorldValue) where
  -- what is noted of an honest step
  noted_right : (told : Told) (n : Machine) (h : HonestStep event old t told new n)
      → AreTracesOf (traced t h.before.senders.reject event told (brought_at h.before event) (length h.put)) n
  noted_right told n h = law.stay h.limits h.phones h.past h.before h.distinct h.run t h.right event h.honest told h.put n h.step

  pub follows_fault : (why : WorldFault) (u : Traces) → TraceAlike t u → new.packets ≡ old.packets → FollowsTraces event old t (Err why) new u
  follows_fault why u a kept n h =
      let none = put_nothing old.packets new.packets h.packets h.put kept h.more h.are in
      let r = subst (λ i. AreTracesOf (traced t h.before.senders.reject event (Err why) (brought_at h.before event) i) n) none (noted_right (Err why) n h) in
      alike_right (traced t h.before.senders.reject event (Err why) (brought_at h.before event) 0) u n
      (joined (traced t h.before.senders.reject event (Err why) (brought_at h.before event) 0) t u
      (flip t (traced t h.before.senders.reject event (Err why) (brought_at h.before event) 0) (fault_alike t h.before.senders.reject why event (brought_at h.before event))) a) r

  -- an event that is for nobody
  pub follows_nobody : (told : Told) → way_at old event ≡ None → ((why : WorldFault) → told ≡ Err why → new.packets ≡ old.packets) → FollowsTraces event old t told new t
  follows_nobody told none kept n h = by event refl
    where
      by_fault : ((seconds : ℕ) → event ≡ Tick seconds → ⊥) → ((place : Place) (octets : List ℕ) → event ≡ Inject place octets → ⊥) → AreTracesOf t n
      by_fault a b =
          let f = for_nobody old h.before h.stands told event none h.put n h.step a b in
          follows_fault f.0 t (same t) (kept f.0 f.1) n (subst (λ (v : Told). HonestStep event old t v new n) f.1 h)

      by : (e : Event) → event ≡ e → AreTracesOf t n
      by (Compose phone target characters) e = by_fault (λ s q. let z = sym e ∙ q in cc) (λ p o q. let z = sym e ∙ q in cc)
      by (Carry k) e = by_fault (λ s q. let z = sym e ∙ q in cc) (λ p o q. let z = sym e ∙ q in cc)
      by (Timeout phone) e = by_fault (λ s q. let z = sym e ∙ q in cc) (λ p o q. let z = sym e ∙ q in cc)
      by (Push phone) e = by_fault (λ s q. let z = sym e ∙ q in cc) (λ p o q. let z = sym e ∙ q in cc)
      by (Tick seconds) e = unfold traced in
          subst (λ (v : Event). AreTracesOf (traced t h.before.senders.reject v told (brought_at h.before event) (length h.put)) n) e (noted_right told n h)
      by (Inject place octets) e =
          let q = subst (λ (v : Event). IsHonestAt 0 h.before v) e (h.honest 0) in absurd q.plain

  -- an event that is answered, and noted
  module _ (below : Below) (reject : Bool) (o : Outcome) (brought : Option Brought) (put phone : ℕ) (v u : Traces)
      (setting : reject ≡ old.limits.reject) (brings : IsBroughtBy old event brought) (more : put ≡ length new.packets - length old.packets) (few : length new.packets ≤ 2 ^ 64 - 1)
      (alike : TraceAlike t v) (noted : IsCountedAt (traced v reject event (Ok o) brought put) phone → TraceAlike (traced v reject event (Ok o) brought put) u) where
    pub follows_noted : FollowsTraces event old t (Ok o) new u
    follows_noted n h = alike_right (traced v reject event (Ok o) brought put) u n (noted (counts, outs_fit)) right
      where
        before : AreTracesOf v h.before
        before = alike_right t v h.before alike h.right

        as_many : put ≡ length h.put
        as_many = more ∙ how_many old.packets new.packets h.packets h.put h.more h.are

        reject_is : h.before.senders.reject ≡ reject
        reject_is = h.reject ∙ (ap (λ (l : Limits). l.reject) h.stands.limits_are ∙ sym setting)

        right : AreTracesOf (traced v reject event (Ok o) brought put) n
        right =
            subst (λ i. AreTracesOf (traced v reject event (Ok o) brought i) n) (sym as_many)
            (subst (λ b. AreTracesOf (traced v reject event (Ok o) b (length h.put)) n) (sym (brings h.before h.stands))
            (subst (λ b. AreTracesOf (traced v b event (Ok o) (brought_at h.before event) (length h.put)) n) reject_is
            (law.stay h.limits h.phones h.past h.before h.distinct h.run v before event h.honest (Ok o) h.put n h.step)))

        run : HonestRun (start h.limits h.phones) ((event, Ok o) ∷ h.past) n
        run = (h.before, h.run, h.honest, (h.put, h.step))

        counts : IsCounted ((traced v reject event (Ok o) brought put).sender phone)
        counts =
            let s = right.senders phone in
            let sound = (run_true 0 h.limits h.phones ((event, Ok o) ∷ h.past) n (honest_at 0 (start h.limits h.phones) ((event, Ok o) ∷ h.past) n run)).sound phone in
            let fit = run_fits IsHonest h.limits h.phones ((event, Ok o) ∷ h.past) n h.distinct run in
            let small = few_accepted n fit (n.senders.sender phone).pending (n.senders.sender phone).accepted sound.under_way in
            let e = s.accepted in (s.some, omega (arith, small, e))

        outs_fit : (traced v reject event (Ok o) brought put).outs phone ≤ 2 ^ 64 - 1
        outs_fit =
            let a = right.outs phone in let b = right.few phone in
            let c = as_many_packets new.packets _ h.after.packets_are in let d = length-reverse n.sent in omega (arith, a, b, c, d, few)

-- ---- ways

to_place : (up : Bool) (phone : ℕ) (to : Place) (seen : Seen) → to ≡ place_at up phone → (brought_to to seen).phone ≡ phone
to_place true phone to seen e = ap (λ v. (brought_to v seen).phone) e
to_place false phone to seen e = ap (λ v. (brought_to v seen).phone) e

-- what is brought is for the phone of the event
pub is_for : (v : WorldValue) (m : Machine) → StandsFor v m → (event : Event) (way : Way) (b : Option Brought) → IsBroughtBy v event b → way_at v event ≡ Some way → IsTraceFor event b way.phone
is_for v m s (Compose phone target characters) way b brings e = (phone_there v phone way e).0
is_for v m s (Timeout phone) way b brings e = (phone_there v phone way e).0
is_for v m s (Push phone) way b brings e = (phone_there v phone way e).0
is_for v m s (Tick seconds) way b brings e = tt
is_for v m s (Inject place octets) way b brings e = tt
is_for v m s (Carry k) way b brings e =
    let g = goes_so v m s k way e in
    subst (λ x. IsBroughtFor x way.phone) (sym (brings m s ∙ ap (option_map (brought_of m.phones m.clock)) g.there))
    (to_place way.up way.phone g.entry.to (seen_of m.phones m.clock g.entry.message) g.to)

-- two packets at most are new
pub few_new : (below : Below) (old new : WorldValue) (m : Machine) (event : Event) (told : Told) → StandsFor old m → Steps event old told new → length new.packets - length old.packets ≤ 2
few_new below old new m event told s steps =
    let t = steps m s in
    let few = step_few below m event told t.0 t.1 t.2 in
    let many = how_many old.packets new.packets t.4 t.0 t.5 t.6 in omega (arith, few, many)

-- ---- its beginning, and what it tells

module _ (limits : Limits) (phones : List AddressValue) (w : WatchedValue) (notes : TraceNotes) (alike : TraceAlike new_traces (traces_in notes)) (begins : BeginsWatched limits phones w) where
  begun : TrustsBy w (traces_of (trace_tables_in notes)) None limits phones [] begins.0
  begun =
      record {
        led = begins.2;
        tells = begins.1;
        notes = subst (AreTracesOf (traces_of (trace_tables_in notes))) begins.1
            (alike_right (traces_in notes) (traces_of (trace_tables_in notes)) (start limits phones) (to_tables notes) (alike_right new_traces (traces_in notes) (start limits phones) alike (new_right limits phones)));
      }

  pub begins_trusted : BeginsTrusted limits phones (record { watched = w; notes = trace_tables_in notes; doubt = None })
  begins_trusted = (begins.0, begins.1, begun)

  pub new_trusted : IsTrusted (record { watched = w; notes = trace_tables_in notes; doubt = None })
  new_trusted = record { limits = limits; phones = phones; past = []; last = begins.0; by = begun }

pub told_so : (w : TrustedValue) → AcceptedIsTold w w.doubt
told_so w limits phones past last by = by.tells

pub means_so : ((world : WorldValue) → AcceptedWereAccepted world) → (w : TrustedValue) → AcceptedMeansAccepted w w.doubt
means_so law w none limits phones past last by phone =
    law w.watched.world limits phones past last phone (honest_at phone (start limits phones) past last (subst (IsMeant (start limits phones) past last) none by.tells)) by.led.stands
