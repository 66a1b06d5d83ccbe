-- What happens to a world is a step of the machine.
use Rattle.std.proofs.Common.{◌≡◌, ℕ, zero, suc, ◌≤◌, ◌<◌, ◌+◌, Bool, true, false, not, nat_lt, List, [], ◌∷◌, ◌++◌, length, reverse, Option, Some, None, is_some, Result, Ok, Err, inl, inr, refl, sym, ap, ◌∙◌, subst, arith}
use Rattle.std.specs.List.{AllByRecursion, slice_get}
use Rattle.std.specs.Result.{IsErrAnd}
use Rattle.std.proofs.lemmas.List.{append-nil, length-map}
use Rattle.std.proofs.lemmas.Bool.Decides.{nat_tests}
use Rattle.sms_text.specs.Octets.{IsOctets}
use Rattle.sms_field.specs.Address.Value.{AddressValue}
use Rattle.sms_field.specs.Time.Computed.{end_of_2099}
use Rattle.sms_join.specs.UnitsOfText.{IsText}
use Rattle.sms_message.specs.Does.{packets_of}
use Rattle.sms_message.specs.Message.{Origin}
use Rattle.sms_message.specs.Message.Reading.{ReadsAs}
use Rattle.sms_party.specs.Sent.{Place, Centre, Phone, Sent}
use Rattle.sms_party.specs.Sender.Texts.{width_of}
use Rattle.sms_party.specs.Sender.Calls.{composes, times_out}
use Rattle.sms_centre.specs.Centre.Pushes.{centre_pushes}
use Rattle.sms_message.specs.declared.message.Message.{Message}
use Rattle.sms_message.specs.declared.message.Message.TheVariants.{NotCp, Note, Tiny, Data}
use Rattle.sms_message.specs.declared.outcome.Outcome.{Outcome}
use Rattle.sms_message.specs.declared.outcome.Outcome.TheVariants.{Ticked}
use Rattle.sms_message.specs.declared.outcome.Step.{Step as PartyStep}
use Rattle.sms_message.specs.declared.outcome.Dropped.{Dropped}
use Rattle.sms_message.specs.declared.outcome.Dropped.TheVariants as dropped
use Rattle.sms_script.specs.Transcript.Lines.{PacketValue}
use Rattle.sms_world.specs.declared.fault.WorldFault.{WorldFault}
use Rattle.sms_world.specs.declared.fault.WorldFault.TheVariants.{NoSuchPacket, NoSuchPhone, ClockEnd, Party}
use Rattle.sms_world.specs.Inside.Below.{Below}
use Rattle.sms_world.specs.Told.{Told}
use Rattle.sms_world.specs.Machine.{Machine}
use Rattle.sms_world.specs.Machine.Event.{Event, Compose, Carry, Timeout, Push, Tick, Inject, Act, TypesText, MovesPacket, EndsWait, HandsOver, MovesClock, SlipsIn, IsMetAs}
use Rattle.sms_world.specs.Machine.Next.{Next, entered, stays, by_sender, by_receiver, by_centre, pushed, comes, comes_to_phone, packet, carries, ticked, phone_of, at_phone, next}
use Rattle.sms_world.specs.Machine.Step.{takes_memory}
use Rattle.sms_world.specs.World.Value.{PartiesValue, WorldValue}
use Rattle.sms_world.specs.World.Standing.{ArePacketsOf, PartiesStand, StandsFor, ComesOfRun, IsWorld}
use Rattle.std.proofs.lemmas.Option.{slice_get_past}
use Rattle.sms_world.proofs.AllOf.{all_and_all, one_of_all}
use Rattle.sms_world.specs.Inside.Parties as parties
use Rattle.sms_world.specs.Inside.Parties.{on_way, Answers}
use Rattle.sms_world.specs.World.Parties.{place_at}
use Rattle.sms_world.specs.World.Steps.{PutsMore, StepsFrom, Steps}
use Rattle.sms_world.proofs.Packets.{reverse_entered, packets_and_more, packet_there, packet_not_there, no_packet_0}

-- a world with other parties, and with packets that came
abbrev pub with_parties : WorldValue → PartiesValue → WorldValue
with_parties v ps = record { limits = v.limits; clock = v.clock; parties = ps; packets = v.packets }

abbrev pub with_packets : WorldValue → PartiesValue → List PacketValue → WorldValue
with_packets v ps packets = record { limits = v.limits; clock = v.clock; parties = ps; packets = v.packets ++ packets }

-- limits and clock are as they were, and what is put out is entered
pub record Keeps (m : Machine) (d : Next) : Type 0 where
  pub limits : d.after.limits ≡ m.limits
  pub clock : d.after.clock ≡ m.clock
  pub sent : d.after.sent ≡ entered d.put m.sent

-- What the machine does at an event, and the parties have answered so.
pub record Acting (m : Machine) (event : Event) (up : Bool) (p : ℕ) (r : Result PartyStep Dropped) (ps : PartiesValue) : Type 0 where
  pub act : Act
  pub is : IsMetAs (width_of m.senders.wide) event act
  pub memory : takes_memory m act ≡ true
  pub does : Next
  pub next_is : next m act ≡ does
  pub keeps : Keeps m does
  pub answers : Answers up p m does r ps

-- ---- from the parties to the world

module _ (v : WorldValue) (m : Machine) (event : Event) (up : Bool) (p : ℕ) (ps : PartiesValue) (h : StandsFor v m) where
  stands_after : (d : Next) → Keeps m d → PartiesStand ps d.after → (packets : List PacketValue) → ArePacketsOf packets d.put → StandsFor (with_packets v ps packets) d.after
  stands_after d k stand packets are =
      record {
        limits_are = k.limits ∙ h.limits_are;
        clock_is = k.clock ∙ h.clock_is;
        parties_stand = stand;
        packets_are = subst (λ l. ArePacketsOf (v.packets ++ packets) l) (sym (ap reverse k.sent ∙ reverse_entered d.put m.sent)) (packets_and_more v.packets packets (reverse m.sent) d.put h.packets_are are);
      }

  pub went : (step : PartyStep) → Acting m event up p (Ok step) ps → StepsFrom m event v (Ok step.outcome) (with_packets v ps (on_way up p (packets_of step)))
  went step a =
      let d = a.does in (
        d.put,
        d.after,
        (a.act, a.is, inl (ap (λ (n : Next). n.answer) a.next_is ∙ a.answers.0, ap (λ (n : Next). n.put) a.next_is, ap (λ (n : Next). n.after) a.next_is)),
        stands_after d a.keeps a.answers.3 (on_way up p (packets_of step)) a.answers.2,
        on_way up p (packets_of step),
        refl,
        a.answers.2,
      )

  none_more : (n : Machine) → StandsFor (with_packets v ps []) n → StandsFor (with_parties v ps) n
  none_more n s = subst (λ l. StandsFor (record { limits = v.limits; clock = v.clock; parties = ps; packets = l }) n) (append-nil v.packets) s

  out_of_memory : (act : Act) → IsMetAs (width_of m.senders.wide) event act → takes_memory m act ≡ true → PartiesStand ps m → StepsFrom m event v (Err (Party dropped.Memory)) (with_parties v ps)
  out_of_memory act is memory stand = (
    [],
    m,
    (act, is, inr (memory, refl, refl, refl)),
    record { limits_are = h.limits_are; clock_is = h.clock_is; parties_stand = stand; packets_are = h.packets_are },
    [],
    sym (append-nil v.packets),
    tt,
  )

  fell : (why : Dropped) (act : Act) (d : Next) → IsMetAs (width_of m.senders.wide) event act → next m act ≡ d → Keeps m d → d.answer ≡ Err (Party why) → d.put ≡ [] → PartiesStand ps d.after
      → StepsFrom m event v (Err (Party why)) (with_parties v ps)
  fell why act d is same k answer put stand = (
    [],
    d.after,
    (act, is, inl (ap (λ (n : Next). n.answer) same ∙ answer, ap (λ (n : Next). n.put) same ∙ put, ap (λ (n : Next). n.after) same)),
    none_more d.after (stands_after d k stand [] (subst (λ l. ArePacketsOf [] l) (sym put) tt)),
    [],
    sym (append-nil v.packets),
    tt,
  )

  pub failed : (why : Dropped) → Acting m event up p (Err why) ps → StepsFrom m event v (Err (Party why)) (with_parties v ps)
  failed dropped.Memory a = out_of_memory a.act a.is a.memory a.answers
  failed dropped.NotCp a = fell dropped.NotCp a.act a.does a.is a.next_is a.keeps a.answers.0 a.answers.1 a.answers.2
  failed dropped.Unmatched a = fell dropped.Unmatched a.act a.does a.is a.next_is a.keeps a.answers.0 a.answers.1 a.answers.2
  failed dropped.Busy a = fell dropped.Busy a.act a.does a.is a.next_is a.keeps a.answers.0 a.answers.1 a.answers.2
  failed dropped.TooManySegments a = fell dropped.TooManySegments a.act a.does a.is a.next_is a.keeps a.answers.0 a.answers.1 a.answers.2

-- nothing happens, for this fault
pub nothing : (v : WorldValue) (m : Machine) (event : Event) (fault : WorldFault) → StandsFor v m → (act : Act) → IsMetAs (width_of m.senders.wide) event act → next m act ≡ stays m (Err fault)
    → StepsFrom m event v (Err fault) v
unfolding stays
nothing v m event fault h act is same = (
  [],
  m,
  (act, is, inl (ap (λ (n : Next). n.answer) same, ap (λ (n : Next). n.put) same, ap (λ (n : Next). n.after) same)),
  h,
  [],
  sym (append-nil v.packets),
  tt,
)

-- ---- is there such a phone

there_test : (v : WorldValue) (m : Machine) (p : ℕ) → StandsFor v m → p < length v.parties.phones → nat_lt p (length m.phones) ≡ true
there_test v m p h within = let l : p < length m.phones = subst (λ n. p < n) h.parties_stand.as_many within in grind (arith, nat_tests)

not_there_test : (v : WorldValue) (m : Machine) (p : ℕ) → StandsFor v m → length v.parties.phones ≤ p → nat_lt p (length m.phones) ≡ false
not_there_test v m p h beyond = let l : length m.phones ≤ p = subst (λ n. n ≤ p) h.parties_stand.as_many beyond in grind (arith, nat_tests)

at_there : (m : Machine) (p : ℕ) (d : Next) → nat_lt p (length m.phones) ≡ true → at_phone m p d ≡ d
at_there m p d e = rw e refl

at_none : (m : Machine) (p : ℕ) (d : Next) → nat_lt p (length m.phones) ≡ false → at_phone m p d ≡ stays m (Err NoSuchPhone)
at_none m p d e = rw e refl

-- ---- a text is typed

module _ (v : WorldValue) (p : ℕ) (target : AddressValue) (text : List ℕ) where
  pub composed : (ps : PartiesValue) (r : Result PartyStep Dropped) → IsText text → p < length v.parties.phones → parties.Types p target text v.parties r ps
      → (m : Machine) → StandsFor v m → Acting m (Compose p target text) true p r ps
  unfolding next takes_memory by_sender
  composed ps r is_text within t m h =
      let k = t m h.parties_stand in
      let there = there_test v m p h within in
      record {
        act = TypesText p target text k.0;
        is = (k.0, is_text, k.1, refl);
        memory = there;
        does = by_sender m (composes m.senders p target text k.0);
        next_is = at_there m p (by_sender m (composes m.senders p target text k.0)) there;
        keeps = record { limits = refl; clock = refl; sent = refl };
        answers = k.2;
      }

  -- where memory runs out before
  pub not_composed : Below → IsText text → parties.Types p target text v.parties (Err dropped.Memory) v.parties
  not_composed law is_text m stand = let c = law.cut (width_of m.senders.wide) text is_text in (c.0, c.1, stand)

  pub composed_nowhere : Below → IsText text → length v.parties.phones ≤ p → Steps (Compose p target text) v (Err NoSuchPhone) v
  unfolding next
  composed_nowhere law is_text beyond m h =
      let c = law.cut (width_of m.senders.wide) text is_text in
      nothing v m (Compose p target text) NoSuchPhone h (TypesText p target text c.0) (c.0, is_text, c.1, refl) (at_none m p (by_sender m (composes m.senders p target text c.0)) (not_there_test v m p h beyond))

-- ---- an answer does not come, and a push

module _ (v : WorldValue) (p : ℕ) where
  pub late : (ps : PartiesValue) (r : Result PartyStep Dropped) → p < length v.parties.phones → parties.TimesOut p v.parties r ps → (m : Machine) → StandsFor v m → Acting m (Timeout p) true p r ps
  unfolding next takes_memory by_sender
  late ps r within t m h =
      let there = there_test v m p h within in
      record {
        act = EndsWait p;
        is = refl;
        memory = there;
        does = by_sender m (times_out m.senders p);
        next_is = at_there m p (by_sender m (times_out m.senders p)) there;
        keeps = record { limits = refl; clock = refl; sent = refl };
        answers = t m h.parties_stand;
      }

  pub late_nowhere : length v.parties.phones ≤ p → Steps (Timeout p) v (Err NoSuchPhone) v
  unfolding next
  late_nowhere beyond m h = nothing v m (Timeout p) NoSuchPhone h (EndsWait p) refl (at_none m p (by_sender m (times_out m.senders p)) (not_there_test v m p h beyond))

  pub handed : (ps : PartiesValue) (r : Result PartyStep Dropped) → p < length v.parties.phones → parties.Pushes v.clock p v.parties r ps → (m : Machine) → StandsFor v m → Acting m (Push p) false p r ps
  unfolding next takes_memory by_centre
  handed ps r within t m h =
      let there = there_test v m p h within in
      let d = by_centre m (pushed p (centre_pushes m.phones m.centre m.clock p)) in
      record {
        act = HandsOver p;
        is = refl;
        memory = there;
        does = d;
        next_is = at_there m p d there;
        keeps = record { limits = refl; clock = refl; sent = refl };
        answers = t m h.parties_stand h.clock_is;
      }

  pub handed_nowhere : length v.parties.phones ≤ p → Steps (Push p) v (Err NoSuchPhone) v
  unfolding next
  handed_nowhere beyond m h =
      nothing v m (Push p) NoSuchPhone h (HandsOver p) refl (at_none m p (by_centre m (pushed p (centre_pushes m.phones m.centre m.clock p))) (not_there_test v m p h beyond))

-- ---- octets come

keeps_down : (m : Machine) (p : ℕ) (message : Message) (origin : Option Origin) → Keeps m (comes_to_phone m p message origin)
unfolding comes_to_phone stays by_sender by_receiver
keeps_down m p NotCp origin = record { limits = refl; clock = refl; sent = refl }
keeps_down m p (Note flag value) origin = record { limits = refl; clock = refl; sent = refl }
keeps_down m p (Tiny flag value) origin = record { limits = refl; clock = refl; sent = refl }
keeps_down m p (Data true tag relay) origin = record { limits = refl; clock = refl; sent = refl }
keeps_down m p (Data false tag relay) origin = record { limits = refl; clock = refl; sent = refl }

keeps_coming : (m : Machine) (place : Place) (message : Message) (origin : Option Origin) (putting : Option ℕ) → Keeps m (comes m place message origin putting)
unfolding comes by_centre
keeps_coming m (Centre p) message origin putting = record { limits = refl; clock = refl; sent = refl }
keeps_coming m (Phone p) message origin putting = keeps_down m p message origin

phone_at_place : (up : Bool) (p : ℕ) → phone_of (place_at up p) ≡ p
phone_at_place true p = refl
phone_at_place false p = refl

-- the message that came, and what was done with it
record Came (v : WorldValue) (m : Machine) (up : Bool) (p : ℕ) (octets : List ℕ) (r : Result PartyStep Dropped) (ps : PartiesValue) : Type 0 where
  message : Message
  read : ReadsAs octets message
  answers : (origin : Option Origin) (putting : Option ℕ) → Answers (not up) p m (comes m (place_at up p) message origin putting) r ps

came : (v : WorldValue) (m : Machine) (up : Bool) (p : ℕ) (octets : List ℕ) (ps : PartiesValue) → Below → IsOctets octets → StandsFor v m
    → (r : Result PartyStep Dropped) → parties.Receives v.clock up p octets v.parties r ps → Came v m up p octets r ps
came v m up p octets ps law are h (Ok step) t = record { message = t.0; read = t.1; answers = λ origin putting. t.2 m origin putting h.parties_stand h.clock_is }
came v m up p octets ps law are h (Err dropped.NotCp) t = record { message = t.0; read = t.1; answers = λ origin putting. t.2 m origin putting h.parties_stand h.clock_is }
came v m up p octets ps law are h (Err dropped.Unmatched) t = record { message = t.0; read = t.1; answers = λ origin putting. t.2 m origin putting h.parties_stand h.clock_is }
came v m up p octets ps law are h (Err dropped.Busy) t = record { message = t.0; read = t.1; answers = λ origin putting. t.2 m origin putting h.parties_stand h.clock_is }
came v m up p octets ps law are h (Err dropped.TooManySegments) t = record { message = t.0; read = t.1; answers = λ origin putting. t.2 m origin putting h.parties_stand h.clock_is }
came v m up p octets ps law are h (Err dropped.Memory) t =
    let k = law.each octets are in record { message = k.0; read = k.1; answers = λ origin putting. t m h.parties_stand h.clock_is }

module _ (v : WorldValue) (up : Bool) (p : ℕ) (octets : List ℕ) (law : Below) (are : IsOctets octets) where
  pub injected : (ps : PartiesValue) (r : Result PartyStep Dropped) → p < length v.parties.phones → parties.Receives v.clock up p octets v.parties r ps
      → (m : Machine) → StandsFor v m → Acting m (Inject (place_at up p) octets) (not up) p r ps
  unfolding next takes_memory
  injected ps r within t m h =
      let k = came v m up p octets ps law are h r t in
      let there = subst (λ n. nat_lt n (length m.phones) ≡ true) (sym (phone_at_place up p)) (there_test v m p h within) in
      let d = comes m (place_at up p) k.message None None in
      record {
        act = SlipsIn (place_at up p) k.message;
        is = (k.message, are, k.read, refl);
        memory = there;
        does = d;
        next_is = at_there m (phone_of (place_at up p)) d there;
        keeps = keeps_coming m (place_at up p) k.message None None;
        answers = k.answers None None;
      }

  pub injected_nowhere : length v.parties.phones ≤ p → Steps (Inject (place_at up p) octets) v (Err NoSuchPhone) v
  unfolding next
  injected_nowhere beyond m h =
      let k = law.each octets are in
      nothing v m (Inject (place_at up p) octets) NoSuchPhone h (SlipsIn (place_at up p) k.0) (k.0, are, k.1, refl)
      (at_none m (phone_of (place_at up p)) (comes m (place_at up p) k.0 None None) (subst (λ n. nat_lt n (length m.phones) ≡ false) (sym (phone_at_place up p)) (not_there_test v m p h beyond)))

-- ---- a packet is carried

carried_there : (m : Machine) (k : ℕ) (x : Sent) → packet m k ≡ Some x → carries m (packet m k) ≡ comes m x.to x.message x.origin x.putting
unfolding carries
carried_there m k x e = ap (λ o. carries m o) e

carried_nowhere : (m : Machine) (k : ℕ) → packet m k ≡ None → carries m (packet m k) ≡ stays m (Err NoSuchPacket)
unfolding carries
carried_nowhere m k e = ap (λ o. carries m o) e

memory_there : (m : Machine) (k : ℕ) (x : Sent) → packet m k ≡ Some x → takes_memory m (MovesPacket k) ≡ true
unfolding takes_memory
memory_there m k x e = ap is_some e

module _ (v : WorldValue) (n : ℕ) (packet_is : PacketValue) (law : Below) (are : IsOctets packet_is.octets) (there : slice_get v.packets n ≡ Some packet_is) where
  pub brought : (ps : PartiesValue) (r : Result PartyStep Dropped) → parties.Receives v.clock packet_is.is_up packet_is.phone packet_is.octets v.parties r ps
      → (m : Machine) → StandsFor v m → Acting m (Carry (suc n)) (not packet_is.is_up) packet_is.phone r ps
  unfolding next
  brought ps r t m h =
      let k = came v m packet_is.is_up packet_is.phone packet_is.octets ps law are h r t in
      let s = packet_there m v.packets n packet_is h.packets_are there in
      let x = s.entry in
      let same : k.message ≡ x.message = law.one packet_is.octets x.message k.message are (law.carried packet_is.octets x.message s.is_packet.1) k.read in
      let d = comes m x.to x.message x.origin x.putting in
      record {
        act = MovesPacket (suc n);
        is = refl;
        memory = memory_there m (suc n) x s.is_there;
        does = d;
        next_is = carried_there m (suc n) x s.is_there;
        keeps = keeps_coming m x.to x.message x.origin x.putting;
        answers = subst (λ (q : Place). Answers (not packet_is.is_up) packet_is.phone m (comes m q x.message x.origin x.putting) r ps) (sym s.is_packet.0)
            (subst (λ (w : Message). Answers (not packet_is.is_up) packet_is.phone m (comes m (place_at packet_is.is_up packet_is.phone) w x.origin x.putting) r ps) same (k.answers x.origin x.putting));
      }

pub nothing_brought : (v : WorldValue) (k : ℕ) → ((m : Machine) → StandsFor v m → packet m k ≡ None) → Steps (Carry k) v (Err NoSuchPacket) v
unfolding next
nothing_brought v k none m h = nothing v m (Carry k) NoSuchPacket h (MovesPacket k) refl (carried_nowhere m k (none m h))

-- ---- the clock moves

pub clock_moved : (v : WorldValue) (ps : PartiesValue) (seconds : ℕ) → v.clock + seconds < end_of_2099 → parties.MovesTo (v.clock + seconds) v.parties ps
    → Steps (Tick seconds) v (Ok Ticked) (record { limits = v.limits; clock = v.clock + seconds; parties = ps; packets = v.packets })
unfolding next ticked
clock_moved v ps seconds before moves m h =
    let b : nat_lt (m.clock + seconds) end_of_2099 ≡ true = let c = h.clock_is in grind (arith, nat_tests) in
    let is : next m (MovesClock seconds) ≡ record { answer = Ok Ticked; put = []; after = ticked m (m.clock + seconds) } = rw b refl in
    let stand : PartiesStand ps (ticked m (v.clock + seconds)) = moves m h.parties_stand (let c = h.clock_is in omega (arith, c)) in (
      [],
      ticked m (m.clock + seconds),
      (MovesClock seconds, refl, inl (ap (λ (n : Next). n.answer) is, ap (λ (n : Next). n.put) is, ap (λ (n : Next). n.after) is)),
      record {
        limits_are = h.limits_are;
        clock_is = ap (λ t. t + seconds) h.clock_is;
        parties_stand = subst (λ t. PartiesStand ps (ticked m (t + seconds))) (sym h.clock_is) stand;
        packets_are = h.packets_are;
      },
      [],
      sym (append-nil v.packets),
      tt,
    )

pub clock_ended : (v : WorldValue) (seconds : ℕ) → end_of_2099 ≤ v.clock + seconds → Steps (Tick seconds) v (Err ClockEnd) v
unfolding next
clock_ended v seconds beyond m h =
    let b : nat_lt (m.clock + seconds) end_of_2099 ≡ false = let c = h.clock_is in grind (arith, nat_tests) in
    nothing v m (Tick seconds) ClockEnd h (MovesClock seconds) refl (rw b refl)

-- ---- what is true of every world stays true

-- one event more
comes_of_more : (v new : WorldValue) (event : Event) (told : Told) → ComesOfRun v → Steps event v told new → ComesOfRun new
comes_of_more v new event told c steps =
    let s = steps c.machine c.stands in
    record { limits = c.limits; phones = c.phones; past = (event, told) ∷ c.past; machine = s.1; runs = (c.machine, c.runs, tt, (s.0, s.2)); stands = s.3 }

all_on_way : (up : Bool) (p n : ℕ) (packets : List (List ℕ)) → p < n → AllByRecursion (λ (q : PacketValue). q.phone < n) (on_way up p packets)
all_on_way up p n [] h = tt
all_on_way up p n (octets ∷ packets) h = (h, all_on_way up p n packets h)

module _ (v : WorldValue) (event : Event) (up : Bool) (p : ℕ) (ps : PartiesValue) where
  pub steps_went : (step : PartyStep) → ((m : Machine) → StandsFor v m → Acting m event up p (Ok step) ps) → Steps event v (Ok step.outcome) (with_packets v ps (on_way up p (packets_of step)))
  steps_went step acting m h = went v m event up p ps h step (acting m h)

  pub steps_failed : (why : Dropped) → ((m : Machine) → StandsFor v m → Acting m event up p (Err why) ps) → Steps event v (Err (Party why)) (with_parties v ps)
  steps_failed why acting m h = failed v m event up p ps h why (acting m h)

  pub room : (step : PartyStep) → IsWorld v → ((m : Machine) → StandsFor v m → Acting m event up p (Ok step) ps) → length step.packets.items ≤ 2
  room step w acting = subst (λ n. n ≤ 2) (length-map step.packets.items (λ packet. packet.items)) (acting w.comes.machine w.comes.stands).answers.1

  pub world_went : (step : PartyStep) → IsWorld v → ((m : Machine) → StandsFor v m → Acting m event up p (Ok step) ps) → length ps.phones ≡ length v.parties.phones → p < length v.parties.phones
      → IsWorld (with_packets v ps (on_way up p (packets_of step)))
  world_went step w acting many within =
      record {
        clock = w.clock;
        ways = subst (λ n. AllByRecursion (λ (q : PacketValue). q.phone < n) (v.packets ++ on_way up p (packets_of step))) (sym many)
            (all_and_all (λ (q : PacketValue). q.phone < length v.parties.phones) v.packets (on_way up p (packets_of step)) w.ways (all_on_way up p (length v.parties.phones) (packets_of step) within));
        comes = comes_of_more v (with_packets v ps (on_way up p (packets_of step))) event (Ok step.outcome) w.comes (steps_went step acting);
      }

  pub world_failed : (why : Dropped) → IsWorld v → ((m : Machine) → StandsFor v m → Acting m event up p (Err why) ps) → length ps.phones ≡ length v.parties.phones → IsWorld (with_parties v ps)
  world_failed why w acting many =
      record {
        clock = w.clock;
        ways = subst (λ n. AllByRecursion (λ (q : PacketValue). q.phone < n) v.packets) (sym many) w.ways;
        comes = comes_of_more v (with_parties v ps) event (Err (Party why)) w.comes (steps_failed why acting);
      }

-- the same for the value as it is seen
pub seen : (v old new : WorldValue) (event : Event) (told : Told) → v ≡ old → Steps event v told new → Steps event old told new
seen v old new event told e h = subst (λ (w : WorldValue). Steps event w told new) e h

-- and where nothing has changed
pub seen_still : (v old : WorldValue) (event : Event) (told : Told) → v ≡ old → Steps event v told v → Steps event old told old
seen_still v old event told e h = subst (λ (w : WorldValue). Steps event w told w) e h

pub world_moved : (v : WorldValue) (ps : PartiesValue) (seconds : ℕ) → IsWorld v → v.clock + seconds < end_of_2099 → parties.MovesTo (v.clock + seconds) v.parties ps → length ps.phones ≡ length v.parties.phones
    → IsWorld (record { limits = v.limits; clock = v.clock + seconds; parties = ps; packets = v.packets })
world_moved v ps seconds w before moves many =
    record {
      clock = before;
      ways = subst (λ n. AllByRecursion (λ (q : PacketValue). q.phone < n) v.packets) (sym many) w.ways;
      comes = comes_of_more v (record { limits = v.limits; clock = v.clock + seconds; parties = ps; packets = v.packets }) (Tick seconds) (Ok Ticked) w.comes (clock_moved v ps seconds before moves);
    }

-- ---- how a call ends

pub fault_is : (r : Told) (fault : WorldFault) → IsErrAnd r (λ e. e ≡ fault) → r ≡ Err fault
fault_is (Ok outcome) fault h = absurd h
fault_is (Err e) fault h = ap Err h

module _ (v old : WorldValue) (event : Event) (up : Bool) (p : ℕ) (ps : PartiesValue) (items : List PacketValue) (same : v ≡ old) (kept : items ≡ v.packets) where
  pub ends_badly : (told : Told) (why : Dropped) → IsErrAnd told (λ e. e ≡ Party why) → ((m : Machine) → StandsFor v m → Acting m event up p (Err why) ps)
      → Steps event old told (record { limits = v.limits; clock = v.clock; parties = ps; packets = items })
  ends_badly told why is acting =
      subst (λ l. Steps event old told (record { limits = v.limits; clock = v.clock; parties = ps; packets = l })) (sym kept)
      (subst (λ t. Steps event old t (with_parties v ps)) (sym (fault_is told (Party why) is)) (seen v old (with_parties v ps) event (Err (Party why)) same (steps_failed v event up p ps why acting)))

  pub badly_a_world : (why : Dropped) → IsWorld v → ((m : Machine) → StandsFor v m → Acting m event up p (Err why) ps) → length ps.phones ≡ length v.parties.phones
      → IsWorld (record { limits = v.limits; clock = v.clock; parties = ps; packets = items })
  badly_a_world why w acting many =
      subst (λ l. IsWorld (record { limits = v.limits; clock = v.clock; parties = ps; packets = l })) (sym kept) (world_failed v event up p ps why w acting many)

  module _ (step : PartyStep) (all : List PacketValue) (put : all ≡ items ++ on_way up p (packets_of step)) where
    all_are : v.packets ++ on_way up p (packets_of step) ≡ all
    all_are = sym (put ∙ ap (λ l. l ++ on_way up p (packets_of step)) kept)

    pub ends_well : (outcome : Outcome) → outcome ≡ step.outcome → ((m : Machine) → StandsFor v m → Acting m event up p (Ok step) ps)
        → Steps event old (Ok outcome) (record { limits = v.limits; clock = v.clock; parties = ps; packets = all })
    ends_well outcome is acting =
        subst (λ l. Steps event old (Ok outcome) (record { limits = v.limits; clock = v.clock; parties = ps; packets = l })) all_are
        (subst (λ (o : Outcome). Steps event old (Ok o) (with_packets v ps (on_way up p (packets_of step)))) (sym is)
        (seen v old (with_packets v ps (on_way up p (packets_of step))) event (Ok step.outcome) same (steps_went v event up p ps step acting)))

    pub well_a_world : IsWorld v → ((m : Machine) → StandsFor v m → Acting m event up p (Ok step) ps) → length ps.phones ≡ length v.parties.phones → p < length v.parties.phones
        → IsWorld (record { limits = v.limits; clock = v.clock; parties = ps; packets = all })
    well_a_world w acting many within =
        subst (λ l. IsWorld (record { limits = v.limits; clock = v.clock; parties = ps; packets = l })) all_are (world_went v event up p ps step w acting many within)

    pub puts_more : PutsMore old (record { limits = v.limits; clock = v.clock; parties = ps; packets = all })
    puts_more = (on_way up p (packets_of step), sym all_are ∙ ap (λ (w : WorldValue). w.packets ++ on_way up p (packets_of step)) same)

-- ---- the packet that is carried

some_there : {X : Type 0} (xs : List X) (n : ℕ) → n < length xs → (x : X) × (slice_get xs n ≡ Some x)
some_there [] n l = absurd (let k : n < 0 = l in omega (arith, k))
some_there (x ∷ xs) zero l = (x, refl)
some_there (x ∷ xs) (suc n) l = let k : n < length xs = omega (arith, l) in some_there xs n k

-- where memory runs out before
pub not_brought : (v : WorldValue) (k n : ℕ) (up : Bool) (p : ℕ) → k ≡ suc n → n < length v.packets → (m : Machine) → StandsFor v m → Acting m (Carry k) up p (Err dropped.Memory) v.parties
unfolding next
not_brought v k n up p num l m h =
    let q = some_there v.packets n l in
    let s = packet_there m v.packets n q.0 h.packets_are q.1 in
    let x = s.entry in
    let e : packet m k ≡ Some x = subst (λ i. packet m i ≡ Some x) (sym num) s.is_there in
    record {
      act = MovesPacket k;
      is = refl;
      memory = memory_there m k x e;
      does = comes m x.to x.message x.origin x.putting;
      next_is = carried_there m k x e;
      keeps = keeps_coming m x.to x.message x.origin x.putting;
      answers = h.parties_stand;
    }

pub brought_as : (v : WorldValue) (k n : ℕ) (q : PacketValue) → k ≡ suc n → Below → IsOctets q.octets → slice_get v.packets n ≡ Some q → (ps : PartiesValue) (r : Result PartyStep Dropped)
    → parties.Receives v.clock q.is_up q.phone q.octets v.parties r ps → (m : Machine) → StandsFor v m → Acting m (Carry k) (not q.is_up) q.phone r ps
brought_as v k n q num law are there ps r t m h = subst (λ i. Acting m (Carry i) (not q.is_up) q.phone r ps) (sym num) (brought v n q law are there ps r t m h)

pub phone_within : (v : WorldValue) (n : ℕ) (q : PacketValue) → IsWorld v → slice_get v.packets n ≡ Some q → q.phone < length v.parties.phones
phone_within v n q w there = one_of_all (λ (x : PacketValue). x.phone < length v.parties.phones) v.packets n q w.ways there

pub none_at_0 : (v : WorldValue) (k : ℕ) → k ≡ 0 → (m : Machine) → StandsFor v m → packet m k ≡ None
none_at_0 v k e m h = subst (λ i. packet m i ≡ None) (sym e) (no_packet_0 m)

pub none_past : (v : WorldValue) (k : ℕ) → length v.packets < k → (m : Machine) → StandsFor v m → packet m k ≡ None
none_past v zero l m h = no_packet_0 m
none_past v (suc n) l m h = packet_not_there m v.packets n h.packets_are (slice_get_past v.packets n (omega (arith, l)))
