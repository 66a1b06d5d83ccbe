-- A watched world goes on at each event.
use Rattle.std.proofs.Common.{◌≡◌, ℕ, zero, suc, min, ◌+◌, ◌-◌, ◌^◌, ◌<◌, ◌≤◌, Bool, true, false, not, cond, ltb, List, [], ◌∷◌, ◌++◌, map, length, Option, Some, None, is_some, Ok, Err, refl, sym, ap, ◌∙◌, subst, arith}
use Rattle.std.proofs.lemmas.List.{append-nil}
use Rattle.sms_field.specs.Address.Value.{AddressValue}
use Rattle.sms_message.specs.declared.outcome.Outcome.{Outcome}
use Rattle.sms_message.specs.declared.outcome.Dropped.TheVariants.{Memory}
use Rattle.sms_party.specs.Sent.{nth, Place, Sent}
use Rattle.sms_script.specs.declared.script.limits.Limits.{Limits}
use Rattle.sms_script.specs.Transcript.Lines.{PacketValue}
use Rattle.sms_world.specs.declared.fault.WorldFault.{WorldFault}
use Rattle.sms_world.specs.declared.fault.WorldFault.TheVariants.{Party}
use Rattle.sms_world.specs.declared.order.Breach.{Breach}
use Rattle.sms_world.specs.declared.order.Disorder.{Disorder}
use Rattle.sms_world.specs.declared.order.TextSegment.{TextSegment}
use Rattle.sms_world.specs.declared.world.way.Way.{Way}
use Rattle.sms_world.specs.Inside.Below.{Below}
use Rattle.sms_world.specs.Breaches.{repeat_breach, marked_breach, breach_at, segment_at, IsTold, Watches, breach_after, WatchingGoesOn}
use Rattle.sms_world.specs.Inside.Followed.{IsFollowed, ComesInOrder, Follows}
use Rattle.sms_world.specs.Ledger.{Mark, Submits, Delivers, Neither, mark_at, TextNote, ReceiverNote, is_key_in_use, is_in_mind, Ledger, new_ledger, AreAlike}
use Rattle.sms_world.specs.Machine.{Machine, start}
use Rattle.sms_world.specs.Machine.Event.{Event, Compose, Carry, Timeout, Push, Tick, Inject}
use Rattle.sms_world.specs.Machine.Step.{Step, no_memory}
use Rattle.sms_world.specs.Noted.{recipient_of, Facts, AreFacts, noted}
use Rattle.sms_world.specs.Inside.NotesValue.{facts_of, MayHold, AreRowsOf, ledger_in, sender_note, sender_at, receiver_at, free_at, IsCounted, IsFor, IsOfText}
use Rattle.sms_world.specs.declared.notes.Notes.{Notes}
use Rattle.sms_world.specs.declared.notes.receiver.ReceiverNotes.{ReceiverNotes}
use Rattle.sms_world.specs.declared.notes.sender.SenderNotes.{SenderNotes}
use Rattle.sms_world.specs.Inside.Tables.{row_of, tables_in}
use Rattle.sms_world.specs.Tables.{sender_in_row, free_in_row, receiver_in_row, ledger_of}
use Rattle.std.specs.List.{slice_get}
use Rattle.sms_world.specs.Orderly.{IsOrderly}
use Rattle.sms_world.specs.Told.{Told}
use Rattle.sms_world.specs.Watched.{WatchedValue, LedBy, LedTo, IsWatched, BeginsWatched, GoesOnWatched, OrderIsTold, StoresAreKept}
use Rattle.sms_world.specs.Inside.Asked.{text_after, facts_after, way_at}
use Rattle.sms_world.specs.World.Asked.{FactsAreTold}
use Rattle.sms_world.specs.World.Parties.{place_at}
use Rattle.sms_world.specs.declared.notes.mark.Facts.{Facts as TheFacts}
use Rattle.sms_world.specs.declared.order.Disorder.TheVariants.{KeyUsedAgain, LateSegmentForgotten}
use Rattle.sms_centre.specs.Centre.Latest.{latest_at}
use Rattle.std.specs.Option.{unwrap_or}
use Rattle.sms_world.specs.World.Standing.{ArePacketsOf, StandsFor}
use Rattle.sms_world.specs.World.Claims.{StoresAreWhole}
use Rattle.sms_world.specs.World.Steps.{Steps}
use Rattle.sms_message.specs.Address.{are_distinct}
use Rattle.sms_world.specs.World.Value.{WorldValue}
use Rattle.sms_world.proofs.Alike.{same, joined, fault_alike, nothing_noted}
use Rattle.sms_world.proofs.Checked.{TextsFit}
use Rattle.sms_world.proofs.Counted.{counted, free_left, recipients_there, is_for}
use Rattle.sms_world.proofs.Factual.{put_nothing, facts_told, some_facts, how_many}
use Rattle.sms_world.proofs.FewOut.{step_few}
use Rattle.sms_world.proofs.Fitting.{run_fits}
use Rattle.sms_world.proofs.Headline.{Orderly, run_orderly}
use Rattle.sms_world.proofs.Wanting.{want_of_memory}

no_breach : (breach : Option Breach) (number : ℕ) (disorder : Option Disorder) (segment : Option TextSegment) → breach_after breach number disorder segment ≡ None
    → (breach ≡ None) × (disorder ≡ None)
no_breach (Some b) number disorder segment e = cc
no_breach None number None segment e = (refl, refl)
no_breach None number (Some d) segment e = cc

-- an event that is told as in order comes in order
pub in_order_now : (world : WorldValue) (l : Ledger) (number : ℕ) (breach after : Option Breach) (event : Event)
    → after ≡ breach_after breach number (breach_at l world.limits.remembered world.clock event) (segment_at l event) → after ≡ None → ComesInOrder world l event
in_order_now world l number breach after event is none = (no_breach breach number _ _ (sym is ∙ none)).1

-- there is no memory for an event
pub wanted : Below → (world : WorldValue) (event : Event) (way : Way) → IsOfText event → way_at world event ≡ Some way → Steps event world (Err (Party Memory)) world
wanted law world event way text is = λ m s. ([], m, want_of_memory law world m s way event text is, s, [], sym (append-nil world.packets), tt)

-- ---- the tables say what the notes do

pub sender_row : (xs : List SenderNotes) (p : ℕ) → sender_in_row (slice_get (map sender_note xs) p) ≡ sender_at (slice_get xs p)
sender_row [] p = refl
sender_row (x ∷ xs) zero = refl
sender_row (x ∷ xs) (suc p) = sender_row xs p

free_row : (xs : List ReceiverNotes) (p : ℕ) → free_in_row (slice_get (map row_of xs) p) ≡ free_at (slice_get xs p)
free_row [] p = refl
free_row (x ∷ xs) zero = refl
free_row (x ∷ xs) (suc p) = free_row xs p

receiver_row : (xs : List ReceiverNotes) (p : ℕ) → receiver_in_row (slice_get (map row_of xs) p) ≡ receiver_at (slice_get xs p)
receiver_row [] p = refl
receiver_row (x ∷ xs) zero = refl
receiver_row (x ∷ xs) (suc p) = receiver_row xs p

to_tables : (n : Notes) → AreAlike (ledger_in n) (ledger_of (tables_in n))
to_tables n =
    record {
      marks = refl;
      texts = refl;
      sender = λ p. sender_row n.senders.items p;
      ends = λ o. refl;
      stamped = λ r x. refl;
      free = λ r. free_row n.receivers.items r;
      receiver = λ p. receiver_row n.receivers.items p;
    }

from_tables : (n : Notes) → AreAlike (ledger_of (tables_in n)) (ledger_in n)
from_tables n =
    record {
      marks = refl;
      texts = refl;
      sender = λ p. sym (sender_row n.senders.items p);
      ends = λ o. refl;
      stamped = λ r x. refl;
      free = λ r. sym (free_row n.receivers.items r);
      receiver = λ p. sym (receiver_row n.receivers.items p);
    }

-- ---- no breach

pub none_told : (o : Option Breach) (r : Bool) → is_some o ≡ not r → r ≡ true → o ≡ None
none_told None r e t = refl
none_told (Some b) r e t = let q : true ≡ false = e ∙ ap not t in cc

pub in_order_of : (o : Option Breach) (r : Bool) → is_some o ≡ not r → o ≡ None → r ≡ true
in_order_of o true e none = refl
in_order_of o false e none = let q : false ≡ true = sym (ap is_some none) ∙ e in cc

-- ---- alike notes tell the same of an event

abbrev the_facts : ℕ → TextNote → ℕ → Place → Facts
the_facts put text stamp to = record { put = put; text = text; stamp = stamp; to = to }

abbrev arrives : List TextNote → ℕ → ℕ → ℕ → ReceiverNote → Option Disorder
arrives texts remembered now text note =
    cond (is_key_in_use texts remembered now note text) (Some KeyUsedAgain) (cond (is_in_mind remembered note.finished text) None (Some LateSegmentForgotten))

breach_alike : (l k : Ledger) → AreAlike l k → (remembered now : ℕ) (event : Event) → breach_at k remembered now event ≡ breach_at l remembered now event
breach_alike l k a remembered now (Compose phone target characters) = refl
breach_alike l k a remembered now (Timeout phone) = refl
breach_alike l k a remembered now (Push phone) = refl
breach_alike l k a remembered now (Tick seconds) = refl
breach_alike l k a remembered now (Inject place octets) = refl
breach_alike l k a remembered now (Carry i) = ap (λ ms. marked_breach k remembered now (mark_at ms i)) a.marks ∙ at (mark_at l.marks i)
  where
    at : (v : Option Mark) → marked_breach k remembered now v ≡ marked_breach l remembered now v
    at None = refl
    at (Some (Submits text segment reject)) = ap (λ e. repeat_breach e now reject) (a.ends (record { text = text; segment = segment }))
    at (Some (Delivers phone text segment)) = ap (λ ts. arrives ts remembered now text (k.receiver phone)) a.texts ∙ ap (λ r. arrives l.texts remembered now text r) (a.receiver phone)
    at (Some Neither) = refl

pub still_holds : (n k : Notes) → AreAlike (ledger_in n) (ledger_in k) → length k.receivers.items ≡ length n.receivers.items → MayHold n → MayHold k
still_holds n k a many h =
    record {
      recipients = λ t r e. subst (λ i. r < i) (sym many) (h.recipients t r (ap (λ (ts : List TextNote). recipient_of (nth ts t)) (sym a.texts) ∙ e));
      free = λ r. subst (λ i. i < 2 ^ 64 - 1) (sym (a.free r)) (h.free r);
    }

-- ---- what a world's limits and clock tell

module _ (limits : Limits) (phones : List AddressValue) (past : List (Event × Told)) (m : Machine) (l : Ledger) (breach : Option Breach) (w : Watches limits phones past m l breach) (v : WorldValue) (s : StandsFor v m) where
  pub limits_are : v.limits ≡ limits
  limits_are = sym s.limits_are ∙ w.settled.limits_are

  pub breach_there : (event : Event) → breach_at l v.limits.remembered v.clock event ≡ breach_at l limits.remembered m.clock event
  breach_there event = ap (λ (k : Limits). breach_at l k.remembered v.clock event) limits_are ∙ ap (λ now. breach_at l limits.remembered now event) (sym s.clock_is)

  pub noted_there : (event : Event) (told : Told) (f : Facts) → noted l v.limits.reject v.clock event told f ≡ noted l limits.reject m.clock event told f
  noted_there event told f = ap (λ (k : Limits). noted l k.reject v.clock event told f) limits_are ∙ ap (λ now. noted l limits.reject now event told f) (sym s.clock_is)

module _ (law : Below) (watching : WatchingGoesOn) where
  -- an event that comes in order
  on : (limits : Limits) (phones : List AddressValue) (past : List (Event × Told)) (m : Machine) (l k : Ledger) → Watches limits phones past m l None
      → (event : Event) (told : Told) (put : List Sent) (n : Machine) → Step m event told put n → (f : Facts) → AreFacts m event told put n f
      → breach_at l limits.remembered m.clock event ≡ None → AreAlike (noted l limits.reject m.clock event told f) k
      → Watches limits phones ((event, told) ∷ past) n k None
  on limits phones past m l k w event told put n step f facts c a =
      watching.alike limits phones ((event, told) ∷ past) n (noted l limits.reject m.clock event told f) k None a
      (watching.goes_on limits phones past m l None w event told put n step f facts None (segment_at l event) (λ _. sym c) (λ _. refl))

  module _ (old : WorldValue) (l : Ledger) (event : Event) (c : ComesInOrder old l event) where
    -- there is no memory for what is to be noted
    pub wants : (way : Way) (k : Ledger) → IsOfText event → way_at old event ≡ Some way → AreAlike l k → Follows event old l (Err (Party Memory)) old k
    wants way k text is a = λ limits phones past m w s.
        let f = some_facts m event no_memory [] m in (
          m,
          on limits phones past m l k w event no_memory [] m (want_of_memory law old m s way event text is) f.0 f.2 (sym (breach_there limits phones past m l None w old s event) ∙ c)
              (joined (noted l limits.reject m.clock event no_memory f.0) l k (fault_alike l limits.reject m.clock (Party Memory) f.0 f.1 event) a),
          s,
        )

    pub wants_so : (way : Way) → IsOfText event → way_at old event ≡ Some way → Steps event old (Err (Party Memory)) old
    wants_so way text is = λ m s. ([], m, want_of_memory law old m s way event text is, s, [], sym (append-nil old.packets), tt)

    -- a fault
    pub fails : (why : WorldFault) (new : WorldValue) (k : Ledger) → Steps event old (Err why) new → new.packets ≡ old.packets → AreAlike l k → Follows event old l (Err why) new k
    fails why new k steps kept a = λ limits phones past m w s.
        let t = steps m s in
        let f = some_facts m event (Err why) t.0 t.1 in (
          t.1,
          on limits phones past m l k w event (Err why) t.0 t.1 t.2 f.0 f.2 (sym (breach_there limits phones past m l None w old s event) ∙ c)
              (joined (noted l limits.reject m.clock event (Err why) f.0) l k
              (fault_alike l limits.reject m.clock why f.0 (f.1 ∙ put_nothing old.packets new.packets t.4 t.0 kept t.5 t.6) event) a),
          t.3,
        )

    -- an event for nobody, or a tick
    pub passes : (told : Told) (new : WorldValue) → Steps event old told new → (((why : WorldFault) × (told ≡ Err why)) → new.packets ≡ old.packets) → way_at old event ≡ None
        → Follows event old l told new l
    passes told new steps kept is = λ limits phones past m w s.
        let t = steps m s in
        let f = some_facts m event told t.0 t.1 in (
          t.1,
          on limits phones past m l l w event told t.0 t.1 t.2 f.0 f.2 (sym (breach_there limits phones past m l None w old s event) ∙ c)
              (nothing_noted old m s told l limits.reject m.clock f.0 (λ x. f.1 ∙ put_nothing old.packets new.packets t.4 t.0 (kept x) t.5 t.6) event is t.0 t.1 t.2),
          t.3,
        )

    -- an event that is answered, and noted
    pub goes : (asked : FactsAreTold) (o : Outcome) (new : WorldValue) (k : Ledger) (way : Way) → Steps event old (Ok o) new → length new.parties.phones ≡ length old.parties.phones
        → way_at old event ≡ Some way
        → (IsFor l event way.phone → IsCounted ((noted l old.limits.reject old.clock event (Ok o) (facts_after old new way event o)).sender way.phone)
        → AreAlike (noted l old.limits.reject old.clock event (Ok o) (facts_after old new way event o)) k)
        → Follows event old l (Ok o) new k
    goes asked o new k way steps many is alike = λ limits phones past m w s. all limits phones past m w s (steps m s)
      where
        all : (limits : Limits) (phones : List AddressValue) (past : List (Event × Told)) (m : Machine) → (w : Watches limits phones past m l None) → (s : StandsFor old m)
            → (put : List Sent) × (n : Machine) × Step m event (Ok o) put n × StandsFor new n × (packets : List PacketValue) × (new.packets ≡ old.packets ++ packets) × ArePacketsOf packets put
            → (n : Machine) × Watches limits phones ((event, Ok o) ∷ past) n k None × StandsFor new n
        all limits phones past m w s t =
            let f : Facts = facts_after old new way event o in
            let facts = facts_told asked old new m t.1 s t.3 t.0 t.4 t.5 t.6 many event o t.2 way is in
            let so = noted_there limits phones past m l None w old s event (Ok o) (facts_after old new way event o) in
            let wn : Watches limits phones ((event, Ok o) ∷ past) t.1 (noted l old.limits.reject old.clock event (Ok o) (facts_after old new way event o)) None
            = subst (λ j. Watches limits phones ((event, Ok o) ∷ past) t.1 j None) (sym so)
            (on limits phones past m l _ w event (Ok o) t.0 t.1 t.2 (facts_after old new way event o) facts (sym (breach_there limits phones past m l None w old s event) ∙ c)
            (same (noted l limits.reject m.clock event (Ok o) (facts_after old new way event o)))) in
            let orderly : Orderly t.1 = run_orderly law limits phones ((event, Ok o) ∷ past) t.1 wn.tells in
            let fit : TextsFit t.1 = run_fits IsOrderly limits phones ((event, Ok o) ∷ past) t.1 wn.distinct wn.tells in (
              t.1,
              watching.alike limits phones ((event, Ok o) ∷ past) t.1 (noted l old.limits.reject old.clock event (Ok o) (facts_after old new way event o)) k None
                  (alike (is_for old m l s w.notes event way is)
                  (counted t.1 (noted l old.limits.reject old.clock event (Ok o) (facts_after old new way event o)) fit orderly.sound.once wn.notes way.phone)) wn,
              t.3,
            )

  -- what is noted is what these facts say
  pub facts_are : (old new : WorldValue) (way : Way) (event : Event) (o : Outcome) (f : TheFacts) → f.put ≡ length new.packets - length old.packets → f.text ≡ text_after new way.phone event o
      → f.stamp ≡ unwrap_or (latest_at new.parties.centre.lines way.phone) 0 → f.up ≡ way.up → f.phone ≡ way.phone → facts_of f ≡ facts_after old new way event o
  facts_are old new way event o f put text stamp up phone =
      ap (λ (x : ℕ). the_facts x f.text f.stamp (place_at f.up f.phone)) put
      ∙ (ap (λ (x : TextNote). the_facts (length new.packets - length old.packets) x f.stamp (place_at f.up f.phone)) text
      ∙ (ap (λ (x : ℕ). the_facts (length new.packets - length old.packets) (text_after new way.phone event o) x (place_at f.up f.phone)) stamp
      ∙ (ap (λ (x : Bool). the_facts (length new.packets - length old.packets) (text_after new way.phone event o) (unwrap_or (latest_at new.parties.centre.lines way.phone) 0) (place_at x f.phone)) up
      ∙ ap (λ (x : ℕ). the_facts (length new.packets - length old.packets) (text_after new way.phone event o) (unwrap_or (latest_at new.parties.centre.lines way.phone) 0) (place_at way.up x)) phone)))

  follows_alike : (old new : WorldValue) (l k j : Ledger) (event : Event) (told : Told) → AreAlike l k → Follows event old k told new j → Follows event old l told new j
  follows_alike old new l k j event told a h = λ limits phones past m w s. h limits phones past m (watching.alike limits phones past m l k None a w) s

  pub goes_so : (asked : FactsAreTold) (old new : WorldValue) (l k j : Ledger) (event : Event) (o : Outcome) (way : Way) → ComesInOrder old l event → AreAlike l k → Steps event old (Ok o) new
      → length new.parties.phones ≡ length old.parties.phones → way_at old event ≡ Some way
      → (reject : Bool) (now : ℕ) (f : TheFacts) → reject ≡ old.limits.reject → now ≡ old.clock → facts_of f ≡ facts_after old new way event o → f.phone ≡ way.phone
      → (IsFor k event f.phone → IsCounted ((noted k reject now event (Ok o) (facts_of f)).sender f.phone) → AreAlike (noted k reject now event (Ok o) (facts_of f)) j)
      → Follows event old l (Ok o) new j
  goes_so asked old new l k j event o way c a steps many is reject now f r n same_facts phone h =
      follows_alike old new l k j event (Ok o) a
      (goes old k event (breach_alike l k a old.limits.remembered old.clock event ∙ c) asked o new j way steps many is
      (subst (λ (x : Facts). IsFor k event way.phone → IsCounted ((noted k old.limits.reject old.clock event (Ok o) x).sender way.phone) → AreAlike (noted k old.limits.reject old.clock event (Ok o) x) j) same_facts
      (subst (λ p. IsFor k event p → IsCounted ((noted k old.limits.reject old.clock event (Ok o) (facts_of f)).sender p) → AreAlike (noted k old.limits.reject old.clock event (Ok o) (facts_of f)) j) phone
      (subst (λ t. IsFor k event f.phone → IsCounted ((noted k old.limits.reject t event (Ok o) (facts_of f)).sender f.phone) → AreAlike (noted k old.limits.reject t event (Ok o) (facts_of f)) j) n
      (subst (λ b. IsFor k event f.phone → IsCounted ((noted k b now event (Ok o) (facts_of f)).sender f.phone) → AreAlike (noted k b now event (Ok o) (facts_of f)) j) r h)))))

  -- two packets at most are new
  pub few_new : (old new : WorldValue) (l : Ledger) (event : Event) (told : Told) → IsFollowed old l → Steps event old told new → length new.packets - length old.packets ≤ 2
  few_new old new l event told f steps =
      let t = steps f.last f.stands in
      let few = step_few law f.last event told t.0 t.1 t.2 in
      let many = how_many old.packets new.packets t.4 t.0 t.5 t.6 in omega (arith, few, many)

  -- the notes of an orderly run can be kept
  pub may_hold : (world : WorldValue) (notes : Notes) → IsFollowed world (ledger_in notes) → AreRowsOf notes world → MayHold notes
  may_hold world notes f rows =
      let orderly : Orderly f.last = run_orderly law f.limits f.phones f.past f.last f.watches.tells in
      record {
        recipients = λ t r e. subst (λ n. r < n) (sym (rows.receivers ∙ f.stands.parties_stand.as_many)) (recipients_there f.last (ledger_in notes) f.watches.notes t r e);
        free = λ r. free_left f.last (ledger_in notes) orderly.stamped.fit f.watches.notes r;
      }

-- ---- the watched world

module _ (watching : WatchingGoesOn) where
  any_notes : (limits : Limits) (phones : List AddressValue) (past : List (Event × Told)) (m : Machine) (l k : Ledger) (b : Breach)
      → Watches limits phones past m l (Some b) → Watches limits phones past m k (Some b)
  any_notes limits phones past m l k b w = record { distinct = w.distinct; run = w.run; settled = w.settled; tells = w.tells; notes = tt }

  -- one event more: where it is the first breach, or came after it, whatever is noted
  pub led_on : (old new : WorldValue) (l k : Ledger) (events number : ℕ) (breach after : Option Breach) (event : Event) (told : Told) → Steps event old told new
      → number ≡ min (events + 1) (2 ^ 64 - 1) → after ≡ breach_after breach number (breach_at l old.limits.remembered old.clock event) (segment_at l event)
      → (after ≡ None → Follows event old l told new k)
      → (limits : Limits) (phones : List AddressValue) (past : List (Event × Told)) (m : Machine) → LedBy old l events breach limits phones past m
      → (n : Machine) × LedBy new k number after limits phones ((event, told) ∷ past) n
  led_on old new l k events number breach after event told steps counts is follows limits phones past m led = go after refl
    where
      counted : number ≡ min (suc (length past)) (2 ^ 64 - 1)
      counted = let c = led.counted in omega (arith, c, counts)

      go : (b : Option Breach) → after ≡ b → (n : Machine) × LedBy new k number after limits phones ((event, told) ∷ past) n
      go None e =
          let none = no_breach breach number _ _ (sym is ∙ e) in
          let f = follows e limits phones past m (subst (λ b. Watches limits phones past m l b) none.0 led.watches) led.stands in
          (f.0, record { watches = subst (λ b. Watches limits phones ((event, told) ∷ past) f.0 k b) (sym e) f.1; stands = f.2; counted = counted })
      go (Some b) e =
          let t = steps m led.stands in
          let f = some_facts m event told t.0 t.1 in
          let same_breach = breach_there limits phones past m l breach led.watches old led.stands event in
          let w = watching.goes_on limits phones past m l breach led.watches event told t.0 t.1 t.2 f.0 f.2
          (breach_at l old.limits.remembered old.clock event) (segment_at l event) (λ _. same_breach) (λ _. refl) in
          let so : breach_after breach (min (suc (length past)) (2 ^ 64 - 1)) (breach_at l old.limits.remembered old.clock event) (segment_at l event) ≡ Some b
          = ap (λ i. breach_after breach i (breach_at l old.limits.remembered old.clock event) (segment_at l event)) (sym counted) ∙ (sym is ∙ e) in (
            t.1,
            record {
              watches = subst (λ x. Watches limits phones ((event, told) ∷ past) t.1 k x) (sym e)
                  (any_notes limits phones ((event, told) ∷ past) t.1 _ k b (subst (λ x. Watches limits phones ((event, told) ∷ past) t.1 (noted l limits.reject m.clock event told f.0) x) so w));
              stands = t.3;
              counted = counted;
            },
          )

  -- ---- in terms of the tables

  led_alike : (world : WorldValue) (l k : Ledger) (events : ℕ) (breach : Option Breach) (limits : Limits) (phones : List AddressValue) (past : List (Event × Told)) (m : Machine) → AreAlike l k
      → LedBy world l events breach limits phones past m → LedBy world k events breach limits phones past m
  led_alike world l k events breach limits phones past m a led =
      record { watches = watching.alike limits phones past m l k breach a led.watches; stands = led.stands; counted = led.counted }

  pub goes_watched : (old new : WorldValue) (notes notes' : Notes) (events number : ℕ) (breach after : Option Breach) (event : Event) (told : Told) → Steps event old told new
      → number ≡ min (events + 1) (2 ^ 64 - 1)
      → after ≡ breach_after breach number (breach_at (ledger_in notes) old.limits.remembered old.clock event) (segment_at (ledger_in notes) event)
      → (after ≡ None → Follows event old (ledger_in notes) told new (ledger_in notes'))
      → (limits : Limits) (phones : List AddressValue) (past : List (Event × Told)) (m : Machine) → LedBy old (ledger_of (tables_in notes)) events breach limits phones past m
      → (n : Machine) × LedBy new (ledger_of (tables_in notes')) number after limits phones ((event, told) ∷ past) n
  goes_watched old new notes notes' events number breach after event told steps counts is follows limits phones past m led =
      let r = led_on old new (ledger_in notes) (ledger_in notes') events number breach after event told steps counts is follows limits phones past m
      (led_alike old (ledger_of (tables_in notes)) (ledger_in notes) events breach limits phones past m (from_tables notes) led) in
      (r.0, led_alike new (ledger_in notes') (ledger_of (tables_in notes')) number after limits phones ((event, told) ∷ past) r.0 (to_tables notes') r.1)

  pub goes_on_watched : (old new : WorldValue) (notes notes' : Notes) (events number : ℕ) (breach after : Option Breach) (event : Event) (told : Told) → Steps event old told new
      → number ≡ min (events + 1) (2 ^ 64 - 1)
      → after ≡ breach_after breach number (breach_at (ledger_in notes) old.limits.remembered old.clock event) (segment_at (ledger_in notes) event)
      → (after ≡ None → Follows event old (ledger_in notes) told new (ledger_in notes'))
      → GoesOnWatched event (record { world = old; notes = tables_in notes; events = events; breach = breach })
      told (record { world = new; notes = tables_in notes'; events = number; breach = after })
  goes_on_watched old new notes notes' events number breach after event told steps counts is follows limits phones past c =
      let r = goes_watched old new notes notes' events number breach after event told steps counts is follows limits phones past c.0 c.2 in
      (r.0, r.1.watches.run, r.1)

  pub stays_watched : (old new : WorldValue) (notes notes' : Notes) (events number : ℕ) (breach after : Option Breach) (event : Event) (told : Told) → Steps event old told new
      → number ≡ min (events + 1) (2 ^ 64 - 1)
      → after ≡ breach_after breach number (breach_at (ledger_in notes) old.limits.remembered old.clock event) (segment_at (ledger_in notes) event)
      → (after ≡ None → Follows event old (ledger_in notes) told new (ledger_in notes'))
      → IsWatched (record { world = old; notes = tables_in notes; events = events; breach = breach })
      → IsWatched (record { world = new; notes = tables_in notes'; events = number; breach = after })
  stays_watched old new notes notes' events number breach after event told steps counts is follows h =
      let r = goes_watched old new notes notes' events number breach after event told steps counts is follows h.limits h.phones h.past h.last h.led in
      record { limits = h.limits; phones = h.phones; past = (event, told) ∷ h.past; last = r.0; led = r.1 }

  -- an event that is told as in order comes in order
  pub in_order_there : (world : WorldValue) (notes : Notes) (events number : ℕ) (breach : Option Breach) → IsWatched (record { world = world; notes = tables_in notes; events = events; breach = breach })
      → (event : Event) → breach_after breach number (breach_at (ledger_in notes) world.limits.remembered world.clock event) (segment_at (ledger_in notes) event) ≡ None
      → IsFollowed world (ledger_in notes) × ComesInOrder world (ledger_in notes) event
  in_order_there world notes events number breach h event e =
      let none = no_breach breach number _ _ e in
      let led = led_alike world (ledger_of (tables_in notes)) (ledger_in notes) events breach h.limits h.phones h.past h.last (from_tables notes) h.led in (
        record {
          limits = h.limits;
          phones = h.phones;
          past = h.past;
          last = h.last;
          watches = subst (λ b. Watches h.limits h.phones h.past h.last (ledger_in notes) b) none.0 led.watches;
          stands = led.stands;
        },
        none.1,
      )

  -- ---- its beginning, and what it tells

  pub led_begins : (limits : Limits) (phones : List AddressValue) (world : WorldValue) (notes : Notes) → are_distinct phones ≡ true → StandsFor world (start limits phones)
      → AreAlike new_ledger (ledger_in notes) → LedTo (record { world = world; notes = tables_in notes; events = 0; breach = None }) limits phones [] (start limits phones)
  led_begins limits phones world notes distinct stands alike =
      record {
        watches = watching.alike limits phones [] (start limits phones) (ledger_in notes) (ledger_of (tables_in notes)) None (to_tables notes)
            (watching.alike limits phones [] (start limits phones) new_ledger (ledger_in notes) None alike (watching.begins limits phones distinct));
        stands = stands;
        counted = omega arith;
      }

  pub begins_watched : (limits : Limits) (phones : List AddressValue) (world : WorldValue) (notes : Notes) → are_distinct phones ≡ true → StandsFor world (start limits phones)
      → AreAlike new_ledger (ledger_in notes) → BeginsWatched limits phones (record { world = world; notes = tables_in notes; events = 0; breach = None })
  begins_watched limits phones world notes distinct stands alike =
      let led = led_begins limits phones world notes distinct stands alike in (start limits phones, led.watches.run, led)

  pub new_watched : (limits : Limits) (phones : List AddressValue) (world : WorldValue) (notes : Notes) → are_distinct phones ≡ true → StandsFor world (start limits phones)
      → AreAlike new_ledger (ledger_in notes) → IsWatched (record { world = world; notes = tables_in notes; events = 0; breach = None })
  new_watched limits phones world notes distinct stands alike =
      record { limits = limits; phones = phones; past = []; last = start limits phones; led = led_begins limits phones world notes distinct stands alike }

pub told_in_order : (w : WatchedValue) → OrderIsTold w w.breach
told_in_order w limits phones past last led = led.watches.tells

pub kept_stores : ((world : WorldValue) → StoresAreWhole world) → (w : WatchedValue) → StoresAreKept w w.breach
kept_stores whole w none limits phones past last led phone within =
    whole w.world limits phones past last (subst (IsTold (start limits phones) past last) none led.watches.tells) led.stands phone within
