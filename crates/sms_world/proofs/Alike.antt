-- What is noted of a fault, and of an event that is for nobody.
use Rattle.std.proofs.Common.{◌≡◌, ℕ, zero, suc, ◌+◌, Bool, true, false, cond, ltb, List, [], ◌∷◌, length, Option, Some, None, Ok, Err, inl, inr, refl, sym, ap, ◌∙◌, subst, arith}
use Rattle.std.specs.Option.{option_map}
use Rattle.std.specs.List.{slice_get}
use Rattle.std.proofs.lemmas.Bool.{cond_both}
use Rattle.sms_message.specs.Changed.{changed}
use Rattle.sms_message.specs.Message.{Origin}
use Rattle.sms_message.specs.declared.outcome.Outcome.{Outcome}
use Rattle.sms_party.specs.Sent.{Place, Centre, Phone, Sent}
use Rattle.sms_script.specs.Transcript.Lines.{PacketValue}
use Rattle.sms_world.specs.declared.fault.WorldFault.{WorldFault}
use Rattle.sms_world.specs.declared.fault.WorldFault.TheVariants.{NoSuchPacket, NoSuchPhone, ClockEnd, Party}
use Rattle.sms_world.specs.declared.world.way.Way.{Way}
use Rattle.sms_world.specs.Told.{Told}
use Rattle.sms_world.specs.Ledger.{Mark, Submits, Delivers, Neither, mark_at, called, Ledger, AreAlike}
use Rattle.sms_world.specs.Noted.{Facts, neithers, with_marks, sender_noted, delivery_noted, other_noted, carry_noted, noted}
use Rattle.sms_world.specs.Machine.{Machine}
use Rattle.sms_world.specs.Machine.Event.{Event, Compose, Carry, Timeout, Push, Tick, Inject, Act, TypesText, MovesPacket, EndsWait, HandsOver, MovesClock, SlipsIn, IsMetAs}
use Rattle.sms_world.specs.Machine.Next.{Next, next, stays, entered, carries, packet}
use Rattle.sms_world.specs.Machine.Step.{Acts, Step}
use Rattle.sms_world.specs.Inside.Asked.{packet_of, way_at, way_at_phone, way_of_packet}
use Rattle.sms_world.specs.World.Standing.{StandsFor}
use Rattle.sms_world.specs.World.Value.{WorldValue}
use Rattle.sms_world.proofs.Packets.{packet_not_there, no_packet_0}
use Rattle.sms_world.proofs.Replaced.{not_changed}

-- ---- the same notes

pub same : (l : Ledger) → AreAlike l l
same l = record { marks = refl; texts = refl; sender = λ p. refl; ends = λ o. refl; stamped = λ r x. refl; free = λ r. refl; receiver = λ p. refl }

pub joined : (l k j : Ledger) → AreAlike l k → AreAlike k j → AreAlike l j
joined l k j a b =
    record {
      marks = b.marks ∙ a.marks;
      texts = b.texts ∙ a.texts;
      sender = λ p. b.sender p ∙ a.sender p;
      ends = λ o. b.ends o ∙ a.ends o;
      stamped = λ r x. b.stamped r x ∙ a.stamped r x;
      free = λ r. b.free r ∙ a.free r;
      receiver = λ p. b.receiver p ∙ a.receiver p;
    }

pub from_equal : (l k : Ledger) → l ≡ k → AreAlike l k
from_equal l k e = subst (λ v. AreAlike l v) e (same l)

pub marks_alike : (l k : Ledger) (marks : List Mark) → AreAlike l k → AreAlike (with_marks l marks) (with_marks k marks)
marks_alike l k marks a = record { marks = ap (entered marks) a.marks; texts = a.texts; sender = a.sender; ends = a.ends; stamped = a.stamped; free = a.free; receiver = a.receiver }

-- ---- a fault

module _ (l : Ledger) (reject : Bool) (now : ℕ) (why : WorldFault) (f : Facts) (none : f.put ≡ 0) where
  abbrev Stays : Ledger → Type 0
  Stays k = AreAlike k l

  no_sender : (phone : ℕ) → Stays (sender_noted l reject phone f.text (Err why))
  no_sender phone =
      record {
        marks = refl;
        texts = refl;
        sender = λ p. sym (not_changed l.sender phone p);
        ends = λ o. refl;
        stamped = λ r x. refl;
        free = λ r. refl;
        receiver = λ p. refl;
      }

  no_marks : (k : Ledger) → Stays k → Stays (with_marks k (neithers f.put))
  no_marks k a = subst (λ n. Stays (with_marks k (neithers n))) (sym none) (record { marks = a.marks; texts = a.texts; sender = a.sender; ends = a.ends; stamped = a.stamped; free = a.free; receiver = a.receiver })

  no_delivery : (phone text : ℕ) → Stays (delivery_noted l now phone text (Err why))
  no_delivery phone text =
      record {
        marks = refl;
        texts = refl;
        sender = λ p. refl;
        ends = λ o. refl;
        stamped = λ r x. refl;
        free = λ r. refl;
        receiver = λ p. sym (not_changed l.receiver phone p);
      }

  no_other : (to : Place) → Stays (other_noted l reject f (Err why) to)
  no_other (Centre phone) = no_marks l (same l)
  no_other (Phone phone) = no_sender phone

  no_packet : (v : Option Mark) → Stays (carry_noted l reject now f (Err why) v)
  no_packet None = same l
  no_packet (Some (Submits text segment again)) = no_marks l (same l)
  no_packet (Some (Delivers phone text segment)) = no_marks (delivery_noted l now phone text (Err why)) (no_delivery phone text)
  no_packet (Some Neither) = no_other f.to

  pub fault_alike : (event : Event) → Stays (noted l reject now event (Err why) f)
  unfolding noted
  fault_alike (Compose phone target characters) = no_sender phone
  fault_alike (Timeout phone) = no_sender phone
  fault_alike (Push phone) = same l
  fault_alike (Tick seconds) = same l
  fault_alike (Inject place octets) = same l
  fault_alike (Carry k) = no_packet (mark_at l.marks k)

-- ---- an event that is for nobody

module _ (v : WorldValue) (m : Machine) (h : StandsFor v m) (told : Told) where
  -- a phone that there is not
  no_phone : (phone : ℕ) (d : Next) → way_at_phone v phone ≡ None → cond (ltb phone (length m.phones)) d (stays m (Err NoSuchPhone)) ≡ stays m (Err NoSuchPhone)
  no_phone phone d e = go (ltb phone (length v.parties.phones)) refl e
    where
      go : (b : Bool) → ltb phone (length v.parties.phones) ≡ b → cond {A = Option Way} b (Some (record { up = true; phone = phone })) None ≡ None
          → cond (ltb phone (length m.phones)) d (stays m (Err NoSuchPhone)) ≡ stays m (Err NoSuchPhone)
      go true f x = cc
      go false f x = ap (λ b. cond b d (stays m (Err NoSuchPhone))) (ap (ltb phone) (sym h.parties_stand.as_many) ∙ f)

  no_packet_there : (k : ℕ) → way_of_packet v k ≡ None → packet m k ≡ None
  no_packet_there zero e = no_packet_0 m
  no_packet_there (suc k) e = packet_not_there m v.packets k h.packets_are (go (slice_get v.packets k) e)
    where
      go : (x : Option PacketValue) → option_map {U = Way} (λ (p : PacketValue). record { up = p.is_up; phone = p.phone }) x ≡ None → x ≡ None
      go None e = refl
      go (Some p) e = cc

  abbrev IsFault : Told → Type 0
  IsFault t = (why : WorldFault) × (t ≡ Err why)

  answered : (act : Act) (put : List Sent) (n : Machine) → Acts m act told put n → IsFault (next m act).answer → IsFault told
  answered act put n (inl s) f = (f.0, sym s.0 ∙ f.1)
  answered act put n (inr s) f = (_, sym s.1)

  stays_fault : (why : WorldFault) → IsFault (stays m (Err why)).answer
  unfolding stays
  stays_fault why = (why, refl)

  -- it answers a fault, unless it is a tick
  pub for_nobody : (event : Event) → way_at v event ≡ None → (put : List Sent) (n : Machine) → Step m event told put n
      → ((seconds : ℕ) → event ≡ Tick seconds → ⊥) → ((place : Place) (octets : List ℕ) → event ≡ Inject place octets → ⊥) → IsFault told
  unfolding next carries
  for_nobody (Compose phone target characters) e put n step t i =
      answered step.0 put n step.2 (subst (λ (a : Act). IsFault (next m a).answer) (sym step.1.3)
      (subst (λ (r : Next). IsFault r.answer) (sym (no_phone phone _ e)) (stays_fault NoSuchPhone)))
  for_nobody (Carry k) e put n step t i =
      answered step.0 put n step.2 (subst (λ (a : Act). IsFault (next m a).answer) (sym step.1)
      (subst (λ (x : Option Sent). IsFault (carries m x).answer) (sym (no_packet_there k e)) (stays_fault NoSuchPacket)))
  for_nobody (Timeout phone) e put n step t i =
      answered step.0 put n step.2 (subst (λ (a : Act). IsFault (next m a).answer) (sym step.1)
      (subst (λ (r : Next). IsFault r.answer) (sym (no_phone phone _ e)) (stays_fault NoSuchPhone)))
  for_nobody (Push phone) e put n step t i =
      answered step.0 put n step.2 (subst (λ (a : Act). IsFault (next m a).answer) (sym step.1)
      (subst (λ (r : Next). IsFault r.answer) (sym (no_phone phone _ e)) (stays_fault NoSuchPhone)))
  for_nobody (Tick seconds) e put n step t i = absurd (t seconds refl)
  for_nobody (Inject place octets) e put n step t i = absurd (i place octets refl)

  pub nothing_noted : (l : Ledger) (reject : Bool) (now : ℕ) (f : Facts) → (IsFault told → f.put ≡ 0) → (event : Event) → way_at v event ≡ None → (put : List Sent) (n : Machine)
      → Step m event told put n → AreAlike (noted l reject now event told f) l
  nothing_noted l reject now f none event e put n step = go event e step
    where
      by_fault : (event : Event) → IsFault told → AreAlike (noted l reject now event told f) l
      by_fault event x = subst (λ t. AreAlike (noted l reject now event t f) l) (sym x.1) (fault_alike l reject now x.0 f (none x) event)

      go : (event : Event) → way_at v event ≡ None → Step m event told put n → AreAlike (noted l reject now event told f) l
      go (Tick seconds) e step = unfold noted in same l
      go (Inject place octets) e step = unfold noted in same l
      go (Compose phone target characters) e step = by_fault (Compose phone target characters) (for_nobody (Compose phone target characters) e put n step (λ s q. cc) (λ p o q. cc))
      go (Carry k) e step = by_fault (Carry k) (for_nobody (Carry k) e put n step (λ s q. cc) (λ p o q. cc))
      go (Timeout phone) e step = by_fault (Timeout phone) (for_nobody (Timeout phone) e put n step (λ s q. cc) (λ p o q. cc))
      go (Push phone) e step = by_fault (Push phone) (for_nobody (Push phone) e put n step (λ s q. cc) (λ p o q. cc))
