-- What a world tells after an event is so of the step that the machine makes.
use Rattle.std.proofs.Common.{◌≡◌, ℕ, zero, suc, ◌+◌, ◌-◌, ◌<◌, ◌≤◌, Bool, true, false, cond, eqb, leb, ltb, List, [], ◌∷◌, ◌++◌, length, length-append, Option, Some, None, Ok, Err, inl, inr, refl, sym, ap, ◌∙◌, subst, arith}
use Rattle.std.specs.List.{slice_get}
use Rattle.std.specs.Option.{option_map, unwrap_or}
use Rattle.std.proofs.lemmas.Bool.{cond_both, ltb-true}
use Rattle.std.proofs.lemmas.List.{length-map}
use Rattle.sms_field.specs.Address.Value.{AddressValue}
use Rattle.sms_join.specs.declared.units.Units.{Units}
use Rattle.sms_message.specs.declared.outcome.Outcome.{Outcome}
use Rattle.sms_message.specs.declared.outcome.Outcome.TheVariants as outcome
use Rattle.sms_message.specs.Address.{phone_at}
use Rattle.sms_message.specs.Changed.{changed}
use Rattle.sms_centre.specs.Centre.Latest.{latest_at}
use Rattle.sms_centre.specs.Centre.State.{Pushing}
use Rattle.sms_centre.specs.Centre.Value.{LineValue, phones_of}
use Rattle.sms_party.specs.Phone.{PhoneValue}
use Rattle.sms_party.specs.Sent.{nth, Place, Centre, Phone, Sent, Sends}
use Rattle.sms_party.specs.Sender.Texts.{Text, Sender, SenderState, new_text}
use Rattle.sms_party.specs.Sender.Putting.{Puts, puts, puts_first, puts_text, sender_drops, does, with_sender}
use Rattle.sms_party.specs.Sender.Calls.{appended, composes, typed}
use Rattle.sms_script.specs.Transcript.Lines.{PacketValue}
use Rattle.sms_world.specs.declared.fault.WorldFault.TheVariants.{NoSuchPhone}
use Rattle.sms_world.specs.declared.world.way.Way.{Way}
use Rattle.sms_world.specs.Told.{Told, of_party}
use Rattle.sms_world.specs.Ledger.{TextNote, note_of}
use Rattle.sms_world.specs.Noted.{Facts, AreFacts}
use Rattle.sms_world.specs.Machine.{Machine}
use Rattle.sms_world.specs.Machine.Event.{Event, Compose, Carry, Timeout, Push, Tick, Inject, Act, TypesText}
use Rattle.sms_world.specs.Machine.Next.{Next, next, stays, by_sender, packet}
use Rattle.sms_world.specs.Machine.Step.{Acts, Step}
use Rattle.sms_world.specs.World.Asked.{newest_at, FactsAreTold}
use Rattle.sms_world.specs.Inside.Asked.{text_typed, text_after, facts_after, packet_of, way_at, way_at_phone, way_of_packet}
use Rattle.sms_world.specs.World.Parties.{place_at}
use Rattle.sms_world.specs.World.Standing.{place_of, ArePacketsOf, StandsFor}
use Rattle.sms_world.specs.World.Value.{WorldValue}
use Rattle.sms_world.proofs.Growing.{nth_newest}
use Rattle.sms_world.proofs.Packets.{packet_there}
use Rattle.sms_world.proofs.Replaced.{changed_here}

-- ---- lists

slice_get_there : {X : Type 0} (xs : List X) (i : ℕ) → i < length xs → (x : X) × (slice_get xs i ≡ Some x)
slice_get_there [] i l = absurd (omega arith)
slice_get_there (x ∷ xs) zero l = (x, refl)
slice_get_there (x ∷ xs) (suc i) l = slice_get_there xs i (omega arith)

-- ---- packets

pub as_many : (packets : List PacketValue) (put : List Sent) → ArePacketsOf packets put → length packets ≡ length put
as_many [] [] h = refl
as_many [] (x ∷ put) h = absurd h
as_many (p ∷ packets) [] h = absurd h
as_many (p ∷ packets) (x ∷ put) h = ap suc (as_many packets put h.1)

pub how_many : (old new packets : List PacketValue) (put : List Sent) → new ≡ old ++ packets → ArePacketsOf packets put → length new - length old ≡ length put
how_many old new packets put e h =
    let k = as_many packets put h in
    let l : length new ≡ length old + length packets = ap length e ∙ length-append old packets in
    omega (arith, k, l)

no_more : (old packets : List PacketValue) → old ≡ old ++ packets → length packets ≡ 0
no_more old packets e =
    let l : length old ≡ length old + length packets = ap length e ∙ length-append old packets in omega (arith, l)

-- where there are no new packets, nothing was put out
pub put_nothing : (old new packets : List PacketValue) (put : List Sent) → new ≡ old → new ≡ old ++ packets → ArePacketsOf packets put → length put ≡ 0
put_nothing old new packets put s e h = let k = as_many packets put h in let z = no_more old packets (sym s ∙ e) in omega (arith, k, z)

-- ---- a text is typed

-- a text that was typed so is the last that waits at its phone
record TypedSo (m : Machine) (phone : ℕ) (target : AddressValue) (r : Next) (number : ℕ) (t : Text) : Type 0 where
  at : t.phone ≡ phone
  to : t.target ≡ target
  as_number : number ≡ t.number
  before : List ℕ
  waits : (r.after.senders.sender phone).pending ≡ before ++ length m.senders.texts ∷ []
  there : nth r.after.senders.texts (length m.senders.texts) ≡ Some t

module _ (m : Machine) (phone : ℕ) (target : AddressValue) where
  abbrev WasTyped : Next → Type 0
  WasTyped r = (number : ℕ) (t : Text) (before : List Text) → r.answer ≡ Ok (outcome.Typed number) → r.after.senders.texts ≡ t ∷ before → TypedSo m phone target r number t

  stays_untyped : WasTyped (stays m (Err NoSuchPhone))
  unfolding stays
  stays_untyped number t before e s = cc

  pending_kept : (texts : List Text) (s : Sender) (reject : Bool) → (puts texts phone s reject).sender.pending ≡ s.pending
  unfolding puts
  pending_kept texts s reject = go s.pending refl
    where
      text : (n : ℕ) (v : Option Text) → (puts_text phone s n reject v).sender.pending ≡ s.pending
      text n None = unfold puts_text in refl
      text n (Some t) = unfold puts_text in refl

      go : (ns : List ℕ) → s.pending ≡ ns → (puts_first texts phone s reject ns).sender.pending ≡ s.pending
      go [] e = unfold puts_first in refl
      go (n ∷ later) e = unfold puts_first in text n (nth texts n)

  typed_so : (u : Text) → u.phone ≡ phone → u.target ≡ target → WasTyped (by_sender m (typed m.senders phone u))
  unfolding by_sender typed does with_sender appended
  typed_so u own to number t before e s =
      let same : u ≡ t = cc in
      let number_is : u.number ≡ number = cc in
      record {
        at = ap (λ (v : Text). v.phone) (sym same) ∙ own;
        to = ap (λ (v : Text). v.target) (sym same) ∙ to;
        as_number = sym number_is ∙ ap (λ (v : Text). v.number) same;
        before = (m.senders.sender phone).pending;
        waits = ap (λ (v : Sender). v.pending) (changed_here m.senders.sender phone _)
            ∙ cond_both (eqb (length (m.senders.sender phone).pending) 0) (puts (u ∷ m.senders.texts) phone (appended (m.senders.sender phone) (length m.senders.texts)) m.senders.reject)
            (record { sent = []; sender = appended (m.senders.sender phone) (length m.senders.texts) })
            (λ (p : Puts). p.sender.pending ≡ (m.senders.sender phone).pending ++ length m.senders.texts ∷ [])
            (λ _. pending_kept (u ∷ m.senders.texts) (appended (m.senders.sender phone) (length m.senders.texts)) m.senders.reject) (λ _. refl);
        there = nth_newest u m.senders.texts ∙ ap Some same;
      }

  composes_so : (characters : List ℕ) (pieces : List Units) → WasTyped (by_sender m (composes m.senders phone target characters pieces))
  unfolding by_sender composes new_text sender_drops
  composes_so characters pieces =
      cond_both (leb 1000 (length (m.senders.sender phone).pending)) _ _ (λ (d : Sends SenderState). WasTyped (by_sender m d)) (λ _ number t before e s. cc)
      (λ _. cond_both (ltb 255 (length pieces)) _ _ (λ (d : Sends SenderState). WasTyped (by_sender m d)) (λ _ number t before e s. cc)
      (λ _. typed_so (new_text m.senders.wide m.senders.texts phone target characters pieces) refl refl))

  next_so : (characters : List ℕ) (pieces : List Units) → WasTyped (next m (TypesText phone target characters pieces))
  unfolding next
  next_so characters pieces = cond_both (ltb phone (length m.phones)) _ _ WasTyped (λ _. composes_so characters pieces) (λ _. stays_untyped)

-- ---- ways

-- the way of what happens at a phone
way_phone : (v : WorldValue) (phone : ℕ) (way : Way) → way_at_phone v phone ≡ Some way → (way ≡ record { up = true; phone = phone }) × (ltb phone (length v.parties.phones) ≡ true)
way_phone v phone way e = go (ltb phone (length v.parties.phones)) refl e
  where
    go : (b : Bool) → ltb phone (length v.parties.phones) ≡ b → cond {A = Option Way} b (Some (record { up = true; phone = phone })) None ≡ Some way
        → (way ≡ record { up = true; phone = phone }) × (ltb phone (length v.parties.phones) ≡ true)
    go true f x = (let q : ◌≡◌ {A = Way} (record { up = true; phone = phone }) way = cc in sym q, f)
    go false f x = cc

pub phone_there : (v : WorldValue) (phone : ℕ) (way : Way) → way_at_phone v phone ≡ Some way → (phone ≡ way.phone) × (ltb phone (length v.parties.phones) ≡ true)
phone_there v phone way e = let w = way_phone v phone way e in (sym (ap (λ (k : Way). k.phone) w.0), w.1)

-- the packet of an event goes this way
pub record Goes (v : WorldValue) (m : Machine) (k : ℕ) (way : Way) : Type 0 where
  pub entry : Sent
  pub there : packet m k ≡ Some entry
  pub to : entry.to ≡ place_at way.up way.phone

pub goes_so : (v : WorldValue) (m : Machine) → StandsFor v m → (k : ℕ) (way : Way) → way_of_packet v k ≡ Some way → Goes v m k way
goes_so v m h zero way e = cc
goes_so v m h (suc k) way e = go (slice_get v.packets k) refl e
  where
    go : (x : Option PacketValue) → slice_get v.packets k ≡ x → option_map {U = Way} (λ (p : PacketValue). record { up = p.is_up; phone = p.phone }) x ≡ Some way → Goes v m (suc k) way
    go None f e = cc
    go (Some p) f e =
        let s = packet_there m v.packets k p h.packets_are f in
        let w : ◌≡◌ {A = Way} (record { up = p.is_up; phone = p.phone }) way = cc in
        record { entry = s.entry; there = s.is_there; to = s.is_packet.0 ∙ ap (λ (q : Way). place_at q.up q.phone) w }

-- ---- all facts

abbrev the_note : ℕ → ℕ → Option ℕ → ℕ → ℕ → TextNote
the_note phone number recipient size reference = record { phone = phone; number = number; recipient = recipient; size = size; reference = reference }

module _ (told : FactsAreTold) (old new : WorldValue) (m n : Machine) (h : StandsFor old m) (k : StandsFor new n) (put : List Sent) (packets : List PacketValue)
    (more : new.packets ≡ old.packets ++ packets) (are : ArePacketsOf packets put) (phones : length new.parties.phones ≡ length old.parties.phones) where
  phone_in : (phone : ℕ) → ltb phone (length old.parties.phones) ≡ true → (p : PhoneValue) × (slice_get new.parties.phones phone ≡ Some p)
  phone_in phone l = slice_get_there new.parties.phones phone (subst (λ i. phone < i) (sym phones) (ltb-true _ _ l))

  line_in : (phone : ℕ) → ltb phone (length old.parties.phones) ≡ true → (p : LineValue) × (slice_get new.parties.centre.lines phone ≡ Some p)
  line_in phone l =
      let size : length new.parties.centre.lines ≡ length new.parties.phones =
      sym (length-map new.parties.centre.lines (λ (x : LineValue). x.address)) ∙ (ap length k.parties_stand.centre_stands.phones_are ∙ sym k.parties_stand.as_many) in
      slice_get_there new.parties.centre.lines phone (subst (λ i. phone < i) (sym (size ∙ phones)) (ltb-true _ _ l))

  note_told : (phone : ℕ) (target : AddressValue) (r : Next) (number : ℕ) (t : Text) → r.after ≡ n → TypedSo m phone target r number t → ltb phone (length old.parties.phones) ≡ true
      → text_typed new phone target number ≡ note_of n.phones t
  note_told phone target r number t e s l =
      let p = phone_in phone l in
      let newest : newest_at new.parties.phones phone ≡ Some (length t.pieces, t.set_reference)
      = told.newest new n phone p.0 s.before (length m.senders.texts) t k p.1
      (ap (λ (x : Machine). (x.senders.sender phone).pending) (sym e) ∙ s.waits) (ap (λ (x : Machine). nth x.senders.texts (length m.senders.texts)) (sym e) ∙ s.there) in
      let size : (unwrap_or (newest_at new.parties.phones phone) (0, 0)).0 ≡ length t.pieces = ap (λ (o : Option (ℕ × ℕ)). (unwrap_or o (0, 0)).0) newest in
      let reference : (unwrap_or (newest_at new.parties.phones phone) (0, 0)).1 ≡ t.set_reference = ap (λ (o : Option (ℕ × ℕ)). (unwrap_or o (0, 0)).1) newest in
      let recipient : phone_at (phones_of new.parties.centre) target ≡ phone_at n.phones t.target
      = ap (λ ps. phone_at ps target) k.parties_stand.centre_stands.phones_are ∙ ap (phone_at n.phones) (sym s.to) in
      ap (λ (x : ℕ). the_note x number (phone_at (phones_of new.parties.centre) target) (unwrap_or (newest_at new.parties.phones phone) (0, 0)).0 (unwrap_or (newest_at new.parties.phones phone) (0, 0)).1) (sym s.at)
      ∙ (ap (λ (x : ℕ). the_note t.phone x (phone_at (phones_of new.parties.centre) target) (unwrap_or (newest_at new.parties.phones phone) (0, 0)).0 (unwrap_or (newest_at new.parties.phones phone) (0, 0)).1) s.as_number
      ∙ (ap (λ (x : Option ℕ). the_note t.phone t.number x (unwrap_or (newest_at new.parties.phones phone) (0, 0)).0 (unwrap_or (newest_at new.parties.phones phone) (0, 0)).1) recipient
      ∙ (ap (λ (x : ℕ). the_note t.phone t.number (phone_at n.phones t.target) x (unwrap_or (newest_at new.parties.phones phone) (0, 0)).1) size
      ∙ ap (λ (x : ℕ). the_note t.phone t.number (phone_at n.phones t.target) (length t.pieces) x) reference)))

  module _ (event : Event) (o : Outcome) (step : Step m event (Ok o) put n) (way : Way) (is : way_at old event ≡ Some way) where
    typed_told : (phone : ℕ) (target : AddressValue) (characters : List ℕ) (number : ℕ) (t : Text) (before : List Text) → event ≡ Compose phone target characters
        → ◌≡◌ {A = Told} (Ok o) (Ok (outcome.Typed number)) → n.senders.texts ≡ t ∷ before → text_after new way.phone event o ≡ note_of n.phones t
    typed_told phone target characters number t before e f g =
        let o_is : o ≡ outcome.Typed number = cc in
        let there = phone_there old phone way (subst (λ v. way_at old v ≡ Some way) e is) in
        ap (λ v. text_after new way.phone v o) e ∙ (ap (λ v. text_after new way.phone (Compose phone target characters) v) o_is
        ∙ (ap (λ i. text_typed new i target number) (sym there.0)
        ∙ go (subst (λ v. Step m v (Ok o) put n) e step) there.1))
      where
        go : Step m (Compose phone target characters) (Ok o) put n → ltb phone (length old.parties.phones) ≡ true → text_typed new phone target number ≡ note_of n.phones t
        go s l = by s.2
          where
            by : Acts m s.0 (Ok o) put n → text_typed new phone target number ≡ note_of n.phones t
            by (inl a) =
                note_told phone target (next m s.0) number t a.2
                (subst (λ (c : Act). (next m c).after ≡ n → (next m c).answer ≡ Ok o → TypedSo m phone target (next m c) number t) (sym s.1.3)
                (λ after answer. next_so m phone target characters s.1.0 number t before (answer ∙ f) (ap (λ (x : Machine). x.senders.texts) after ∙ g)) a.2 a.0) l
            by (inr a) = cc

    stamp_told : (phone : ℕ) (p : Pushing) → event ≡ Push phone → ◌≡◌ {A = Told} (Ok o) (Ok outcome.Pushed) → (n.centre.line phone).latest ≡ Some p
        → unwrap_or (latest_at new.parties.centre.lines way.phone) 0 ≡ p.message.stamp
    stamp_told phone p e f g =
        let there = phone_there old phone way (subst (λ v. way_at old v ≡ Some way) e is) in
        let line = line_in phone there.1 in
        ap (λ i. unwrap_or (latest_at new.parties.centre.lines i) 0) (sym there.0)
        ∙ ap (λ v. unwrap_or v 0) (told.stamp new n phone line.0 p k line.1 g)

    goes_told : (i : ℕ) (x : Sent) → event ≡ Carry i → packet m i ≡ Some x → place_at way.up way.phone ≡ x.to
    goes_told i x e f =
        let g = goes_so old m h i way (subst (λ v. way_at old v ≡ Some way) e is) in
        let q : Some g.entry ≡ Some x = sym g.there ∙ f in
        let same : g.entry ≡ x = cc in
        sym g.to ∙ ap (λ (y : Sent). y.to) same

    pub facts_told : AreFacts m event (Ok o) put n (facts_after old new way event o)
    facts_told =
        record {
          as_many = how_many old.packets new.packets packets put more are;
          text_is = typed_told;
          stamp_is = stamp_told;
          goes = goes_told;
        }

-- ---- and where the world is not asked

newest_note : List AddressValue → List Text → TextNote
newest_note phones [] = record { phone = 0; number = 0; recipient = None; size = 0; reference = 0 }
newest_note phones (t ∷ texts) = note_of phones t

stamp_in : Option Pushing → ℕ
stamp_in None = 0
stamp_in (Some p) = p.message.stamp

place_in : Option Sent → Place
place_in None = Centre 0
place_in (Some x) = x.to

stamp_of : Machine → Event → ℕ
stamp_of n (Push phone) = stamp_in (n.centre.line phone).latest
stamp_of n _ = 0

place_told : Machine → Event → Place
place_told m (Carry k) = place_in (packet m k)
place_told m _ = Centre 0

-- the facts of any step
pub some_facts : (m : Machine) (event : Event) (told : Told) (put : List Sent) (n : Machine) → (f : Facts) × (f.put ≡ length put) × AreFacts m event told put n f
unfolding newest_note stamp_of stamp_in place_told place_in
some_facts m event told put n = (
  record { put = length put; text = newest_note n.phones n.senders.texts; stamp = stamp_of n event; to = place_told m event },
  refl,
  record {
    as_many = refl;
    text_is = λ phone target characters number t before e f g. ap (newest_note n.phones) g;
    stamp_is = λ phone p e f g. ap (stamp_of n) e ∙ ap stamp_in g;
    goes = λ k x e f. ap (place_told m) e ∙ ap place_in f;
  },
)
