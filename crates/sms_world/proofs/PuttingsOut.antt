-- A sender's puttings out are never fewer, so what holds of few holds all along a run.
use Rattle.std.proofs.Common.{ℕ, ◌+◌, ◌-◌, ◌≤◌, Bool, true, false, cond, eqb, leb, ltb, List, [], ◌∷◌, length, Option, Some, None, subst, arith, inl, inr}
use Rattle.std.proofs.lemmas.Bool.{cond_both}
use Rattle.sms_field.specs.Address.Value.{AddressValue}
use Rattle.sms_field.specs.Time.Computed.{end_of_2099}
use Rattle.sms_relay.specs.declared.side.Side.TheVariants.{FromPhone, ToPhone}
use Rattle.sms_join.specs.declared.units.Units.{Units}
use Rattle.sms_message.specs.declared.message.Relay.{Relay}
use Rattle.sms_message.specs.declared.message.Relay.TheVariants.{Transfer, Answer, UnknownType, Unreadable}
use Rattle.sms_message.specs.declared.message.Report.{Report}
use Rattle.sms_message.specs.declared.message.Message.{Message}
use Rattle.sms_message.specs.declared.message.Message.TheVariants.{NotCp, Note, Tiny, Data}
use Rattle.sms_message.specs.declared.message.Tag.{Tag}
use Rattle.sms_message.specs.declared.outcome.Outcome.{Outcome}
use Rattle.sms_message.specs.declared.outcome.Dropped.{Dropped}
use Rattle.sms_message.specs.Message.{Origin, tag_of, same_tag}
use Rattle.sms_party.specs.Sent.{nth, Place, Centre, Phone, Sent, Sends}
use Rattle.sms_party.specs.Sender.Texts.{Text, Sender, SenderState, new_text}
use Rattle.sms_party.specs.Sender.Putting.{Puts, puts, puts_first, puts_text, with_sender, sender_drops, does}
use Rattle.sms_party.specs.Sender.Calls.{appended, typed, composes, ends, repeats, times_out}
use Rattle.sms_party.specs.Sender.Answers.{advanced, hears, matches, sender_receives}
use Rattle.sms_world.specs.Told.{Told}
use Rattle.sms_world.specs.Machine.{Machine, start}
use Rattle.sms_world.specs.Machine.Event.{Event, Act, TypesText, MovesPacket, EndsWait, HandsOver, MovesClock, SlipsIn}
use Rattle.sms_world.specs.Machine.Next.{Next, next, stays, by_sender, by_centre, by_receiver, comes, comes_to_phone, carries, packet, ticked}
use Rattle.sms_world.specs.Machine.Step.{Acts, RunWith}
use Rattle.sms_world.specs.Orderly.Injections.{NothingIsInjected}
use Rattle.sms_world.specs.Accepted.Few.{IsPlainAt, FewAreHonest}
use Rattle.sms_world.proofs.Growing.{changed_each}
use Rattle.sms_world.proofs.Numbered.{few_puttings_out}

-- each sender has put out as often, or more often
abbrev AreMore : SenderState → SenderState → Type 0
AreMore x y = (q : ℕ) → (x.sender q).outs ≤ (y.sender q).outs

as_often : (x : SenderState) → AreMore x x
as_often x q = omega arith

-- ---- what a sender does

text_more : (phone : ℕ) (s : Sender) (n : ℕ) (reject : Bool) (t : Option Text) → s.outs ≤ (puts_text phone s n reject t).sender.outs
unfolding puts_text
text_more phone s n reject None = omega arith
text_more phone s n reject (Some t) = omega arith

first_more : (texts : List Text) (phone : ℕ) (s : Sender) (reject : Bool) (ns : List ℕ) → s.outs ≤ (puts_first texts phone s reject ns).sender.outs
unfolding puts_first
first_more texts phone s reject [] = omega arith
first_more texts phone s reject (n ∷ later) = text_more phone s n reject (nth texts n)

puts_more : (texts : List Text) (phone : ℕ) (s : Sender) (reject : Bool) → s.outs ≤ (puts texts phone s reject).sender.outs
unfolding puts
puts_more texts phone s reject = first_more texts phone s reject s.pending

does_more : (x : SenderState) (phone : ℕ) (word : Outcome) (first : List Sent) (p : Puts) → (x.sender phone).outs ≤ p.sender.outs → AreMore x (does x phone word first p).after
unfolding does with_sender
does_more x phone word first p h = changed_each (λ q (s : Sender). (x.sender q).outs ≤ s.outs) x.sender phone p.sender h (λ q. omega arith)

drops_more : (x : SenderState) (why : Dropped) → AreMore x (sender_drops x why).after
unfolding sender_drops
drops_more x why = as_often x

module _ (x : SenderState) (phone : ℕ) where
  appended_or : (texts : List Text) (b : Bool) → (x.sender phone).outs
      ≤ (cond b (puts texts phone (appended (x.sender phone) (length x.texts)) x.reject) (record { sent = []; sender = appended (x.sender phone) (length x.texts) })).sender.outs
  unfolding appended
  appended_or texts true = puts_more texts phone (appended (x.sender phone) (length x.texts)) x.reject
  appended_or texts false = omega arith

  typed_more : (t : Text) → AreMore x (typed x phone t).after
  unfolding typed
  typed_more t =
      does_more (record { wide = x.wide; reject = x.reject; texts = t ∷ x.texts; sender = x.sender }) phone _ [] _
      (appended_or (t ∷ x.texts) (eqb (length (x.sender phone).pending) 0))

  composes_more : (target : AddressValue) (characters : List ℕ) (pieces : List Units) → AreMore x (composes x phone target characters pieces).after
  unfolding composes
  composes_more target characters pieces =
      cond_both (leb 1000 (length (x.sender phone).pending)) _ _ (λ (d : Sends SenderState). AreMore x d.after) (λ _. drops_more x _)
      (λ _. cond_both (ltb 255 (length pieces)) _ _ (λ (d : Sends SenderState). AreMore x d.after) (λ _. drops_more x _)
      (λ _. typed_more (new_text x.wide x.texts phone target characters pieces)))

  ends_more : (n : ℕ) (later : List ℕ) (good : Bool) (word : Outcome) (first : List Sent) → AreMore x (does x phone word first (puts x.texts phone (ends (x.sender phone) n later good) x.reject)).after
  unfolding ends
  ends_more n later good word first = does_more x phone word first _ (puts_more x.texts phone (ends (x.sender phone) n later good) x.reject)

  repeats_more : (ns : List ℕ) → AreMore x (repeats x phone (x.sender phone) ns).after
  unfolding repeats
  repeats_more [] = as_often x
  repeats_more (n ∷ later) =
      cond_both (ltb (x.sender phone).tries 4) _ _ (λ (d : Sends SenderState). AreMore x d.after)
      (λ _. does_more x phone _ [] _ (puts_more x.texts phone (x.sender phone) true)) (λ _. ends_more n later false _ [])

  late_more : AreMore x (times_out x phone).after
  unfolding times_out
  late_more = repeats_more (x.sender phone).pending

  hears_more : (tag : Tag) (n : ℕ) (later : List ℕ) (good more : Bool) (failed : Outcome) → AreMore x (hears x phone tag (x.sender phone) n later good more failed).after
  unfolding hears advanced
  hears_more tag n later true true failed = does_more x phone _ _ _ (puts_more x.texts phone (advanced (x.sender phone)) x.reject)
  hears_more tag n later true false failed = ends_more n later true _ _
  hears_more tag n later false more failed = ends_more n later false failed _

  matches_more : (tag : Tag) (ns : List ℕ) (cause : Option ℕ) (report : Option Report) → AreMore x (matches x phone tag (x.sender phone) ns cause report).after
  unfolding matches
  matches_more tag [] cause report = drops_more x _
  matches_more tag (n ∷ later) cause report =
      cond_both (same_tag tag (tag_of ((x.sender phone).outs - 1))) _ _ (λ (d : Sends SenderState). AreMore x d.after) (λ _. hears_more tag n later _ _ _) (λ _. drops_more x _)

  receives_more : (tag : Tag) (relay : Relay) → AreMore x (sender_receives x phone tag relay).after
  unfolding sender_receives
  receives_more tag (Answer ToPhone cause report) = matches_more tag (x.sender phone).pending cause report
  receives_more tag (Answer FromPhone cause report) = drops_more x _
  receives_more tag (Transfer side unit) = drops_more x _
  receives_more tag UnknownType = drops_more x _
  receives_more tag Unreadable = drops_more x _

-- ---- the machine

stays_more : (m : Machine) (told : Told) → AreMore m.senders (stays m told).after.senders
unfolding stays
stays_more m told = as_often m.senders

to_phone_more : (m : Machine) (phone : ℕ) (message : Message) (origin : Option Origin) → AreMore m.senders (comes_to_phone m phone message origin).after.senders
unfolding comes_to_phone by_sender by_receiver
to_phone_more m phone NotCp origin = stays_more m _
to_phone_more m phone (Note flag value) origin = stays_more m _
to_phone_more m phone (Tiny flag value) origin = stays_more m _
to_phone_more m phone (Data true tag relay) origin = receives_more m.senders phone tag relay
to_phone_more m phone (Data false tag relay) origin = as_often m.senders

comes_more : (m : Machine) (place : Place) (message : Message) (origin : Option Origin) (putting : Option ℕ) → AreMore m.senders (comes m place message origin putting).after.senders
unfolding comes by_centre
comes_more m (Centre phone) message origin putting = as_often m.senders
comes_more m (Phone phone) message origin putting = to_phone_more m phone message origin

carries_more : (m : Machine) (x : Option Sent) → AreMore m.senders (carries m x).after.senders
unfolding carries
carries_more m None = stays_more m _
carries_more m (Some x) = comes_more m x.to x.message x.origin x.putting

next_more : (m : Machine) (act : Act) → AreMore m.senders (next m act).after.senders
unfolding next by_sender by_centre ticked
next_more m (TypesText phone target characters pieces) =
    cond_both (ltb phone (length m.phones)) _ _ (λ (n : Next). AreMore m.senders n.after.senders) (λ _. composes_more m.senders phone target characters pieces) (λ _. stays_more m _)
next_more m (MovesPacket k) = carries_more m (packet m k)
next_more m (EndsWait phone) =
    cond_both (ltb phone (length m.phones)) _ _ (λ (n : Next). AreMore m.senders n.after.senders) (λ _. late_more m.senders phone) (λ _. stays_more m _)
next_more m (HandsOver phone) =
    cond_both (ltb phone (length m.phones)) _ _ (λ (n : Next). AreMore m.senders n.after.senders) (λ _. as_often m.senders) (λ _. stays_more m _)
next_more m (MovesClock seconds) =
    cond_both (ltb (m.clock + seconds) end_of_2099) _ _ (λ (n : Next). AreMore m.senders n.after.senders) (λ _. as_often m.senders) (λ _. stays_more m _)
next_more m (SlipsIn (Centre phone) message) =
    cond_both (ltb phone (length m.phones)) _ _ (λ (n : Next). AreMore m.senders n.after.senders) (λ _. comes_more m (Centre phone) message None None) (λ _. stays_more m _)
next_more m (SlipsIn (Phone phone) message) =
    cond_both (ltb phone (length m.phones)) _ _ (λ (n : Next). AreMore m.senders n.after.senders) (λ _. comes_more m (Phone phone) message None None) (λ _. stays_more m _)

acts_more : (m n : Machine) (act : Act) (told : Told) (put : List Sent) → Acts m act told put n → AreMore m.senders n.senders
acts_more m n act told put (inl s) = subst (λ (v : Machine). AreMore m.senders v.senders) s.2 (next_more m act)
acts_more m n act told put (inr s) = subst (λ (v : Machine). AreMore m.senders v.senders) s.3 (as_often m.senders)

-- ---- a run

plain_run : (phone : ℕ) (first : Machine) (past : List (Event × Told)) (m : Machine) → RunWith (IsPlainAt phone) first past m → RunWith (λ old event. NothingIsInjected event) first past m
plain_run phone first [] m run = run
plain_run phone first (e ∷ past) m (old, run, keeps, step) = (old, plain_run phone first past old run, keeps.plain, step)

pub few_are_honest : FewAreHonest
few_are_honest limits phones [] m phone run few = run
few_are_honest limits phones (e ∷ past) m phone (old, run, keeps, (put, (act, is, acts))) few =
    let more = acts_more old m act e.1 put acts phone in
    let fewer : (old.senders.sender phone).outs ≤ 1792 = omega (arith, more, few) in (
      old,
      few_are_honest limits phones past old phone run fewer,
      record { answers = few_puttings_out limits phones past old (plain_run phone (start limits phones) past old run) e.0 phone fewer; references = keeps.references; plain = keeps.plain },
      (put, (act, is, acts)),
    )
