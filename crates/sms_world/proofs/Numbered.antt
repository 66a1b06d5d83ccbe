-- Where nothing is injected, each answer that goes to a phone has the tag of the putting out that it answers.
use Rattle.std.proofs.Common.{◌≡◌, ℕ, ◌+◌, ◌-◌, ◌%◌, ◌<◌, ◌≤◌, Bool, true, false, ltb, leb, eqb, ◌&&◌, List, [], ◌∷◌, length, refl, sym, ap, ◌∙◌, subst, arith, Some, None, Option, inl, inr}
use Rattle.std.specs.List.{AllByRecursion}
use Rattle.std.proofs.lemmas.Bool.{cond_both, eq-eqb}
use Rattle.sms_field.specs.Address.Value.{AddressValue}
use Rattle.sms_tpdu.specs.Submit.{Submission}
use Rattle.sms_relay.specs.declared.side.Side.TheVariants.{FromPhone, ToPhone}
use Rattle.sms_join.specs.declared.units.Units.{Units}
use Rattle.sms_message.specs.declared.message.TransferUnit.{TransferUnit}
use Rattle.sms_message.specs.declared.message.TransferUnit.TheVariants.{Submit, Deliver, OtherUnit, BadUnit}
use Rattle.sms_message.specs.declared.message.Report.{Report}
use Rattle.sms_message.specs.declared.message.Relay.{Relay}
use Rattle.sms_message.specs.declared.message.Relay.TheVariants.{Transfer, Answer, UnknownType, Unreadable}
use Rattle.sms_message.specs.declared.message.Message.{Message}
use Rattle.sms_message.specs.declared.message.Message.TheVariants.{NotCp, Note, Tiny, Data}
use Rattle.sms_message.specs.declared.message.Tag.{Tag}
use Rattle.sms_message.specs.Message.{Origin, tag_of, same_tag}
use Rattle.sms_message.specs.Message.Answers.{answers}
use Rattle.sms_centre.specs.declared.centre.check.Check.{Check}
use Rattle.sms_centre.specs.declared.centre.check.Check.TheVariants.{Refuse, Accept}
use Rattle.sms_message.specs.declared.outcome.Outcome.{Outcome}
use Rattle.sms_message.specs.declared.outcome.Outcome.TheVariants.{Typed}
use Rattle.sms_message.specs.declared.outcome.Dropped.{Dropped}
use Rattle.sms_field.specs.Time.Computed.{end_of_2099}
use Rattle.sms_message.specs.Does.{Does}
use Rattle.sms_centre.specs.Centre.{centre_opened, centre_answered, centre_receives}
use Rattle.sms_centre.specs.Centre.State.{CentreState, Acceptance, Pushing}
use Rattle.sms_message.specs.Changed.{changed}
use Rattle.sms_centre.specs.Centre.Held.{unended}
use Rattle.sms_centre.specs.Centre.Checks.{checked_by, books_of}
use Rattle.sms_centre.specs.Centre.Submissions.{checked, centre_takes}
use Rattle.sms_centre.specs.Centre.Pushes.{centre_pushes, pushes_first}
use Rattle.sms_centre.specs.Centre.Verdicts.{centre_hears, settled}
use Rattle.sms_party.specs.Sent.{nth, Place, Centre, Phone, Sent, bare, Sends}
use Rattle.sms_party.specs.Sender.Texts.{Text, Sender, SenderState, width_of}
use Rattle.sms_party.specs.Sender.Putting.{Puts, puts, puts_first, puts_text, with_sender, sender_drops, does}
use Rattle.sms_party.specs.Sender.Calls.{appended, typed, composes, ends, repeats, times_out}
use Rattle.sms_party.specs.Sender.Answers.{advanced, noted, hears, matches, sender_receives}
use Rattle.sms_script.specs.declared.script.limits.Limits.{Limits}
use Rattle.sms_world.specs.Told.{Told}
use Rattle.sms_world.specs.Machine.{Machine, start}
use Rattle.sms_world.specs.Machine.Event.{Event, Compose, Carry, Timeout, Push, Tick, Inject, Act, IsMetAs}
use Rattle.sms_world.specs.Machine.Next.{Next, next, stays, by_sender, by_centre, by_receiver, of_centre, to_phone, to_centre, receiver_limits, pushed, comes, comes_to_phone, carries, packet, ticked}
use Rattle.sms_world.specs.Machine.Step.{Acts, RunWith}
use Rattle.sms_world.specs.Orderly.Injections.{NothingIsInjected}
use Rattle.sms_world.specs.Accepted.Few.{FewPuttingsOut}
use Rattle.sms_world.proofs.Growing.{each_weaker, each_append, each_entered, changed_each}
use Rattle.sms_world.proofs.Once.{packet_sent, receives_put}

-- the tag is that of a putting out of the sender, which is the one of this number
abbrev IsNumbered : Sender → Tag → Option ℕ → Type 0
IsNumbered s tag putting = (k : ℕ) × (putting ≡ Some k) × (tag ≡ tag_of k) × (k < s.outs)

abbrev Numbered : (ℕ → Sender) → Message → Place → Option ℕ → Type 0
Numbered f NotCp to putting = Unit {0}
Numbered f (Note flag value) to putting = Unit {0}
Numbered f (Tiny flag value) to putting = Unit {0}
Numbered f (Data false tag relay) (Centre p) putting = IsNumbered (f p) tag putting
Numbered f (Data false tag relay) (Phone p) putting = Unit {0}
Numbered f (Data true tag relay) (Phone p) putting = IsNumbered (f p) tag putting
Numbered f (Data true tag relay) (Centre p) putting = Unit {0}

abbrev SentNumbered : (ℕ → Sender) → Sent → Type 0
SentNumbered f x = Numbered f x.message x.to x.putting

still : (s s' : Sender) (tag : Tag) (putting : Option ℕ) → s.outs ≤ s'.outs → IsNumbered s tag putting → IsNumbered s' tag putting
still s s' tag putting l h = let b = h.3 in (h.0, h.1, h.2, omega arith)

module _ (f f' : ℕ → Sender) (more : (q : ℕ) → (f q).outs ≤ (f' q).outs) where
  stays_numbered : (v : Message) (to : Place) (putting : Option ℕ) → Numbered f v to putting → Numbered f' v to putting
  stays_numbered NotCp to putting h = tt
  stays_numbered (Note flag value) to putting h = tt
  stays_numbered (Tiny flag value) to putting h = tt
  stays_numbered (Data false tag relay) (Centre p) putting h = still (f p) (f' p) tag putting (more p) h
  stays_numbered (Data false tag relay) (Phone p) putting h = tt
  stays_numbered (Data true tag relay) (Phone p) putting h = still (f p) (f' p) tag putting (more p) h
  stays_numbered (Data true tag relay) (Centre p) putting h = tt

-- ---- what a sender does

record PutsMore (phone outs : ℕ) (p : Puts) : Type 0 where
  more : outs ≤ p.sender.outs
  put : (f : ℕ → Sender) → f phone ≡ p.sender → AllByRecursion (SentNumbered f) p.sent

puts_more : (texts : List Text) (phone : ℕ) (s : Sender) (reject : Bool) → PutsMore phone s.outs (puts texts phone s reject)
unfolding puts puts_first
puts_more texts phone s reject = go s.pending
  where
    text_more : (n : ℕ) (t : Option Text) → PutsMore phone s.outs (puts_text phone s n reject t)
    text_more n None = unfold puts_text in record { more = omega arith; put = λ f e. tt }
    text_more n (Some t) = unfold puts_text in
        record {
          more = omega arith;
          put = λ f e. ((s.outs, refl, refl, subst (λ (v : Sender). s.outs < v.outs) (sym e) (omega arith)), tt);
        }

    go : (ns : List ℕ) → PutsMore phone s.outs (puts_first texts phone s reject ns)
    go [] = record { more = omega arith; put = λ f e. tt }
    go (n ∷ later) = text_more n (nth texts n)

record Moves (x : SenderState) (d : Sends SenderState) : Type 0 where
  more : (q : ℕ) → (x.sender q).outs ≤ (d.after.sender q).outs
  put : AllByRecursion (SentNumbered d.after.sender) d.put

at_changed : {X : Type 0} (f : ℕ → X) (n : ℕ) (x : X) → changed f n x n ≡ x
at_changed f n x = rw (eq-eqb n n refl) refl

module _ (x : SenderState) (phone : ℕ) where
  drops_moves : (why : Dropped) → Moves x (sender_drops x why)
  unfolding sender_drops
  drops_moves why = record { more = λ q. omega arith; put = tt }

  does_moves : (o : Outcome) (first : List Sent) (p : Puts) → ((f : ℕ → Sender) → AllByRecursion (SentNumbered f) first) → PutsMore phone (x.sender phone).outs p
      → Moves x (does x phone o first p)
  unfolding does with_sender
  does_moves o first p a h =
      record {
        more = changed_each (λ q (s : Sender). (x.sender q).outs ≤ s.outs) x.sender phone p.sender h.more (λ q. omega arith);
        put = each_append (SentNumbered (changed x.sender phone p.sender)) first p.sent
            (a (changed x.sender phone p.sender)) (h.put (changed x.sender phone p.sender) (at_changed x.sender phone p.sender));
      }

  typed_moves : (t : Text) → Moves x (typed x phone t)
  unfolding typed appended does with_sender
  typed_moves t =
      cond_both (eqb (length (x.sender phone).pending) 0) _ _
      (λ (p : Puts). Moves x (does (record { wide = x.wide; reject = x.reject; texts = t ∷ x.texts; sender = x.sender }) phone (Typed t.number) [] p))
      (λ _. let m = puts_more (t ∷ x.texts) phone (appended (x.sender phone) (length x.texts)) x.reject in given m.more m.put)
      (λ _. given (omega arith) (λ f e. tt))
    where
      given : {p : Puts} → (x.sender phone).outs ≤ p.sender.outs → ((f : ℕ → Sender) → f phone ≡ p.sender → AllByRecursion (SentNumbered f) p.sent)
          → Moves x (does (record { wide = x.wide; reject = x.reject; texts = t ∷ x.texts; sender = x.sender }) phone (Typed t.number) [] p)
      given {p} l h =
          record {
            more = changed_each (λ q (s : Sender). (x.sender q).outs ≤ s.outs) x.sender phone p.sender l (λ q. omega arith);
            put = h (changed x.sender phone p.sender) (at_changed x.sender phone p.sender);
          }

  composes_moves : (target : AddressValue) (characters : List ℕ) (pieces : List Units) → Moves x (composes x phone target characters pieces)
  unfolding composes
  composes_moves target characters pieces =
      cond_both (leb 1000 (length (x.sender phone).pending)) _ _ (Moves x) (λ _. drops_moves _)
      (λ _. cond_both (ltb 255 (length pieces)) _ _ (Moves x) (λ _. drops_moves _) (λ _. typed_moves _))

  ends_more : (n : ℕ) (later : List ℕ) (good : Bool) → PutsMore phone (x.sender phone).outs (puts x.texts phone (ends (x.sender phone) n later good) x.reject)
  unfolding ends
  ends_more n later good = puts_more x.texts phone (ends (x.sender phone) n later good) x.reject

  repeats_moves : (ns : List ℕ) → Moves x (repeats x phone (x.sender phone) ns)
  unfolding repeats
  repeats_moves [] = record { more = λ q. omega arith; put = tt }
  repeats_moves (n ∷ later) =
      cond_both (ltb (x.sender phone).tries 4) _ _ (Moves x)
      (λ _. does_moves _ [] _ (λ f. tt) (puts_more x.texts phone (x.sender phone) true)) (λ _. does_moves _ [] _ (λ f. tt) (ends_more n later false))

  times_out_moves : Moves x (times_out x phone)
  unfolding times_out
  times_out_moves = repeats_moves (x.sender phone).pending

  noted_numbered : (tag : Tag) (f : ℕ → Sender) → AllByRecursion (SentNumbered f) (noted phone tag)
  unfolding bare
  noted_numbered tag f = (tt, tt)

  hears_moves : (tag : Tag) (n : ℕ) (later : List ℕ) (good more : Bool) (failed : Outcome) → Moves x (hears x phone tag (x.sender phone) n later good more failed)
  unfolding hears advanced
  hears_moves tag n later true true failed =
      does_moves _ _ _ (noted_numbered tag) (puts_more x.texts phone (advanced (x.sender phone)) x.reject)
  hears_moves tag n later true false failed = does_moves _ _ _ (noted_numbered tag) (ends_more n later true)
  hears_moves tag n later false more failed = does_moves _ _ _ (noted_numbered tag) (ends_more n later false)

  matches_moves : (tag : Tag) (ns : List ℕ) (cause : Option ℕ) (report : Option Report) → Moves x (matches x phone tag (x.sender phone) ns cause report)
  unfolding matches
  matches_moves tag [] cause report = drops_moves _
  matches_moves tag (n ∷ later) cause report =
      cond_both (same_tag tag (tag_of ((x.sender phone).outs - 1))) _ _ (Moves x) (λ _. hears_moves tag n later _ _ _) (λ _. drops_moves _)

  receives_moves : (tag : Tag) (v : Relay) → Moves x (sender_receives x phone tag v)
  unfolding sender_receives
  receives_moves tag (Answer ToPhone cause report) = matches_moves tag (x.sender phone).pending cause report
  receives_moves tag (Answer FromPhone cause report) = drops_moves _
  receives_moves tag (Transfer side unit) = drops_moves _
  receives_moves tag UnknownType = drops_moves _
  receives_moves tag Unreadable = drops_moves _

-- ---- what the centre does

abbrev Replies : (ℕ → Sender) → ℕ → Option ℕ → Does CentreState → Type 0
Replies f phone putting d = AllByRecursion (SentNumbered f) (to_phone phone None putting d.put)

module _ (f : ℕ → Sender) (phone : ℕ) (putting : Option ℕ) (c : CentreState) (now : ℕ) where
  checked_replies : (tag : Tag) (s : Submission) (o : Option Origin) (k : Check) → IsNumbered (f phone) tag putting → Replies f phone putting (checked c now phone tag s o k)
  unfolding checked
  checked_replies tag s o (Refuse cause failure) h = (tt, (h, tt))
  checked_replies tag s o (Accept r ends stamp) h = (tt, (h, tt))

  takes_replies : (limit : ℕ) (phones : List AddressValue) (tag : Tag) (u : TransferUnit) (o : Option Origin) → IsNumbered (f phone) tag putting
      → Replies f phone putting (centre_takes limit phones c now phone tag u o)
  unfolding centre_takes
  takes_replies limit phones tag (Submit s) o h = checked_replies tag s o (checked_by limit phones (books_of c.accepted now phone s) now s) h
  takes_replies limit phones tag (Deliver d) o h = (tt, (h, tt))
  takes_replies limit phones tag OtherUnit o h = (tt, (h, tt))
  takes_replies limit phones tag BadUnit o h = (tt, (h, tt))

  hears_replies : (tag : Tag) (cause : Option ℕ) (latest : Option Pushing) → Replies f phone putting (centre_hears c now phone tag cause latest)
  unfolding centre_hears settled
  hears_replies tag cause None = tt
  hears_replies tag cause (Some p) =
      cond_both (same_tag tag p.tag && ltb now p.message.ends) _ _ (Replies f phone putting) (λ _. (tt, tt)) (λ _. tt)

  centre_replies : (limit : ℕ) (phones : List AddressValue) (v : Message) (o : Option Origin) → Numbered f v (Centre phone) putting
      → Replies f phone putting (centre_receives limit phones c now phone v o)
  unfolding centre_receives centre_opened centre_answered
  centre_replies limit phones NotCp o h = tt
  centre_replies limit phones (Note flag value) o h = tt
  centre_replies limit phones (Tiny flag value) o h = tt
  centre_replies limit phones (Data false tag (Transfer FromPhone unit)) o h = takes_replies limit phones tag unit o h
  centre_replies limit phones (Data false tag (Transfer ToPhone unit)) o h = tt
  centre_replies limit phones (Data false tag (Answer side cause report)) o h = tt
  centre_replies limit phones (Data false tag UnknownType) o h = (tt, (h, tt))
  centre_replies limit phones (Data false tag Unreadable) o h = (tt, (h, tt))
  centre_replies limit phones (Data true tag (Answer FromPhone cause report)) o h = hears_replies tag cause (c.line phone).latest
  centre_replies limit phones (Data true tag (Answer ToPhone cause report)) o h = tt
  centre_replies limit phones (Data true tag (Transfer side unit)) o h = tt
  centre_replies limit phones (Data true tag UnknownType) o h = tt
  centre_replies limit phones (Data true tag Unreadable) o h = tt

-- ---- the whole

abbrev All : Machine → Type 0
All m = AllByRecursion (SentNumbered m.senders.sender) m.sent

by_sender_all : (m : Machine) (d : Sends SenderState) → All m → Moves m.senders d → All (by_sender m d).after
unfolding by_sender
by_sender_all m d h g =
    each_entered (SentNumbered d.after.sender) d.put m.sent g.put
    (each_weaker (SentNumbered m.senders.sender) (SentNumbered d.after.sender) m.sent
    (λ x t. stays_numbered m.senders.sender d.after.sender g.more x.message x.to x.putting t) h)

stays_all : (m : Machine) (told : Told) → All m → All (stays m told).after
unfolding stays
stays_all m told h = h

pushes_all : (m : Machine) (phones : List AddressValue) (phone : ℕ) (queue : List Acceptance) → All m → All (by_centre m (pushed phone (pushes_first phones m.centre phone queue))).after
unfolding by_centre pushed of_centre pushes_first
pushes_all m phones phone [] h = h
pushes_all m phones phone (a ∷ others) h = (tt, h)

to_phone_all : (m : Machine) (phone : ℕ) (v : Message) (o : Option Origin) → All m → All (comes_to_phone m phone v o).after
unfolding comes_to_phone by_receiver
to_phone_all m phone NotCp o h = stays_all m _ h
to_phone_all m phone (Note flag value) o h = stays_all m _ h
to_phone_all m phone (Tiny flag value) o h = stays_all m _ h
to_phone_all m phone (Data true tag relay) o h = by_sender_all m (sender_receives m.senders phone tag relay) h (receives_moves m.senders phone tag relay)
to_phone_all m phone (Data false tag relay) o h =
    each_entered (SentNumbered m.senders.sender) _ m.sent
    (receives_put (SentNumbered m.senders.sender) m.clock (receiver_limits m.limits) (m.receiver phone) phone tag relay o answered) h
  where
    answered : (v : Option ℕ) (r : Option Report) → AllByRecursion (SentNumbered m.senders.sender) (to_centre phone (answers FromPhone tag v r))
    answered v r = unfold bare in (tt, (tt, tt))

carries_all : (m : Machine) (x : Option Sent) → All m → ((y : Sent) → x ≡ Some y → SentNumbered m.senders.sender y) → All (carries m x).after
unfolding carries comes
carries_all m None h s = stays_all m _ h
carries_all m (Some x) h s = go x.to refl (s x refl)
  where
    go : (to : Place) → x.to ≡ to → Numbered m.senders.sender x.message to x.putting → All (comes m to x.message x.origin x.putting).after
    go (Phone phone) e t = to_phone_all m phone x.message x.origin h
    go (Centre phone) e t = unfold by_centre of_centre in
        each_entered (SentNumbered m.senders.sender) _ m.sent
        (centre_replies m.senders.sender phone x.putting m.centre m.clock m.limits.held m.phones x.message x.origin t) h

next_all : (m : Machine) (e : Event) (act : Act) → IsMetAs (width_of m.senders.wide) e act → NothingIsInjected e → All m → All (next m act).after
unfolding next ticked centre_pushes
next_all m (Compose phone target characters) act is may h =
    subst (λ (v : Act). All (next m v).after) (sym is.3)
    (cond_both (ltb phone (length m.phones)) _ _ (λ (r : Next). All r.after)
    (λ _. by_sender_all m (composes m.senders phone target characters is.0) h (composes_moves m.senders phone target characters is.0)) (λ _. stays_all m _ h))
next_all m (Carry k) act is may h =
    subst (λ (v : Act). All (next m v).after) (sym is) (carries_all m (packet m k) h (packet_sent m (SentNumbered m.senders.sender) k h))
next_all m (Timeout phone) act is may h =
    subst (λ (v : Act). All (next m v).after) (sym is)
    (cond_both (ltb phone (length m.phones)) _ _ (λ (r : Next). All r.after)
    (λ _. by_sender_all m (times_out m.senders phone) h (times_out_moves m.senders phone)) (λ _. stays_all m _ h))
next_all m (Push phone) act is may h =
    subst (λ (v : Act). All (next m v).after) (sym is)
    (cond_both (ltb phone (length m.phones)) _ _ (λ (r : Next). All r.after)
    (λ _. pushes_all m m.phones phone (unended (m.centre.line phone).queue m.clock) h) (λ _. stays_all m _ h))
next_all m (Tick seconds) act is may h =
    subst (λ (v : Act). All (next m v).after) (sym is)
    (cond_both (ltb (m.clock + seconds) end_of_2099) _ _ (λ (r : Next). All r.after) (λ _. h) (λ _. stays_all m _ h))
next_all m (Inject place octets) act is may h = absurd may

acts_all : (m : Machine) (e : Event) (act : Act) (told : Told) (put : List Sent) (n : Machine)
    → IsMetAs (width_of m.senders.wide) e act → NothingIsInjected e → All m → Acts m act told put n → All n
acts_all m e act told put n is may h (inl s) = subst All s.2 (next_all m e act is may h)
acts_all m e act told put n is may h (inr s) = subst All s.3 h

start_all : (limits : Limits) (phones : List AddressValue) → All (start limits phones)
unfolding start
start_all limits phones = tt

pub run_all : (limits : Limits) (phones : List AddressValue) (past : List (Event × Told)) (m : Machine)
    → RunWith (λ old event. NothingIsInjected event) (start limits phones) past m → All m
run_all limits phones [] m h = subst All h (start_all limits phones)
run_all limits phones (e ∷ past) m h = acts_all h.0 e.0 h.3.1.0 e.1 h.3.0 m h.3.1.1 h.2 (run_all limits phones past h.0 h.1) h.3.1.2

-- two puttings out of 1,792 have different tags
one_tag : (k last : ℕ) → k ≤ last → last < 1792 → tag_of last ≡ tag_of k → k ≡ last
one_tag k last l b e =
    let p : last % 7 ≡ k % 7 = ap (λ (t : Tag). t.value) e in
    let q : last % 256 ≡ k % 256 = ap (λ (t : Tag). t.reference) e in
    omega arith

pub few_puttings_out : FewPuttingsOut
few_puttings_out limits phones past m run event phone few last putting outs b =
    let h = packet_sent m (SentNumbered m.senders.sender) b.number (run_all limits phones past m run) _ b.is in
    let l = h.3 in
    h.1 ∙ ap (λ (n : ℕ). Some n) (one_tag h.0 last (omega arith) (omega arith) h.2)
