-- A text that is shown as accepted was accepted by the centre, segment by segment.
use Rattle.std.proofs.Common.{◌≡◌, ℕ, zero, suc, ◌+◌, ◌-◌, ◌<◌, Bool, true, false, cond, not, ◌&&◌, ◌||◌, eqb, ltb, leb, List, [], ◌∷◌, ◌++◌, length, refl, sym, ◌∙◌, subst, arith, Some, None, Option, Ok, Err, Result, is_some, inl, inr, get_or, Contains, ◌≤◌, ap}
use Rattle.std.specs.List.{AllByRecursion}
use Rattle.sms_message.specs.Message.Answers.{answers}
use Rattle.std.proofs.lemmas.Bool.{cond_both, and_parts, and_from, eqb-true, eq-eqb, ltb-true, ltb-false, eqb-false}
use Rattle.sms_field.specs.Address.Value.{AddressValue}
use Rattle.sms_field.specs.declared.validity.ValidityFault.{ValidityFault}
use Rattle.sms_field.specs.declared.validity.ValidityFault.TheVariants.{EnhancedValidity, NoMoment}
use Rattle.sms_tpdu.specs.Submit.{Submission}
use Rattle.sms_relay.specs.declared.side.Side.TheVariants.{FromPhone, ToPhone}
use Rattle.sms_join.specs.declared.units.Units.{Units}
use Rattle.sms_join.specs.Cut.{IsCut}
use Rattle.sms_message.specs.declared.message.TransferUnit.{TransferUnit}
use Rattle.sms_message.specs.declared.message.TransferUnit.TheVariants.{Submit, Deliver, OtherUnit, BadUnit}
use Rattle.sms_message.specs.declared.message.Report.{Report}
use Rattle.sms_message.specs.declared.message.Relay.{Relay}
use Rattle.sms_message.specs.declared.message.Relay.TheVariants.{Transfer, Answer, UnknownType, Unreadable}
use Rattle.sms_message.specs.declared.message.Message.{Message}
use Rattle.sms_message.specs.declared.message.Message.TheVariants.{NotCp, Note, Tiny, Data}
use Rattle.sms_message.specs.declared.message.Tag.{Tag}
use Rattle.sms_message.specs.Message.{tag_of, same_tag, Origin}
use Rattle.sms_centre.specs.declared.centre.check.Check.{Check}
use Rattle.sms_centre.specs.declared.centre.check.Check.TheVariants.{Refuse, Accept}
use Rattle.sms_field.specs.Time.Computed.{end_of, end_of_2099}
use Rattle.sms_message.specs.Address.{phone_at, address_of}
use Rattle.sms_field.specs.Address.Same.{same_address}
use Rattle.sms_field.specs.Inside.SameAddressLaws.{same_address_true}
use Rattle.std.proofs.lemmas.List.Quantifiers.{position-Some}
use Rattle.sms_relay.specs.declared.side.Side.{Side}
use Rattle.sms_world.proofs.Entries.{contains_here, contains_more, each_at}
use Rattle.sms_world.proofs.Tested.{is_from_own, from_is}
use Rattle.sms_world.proofs.Stamped.{Fits, run_stamped}
use Rattle.sms_message.specs.declared.outcome.Dropped.{Dropped}
use Rattle.sms_centre.specs.Centre.State.{CentreState, new_centre, Acceptance, Pushing}
use Rattle.sms_message.specs.Changed.{changed}
use Rattle.sms_centre.specs.Centre.Checks.{Books, check_space, check_recipient, check_validity, checked_by, books_of}
use Rattle.sms_centre.specs.Centre.Held.{is_held, unended}
use Rattle.sms_centre.specs.Centre.Submissions.{checked, centre_takes}
use Rattle.sms_message.specs.Does.{drops, Does}
use Rattle.sms_centre.specs.Centre.{centre_opened, centre_answered, centre_receives}
use Rattle.sms_centre.specs.Centre.Verdicts.{centre_hears, settled}
use Rattle.sms_centre.specs.Centre.Pushes.{centre_pushes, pushes_first}
use Rattle.sms_party.specs.Sent.{nth, Place, Centre, Phone, Sent, bare, Sends}
use Rattle.sms_world.specs.Machine.Next.{phone_of, Next, next, stays, by_sender, by_centre, by_receiver, of_centre, to_phone, pushed, comes, comes_to_phone, carries, packet, ticked, to_centre, receiver_limits}
use Rattle.sms_message.specs.declared.outcome.Outcome.{Outcome}
use Rattle.sms_message.specs.declared.outcome.Outcome.TheVariants.{Typed}
use Rattle.sms_world.specs.Told as whole
use Rattle.sms_party.specs.Sender.Texts.{Text, Sender, SenderState, new_sender, width_of, new_text, size_of}
use Rattle.sms_party.specs.Sender.Putting.{Puts, puts, puts_first, puts_text, with_sender, sender_drops, does}
use Rattle.sms_party.specs.Sender.Calls.{appended, typed, composes, ends, repeats, times_out}
use Rattle.sms_party.specs.Sender.Answers.{advanced, noted, hears, matches, sender_receives, accepts}
use Rattle.sms_party.specs.Receiver.State.{ReceiverState}
use Rattle.sms_script.specs.declared.script.limits.Limits.{Limits}
use Rattle.sms_party.specs.Receiver.{receiver_opened}
use Rattle.sms_world.specs.Texts.Keys.{stamp_given, is_from}
use Rattle.sms_world.specs.Texts.{size_in}
use Rattle.sms_world.proofs.Walk.{is_recipient, answer_may_come, duplicates_are_own, own_unit, own_relay, own_message, IsOwn, IsHonestSeen}
use Rattle.sms_world.specs.Machine.{Machine, start}
use Rattle.sms_world.specs.Machine.Event.{Event, Compose, Carry, Timeout, Push, Tick, Inject, Act, IsMetAs}
use Rattle.sms_world.specs.Machine.Step.{Acts, RunWith}
use Rattle.sms_world.specs.Claims.Pieces.{IsPending, IsUnderWay, SenderSound}
use Rattle.sms_world.specs.Accepted.{IsHonestAt, AcceptedIsAccepted}
use Rattle.sms_world.specs.Accepted.Answers.{AnswersAnswerWhatTheyName}
use Rattle.sms_world.specs.Accepted.References.{ReferencesAreNotUsedAgain}
use Rattle.sms_world.specs.Orderly.Brought.{BringsSubmission, BringsAnswer}
use Rattle.sms_world.proofs.Growing.{each_weaker, each_append, each_entered, changed_each, nth_more, nth_newest, sender_more}
use Rattle.sms_world.proofs.Pieces.{some_piece}
use Rattle.sms_world.proofs.Once.{packet_sent, receives_put}
use Rattle.sms_world.proofs.Senders.{SendersSound, appended_sound, ends_sound, composes_good, times_out_good, sender_receives_good}

-- the centre has accepted this segment
abbrev is_given : List Acceptance → ℕ → ℕ → Bool
is_given accepted n s = is_some (stamp_given accepted (record { text = n; segment = s }))

-- it has accepted each segment from the first to this one
abbrev all_given : List Acceptance → ℕ → ℕ → Bool
all_given accepted n zero = true
all_given accepted n (suc k) = is_given accepted n (suc k) && all_given accepted n k

-- one sender alone

abbrev IsWaiting : List ℕ → ℕ → Origin → Type 0
IsWaiting [] k o = Unit {0}
IsWaiting (n ∷ later) k o = (o.text ≡ n) × (o.segment ≡ suc k)

-- the k-th putting out was of this segment: where it is the latest, that segment still waits, or none does
record Was (s : Sender) (k : ℕ) (o : Origin) : Type 0 where
  before : k < s.outs
  latest : k ≡ s.outs - 1 → IsWaiting s.pending s.accepted o

-- the sender has put out something new, or nothing has changed for its latest putting out
record Moves (s s' : Sender) : Type 0 where
  was : (k : ℕ) (o : Origin) → Was s k o → Was s' k o

-- what is told of one sender
abbrev AcceptedSoFar : List Acceptance → List ℕ → ℕ → Type 0
AcceptedSoFar accepted [] k = Unit {0}
AcceptedSoFar accepted (n ∷ later) k = all_given accepted n k ≡ true

record Told (accepted : List Acceptance) (texts : List Text) (s : Sender) : Type 0 where
  so_far : AcceptedSoFar accepted s.pending s.accepted
  ended : AllByRecursion (λ e. (e.1 ≡ true → all_given accepted e.0 (size_in texts e.0) ≡ true) × ((t : Text) × (nth texts e.0 ≡ Some t))) s.ended

-- what is told of each message, by the senders as they are; that accepted segments were given, of one phone alone

abbrev SubmitTold : (ℕ → Sender) → Place → Option Origin → Option ℕ → Type 0
SubmitTold f (Centre p) (Some o) (Some k) = Was (f p) k o
SubmitTold f (Centre p) (Some o) None = ⊥
SubmitTold f (Centre p) None putting = ⊥
SubmitTold f (Phone p) origin putting = ⊥

abbrev DeliverTold : Place → Type 0
DeliverTold (Phone p) = Unit {0}
DeliverTold (Centre p) = ⊥

abbrev ReplyTold : ℕ → List Acceptance → (ℕ → Sender) → Option ℕ → Option Report → Place → Option ℕ → Type 0
ReplyTold one accepted f v r (Phone p) (Some k) =
    (o : Origin) × Was (f p) k o × (p ≡ one → accepts v r ≡ true → is_given accepted o.text o.segment ≡ true)
ReplyTold one accepted f v r (Phone p) None = ⊥
ReplyTold one accepted f v r (Centre p) putting = Unit {0}

abbrev UnitTold : (ℕ → Sender) → TransferUnit → Place → Option Origin → Option ℕ → Type 0
UnitTold f (Submit s) to origin putting = SubmitTold f to origin putting
UnitTold f (Deliver d) to origin putting = DeliverTold to
UnitTold f OtherUnit to origin putting = ⊥
UnitTold f BadUnit to origin putting = ⊥

abbrev RelayTold : ℕ → List Acceptance → (ℕ → Sender) → Relay → Place → Option Origin → Option ℕ → Type 0
RelayTold one accepted f (Transfer side unit) to origin putting = UnitTold f unit to origin putting
RelayTold one accepted f (Answer side v r) to origin putting = ReplyTold one accepted f v r to putting
RelayTold one accepted f UnknownType to origin putting = ⊥
RelayTold one accepted f Unreadable to origin putting = ⊥

abbrev MessageTold : ℕ → List Acceptance → (ℕ → Sender) → Message → Place → Option Origin → Option ℕ → Type 0
MessageTold one accepted f NotCp to origin putting = ⊥
MessageTold one accepted f (Tiny flag value) to origin putting = ⊥
MessageTold one accepted f (Note flag value) to origin putting = Unit {0}
MessageTold one accepted f (Data flag tag relay) to origin putting = RelayTold one accepted f relay to origin putting

abbrev SentTold : ℕ → List Acceptance → (ℕ → Sender) → Sent → Type 0
SentTold one accepted f y = MessageTold one accepted f y.message y.to y.origin y.putting

module _ (one : ℕ) (accepted accepted' : List Acceptance) (f f' : ℕ → Sender)
    (more : (n s : ℕ) → is_given accepted n s ≡ true → is_given accepted' n s ≡ true) (moves : (q : ℕ) → Moves (f q) (f' q)) where
  submit_on : (to : Place) (origin : Option Origin) (putting : Option ℕ) → SubmitTold f to origin putting → SubmitTold f' to origin putting
  submit_on (Centre p) (Some o) (Some k) h = (moves p).was k o h
  submit_on (Centre p) (Some o) None h = h
  submit_on (Centre p) None putting h = h
  submit_on (Phone p) origin putting h = h

  reply_on : (v : Option ℕ) (r : Option Report) (to : Place) (putting : Option ℕ) → ReplyTold one accepted f v r to putting → ReplyTold one accepted' f' v r to putting
  reply_on v r (Phone p) (Some k) h = (h.0, (moves p).was k h.0 h.1, λ same e. more h.0.text h.0.segment (h.2 same e))
  reply_on v r (Phone p) None h = h
  reply_on v r (Centre p) putting h = h

  unit_on : (u : TransferUnit) (to : Place) (origin : Option Origin) (putting : Option ℕ) → UnitTold f u to origin putting → UnitTold f' u to origin putting
  unit_on (Submit s) to origin putting h = submit_on to origin putting h
  unit_on (Deliver d) to origin putting h = h
  unit_on OtherUnit to origin putting h = h
  unit_on BadUnit to origin putting h = h

  relay_on : (v : Relay) (to : Place) (origin : Option Origin) (putting : Option ℕ) → RelayTold one accepted f v to origin putting → RelayTold one accepted' f' v to origin putting
  relay_on (Transfer side unit) to origin putting h = unit_on unit to origin putting h
  relay_on (Answer side v r) to origin putting h = reply_on v r to putting h
  relay_on UnknownType to origin putting h = h
  relay_on Unreadable to origin putting h = h

  message_on : (v : Message) (to : Place) (origin : Option Origin) (putting : Option ℕ) → MessageTold one accepted f v to origin putting → MessageTold one accepted' f' v to origin putting
  message_on NotCp to origin putting h = h
  message_on (Tiny flag value) to origin putting h = h
  message_on (Note flag value) to origin putting h = h
  message_on (Data flag tag relay) to origin putting h = relay_on relay to origin putting h

  sent_on : (y : Sent) → SentTold one accepted f y → SentTold one accepted' f' y
  sent_on y h = message_on y.message y.to y.origin y.putting h

-- what a sender puts out
record PutsTold (one : ℕ) (accepted : List Acceptance) (texts : List Text) (phone : ℕ) (before : Sender) (p : Puts) : Type 0 where
  -- where it is new, nothing that was put out before is the latest
  moves : (s : Sender) → s.outs ≡ before.outs → Moves s p.sender
  told : Told accepted texts before → Told accepted texts p.sender
  put : (f : ℕ → Sender) → f phone ≡ p.sender → AllByRecursion (SentTold one accepted f) p.sent

puts_told : (one : ℕ) (accepted : List Acceptance) (texts : List Text) (phone : ℕ) (s : Sender) (reject : Bool)
    → SenderSound texts phone s → PutsTold one accepted texts phone s (puts texts phone s reject)
unfolding puts puts_first puts_text
puts_told one accepted texts phone s reject h = go s.pending refl h.pending
  where
    go : (ns : List ℕ) → s.pending ≡ ns → AllByRecursion (IsPending texts phone) ns
        → PutsTold one accepted texts phone s (puts_first texts phone s reject ns)
    go [] e g =
        record {
          moves = λ r q. record {
            was = λ k o w. record {
              before = let b = w.before in omega arith;
              latest = λ l. subst (λ ns. IsWaiting ns s.accepted o) (sym e) tt;
            };
          };
          told = λ t. t;
          put = λ f e. tt;
        }
    go (n ∷ later) e g =
        let f = g.0.1 in
        rw f (record {
          moves = λ r q. record { was = λ k o w. record { before = let b = w.before in omega arith; latest = λ l. let b = w.before in absurd (omega arith) } };
          told = λ t. record { so_far = t.so_far; ended = t.ended };
          put = λ c d. (
            subst (λ (v : Sender). Was v s.outs (record { text = n; segment = suc s.accepted })) (sym d)
                (record { before = omega arith; latest = λ l. subst (λ ns. IsWaiting ns s.accepted (record { text = n; segment = suc s.accepted })) (sym e) (refl, refl) }),
            tt,
          );
        })

-- all senders after a call of one
record GoodTold (one : ℕ) (accepted : List Acceptance) (x : SenderState) (d : Sends SenderState) : Type 0 where
  told : (q : ℕ) → q ≡ one → Told accepted d.after.texts (d.after.sender q)
  moves : (q : ℕ) → Moves (x.sender q) (d.after.sender q)
  put : AllByRecursion (SentTold one accepted d.after.sender) d.put

-- what is told of the one sender
abbrev AllTold : ℕ → List Acceptance → SenderState → Type 0
AllTold one accepted x = (q : ℕ) → q ≡ one → Told accepted x.texts (x.sender q)

stays_put : (s : Sender) → Moves s s
stays_put s = record { was = λ k o w. w }

at_changed : {X : Type 0} (f : ℕ → X) (n : ℕ) (x : X) → changed f n x n ≡ x
at_changed f n x = rw (eq-eqb n n refl) refl

does_told : (one : ℕ) (accepted : List Acceptance) (x : SenderState) (phone : ℕ) (o : Outcome) (first : List Sent) (p : Puts)
    → AllTold one accepted x → Moves (x.sender phone) p.sender → (phone ≡ one → Told accepted x.texts p.sender)
    → ((f : ℕ → Sender) → f phone ≡ p.sender → AllByRecursion (SentTold one accepted f) p.sent)
    → ((f : ℕ → Sender) → AllByRecursion (SentTold one accepted f) first)
    → GoodTold one accepted x (does x phone o first p)
unfolding does with_sender
does_told one accepted x phone o first p h moves told put a =
    record {
      told = changed_each (λ q (s : Sender). q ≡ one → Told accepted x.texts s) x.sender phone p.sender told h;
      moves = changed_each (λ q (s : Sender). Moves (x.sender q) s) x.sender phone p.sender moves (λ q. stays_put (x.sender q));
      put = each_append (SentTold one accepted (changed x.sender phone p.sender)) first p.sent
          (a (changed x.sender phone p.sender)) (put (changed x.sender phone p.sender) (at_changed x.sender phone p.sender));
    }

-- with what is put out for a changed sender with as many puttings out
does_puts : (one : ℕ) (accepted : List Acceptance) (x : SenderState) (phone : ℕ) (o : Outcome) (first : List Sent) (s : Sender) (reject : Bool)
    → AllTold one accepted x → (x.sender phone).outs ≡ s.outs → SenderSound x.texts phone s → (phone ≡ one → Told accepted x.texts s)
    → ((f : ℕ → Sender) → AllByRecursion (SentTold one accepted f) first)
    → GoodTold one accepted x (does x phone o first (puts x.texts phone s reject))
does_puts one accepted x phone o first s reject h e g t a =
    let p = puts_told one accepted x.texts phone s reject g in
    does_told one accepted x phone o first (puts x.texts phone s reject) h (p.moves (x.sender phone) e) (λ same. p.told (t same)) p.put a

drops_told : (one : ℕ) (accepted : List Acceptance) (x : SenderState) (o : Dropped) → AllTold one accepted x → GoodTold one accepted x (sender_drops x o)
unfolding sender_drops
drops_told one accepted x o h = record { told = h; moves = λ q. stays_put (x.sender q); put = tt }

ends_told : (accepted : List Acceptance) (texts : List Text) (phone : ℕ) (s : Sender) (n : ℕ) (later : List ℕ) (good : Bool)
    → IsPending texts phone n → Told accepted texts s → (good ≡ true → all_given accepted n (size_in texts n) ≡ true)
    → Told accepted texts (ends s n later good)
unfolding ends
ends_told accepted texts phone s n [] good p t g = record { so_far = tt; ended = ((g, (p.0, p.1)), t.ended) }
ends_told accepted texts phone s n (k ∷ later) good p t g = record { so_far = refl; ended = ((g, (p.0, p.1)), t.ended) }

acks : (one : ℕ) (accepted : List Acceptance) (phone : ℕ) (tag : Tag) (f : ℕ → Sender) → AllByRecursion (SentTold one accepted f) (noted phone tag)
unfolding bare
acks one accepted phone tag f = (tt, tt)

told_more : (accepted : List Acceptance) (t : Text) (texts : List Text) (s : Sender) → Told accepted texts s → Told accepted (t ∷ texts) s
told_more accepted t texts s h =
    record {
      so_far = h.so_far;
      ended = each_weaker
          (λ e. (e.1 ≡ true → all_given accepted e.0 (size_in texts e.0) ≡ true) × ((u : Text) × (nth texts e.0 ≡ Some u)))
          (λ e. (e.1 ≡ true → all_given accepted e.0 (size_in (t ∷ texts) e.0) ≡ true) × ((u : Text) × (nth (t ∷ texts) e.0 ≡ Some u)))
          s.ended
          (λ e g. let f = nth_more t texts e.0 g.1.0 g.1.1 in
          ((λ q. subst (λ o. all_given accepted e.0 (size_of o) ≡ true) (g.1.1 ∙ sym f) (g.0 q)), (g.1.0, f)))
          h.ended;
    }

appended_moves : (s : Sender) (n : ℕ) → eqb (length s.pending) 0 ≡ false → Moves s (appended s n)
unfolding appended
appended_moves s n h = record { was = λ k o w. record { before = w.before; latest = λ l. go s.accepted o s.pending h (w.latest l) } }
  where
    go : (k : ℕ) (o : Origin) (ns : List ℕ) → eqb (length ns) 0 ≡ false → IsWaiting ns k o → IsWaiting (ns ++ n ∷ []) k o
    go k o [] h w = cc
    go k o (i ∷ ns) h w = w

appended_told : (accepted : List Acceptance) (texts : List Text) (s : Sender) (n : ℕ) → IsUnderWay texts s.pending s.accepted → Told accepted texts s → Told accepted texts (appended s n)
unfolding appended
appended_told accepted texts s n u h = record { so_far = go s.pending u h.so_far; ended = h.ended }
  where
    go : (ns : List ℕ) → IsUnderWay texts ns s.accepted → AcceptedSoFar accepted ns s.accepted → AcceptedSoFar accepted (ns ++ n ∷ []) s.accepted
    go [] u h = rw u refl
    go (i ∷ ns) u h = h

typed_told : (one : ℕ) (accepted : List Acceptance) (x : SenderState) (phone : ℕ) (t : Text) → t.phone ≡ phone → 0 < length t.pieces
    → SendersSound x → AllTold one accepted x → GoodTold one accepted x (typed x phone t)
unfolding typed does with_sender appended
typed_told one accepted x phone t own some g h = record { told = d.told; moves = d.moves; put = d.put }
  where
    y : SenderState
    y = record { wide = x.wide; reject = x.reject; texts = t ∷ x.texts; sender = x.sender }

    s : Sender
    s = appended (x.sender phone) (length x.texts)

    all : AllTold one accepted y
    all q same = told_more accepted t x.texts (x.sender q) (h q same)

    sound : SenderSound (t ∷ x.texts) phone s
    sound = appended_sound (t ∷ x.texts) phone (x.sender phone) (length x.texts) (t, nth_newest t x.texts, own, some)
        (sender_more t x.texts phone (x.sender phone) (g phone))

    told : phone ≡ one → Told accepted (t ∷ x.texts) s
    told same = appended_told accepted (t ∷ x.texts) (x.sender phone) (length x.texts)
        (sender_more t x.texts phone (x.sender phone) (g phone)).under_way (all phone same)

    d : GoodTold one accepted y (typed x phone t)
    d = cond_both (eqb (length (x.sender phone).pending) 0) (puts (t ∷ x.texts) phone s x.reject) (record { sent = []; sender = s })
        (λ (p : Puts). GoodTold one accepted y (does y phone (Typed t.number) [] p))
        (λ _. does_puts one accepted y phone (Typed t.number) [] s x.reject all refl sound told (λ f. tt))
        (λ e. does_told one accepted y phone (Typed t.number) [] (record { sent = []; sender = s }) all (appended_moves (x.sender phone) (length x.texts) e) told (λ f q. tt) (λ f. tt))

composes_told : (one : ℕ) (accepted : List Acceptance) (x : SenderState) (phone : ℕ) (target : AddressValue) (characters : List ℕ) (pieces : List Units)
    → IsCut (width_of x.wide) characters pieces
    → SendersSound x → AllTold one accepted x → GoodTold one accepted x (composes x phone target characters pieces)
unfolding composes new_text
composes_told one accepted x phone target characters pieces cut g h =
    cond_both (leb 1000 (length (x.sender phone).pending)) _ _ (GoodTold one accepted x) (λ _. drops_told one accepted x _ h)
    (λ _. cond_both (ltb 255 (length pieces)) _ _ (GoodTold one accepted x) (λ _. drops_told one accepted x _ h)
    (λ _. typed_told one accepted x phone (new_text x.wide x.texts phone target characters pieces) refl (some_piece (width_of x.wide) characters pieces cut) g h))

repeats_told : (one : ℕ) (accepted : List Acceptance) (x : SenderState) (phone : ℕ) (ns : List ℕ) → AllByRecursion (IsPending x.texts phone) ns
    → SendersSound x → AllTold one accepted x → GoodTold one accepted x (repeats x phone (x.sender phone) ns)
unfolding repeats
repeats_told one accepted x phone [] e g h = record { told = h; moves = λ q. stays_put (x.sender q); put = tt }
repeats_told one accepted x phone (n ∷ later) e g h =
    cond_both (ltb (x.sender phone).tries 4) _ _ (GoodTold one accepted x)
    (λ _. does_puts one accepted x phone _ [] (x.sender phone) true h refl (g phone) (h phone) (λ f. tt))
    (λ _. does_puts one accepted x phone _ [] (ends (x.sender phone) n later false) x.reject h (same_outs (x.sender phone) n later)
    (ends_sound x.texts phone (x.sender phone) n later false e.1)
    (λ same. ends_told accepted x.texts phone (x.sender phone) n later false e.0 (h phone same) (λ q. cc)) (λ f. tt))
  where
    same_outs : (s : Sender) (n : ℕ) (later : List ℕ) → s.outs ≡ (ends s n later false).outs
    same_outs s n later = unfold ends in refl

times_out_told : (one : ℕ) (accepted : List Acceptance) (x : SenderState) (phone : ℕ) → SendersSound x → AllTold one accepted x → GoodTold one accepted x (times_out x phone)
unfolding times_out
times_out_told one accepted x phone g h = repeats_told one accepted x phone (x.sender phone).pending (g phone).pending g h

hears_told : (one : ℕ) (accepted : List Acceptance) (x : SenderState) (phone : ℕ) (tag : Tag) (n : ℕ) (later : List ℕ) (good more : Bool) (failed : Outcome)
    → (x.sender phone).pending ≡ n ∷ later → AllByRecursion (IsPending x.texts phone) (n ∷ later)
    → (more ≡ true → suc (x.sender phone).accepted < size_in x.texts n)
    → (more ≡ false → suc (x.sender phone).accepted ≡ size_in x.texts n)
    → (phone ≡ one → good ≡ true → is_given accepted n (suc (x.sender phone).accepted) ≡ true)
    → SendersSound x → AllTold one accepted x → GoodTold one accepted x (hears x phone tag (x.sender phone) n later good more failed)
unfolding hears advanced ends
hears_told one accepted x phone tag n later true true failed p e m l given g h =
    does_puts one accepted x phone _ _ (advanced (x.sender phone)) x.reject h refl
    (record { pending = (g phone).pending; under_way = rw p (m refl) })
    (λ same. record { so_far = rw p (and_from _ _ (given same refl) (before same)); ended = (h phone same).ended })
    (acks one accepted phone tag)
  where
    before : phone ≡ one → all_given accepted n (x.sender phone).accepted ≡ true
    before same = subst (λ ns. AcceptedSoFar accepted ns (x.sender phone).accepted) p (h phone same).so_far
hears_told one accepted x phone tag n later true false failed p e m l given g h =
    does_puts one accepted x phone _ _ (ends (x.sender phone) n later true) x.reject h refl
    (ends_sound x.texts phone (x.sender phone) n later true e.1)
    (λ same. ends_told accepted x.texts phone (x.sender phone) n later true e.0 (h phone same)
    (λ q. subst (λ k. all_given accepted n k ≡ true) (l refl) (and_from _ _ (given same refl) (before same))))
    (acks one accepted phone tag)
  where
    before : phone ≡ one → all_given accepted n (x.sender phone).accepted ≡ true
    before same = subst (λ ns. AcceptedSoFar accepted ns (x.sender phone).accepted) p (h phone same).so_far
hears_told one accepted x phone tag n later false more failed p e m l given g h =
    does_puts one accepted x phone _ _ (ends (x.sender phone) n later false) x.reject h refl
    (ends_sound x.texts phone (x.sender phone) n later false e.1)
    (λ same. ends_told accepted x.texts phone (x.sender phone) n later false e.0 (h phone same) (λ q. cc))
    (acks one accepted phone tag)

-- the answer is of the latest putting out
latest_given : (one : ℕ) (m : Machine) (phone : ℕ) (tag : Tag) (accepted : List Acceptance) (v : Option ℕ) (r : Option Report) (putting : Option ℕ) (n : ℕ) (later : List ℕ)
    → (m.senders.sender phone).pending ≡ n ∷ later
    → same_tag tag (tag_of ((m.senders.sender phone).outs - 1)) ≡ true → answer_may_come m phone tag putting ≡ true
    → ReplyTold one accepted m.senders.sender v r (Phone phone) putting
    → phone ≡ one → accepts v r ≡ true → is_given accepted n (suc (m.senders.sender phone).accepted) ≡ true
unfolding answer_may_come
latest_given one m phone tag accepted v r None n later p t a told same good = absurd told
latest_given one m phone tag accepted v r (Some k) n later p t a told same good =
    let a' : (false || eqb k ((m.senders.sender phone).outs - 1)) ≡ true = rw t at a in
    let latest : k ≡ (m.senders.sender phone).outs - 1 = eqb-true _ _ a' in
    let w = told.1.latest latest in
    let w' : (told.0.text ≡ n) × (told.0.segment ≡ suc (m.senders.sender phone).accepted) =
    subst (λ ns. IsWaiting ns (m.senders.sender phone).accepted told.0) p w in
    subst (λ i. is_given accepted n i ≡ true) w'.1 (subst (λ i. is_given accepted i told.0.segment ≡ true) w'.0 (told.2 same good))

matches_told : (one : ℕ) (m : Machine) (phone : ℕ) (tag : Tag) (accepted : List Acceptance) (v : Option ℕ) (r : Option Report) (putting : Option ℕ) (ns : List ℕ)
    → (m.senders.sender phone).pending ≡ ns → (phone ≡ one → answer_may_come m phone tag putting ≡ true)
    → ReplyTold one accepted m.senders.sender v r (Phone phone) putting
    → SendersSound m.senders → AllTold one accepted m.senders
    → GoodTold one accepted m.senders (matches m.senders phone tag (m.senders.sender phone) ns v r)
unfolding matches
matches_told one m phone tag accepted v r putting [] p a told g h = drops_told one accepted m.senders _ h
matches_told one m phone tag accepted v r putting (n ∷ later) p a told g h =
    cond_both (same_tag tag (tag_of ((m.senders.sender phone).outs - 1))) _ _ (GoodTold one accepted m.senders)
    (λ t. hears_told one accepted m.senders phone tag n later (accepts v r) (ltb (suc (m.senders.sender phone).accepted) (size_in m.senders.texts n)) _
    p (subst (AllByRecursion (IsPending m.senders.texts phone)) p (g phone).pending) (λ q. ltb-true _ _ q)
    (λ q. let u = under in let l = ltb-false _ _ q in omega arith)
    (λ same good. latest_given one m phone tag accepted v r putting n later p t (a same) told same good) g h)
    (λ _. drops_told one accepted m.senders _ h)
  where
    under : (m.senders.sender phone).accepted < size_in m.senders.texts n
    under = subst (λ ns. IsUnderWay m.senders.texts ns (m.senders.sender phone).accepted) p (g phone).under_way

sender_receives_told : (one : ℕ) (m : Machine) (phone : ℕ) (tag : Tag) (accepted : List Acceptance) (v : Relay) (origin : Option Origin) (putting : Option ℕ)
    → (phone ≡ one → own_relay m true tag v (Phone phone) origin putting ≡ true) → RelayTold one accepted m.senders.sender v (Phone phone) origin putting
    → SendersSound m.senders → AllTold one accepted m.senders → GoodTold one accepted m.senders (sender_receives m.senders phone tag v)
unfolding sender_receives
sender_receives_told one m phone tag accepted (Answer ToPhone v r) origin putting a told g h =
    matches_told one m phone tag accepted v r putting (m.senders.sender phone).pending refl a told g h
sender_receives_told one m phone tag accepted (Answer FromPhone v r) origin putting a told g h = drops_told one accepted m.senders _ h
sender_receives_told one m phone tag accepted (Transfer side unit) origin putting a told g h = drops_told one accepted m.senders _ h
sender_receives_told one m phone tag accepted UnknownType origin putting a told g h = drops_told one accepted m.senders _ h
sender_receives_told one m phone tag accepted Unreadable origin putting a told g h = drops_told one accepted m.senders _ h

-- the centre rejects a duplicate only of what it holds

record IsDuplicate (phones : List AddressValue) (books : Books) (s : Submission) : Type 0 where
  recipient : ℕ
  is : phone_at phones s.target ≡ Some recipient
  held : (s.reject && books.is_held recipient) ≡ true

space_duplicate : (limit : ℕ) (books : Books) (s : Submission) (ends q cause failure : ℕ)
    → check_space limit books s ends q ≡ Refuse cause failure → failure ≡ 0xC5 → (s.reject && books.is_held q) ≡ true
space_duplicate limit books s ends q cause failure h f =
    go (s.reject && books.is_held q) (leb limit books.count) (leb end_of_2099 (books.stamp q)) h
  where
    go : (a b c : Bool) → cond a (Refuse 21 0xC5) (cond b (Refuse 42 0xC0) (cond c (Refuse 38 0xC2) (Accept q ends (books.stamp q)))) ≡ Refuse cause failure → a ≡ true
    go true b c h = refl
    go false true c h = let e : 0xC0 ≡ failure = cc in absurd (omega arith)
    go false false true h = let e : 0xC2 ≡ failure = cc in absurd (omega arith)
    go false false false h = cc

recipient_duplicate : (limit : ℕ) (phones : List AddressValue) (books : Books) (s : Submission) (ends : ℕ) (q : Option ℕ) (cause failure : ℕ)
    → phone_at phones s.target ≡ q → check_recipient limit books s ends q ≡ Refuse cause failure → failure ≡ 0xC5 → IsDuplicate phones books s
recipient_duplicate limit phones books s ends None cause failure g h f = let e : 0xC3 ≡ failure = cc in absurd (omega arith)
recipient_duplicate limit phones books s ends (Some q) cause failure g h f =
    record { recipient = q; is = g; held = space_duplicate limit books s ends q cause failure h f }

validity_duplicate : (limit : ℕ) (phones : List AddressValue) (books : Books) (now : ℕ) (s : Submission) (v : Result ℕ ValidityFault) (cause failure : ℕ)
    → check_validity limit phones books now s v ≡ Refuse cause failure → failure ≡ 0xC5 → IsDuplicate phones books s
validity_duplicate limit phones books now s (Err EnhancedValidity) cause failure h f = let e : 0xC6 ≡ failure = cc in absurd (omega arith)
validity_duplicate limit phones books now s (Err NoMoment) cause failure h f = let e : 0xC7 ≡ failure = cc in absurd (omega arith)
validity_duplicate limit phones books now s (Ok ends) cause failure h f = go (ltb now ends) h
  where
    go : (b : Bool) → cond b (check_recipient limit books s ends (phone_at phones s.target)) (Refuse 21 0xC7) ≡ Refuse cause failure → IsDuplicate phones books s
    go true h = recipient_duplicate limit phones books s ends (phone_at phones s.target) cause failure refl h f
    go false h = let e : 0xC7 ≡ failure = cc in absurd (omega arith)

duplicate : (limit : ℕ) (phones : List AddressValue) (books : Books) (now : ℕ) (s : Submission) (cause failure : ℕ)
    → checked_by limit phones books now s ≡ Refuse cause failure → failure ≡ 0xC5 → IsDuplicate phones books s
unfolding checked_by
duplicate limit phones books now s cause failure h f = validity_duplicate limit phones books now s (end_of s.validity now) cause failure h f

own_given : (phones : List AddressValue) (accepted : List Acceptance) (phone now : ℕ) (s : Submission) (o : Origin) (r : ℕ) → s.reject ≡ true
    → phone_at phones s.target ≡ Some r
    → is_held accepted phone s.reference r now ≡ true → duplicates_are_own phones accepted phone now s o ≡ true
    → is_given accepted o.text o.segment ≡ true
own_given phones [] phone now s o r e to h d = cc
own_given phones (a ∷ past) phone now s o r e to h d =
    go (ltb now a.ends && (eqb a.phone phone && (eqb a.submission.reference s.reference && eqb a.recipient r))) (is_from a.origin o) h
    (subst (λ q. ((not (ltb now a.ends && (eqb a.phone phone && (eqb a.submission.reference s.reference && is_recipient a.recipient q))) || is_from a.origin o) && duplicates_are_own phones past phone now s o) ≡ true) to
    (subst (λ v. ((not (v && (ltb now a.ends && (eqb a.phone phone && (eqb a.submission.reference s.reference && is_recipient a.recipient (phone_at phones s.target))))) || is_from a.origin o) && duplicates_are_own phones past phone now s o) ≡ true) e d))
    (own_given phones past phone now s o r e to)
  where
    go : (b c : Bool) → (b || is_held past phone s.reference r now) ≡ true
        → ((not b || c) && duplicates_are_own phones past phone now s o) ≡ true
        → (is_held past phone s.reference r now ≡ true → duplicates_are_own phones past phone now s o ≡ true → is_given past o.text o.segment ≡ true)
        → is_some (cond c (Some a.stamp) (stamp_given past (record { text = o.text; segment = o.segment }))) ≡ true
    go b true h d ih = refl
    go false false h d ih = ih h d
    go true false h d ih = cc

-- what one call of the centre leaves
record CentreTold (one : ℕ) (f : ℕ → Sender) (putting : Option ℕ) (c : CentreState) (phone : ℕ) (d : Does CentreState) : Type 0 where
  given : (n s : ℕ) → is_given c.accepted n s ≡ true → is_given d.after.accepted n s ≡ true
  put : AllByRecursion (SentTold one d.after.accepted f) (to_phone phone None putting d.put)

centre_drops_told : (one : ℕ) (f : ℕ → Sender) (putting : Option ℕ) (c : CentreState) (phone : ℕ) (why : Dropped) → CentreTold one f putting c phone (drops c why)
centre_drops_told one f putting c phone why = record { given = λ n s h. h; put = tt }

checked_told : (one : ℕ) (phones : List AddressValue) (f : ℕ → Sender) (k : ℕ) (c : CentreState) (now phone : ℕ) (tag : Tag) (s : Submission) (o : Origin) (v : Check)
    → Was (f phone) k o → (phone ≡ one → duplicates_are_own phones c.accepted phone now s o ≡ true)
    → ((cause failure : ℕ) → v ≡ Refuse cause failure → failure ≡ 0xC5 → IsDuplicate phones (books_of c.accepted now phone s) s)
    → CentreTold one f (Some k) c phone (checked c now phone tag s (Some o) v)
unfolding checked
checked_told one phones f k c now phone tag s o (Refuse cause failure) w own dup =
    record {
      given = λ n i h. h;
      put = (
        tt,
        (
          (
            o,
            w,
            λ same e.
                let z = dup cause failure refl (eqb-true failure 0xC5 e) in
                let d = and_parts s.reject (is_held c.accepted phone s.reference z.recipient now) z.held in
                own_given phones c.accepted phone now s o z.recipient d.0 z.is d.1 (own same),
          ),
          tt,
        ),
      );
    }
checked_told one phones f k c now phone tag s o (Accept r ends stamp) w own dup =
    record {
      given = λ n i h. more n i h;
      put = (tt, ((o, w, λ same e. rw (eq-eqb o.text o.text refl, eq-eqb o.segment o.segment refl) refl), tt));
    }
  where
    more : (n i : ℕ) → is_given c.accepted n i ≡ true → is_some (cond (eqb o.text n && eqb o.segment i) (Some stamp) (stamp_given c.accepted (record { text = n; segment = i }))) ≡ true
    more n i h = go (eqb o.text n && eqb o.segment i)
      where
        go : (b : Bool) → is_some (cond b (Some stamp) (stamp_given c.accepted (record { text = n; segment = i }))) ≡ true
        go true = refl
        go false = h

takes_told : (one : ℕ) (m : Machine) (f : ℕ → Sender) (limit : ℕ) (phone : ℕ) (tag : Tag) (u : TransferUnit) (origin : Option Origin) (putting : Option ℕ)
    → UnitTold f u (Centre phone) origin putting → (phone ≡ one → own_unit m u (Centre phone) origin ≡ true)
    → CentreTold one f putting m.centre phone (centre_takes limit m.phones m.centre m.clock phone tag u origin)
unfolding centre_takes
takes_told one m f limit phone tag (Submit s) (Some o) (Some k) told own =
    checked_told one m.phones f k m.centre m.clock phone tag s o (checked_by limit m.phones (books_of m.centre.accepted m.clock phone s) m.clock s) told own
    (λ cause failure e z. duplicate limit m.phones (books_of m.centre.accepted m.clock phone s) m.clock s cause failure e z)
takes_told one m f limit phone tag (Submit s) (Some o) None told own = absurd told
takes_told one m f limit phone tag (Submit s) None putting told own = absurd told
takes_told one m f limit phone tag (Deliver d) origin putting told own = absurd told
takes_told one m f limit phone tag OtherUnit origin putting told own = absurd told
takes_told one m f limit phone tag BadUnit origin putting told own = absurd told

centre_hears_told : (one : ℕ) (f : ℕ → Sender) (putting : Option ℕ) (c : CentreState) (now phone : ℕ) (tag : Tag) (v : Option ℕ) (latest : Option Pushing)
    → CentreTold one f putting c phone (centre_hears c now phone tag v latest)
unfolding centre_hears settled
centre_hears_told one f putting c now phone tag v None = centre_drops_told one f putting c phone _
centre_hears_told one f putting c now phone tag v (Some p) =
    cond_both (same_tag tag p.tag && ltb now p.message.ends) _ _ (CentreTold one f putting c phone)
    (λ _. record { given = λ n s h. h; put = (tt, tt) }) (λ _. centre_drops_told one f putting c phone _)

centre_receives_told : (one : ℕ) (m : Machine) (f : ℕ → Sender) (limit : ℕ) (phone : ℕ) (v : Message) (origin : Option Origin) (putting : Option ℕ)
    → MessageTold one m.centre.accepted f v (Centre phone) origin putting → (phone ≡ one → own_message m v (Centre phone) origin putting ≡ true)
    → CentreTold one f putting m.centre phone (centre_receives limit m.phones m.centre m.clock phone v origin)
unfolding centre_receives centre_opened centre_answered
centre_receives_told one m f limit phone NotCp origin putting t own = absurd t
centre_receives_told one m f limit phone (Tiny flag value) origin putting t own = absurd t
centre_receives_told one m f limit phone (Note flag value) origin putting t own = record { given = λ n s h. h; put = tt }
centre_receives_told one m f limit phone (Data false tag (Transfer FromPhone unit)) origin putting t own =
    takes_told one m f limit phone tag unit origin putting t own
centre_receives_told one m f limit phone (Data false tag (Transfer ToPhone unit)) origin putting t own = centre_drops_told one f putting m.centre phone _
centre_receives_told one m f limit phone (Data false tag (Answer side v r)) origin putting t own = centre_drops_told one f putting m.centre phone _
centre_receives_told one m f limit phone (Data false tag UnknownType) origin putting t own = absurd t
centre_receives_told one m f limit phone (Data false tag Unreadable) origin putting t own = absurd t
centre_receives_told one m f limit phone (Data true tag (Answer FromPhone v r)) origin putting t own =
    centre_hears_told one f putting m.centre m.clock phone tag v (m.centre.line phone).latest
centre_receives_told one m f limit phone (Data true tag (Answer ToPhone v r)) origin putting t own = centre_drops_told one f putting m.centre phone _
centre_receives_told one m f limit phone (Data true tag (Transfer side unit)) origin putting t own = centre_drops_told one f putting m.centre phone _
centre_receives_told one m f limit phone (Data true tag UnknownType) origin putting t own = absurd t
centre_receives_told one m f limit phone (Data true tag Unreadable) origin putting t own = absurd t

-- the whole machine

pub record TellsTrue (one : ℕ) (m : Machine) : Type 0 where
  pub sound : SendersSound m.senders
  told : AllTold one m.centre.accepted m.senders
  sent : AllByRecursion (SentTold one m.centre.accepted m.senders.sender) m.sent

by_sender_true : (one : ℕ) (m : Machine) (d : Sends SenderState) → TellsTrue one m → SendersSound d.after → GoodTold one m.centre.accepted m.senders d → TellsTrue one (by_sender m d).after
unfolding by_sender
by_sender_true one m d h s g =
    record {
      sound = s;
      told = g.told;
      sent = each_entered (SentTold one m.centre.accepted d.after.sender) d.put m.sent g.put
          (each_weaker (SentTold one m.centre.accepted m.senders.sender) (SentTold one m.centre.accepted d.after.sender) m.sent
          (λ y t. sent_on one m.centre.accepted m.centre.accepted m.senders.sender d.after.sender (λ n i e. e) g.moves y t) h.sent);
    }

all_given_more : (accepted accepted' : List Acceptance) → ((n s : ℕ) → is_given accepted n s ≡ true → is_given accepted' n s ≡ true)
    → (n k : ℕ) → all_given accepted n k ≡ true → all_given accepted' n k ≡ true
all_given_more accepted accepted' more n zero h = refl
all_given_more accepted accepted' more n (suc k) h =
    let p = and_parts (is_given accepted n (suc k)) (all_given accepted n k) h in
    and_from _ _ (more n (suc k) p.0) (all_given_more accepted accepted' more n k p.1)

told_given : (accepted accepted' : List Acceptance) (texts : List Text) → ((n s : ℕ) → is_given accepted n s ≡ true → is_given accepted' n s ≡ true)
    → (s : Sender) → Told accepted texts s → Told accepted' texts s
told_given accepted accepted' texts more s h =
    record {
      so_far = go s.pending h.so_far;
      ended = each_weaker
          (λ e. (e.1 ≡ true → all_given accepted e.0 (size_in texts e.0) ≡ true) × ((u : Text) × (nth texts e.0 ≡ Some u)))
          (λ e. (e.1 ≡ true → all_given accepted' e.0 (size_in texts e.0) ≡ true) × ((u : Text) × (nth texts e.0 ≡ Some u)))
          s.ended (λ e g. ((λ q. all_given_more accepted accepted' more e.0 (size_in texts e.0) (g.0 q)), g.1)) h.ended;
    }
  where
    go : (ns : List ℕ) → AcceptedSoFar accepted ns s.accepted → AcceptedSoFar accepted' ns s.accepted
    go [] g = g
    go (n ∷ later) g = all_given_more accepted accepted' more n s.accepted g

by_centre_true : (one : ℕ) (m : Machine) (phone : ℕ) (putting : Option ℕ) (d : Does CentreState) → TellsTrue one m → CentreTold one m.senders.sender putting m.centre phone d
    → TellsTrue one (by_centre m (of_centre phone None putting d)).after
unfolding by_centre of_centre
by_centre_true one m phone putting d h g =
    record {
      sound = h.sound;
      told = λ q same. told_given m.centre.accepted d.after.accepted m.senders.texts g.given (m.senders.sender q) (h.told q same);
      sent = each_entered (SentTold one d.after.accepted m.senders.sender) (to_phone phone None putting d.put) m.sent g.put
          (each_weaker (SentTold one m.centre.accepted m.senders.sender) (SentTold one d.after.accepted m.senders.sender) m.sent
          (λ y t. sent_on one m.centre.accepted d.after.accepted m.senders.sender m.senders.sender g.given (λ q. stays_put (m.senders.sender q)) y t) h.sent);
    }

pushes_true : (one : ℕ) (m : Machine) (phones : List AddressValue) (phone : ℕ) (queue : List Acceptance) → TellsTrue one m → TellsTrue one (by_centre m (pushed phone (pushes_first phones m.centre phone queue))).after
unfolding by_centre pushed of_centre pushes_first
pushes_true one m phones phone [] h = record { sound = h.sound; told = h.told; sent = h.sent }
pushes_true one m phones phone (a ∷ others) h = record { sound = h.sound; told = h.told; sent = (tt, h.sent) }

replied_true : (one : ℕ) (m : Machine) (phone : ℕ) (tag : Tag) (v : Option ℕ) (r : Option Report) → AllByRecursion (SentTold one m.centre.accepted m.senders.sender) (to_centre phone (answers FromPhone tag v r))
unfolding bare
replied_true one m phone tag v r = (tt, (tt, tt))

by_receiver_true : (one : ℕ) (m : Machine) (phone : ℕ) (d : Does ReceiverState) → TellsTrue one m → AllByRecursion (SentTold one m.centre.accepted m.senders.sender) (to_centre phone d.put)
    → TellsTrue one (by_receiver m phone d).after
unfolding by_receiver
by_receiver_true one m phone d h g =
    record { sound = h.sound; told = h.told; sent = each_entered (SentTold one m.centre.accepted m.senders.sender) (to_centre phone d.put) m.sent g h.sent }

stays_true : (one : ℕ) (m : Machine) (o : whole.Told) → TellsTrue one m → TellsTrue one (stays m o).after
unfolding stays
stays_true one m o h = h

to_phone_true : (one : ℕ) (m : Machine) (phone : ℕ) (v : Message) (o : Option Origin) (putting : Option ℕ) → TellsTrue one m
    → MessageTold one m.centre.accepted m.senders.sender v (Phone phone) o putting → (phone ≡ one → own_message m v (Phone phone) o putting ≡ true)
    → TellsTrue one (comes_to_phone m phone v o).after
unfolding comes_to_phone
to_phone_true one m phone NotCp o putting h t own = stays_true one m _ h
to_phone_true one m phone (Tiny flag value) o putting h t own = stays_true one m _ h
to_phone_true one m phone (Note flag value) o putting h t own = stays_true one m _ h
to_phone_true one m phone (Data true tag relay) o putting h t own =
    by_sender_true one m (sender_receives m.senders phone tag relay) h
    (sender_receives_good m.phones m.centre.accepted m.senders phone tag relay h.sound).senders
    (sender_receives_told one m phone tag m.centre.accepted relay o putting own t h.sound h.told)
to_phone_true one m phone (Data false tag relay) o putting h t own =
    by_receiver_true one m phone (receiver_opened (receiver_limits m.limits) (m.receiver phone) m.clock tag relay o) h
    (receives_put (SentTold one m.centre.accepted m.senders.sender) m.clock (receiver_limits m.limits) (m.receiver phone) phone tag relay o (replied_true one m phone tag))

carries_true : (one : ℕ) (m : Machine) (x : Option Sent) → TellsTrue one m
    → ((y : Sent) → x ≡ Some y → SentTold one m.centre.accepted m.senders.sender y) → IsOwn one m x
    → TellsTrue one (carries m x).after
unfolding carries comes
carries_true one m None h s own = stays_true one m _ h
carries_true one m (Some x) h s own = go x.to refl (s x refl) own
  where
    go : (to : Place) → x.to ≡ to → MessageTold one m.centre.accepted m.senders.sender x.message to x.origin x.putting
        → (phone_of to ≡ one → own_message m x.message to x.origin x.putting ≡ true) → TellsTrue one (comes m to x.message x.origin x.putting).after
    go (Centre phone) e t own =
        by_centre_true one m phone x.putting (centre_receives m.limits.held m.phones m.centre m.clock phone x.message x.origin) h
        (centre_receives_told one m m.senders.sender m.limits.held phone x.message x.origin x.putting t own)
    go (Phone phone) e t own = to_phone_true one m phone x.message x.origin x.putting h t own

next_true : (one : ℕ) (m : Machine) (e : Event) (act : Act) → IsMetAs (width_of m.senders.wide) e act → IsHonestSeen one m e → TellsTrue one m → TellsTrue one (next m act).after
unfolding next ticked centre_pushes
next_true one m (Compose phone target characters) act is may h =
    subst (λ (v : Act). TellsTrue one (next m v).after) (sym is.3)
    (cond_both (ltb phone (length m.phones)) _ _ (λ (r : Next). TellsTrue one r.after)
    (λ _. by_sender_true one m (composes m.senders phone target characters is.0) h
    (composes_good m.phones m.centre.accepted m.senders phone target characters is.0 is.1 is.2 h.sound).senders
    (composes_told one m.centre.accepted m.senders phone target characters is.0 is.2 h.sound h.told))
    (λ _. stays_true one m _ h))
next_true one m (Carry k) act is may h =
    subst (λ (v : Act). TellsTrue one (next m v).after) (sym is)
    (carries_true one m (packet m k) h (packet_sent m (SentTold one m.centre.accepted m.senders.sender) k h.sent) may)
next_true one m (Timeout phone) act is may h =
    subst (λ (v : Act). TellsTrue one (next m v).after) (sym is)
    (cond_both (ltb phone (length m.phones)) _ _ (λ (r : Next). TellsTrue one r.after)
    (λ _. by_sender_true one m (times_out m.senders phone) h
    (times_out_good m.phones m.centre.accepted m.senders phone h.sound).senders
    (times_out_told one m.centre.accepted m.senders phone h.sound h.told))
    (λ _. stays_true one m _ h))
next_true one m (Push phone) act is may h =
    subst (λ (v : Act). TellsTrue one (next m v).after) (sym is)
    (cond_both (ltb phone (length m.phones)) _ _ (λ (r : Next). TellsTrue one r.after)
    (λ _. pushes_true one m m.phones phone (unended (m.centre.line phone).queue m.clock) h)
    (λ _. stays_true one m _ h))
next_true one m (Tick seconds) act is may h =
    subst (λ (v : Act). TellsTrue one (next m v).after) (sym is)
    (cond_both (ltb (m.clock + seconds) end_of_2099) _ _ (λ (r : Next). TellsTrue one r.after)
    (λ _. record { sound = h.sound; told = h.told; sent = h.sent }) (λ _. stays_true one m _ h))
next_true one m (Inject place octets) act is may h = absurd may

acts_true : (one : ℕ) (m : Machine) (e : Event) (act : Act) (told : whole.Told) (put : List Sent) (n : Machine)
    → IsMetAs (width_of m.senders.wide) e act → IsHonestSeen one m e → TellsTrue one m → Acts m act told put n → TellsTrue one n
acts_true one m e act told put n is may h (inl s) = subst (TellsTrue one) s.2 (next_true one m e act is may h)
acts_true one m e act told put n is may h (inr s) = subst (TellsTrue one) s.3 h

-- ---- from the three conditions to the test of the induction

pub same_tag_is : (t u : Tag) → same_tag t u ≡ true → t ≡ u
same_tag_is t u h =
    let p = and_parts (eqb t.value u.value) (eqb t.reference u.reference) h in
    let x : t.value ≡ u.value = eqb-true _ _ p.0 in
    let y : t.reference ≡ u.reference = eqb-true _ _ p.1 in
    λ i. record { value = x i; reference = y i }

-- the address that is the phone's of this number
pub phone_address : (phones : List AddressValue) (target : AddressValue) (n : ℕ) → phone_at phones target ≡ Some n → get_or phones n (address_of [] 0) ≡ target
unfolding same_address
phone_address phones target n h =
    same_address_true _ _ (position-Some (λ a. same_address a target) phones n (address_of [] 0) h).1

module _ (one : ℕ) (m : Machine) (e : Event) (h : TellsTrue one m) (fit : AllByRecursion (Fits m.phones) m.centre.accepted) (may : IsHonestAt one m e) where
  own : (phone : ℕ) → phone ≡ one → (s : Submission) (o : Origin) → BringsSubmission m e phone s (Some o) → (past : List Acceptance)
      → ((a : Acceptance) → Contains past a → Contains m.centre.accepted a) → AllByRecursion (Fits m.phones) past
      → duplicates_are_own m.phones past phone m.clock s o ≡ true
  own phone same s o b [] t f = refl
  own phone same s o b (a ∷ past) t f =
      and_from _ _ (go (s.reject && (ltb m.clock a.ends && (eqb a.phone phone && (eqb a.submission.reference s.reference && is_recipient a.recipient (phone_at m.phones s.target))))) refl)
      (own phone same s o b past (λ c k. t c (contains_more a past c k)) f.1)
    where
      recipient : (v : Option ℕ) → phone_at m.phones s.target ≡ v → is_recipient a.recipient v ≡ true → a.submission.target ≡ s.target
      recipient None e g = cc
      recipient (Some k) e g =
          let its : a.recipient ≡ k = eqb-true _ _ g in
          let there : phone_at m.phones s.target ≡ Some a.recipient = e ∙ ap (λ (i : ℕ). Some i) (sym its) in
          sym (phone_address m.phones a.submission.target a.recipient f.0.recipient) ∙ phone_address m.phones s.target a.recipient there

      go : (v : Bool) → (s.reject && (ltb m.clock a.ends && (eqb a.phone phone && (eqb a.submission.reference s.reference && is_recipient a.recipient (phone_at m.phones s.target))))) ≡ v
          → (not v || is_from a.origin o) ≡ true
      go false q = refl
      go true q =
          let p0 = and_parts s.reject (ltb m.clock a.ends && (eqb a.phone phone && (eqb a.submission.reference s.reference && is_recipient a.recipient (phone_at m.phones s.target)))) q in
          let p1 = and_parts (ltb m.clock a.ends) (eqb a.phone phone && (eqb a.submission.reference s.reference && is_recipient a.recipient (phone_at m.phones s.target))) p0.1 in
          let p2 = and_parts (eqb a.phone phone) (eqb a.submission.reference s.reference && is_recipient a.recipient (phone_at m.phones s.target)) p1.1 in
          let p3 = and_parts (eqb a.submission.reference s.reference) (is_recipient a.recipient (phone_at m.phones s.target)) p2.1 in
          is_from_own a.origin o
          (subst (λ p. ReferencesAreNotUsedAgain p m e) (sym same) may.references s o b p0.0 a (t a (contains_here a past)) (ltb-true _ _ p1.0) (eqb-true _ _ p2.0) (eqb-true _ _ p3.0)
          (recipient (phone_at m.phones s.target) refl p3.1))

  answer_own : (k phone : ℕ) → phone ≡ one → (tag : Tag) (side : Side) (v : Option ℕ) (r : Option Report) (origin : Option Origin) (putting : Option ℕ) → e ≡ Carry k
      → packet m k ≡ Some (record { message = Data true tag (Answer side v r); to = Phone phone; origin = origin; putting = putting })
      → ReplyTold one m.centre.accepted m.senders.sender v r (Phone phone) putting
      → answer_may_come m phone tag putting ≡ true
  unfolding answer_may_come
  answer_own k phone same tag side v r origin None c p told = absurd told
  answer_own k phone same tag side v r origin (Some n) c p told = go (same_tag tag (tag_of ((m.senders.sender phone).outs - 1))) refl
    where
      outs : (m.senders.sender phone).outs ≡ suc ((m.senders.sender phone).outs - 1)
      outs = let b = told.1.before in omega arith

      go : (w : Bool) → same_tag tag (tag_of ((m.senders.sender phone).outs - 1)) ≡ w
          → (not w || eqb n ((m.senders.sender phone).outs - 1)) ≡ true
      go false q = refl
      go true q =
          let t : tag ≡ tag_of ((m.senders.sender phone).outs - 1) = same_tag_is _ _ q in
          let b : BringsAnswer m e phone tag (Some n) = record { number = k; carries = c; side = side; cause = v; report = r; origin = origin; is = p } in
          let z : Some n ≡ Some ((m.senders.sender phone).outs - 1) =
          subst (λ p. AnswersAnswerWhatTheyName p m e) (sym same) may.answers ((m.senders.sender phone).outs - 1) (Some n) outs (subst (λ (x : Tag). BringsAnswer m e phone x (Some n)) t b) in
          let w : n ≡ (m.senders.sender phone).outs - 1 = cc in
          eq-eqb n ((m.senders.sender phone).outs - 1) w

  own_by_parts : (k : ℕ) → e ≡ Carry k → (v : Message) (to : Place) (origin : Option Origin) (putting : Option ℕ)
      → packet m k ≡ Some (record { message = v; to = to; origin = origin; putting = putting })
      → MessageTold one m.centre.accepted m.senders.sender v to origin putting → phone_of to ≡ one → own_message m v to origin putting ≡ true
  own_by_parts k c NotCp to origin putting p t same = refl
  own_by_parts k c (Note flag value) to origin putting p t same = refl
  own_by_parts k c (Tiny flag value) to origin putting p t same = refl
  own_by_parts k c (Data false tag (Transfer FromPhone (Submit s))) (Centre phone) (Some o) putting p t same =
      own phone same s o (record { number = k; carries = c; tag = tag; putting = putting; is = p }) m.centre.accepted (λ a z. z) fit
  own_by_parts k c (Data false tag (Transfer FromPhone (Submit s))) (Centre phone) None putting p t same = refl
  own_by_parts k c (Data false tag (Transfer FromPhone (Submit s))) (Phone phone) origin putting p t same = refl
  own_by_parts k c (Data false tag (Transfer FromPhone (Deliver d))) to origin putting p t same = refl
  own_by_parts k c (Data false tag (Transfer FromPhone OtherUnit)) to origin putting p t same = refl
  own_by_parts k c (Data false tag (Transfer FromPhone BadUnit)) to origin putting p t same = refl
  own_by_parts k c (Data false tag (Transfer ToPhone unit)) to origin putting p t same = refl
  own_by_parts k c (Data true tag (Transfer side unit)) to origin putting p t same = refl
  own_by_parts k c (Data true tag (Answer side v r)) (Phone phone) origin putting p t same = answer_own k phone same tag side v r origin putting c p t
  own_by_parts k c (Data true tag (Answer side v r)) (Centre phone) origin putting p t same = refl
  own_by_parts k c (Data false tag (Answer side v r)) to origin putting p t same = refl
  own_by_parts k c (Data true tag UnknownType) to origin putting p t same = refl
  own_by_parts k c (Data false tag UnknownType) to origin putting p t same = refl
  own_by_parts k c (Data true tag Unreadable) to origin putting p t same = refl
  own_by_parts k c (Data false tag Unreadable) to origin putting p t same = refl

  own_packet : (k : ℕ) → e ≡ Carry k → (v : Option Sent) → packet m k ≡ v → IsOwn one m v
  own_packet k c None p = tt
  own_packet k c (Some x) p =
      own_by_parts k c x.message x.to x.origin x.putting p (packet_sent m (SentTold one m.centre.accepted m.senders.sender) k h.sent x p)

honest_from : (one : ℕ) (m : Machine) (e : Event) → TellsTrue one m → AllByRecursion (Fits m.phones) m.centre.accepted → IsHonestAt one m e → IsHonestSeen one m e
honest_from one m (Compose phone target characters) h fit may = tt
honest_from one m (Carry k) h fit may = own_packet one m (Carry k) h fit may k refl (packet m k) refl
honest_from one m (Timeout phone) h fit may = tt
honest_from one m (Push phone) h fit may = tt
honest_from one m (Tick seconds) h fit may = tt
honest_from one m (Inject place octets) h fit may = absurd may.plain

start_true : (one : ℕ) (limits : Limits) (phones : List AddressValue) → TellsTrue one (start limits phones)
unfolding start new_centre new_sender
start_true one limits phones =
    record { sound = λ p. record { pending = tt; under_way = refl }; told = λ q same. record { so_far = tt; ended = tt }; sent = tt }

pub run_true : (one : ℕ) (limits : Limits) (phones : List AddressValue) (past : List (Event × whole.Told)) (m : Machine)
    → RunWith (IsHonestAt one) (start limits phones) past m → TellsTrue one m
run_true one limits phones [] m h = subst (TellsTrue one) h (start_true one limits phones)
run_true one limits phones (e ∷ past) m h =
    let ih : TellsTrue one h.0 = run_true one limits phones past h.0 h.1 in
    acts_true one h.0 e.0 h.3.1.0 e.1 h.3.0 m h.3.1.1
    (honest_from one h.0 e.0 ih (run_stamped (IsHonestAt one) limits phones past h.0 h.1).fit h.2) ih h.3.1.2

-- ---- what is given was accepted

given_entry : (accepted : List Acceptance) (o : Origin) → is_some (stamp_given accepted o) ≡ true
    → (a : Acceptance) × Contains accepted a × (a.origin ≡ Some o)
given_entry [] o h = cc
given_entry (a ∷ past) o h = go (is_from a.origin o) refl h (λ g. given_entry past o g)
  where
    go : (b : Bool) → is_from a.origin o ≡ b → is_some (cond b (Some a.stamp) (stamp_given past o)) ≡ true
        → (is_some (stamp_given past o) ≡ true → (c : Acceptance) × Contains past c × (c.origin ≡ Some o))
        → (c : Acceptance) × Contains (a ∷ past) c × (c.origin ≡ Some o)
    go true e h ih = (a, contains_here a past, from_is a.origin o e)
    go false e h ih = let r = ih h in (r.0, contains_more a past r.0 r.1, r.2)

each_given : (accepted : List Acceptance) (n k : ℕ) → all_given accepted n k ≡ true → (s : ℕ) → 0 < s → s ≤ k → is_given accepted n s ≡ true
each_given accepted n zero h s f l = absurd (omega arith)
each_given accepted n (suc k) h s f l =
    go (eqb s (suc k)) refl (and_parts (is_given accepted n (suc k)) (all_given accepted n k) h).0
    (λ l'. each_given accepted n k (and_parts (is_given accepted n (suc k)) (all_given accepted n k) h).1 s f l')
  where
    go : (b : Bool) → eqb s (suc k) ≡ b → is_given accepted n (suc k) ≡ true → (s ≤ k → is_given accepted n s ≡ true) → is_given accepted n s ≡ true
    go true e p ih = subst (λ i. is_given accepted n i ≡ true) (sym (eqb-true s (suc k) e)) p
    go false e p ih = let ne = eqb-false s (suc k) e in ih (omega arith)

pub accepted_is_accepted : AcceptedIsAccepted
accepted_is_accepted limits phones past m phone h n c s f l =
    let t = (run_true phone limits phones past m h).told phone refl in
    let e = each_at (λ e. (e.1 ≡ true → all_given m.centre.accepted e.0 (size_in m.senders.texts e.0) ≡ true) × ((u : Text) × (nth m.senders.texts e.0 ≡ Some u)))
    (m.senders.sender phone).ended (n, true) t.ended c in
    given_entry m.centre.accepted (record { text = n; segment = s })
    (each_given m.centre.accepted n (size_in m.senders.texts n) (e.0 refl) s f l)
