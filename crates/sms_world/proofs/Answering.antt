-- What the parties answer is what the machine does.
use Rattle.std.proofs.Common.{◌≡◌, ◌≢◌, ℕ, ◌≤◌, Bool, true, false, List, [], length, Option, Some, None, Result, Ok, Err, refl, sym, ap, ◌∙◌, subst, arith}
use Rattle.std.specs.List.{slice_get}
use Rattle.sms_field.specs.Address.Value.{AddressValue}
use Rattle.sms_join.specs.declared.units.Units.{Units}
use Rattle.sms_join.specs.Cut.{IsCut}
use Rattle.sms_join.specs.UnitsOfText.{IsText}
use Rattle.sms_party.specs.Drops.{SendsOrDrops}
use Rattle.sms_message.specs.Drops.{DoesOrDrops}
use Rattle.sms_party.specs.Few.{AreFewTo}
use Rattle.sms_message.specs.Does.{Does, packets_of, Answered}
use Rattle.sms_message.specs.Message.{Origin}
use Rattle.sms_party.specs.Sent.{Sent, Sends, Centre, Phone, messages_of}
use Rattle.sms_centre.specs.Centre.{centre_receives}
use Rattle.sms_centre.specs.Centre.State.{CentreState}
use Rattle.sms_message.specs.Changed.{changed}
use Rattle.sms_centre.specs.Centre.Calls.{CentreAnswers, StandsLater, PushSteps, ReceivesAs}
use Rattle.sms_centre.specs.Centre.Pushes.{centre_pushes}
use Rattle.sms_centre.specs.Centre.Value.{CentreValue}
use Rattle.sms_centre.specs.Centre.Standing as centre
use Rattle.sms_party.specs.Phone.{PhoneValue, is_answer, TakesBy, PhoneReceives}
use Rattle.sms_party.specs.Receiver.{receiver_receives}
use Rattle.sms_party.specs.Receiver.State.{ReceiverState}
use Rattle.sms_party.specs.Receiver.Standing as receiver
use Rattle.sms_party.specs.Sender.Answers.{sender_takes}
use Rattle.sms_party.specs.Sender.Calls.{composes}
use Rattle.sms_party.specs.Sender.Putting.{sender_drops}
use Rattle.sms_party.specs.Sender.Stands as sender
use Rattle.sms_party.specs.Sender.Texts.{SenderState, width_of}
use Rattle.sms_party.specs.Sender.Stands.{SenderStands, in_messages}
use Rattle.sms_party.specs.Sender.Value.{SenderValue}
use Rattle.sms_message.specs.declared.message.Message.{Message}
use Rattle.sms_message.specs.declared.message.Message.TheVariants.{NotCp, Note, Tiny, Data}
use Rattle.sms_message.specs.declared.outcome.Step.{Step}
use Rattle.sms_message.specs.declared.outcome.Dropped.{Dropped}
use Rattle.sms_message.specs.declared.outcome.Dropped.TheVariants as dropped
use Rattle.sms_world.specs.declared.fault.WorldFault.TheVariants.{Party}
use Rattle.sms_world.specs.Inside.Below.{Below}
use Rattle.sms_world.specs.Told.{of_party}
use Rattle.sms_world.specs.Machine.{Machine}
use Rattle.sms_world.specs.Machine.Next.{Next, entered, stays, by_sender, by_receiver, by_centre, of_centre, receiver_limits, origin_of, pushed, comes, comes_to_phone}
use Rattle.sms_world.specs.World.Value.{PartiesValue}
use Rattle.sms_world.specs.World.Standing.{PartiesStand, ArePacketsOf}
use Rattle.sms_world.specs.Inside.Parties.{on_way, Answers, Types, Pushes, Receives}
use Rattle.sms_world.proofs.Replaced.{with_phone, replaced, changed_here, changed_elsewhere, not_changed, same_receivers}
use Rattle.sms_world.proofs.Ways.{on_their_way, down_to, up_from, as_many, as_many_sent, put_none, put_none_up}

-- ---- the parties are as they were

abbrev pub with_centre : PartiesValue → CentreValue → PartiesValue
with_centre v c = record { centre = c; phones = v.phones }

-- a sender does this, in whichever state
module _ (v : PartiesValue) (m : Machine) (p : ℕ) (old new : PhoneValue) (h : PartiesStand v m) (there : slice_get v.phones p ≡ Some old) (same : new.receiver ≡ old.receiver) where
  heard : (x : SenderState) (sent : List Sent) → SenderStands p new.sender x → ((q : ℕ) (s : SenderValue) → q ≢ p → SenderStands q s m.senders → SenderStands q s x)
      → PartiesStand (with_phone v p new) (record m { sent = sent; senders = x })
  heard x sent stands others =
      replaced v m (record m { sent = sent; senders = x }) p new h.centre_stands h.as_many stands
      (λ q phone apart e. others q phone.sender apart (h.senders_stand q phone e))
      (subst (λ (r : _). receiver.StandsFor (receiver_limits m.limits) r (m.receiver p)) (sym same) (h.receivers_stand p old there))
      (λ q phone apart e. h.receivers_stand q phone e)

  stayed : SenderStands p new.sender m.senders → PartiesStand (with_phone v p new) m
  stayed stands = heard m.senders m.sent stands (λ q s apart k. k)

  module _ (d : Sends SenderState) (few : AreFewTo (Centre p) d.put) (none : SendsOrDrops d) (others : (q : ℕ) (s : SenderValue) → q ≢ p → SenderStands q s m.senders → SenderStands q s d.after) where
    dropped_by : (why : Dropped) → d.answer ≡ Err why → SenderStands p new.sender d.after
        → ((by_sender m d).answer ≡ Err (Party why)) × ((by_sender m d).put ≡ []) × PartiesStand (with_phone v p new) (by_sender m d).after
    unfolding by_sender
    dropped_by why e stands = (ap of_party e, none why e, heard d.after (entered d.put m.sent) stands others)

    pub sender_answers : (r : Result Step Dropped) → Answered (SenderStands p new.sender) m.senders (in_messages d) r → Answers true p m (by_sender m d) r (with_phone v p new)
    unfolding by_sender
    sender_answers (Ok step) a = (
      ap of_party a.0,
      subst (λ n. n ≤ 2) (sym (as_many (packets_of step) (messages_of d.put) a.1 ∙ as_many_sent d.put)) few.two,
      on_their_way true p (packets_of step) d.put few.there a.1,
      heard d.after (entered d.put m.sent) a.2 others,
    )
    sender_answers (Err dropped.Memory) a = stayed a
    sender_answers (Err dropped.NotCp) a = dropped_by dropped.NotCp a.0 a.1
    sender_answers (Err dropped.Unmatched) a = dropped_by dropped.Unmatched a.0 a.1
    sender_answers (Err dropped.Busy) a = dropped_by dropped.Busy a.0 a.1
    sender_answers (Err dropped.TooManySegments) a = dropped_by dropped.TooManySegments a.0 a.1

-- a text is typed
typed : (v : PartiesValue) (m : Machine) (p : ℕ) (old new : PhoneValue) (target : AddressValue) (text : List ℕ) → Below → IsText text
    → PartiesStand v m → slice_get v.phones p ≡ Some old → new.receiver ≡ old.receiver
    → (r : Result Step Dropped) → sender.Types target text old.sender r new.sender
    → (pieces : List Units) × IsCut (width_of m.senders.wide) text pieces × Answers true p m (by_sender m (composes m.senders p target text pieces)) r (with_phone v p new)
typed v m p old new target text law is_text h there same r t = by_result r t
  where
    s : SenderStands p old.sender m.senders
    s = h.senders_stand p old there

    answered : (pieces : List Units) (q : Result Step Dropped) → Answered (SenderStands p new.sender) m.senders (in_messages (composes m.senders p target text pieces)) q → Answers true p m (by_sender m (composes m.senders p target text pieces)) q (with_phone v p new)
    answered pieces q a =
        sender_answers v m p old new h there same (composes m.senders p target text pieces) (law.few_put.when_typed m.senders p target text pieces) (law.dropped.composes m.senders p target text pieces)
        (λ i w apart k. (law.others i p w m.senders apart k).0 target text pieces) q a

    cut : (pieces : List Units) → IsCut old.sender.width text pieces → IsCut (width_of m.senders.wide) text pieces
    cut pieces k = subst (λ w. IsCut w text pieces) s.keeps.width_is k

    by_result : (q : Result Step Dropped) → sender.Types target text old.sender q new.sender
        → (pieces : List Units) × IsCut (width_of m.senders.wide) text pieces × Answers true p m (by_sender m (composes m.senders p target text pieces)) q (with_phone v p new)
    by_result (Ok step) k = (k.0, cut k.0 k.1, answered k.0 (Ok step) (k.2 p m.senders s))
    by_result (Err dropped.NotCp) k = (k.0, cut k.0 k.1, answered k.0 (Err dropped.NotCp) (k.2 p m.senders s))
    by_result (Err dropped.Unmatched) k = (k.0, cut k.0 k.1, answered k.0 (Err dropped.Unmatched) (k.2 p m.senders s))
    by_result (Err dropped.TooManySegments) k = (k.0, cut k.0 k.1, answered k.0 (Err dropped.TooManySegments) (k.2 p m.senders s))
    by_result (Err dropped.Busy) k =
        let c = law.cut (width_of m.senders.wide) text is_text in (c.0, c.1, answered c.0 (Err dropped.Busy) (k c.0 p m.senders s))
    by_result (Err dropped.Memory) k =
        let c = law.cut (width_of m.senders.wide) text is_text in
        (c.0, c.1, answered c.0 (Err dropped.Memory) (subst (λ w. SenderStands p w m.senders) (sym k) s))

pub types : (v : PartiesValue) (p : ℕ) (old new : PhoneValue) (target : AddressValue) (text : List ℕ) (r : Result Step Dropped) → Below → IsText text
    → slice_get v.phones p ≡ Some old → new.receiver ≡ old.receiver → sender.Types target text old.sender r new.sender
    → Types p target text v r (with_phone v p new)
types v p old new target text r law is_text there same t = λ m h. typed v m p old new target text law is_text h there same r t

-- ---- the centre does this

module _ (v : PartiesValue) (m : Machine) (p : ℕ) (origin : Option Origin) (putting : Option ℕ) (d : Does CentreState) (new : CentreValue) (h : PartiesStand v m) (few : length d.put ≤ 2) (none : DoesOrDrops d) where
  centre_is : (n : Machine) → n.limits ≡ m.limits → n.phones ≡ m.phones → centre.StandsFor n.limits.held n.phones n.clock new n.centre → n.senders ≡ m.senders → n.receiver ≡ m.receiver → PartiesStand (with_centre v new) n
  centre_is n limits phones stands senders receivers =
      record {
        centre_stands = stands;
        as_many = h.as_many ∙ ap length (sym phones);
        senders_stand = λ q phone e. subst (λ x. SenderStands q phone.sender x) (sym senders) (h.senders_stand q phone e);
        receivers_stand = λ q phone e.
            subst (λ l. receiver.StandsFor (receiver_limits l) phone.receiver (n.receiver q)) (sym limits)
            (subst (λ (f : ℕ → ReceiverState). receiver.StandsFor (receiver_limits m.limits) phone.receiver (f q)) (sym receivers) (h.receivers_stand q phone e));
      }

  centre_dropped : (why : Dropped) → d.answer ≡ Err why → centre.StandsFor m.limits.held m.phones m.clock new d.after
      → ((by_centre m (of_centre p origin putting d)).answer ≡ Err (Party why)) × ((by_centre m (of_centre p origin putting d)).put ≡ []) × PartiesStand (with_centre v new) (by_centre m (of_centre p origin putting d)).after
  unfolding by_centre of_centre
  centre_dropped why e stands = (ap of_party e, put_none p origin putting d.put (none why e), centre_is _ refl refl stands refl refl)

  pub centre_answers : (r : Result Step Dropped) → CentreAnswers m.limits.held m.phones m.clock m.centre d r new → Answers false p m (by_centre m (of_centre p origin putting d)) r (with_centre v new)
  unfolding by_centre of_centre
  centre_answers (Ok step) a = (
    ap of_party a.0,
    subst (λ n. n ≤ 2) (sym (as_many (packets_of step) d.put a.1)) few,
    down_to p origin putting (packets_of step) d.put a.1,
    centre_is _ refl refl a.2 refl refl,
  )
  centre_answers (Err dropped.Memory) a = centre_is m refl refl a refl refl
  centre_answers (Err dropped.NotCp) a = centre_dropped dropped.NotCp a.0 a.1
  centre_answers (Err dropped.Unmatched) a = centre_dropped dropped.Unmatched a.0 a.1
  centre_answers (Err dropped.Busy) a = centre_dropped dropped.Busy a.0 a.1
  centre_answers (Err dropped.TooManySegments) a = centre_dropped dropped.TooManySegments a.0 a.1

-- ---- the receiver of a phone does this

module _ (v : PartiesValue) (m : Machine) (p : ℕ) (old new : PhoneValue) (d : Does ReceiverState) (h : PartiesStand v m) (there : slice_get v.phones p ≡ Some old) (same : new.sender ≡ old.sender) (few : length d.put ≤ 2) (none : DoesOrDrops d) where
  at_receiver : (sent : List Sent) (after : ReceiverState) → receiver.StandsFor (receiver_limits m.limits) new.receiver after
      → PartiesStand (with_phone v p new) (record m { sent = sent; receiver = changed m.receiver p after })
  at_receiver sent after stands =
      replaced v m (record m { sent = sent; receiver = changed m.receiver p after }) p new h.centre_stands h.as_many
      (subst (λ s. SenderStands p s m.senders) (sym same) (h.senders_stand p old there))
      (λ q phone apart e. h.senders_stand q phone e)
      (subst (λ (s : ReceiverState). receiver.StandsFor (receiver_limits m.limits) new.receiver s) (sym (changed_here m.receiver p after)) stands)
      (λ q phone apart e. subst (λ (s : ReceiverState). receiver.StandsFor (receiver_limits m.limits) phone.receiver s) (sym (changed_elsewhere m.receiver p q after apart)) (h.receivers_stand q phone e))

  receiver_stays : receiver.StandsFor (receiver_limits m.limits) new.receiver (m.receiver p) → PartiesStand (with_phone v p new) m
  receiver_stays stands = same_receivers (with_phone v p new) m (changed m.receiver p (m.receiver p)) (not_changed m.receiver p) (at_receiver m.sent (m.receiver p) stands)

  receiver_dropped : (why : Dropped) → d.answer ≡ Err why → receiver.StandsFor (receiver_limits m.limits) new.receiver d.after
      → ((by_receiver m p d).answer ≡ Err (Party why)) × ((by_receiver m p d).put ≡ []) × PartiesStand (with_phone v p new) (by_receiver m p d).after
  unfolding by_receiver
  receiver_dropped why e stands = (ap of_party e, put_none_up p d.put (none why e), at_receiver _ d.after stands)

  pub receiver_answers : (r : Result Step Dropped) → receiver.ReceiverAnswers (receiver_limits m.limits) (m.receiver p) d r new.receiver → Answers true p m (by_receiver m p d) r (with_phone v p new)
  unfolding by_receiver
  receiver_answers (Ok step) a = (
    ap of_party a.0,
    subst (λ n. n ≤ 2) (sym (as_many (packets_of step) d.put a.1)) few,
    up_from p (packets_of step) d.put a.1,
    at_receiver _ d.after a.2,
  )
  receiver_answers (Err dropped.Memory) a = receiver_stays a
  receiver_answers (Err dropped.NotCp) a = receiver_dropped dropped.NotCp a.0 a.1
  receiver_answers (Err dropped.Unmatched) a = receiver_dropped dropped.Unmatched a.0 a.1
  receiver_answers (Err dropped.Busy) a = receiver_dropped dropped.Busy a.0 a.1
  receiver_answers (Err dropped.TooManySegments) a = receiver_dropped dropped.TooManySegments a.0 a.1

-- ---- octets come to the centre

up_by : (now p : ℕ) (octets : List ℕ) (v : PartiesValue) (new : CentreValue) → Below → (message : Message) (r : Result Step Dropped)
    → ((limit : ℕ) (phones : List AddressValue) (clock : ℕ) (c : CentreState) (origin : Option Origin) → clock ≤ now → centre.StandsFor limit phones clock v.centre c
    → CentreAnswers limit phones now c (centre_receives limit phones c now p message origin) r new)
    → (m : Machine) (origin : Option Origin) (putting : Option ℕ) → PartiesStand v m → m.clock ≡ now → Answers false p m (comes m (Centre p) message origin putting) r (with_centre v new)
unfolding comes
up_by now p octets v new law message r answers m origin putting h e =
    centre_answers v m p None putting (centre_receives m.limits.held m.phones m.centre m.clock p message origin) new h
    (law.centre_few.when_received m.limits.held m.phones m.centre m.clock p message origin) (law.centre_dropped.when_received m.limits.held m.phones m.centre m.clock p message origin) r
    (subst (λ t. CentreAnswers m.limits.held m.phones t m.centre (centre_receives m.limits.held m.phones m.centre t p message origin) r new) (sym e)
    (answers m.limits.held m.phones m.clock m.centre origin (omega (arith, e)) h.centre_stands))

later : (now : ℕ) (v : PartiesValue) (new : CentreValue) → StandsLater now v.centre new → (m : Machine) → PartiesStand v m → m.clock ≡ now → PartiesStand (with_centre v new) m
later now v new stands m h e =
    record {
      centre_stands = subst (λ t. centre.StandsFor m.limits.held m.phones t new m.centre) (sym e) (stands m.limits.held m.phones m.clock m.centre (omega (arith, e)) h.centre_stands);
      as_many = h.as_many;
      senders_stand = h.senders_stand;
      receivers_stand = h.receivers_stand;
    }

pub reaches_centre : (now p : ℕ) (octets : List ℕ) (v : PartiesValue) (new : CentreValue) (r : Result Step Dropped) → Below → ReceivesAs now p octets v.centre r new → Receives now true p octets v r (with_centre v new)
reaches_centre now p octets v new (Ok step) law k = (k.0, k.1, up_by now p octets v new law k.0 (Ok step) k.2)
reaches_centre now p octets v new (Err dropped.NotCp) law k = (k.0, k.1, up_by now p octets v new law k.0 (Err dropped.NotCp) k.2)
reaches_centre now p octets v new (Err dropped.Unmatched) law k = (k.0, k.1, up_by now p octets v new law k.0 (Err dropped.Unmatched) k.2)
reaches_centre now p octets v new (Err dropped.Busy) law k = (k.0, k.1, up_by now p octets v new law k.0 (Err dropped.Busy) k.2)
reaches_centre now p octets v new (Err dropped.TooManySegments) law k = (k.0, k.1, up_by now p octets v new law k.0 (Err dropped.TooManySegments) k.2)
reaches_centre now p octets v new (Err dropped.Memory) law k = later now v new k

pub pushes : (now p : ℕ) (v : PartiesValue) (new : CentreValue) (r : Result Step Dropped) → Below → PushSteps now p v.centre r new → Pushes now p v r (with_centre v new)
unfolding pushed
pushes now p v new r law k m h e =
    let d = centre_pushes m.phones m.centre m.clock p in
    centre_answers v m p (origin_of (d.after.line p).latest) None d new h
    (law.centre_few.when_pushed m.phones m.centre m.clock p) (law.centre_dropped.when_pushed m.phones m.centre m.clock p) r
    (subst (λ t. CentreAnswers m.limits.held m.phones t m.centre (centre_pushes m.phones m.centre t p) r new) (sym e)
    (k m.limits.held m.phones m.clock m.centre (omega (arith, e)) h.centre_stands))

-- ---- octets come to a phone

-- another way to say what the machine does
said_so : (up : Bool) (p : ℕ) (m : Machine) (d e : Next) (v : PartiesValue) → e.answer ≡ d.answer → e.put ≡ d.put → (PartiesStand v d.after → PartiesStand v e.after)
    → (r : Result Step Dropped) → Answers up p m d r v → Answers up p m e r v
said_so up p m d e v answer put after (Ok step) a =
    (answer ∙ a.0, a.1, subst (λ s. ArePacketsOf (on_way up p (packets_of step)) s) (sym put) a.2, after a.3)
said_so up p m d e v answer put after (Err dropped.Memory) a = a
said_so up p m d e v answer put after (Err dropped.NotCp) a = (answer ∙ a.0, put ∙ a.1, after a.2)
said_so up p m d e v answer put after (Err dropped.Unmatched) a = (answer ∙ a.0, put ∙ a.1, after a.2)
said_so up p m d e v answer put after (Err dropped.Busy) a = (answer ∙ a.0, put ∙ a.1, after a.2)
said_so up p m d e v answer put after (Err dropped.TooManySegments) a = (answer ∙ a.0, put ∙ a.1, after a.2)

-- what is an answer is for the sender
for_sender : (m : Machine) (p : ℕ) (message : Message) (origin : Option Origin) (v : PartiesValue) (r : Result Step Dropped) → is_answer message ≡ true
    → Answers true p m (by_sender m (sender_takes m.senders p message)) r v → Answers true p m (comes_to_phone m p message origin) r v
unfolding comes_to_phone by_sender sender_takes sender_drops stays
for_sender m p NotCp origin v r e a = absurd cc
for_sender m p (Note flag value) origin v r e a = said_so true p m (by_sender m (sender_takes m.senders p (Note flag value))) _ v refl refl (λ h. h) r a
for_sender m p (Tiny flag value) origin v r e a = said_so true p m (by_sender m (sender_takes m.senders p (Tiny flag value))) _ v refl refl (λ h. h) r a
for_sender m p (Data true tag relay) origin v r e a = a
for_sender m p (Data false tag relay) origin v r e a = absurd cc

-- what is none is for the receiver
for_receiver : (m : Machine) (p : ℕ) (message : Message) (origin : Option Origin) (v : PartiesValue) (r : Result Step Dropped) → is_answer message ≡ false
    → Answers true p m (by_receiver m p (receiver_receives (receiver_limits m.limits) (m.receiver p) m.clock message origin)) r v → Answers true p m (comes_to_phone m p message origin) r v
unfolding comes_to_phone by_receiver receiver_receives stays
for_receiver m p NotCp origin v r e a =
    said_so true p m (by_receiver m p (receiver_receives (receiver_limits m.limits) (m.receiver p) m.clock NotCp origin)) _ v refl refl (same_receivers v m _ (not_changed m.receiver p)) r a
for_receiver m p (Note flag value) origin v r e a =
    said_so true p m (by_receiver m p (receiver_receives (receiver_limits m.limits) (m.receiver p) m.clock (Note flag value) origin)) _ v refl refl (same_receivers v m _ (not_changed m.receiver p)) r a
for_receiver m p (Tiny flag value) origin v r e a =
    said_so true p m (by_receiver m p (receiver_receives (receiver_limits m.limits) (m.receiver p) m.clock (Tiny flag value) origin)) _ v refl refl (same_receivers v m _ (not_changed m.receiver p)) r a
for_receiver m p (Data true tag relay) origin v r e a = absurd cc
for_receiver m p (Data false tag relay) origin v r e a = a

module _ (now p : ℕ) (octets : List ℕ) (v : PartiesValue) (old new : PhoneValue) (law : Below) (there : slice_get v.phones p ≡ Some old) where
  down_by : (message : Message) (b : Bool) (r : Result Step Dropped) → is_answer message ≡ b → TakesBy b now message old r new
      → (m : Machine) (origin : Option Origin) (putting : Option ℕ) → PartiesStand v m → m.clock ≡ now → Answers true p m (comes m (Phone p) message origin putting) r (with_phone v p new)
  unfolding comes
  down_by message true r e k m origin putting h at =
      for_sender m p message origin (with_phone v p new) r e
      (sender_answers v m p old new h there k.1 (sender_takes m.senders p message) (law.few_put.when_heard m.senders p message) (law.dropped.sender_takes m.senders p message)
      (λ q s apart i. (law.others q p s m.senders apart i).2 message) r (k.0 p m.senders (h.senders_stand p old there)))
  down_by message false r e k m origin putting h at =
      let d = receiver_receives (receiver_limits m.limits) (m.receiver p) m.clock message origin in
      for_receiver m p message origin (with_phone v p new) r e
      (receiver_answers v m p old new d h there k.1 (law.few_put.by_receiver (receiver_limits m.limits) (m.receiver p) m.clock message origin)
      (law.dropped.receiver_receives (receiver_limits m.limits) (m.receiver p) m.clock message origin) r
      (subst (λ t. receiver.ReceiverAnswers (receiver_limits m.limits) (m.receiver p) (receiver_receives (receiver_limits m.limits) (m.receiver p) t message origin) r new.receiver) (sym at)
      (k.0 (receiver_limits m.limits) (m.receiver p) origin (h.receivers_stand p old there))))

  phone_stays : new ≡ old → (m : Machine) → PartiesStand v m → PartiesStand (with_phone v p new) m
  phone_stays e m h =
      replaced v m m p new h.centre_stands h.as_many
      (subst (λ (x : PhoneValue). SenderStands p x.sender m.senders) (sym e) (h.senders_stand p old there)) (λ q phone apart k. h.senders_stand q phone k)
      (subst (λ (x : PhoneValue). receiver.StandsFor (receiver_limits m.limits) x.receiver (m.receiver p)) (sym e) (h.receivers_stand p old there)) (λ q phone apart k. h.receivers_stand q phone k)

  pub reaches_phone : (r : Result Step Dropped) → PhoneReceives now octets old r new → Receives now false p octets v r (with_phone v p new)
  reaches_phone (Ok step) k = (k.0, k.1, down_by k.0 (is_answer k.0) (Ok step) refl k.2)
  reaches_phone (Err dropped.NotCp) k = (k.0, k.1, down_by k.0 (is_answer k.0) (Err dropped.NotCp) refl k.2)
  reaches_phone (Err dropped.Unmatched) k = (k.0, k.1, down_by k.0 (is_answer k.0) (Err dropped.Unmatched) refl k.2)
  reaches_phone (Err dropped.Busy) k = (k.0, k.1, down_by k.0 (is_answer k.0) (Err dropped.Busy) refl k.2)
  reaches_phone (Err dropped.TooManySegments) k = (k.0, k.1, down_by k.0 (is_answer k.0) (Err dropped.TooManySegments) refl k.2)
  reaches_phone (Err dropped.Memory) k = λ m h at. phone_stays k m h
