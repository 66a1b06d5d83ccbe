-- What a phone does not wait for changes nothing, and is known at a glance.
use Rattle.std.proofs.Common.{◌≡◌, ◌&&◌, ℕ, Bool, true, false, List, [], ◌∷◌, Option, None, Result, Ok, Err, refl, sym, ap, ◌∙◌, subst}
use Rattle.std.specs.Prelude.{reverse}
use Rattle.std.specs.Result.{OnErr}
use Rattle.std.proofs.lemmas.List.{reverse-reverse}
use Rattle.sms_relay.specs.declared.side.Side.TheVariants.{FromPhone, ToPhone}
use Rattle.sms_join.specs.Joiner.Finishing.{SameIsEquivalence}
use Rattle.sms_message.specs.declared.glance.Glance.{Glance}
use Rattle.sms_message.specs.declared.glance.Glance.TheVariants as glance
use Rattle.sms_message.specs.declared.message.Relay.{Relay}
use Rattle.sms_message.specs.declared.message.Relay.TheVariants.{Transfer, Answer, UnknownType, Unreadable}
use Rattle.sms_message.specs.declared.message.Report.{Report}
use Rattle.sms_message.specs.declared.message.Message.{Message}
use Rattle.sms_message.specs.declared.message.Message.TheVariants.{NotCp, Note, Tiny, Data}
use Rattle.sms_message.specs.declared.message.Tag.{Tag}
use Rattle.sms_message.specs.declared.outcome.Outcome.TheVariants.{Noted}
use Rattle.sms_message.specs.declared.outcome.Step.{Step}
use Rattle.sms_message.specs.declared.outcome.Dropped.{Dropped}
use Rattle.sms_message.specs.declared.outcome.Dropped.TheVariants as dropped
use Rattle.sms_message.specs.More.{is_more}
use Rattle.sms_message.specs.Few.{FewPackets, few_answered}
use Rattle.sms_message.specs.Does.{packets_of}
use Rattle.sms_message.specs.Memory.{MemoryOnlyFor}
use Rattle.sms_message.specs.Message.{same_tag}
use Rattle.sms_message.specs.Message.Glance.{glance_of, flag_of, IsSeenAs}
use Rattle.sms_message.specs.Message.Reading.{ReadsAs}
use Rattle.sms_party.specs.Sender.Putting.{sender_drops}
use Rattle.sms_party.specs.Sender.Answers.{sender_receives, sender_takes}
use Rattle.sms_party.specs.Sender.Value.{TextValue, SenderValue}
use Rattle.sms_party.specs.Inside.Sender.{Did, hears_at}
use Rattle.sms_party.specs.Sender.Stands as sender
use Rattle.sms_party.specs.Sender.Waits.{waits_for}
use Rattle.sms_party.specs.Receiver.{receiver_opened, receiver_receives}
use Rattle.sms_party.specs.Receiver.State.{ReceiverLimits, ReceiverState, limits_of}
use Rattle.sms_party.specs.Receiver.Standing as receiver
use Rattle.sms_party.specs.Receiver.Standing.{ReceiverValue}
use Rattle.sms_party.specs.Receiver.Waits.{takes_up}
use Rattle.sms_party.specs.Phone.{PhoneValue, is_answer, TakesBy, PhoneReceives, phone_takes_up}
use Rattle.sms_party.proofs.SenderParts.{no_packets}
use Rattle.sms_party.proofs.SenderSteps.{carried_over, heard, nothing_comes}
use Rattle.sms_party.proofs.Storing as storing
use Rattle.sms_party.proofs.Few.{few_are_put_out}

-- no message that is noted
abbrev pub IsDropped : Glance → Type 0
IsDropped glance.NotCp = ⊥
IsDropped (glance.Note flag value) = ⊥
IsDropped (glance.Tiny flag value) = Unit {0}
IsDropped (glance.Data flag tag relay) = Unit {0}

-- ---- a sender

unheard : (v : SenderValue) (tag : Tag) (cause : Option ℕ) (report : Option Report) (p : List TextValue) → (is_more p && same_tag tag v.latest) ≡ false → Did (hears_at v tag cause report p) v (Err dropped.Unmatched) v
unheard v tag cause report [] h = (refl, refl)
unheard v tag cause report (t ∷ later) h = rw h (refl, refl)

module _ (v : SenderValue) where
  pub not_cp_passes : (message : Message) → glance_of message ≡ glance.NotCp → sender.Steps (λ x phone. sender_takes x phone message) v (Err dropped.NotCp) v
  unfolding sender_takes sender_drops
  not_cp_passes NotCp e = λ phone x stands. (refl, stands)
  not_cp_passes (Note flag value) e = absurd cc
  not_cp_passes (Tiny flag value) e = absurd cc
  not_cp_passes (Data flag tag relay) e = absurd cc

  pub note_passes : (message : Message) (flag : Bool) (value : ℕ) → glance_of message ≡ glance.Note flag value → (step : Step) → step.outcome ≡ Noted → step.packets.items ≡ []
      → sender.Steps (λ x phone. sender_takes x phone message) v (Ok step) v
  unfolding sender_takes
  note_passes NotCp flag value e step word none = absurd cc
  note_passes (Note f n) flag value e step word none = λ phone x stands. (ap Ok (sym word), no_packets step none, stands)
  note_passes (Tiny f n) flag value e step word none = absurd cc
  note_passes (Data f tag relay) flag value e step word none = absurd cc

  pub others_pass : (message : Message) → IsDropped (glance_of message) → waits_for v (glance_of message) ≡ false → sender.Steps (λ x phone. sender_takes x phone message) v (Err dropped.Unmatched) v
  unfolding sender_takes sender_receives
  others_pass NotCp d h = absurd d
  others_pass (Note flag value) d h = absurd d
  others_pass (Tiny flag value) d h = λ phone x stands. nothing_comes phone x v stands
  others_pass (Data false tag relay) d h = λ phone x stands. nothing_comes phone x v stands
  others_pass (Data true tag (Answer ToPhone cause report)) d h = λ phone x stands.
      carried_over phone x v v (hears_at v tag cause report v.pending) _ (Err dropped.Unmatched) stands (heard phone x v stands tag cause report) (unheard v tag cause report v.pending h)
  others_pass (Data true tag (Answer FromPhone cause report)) d h = λ phone x stands. nothing_comes phone x v stands
  others_pass (Data true tag (Transfer side unit)) d h = λ phone x stands. nothing_comes phone x v stands
  others_pass (Data true tag UnknownType) d h = λ phone x stands. nothing_comes phone x v stands
  others_pass (Data true tag Unreadable) d h = λ phone x stands. nothing_comes phone x v stands

-- nothing has changed, whatever was answered
pub err_same : {V : Type 0} (v : V) (r : Result Step Dropped) → OnErr r (v ≡ v)
err_same v (Ok step) = tt
err_same v (Err why) = refl

pub sender_received : (octets : List ℕ) (old new : SenderValue) (r : Result Step Dropped) (message : Message) → ReadsAs octets message → sender.Steps (λ x phone. sender_takes x phone message) old r new → OnErr r (new ≡ old)
    → sender.Receives octets old r new
sender_received octets old new (Ok step) message read steps same = (message, read, steps)
sender_received octets old new (Err dropped.Memory) message read steps same = same
sender_received octets old new (Err dropped.NotCp) message read steps same = (message, read, steps)
sender_received octets old new (Err dropped.Unmatched) message read steps same = (message, read, steps)
sender_received octets old new (Err dropped.Busy) message read steps same = (message, read, steps)
sender_received octets old new (Err dropped.TooManySegments) message read steps same = (message, read, steps)

-- ---- a receiver

module _ (now : ℕ) (v : ReceiverValue) where
  pub not_cp_dropped : (message : Message) → glance_of message ≡ glance.NotCp → receiver.Steps (λ limits s origin. receiver_receives limits s now message origin) v (Err dropped.NotCp) v
  unfolding receiver_receives
  not_cp_dropped NotCp e = λ limits s origin stands. storing.nothing_read limits v s stands
  not_cp_dropped (Note flag value) e = absurd cc
  not_cp_dropped (Tiny flag value) e = absurd cc
  not_cp_dropped (Data flag tag relay) e = absurd cc

  pub note_noted : (message : Message) (flag : Bool) (value : ℕ) → glance_of message ≡ glance.Note flag value → (step : Step) → step.outcome ≡ Noted → packets_of step ≡ []
      → receiver.Steps (λ limits s origin. receiver_receives limits s now message origin) v (Ok step) v
  unfolding receiver_receives
  note_noted NotCp flag value e step word none = absurd cc
  note_noted (Note f n) flag value e step word none = λ limits s origin stands. storing.noted limits v s step word none stands
  note_noted (Tiny f n) flag value e step word none = absurd cc
  note_noted (Data f tag relay) flag value e step word none = absurd cc

  pub others_dropped : (message : Message) → IsDropped (glance_of message) → takes_up (glance_of message) ≡ false
      → receiver.Steps (λ limits s origin. receiver_receives limits s now message origin) v (Err dropped.Unmatched) v
  unfolding receiver_receives receiver_opened
  others_dropped NotCp d h = absurd d
  others_dropped (Note flag value) d h = absurd d
  others_dropped (Tiny flag value) d h = λ limits s origin stands. storing.nothing_comes limits v s stands
  others_dropped (Data true tag relay) d h = λ limits s origin stands. storing.nothing_comes limits v s stands
  others_dropped (Data false tag (Answer side cause report)) d h = λ limits s origin stands. storing.nothing_comes limits v s stands
  others_dropped (Data false tag (Transfer FromPhone unit)) d h = λ limits s origin stands. storing.nothing_comes limits v s stands
  others_dropped (Data false tag (Transfer ToPhone unit)) d h = absurd cc
  others_dropped (Data false tag UnknownType) d h = absurd cc
  others_dropped (Data false tag Unreadable) d h = absurd cc

-- what is no CP-DATA is not taken up
pub not_taken_up : (message : Message) → ((flag : Bool) (tag : Tag) (relay : Relay) → message ≡ Data flag tag relay → ⊥) → takes_up (glance_of message) ≡ false
not_taken_up NotCp n = refl
not_taken_up (Note flag value) n = refl
not_taken_up (Tiny flag value) n = refl
not_taken_up (Data flag tag relay) n = absurd (n flag tag relay refl)

-- a receiver stands for a state, so what it does is little
pub receiver_few : SameIsEquivalence → (now : ℕ) (message : Message) (old new : ReceiverValue) (r : Result Step Dropped) → receiver.Steps (λ limits s origin. receiver_receives limits s now message origin) old r new → FewPackets r
receiver_few same now message old new r steps =
    let limits : ReceiverLimits = limits_of old.joiner.open_max old.joiner.remembered old.limit in
    let s : ReceiverState = record { joiner = old.joiner.holds; store = reverse old.store; taken = [] } in
    let stands : receiver.StandsFor limits old s = record { limit_is = refl; open_max_is = refl; remembered_is = refl; same = same.0 old.joiner.holds; store_is = sym (reverse-reverse old.store) } in
    few_answered (λ after. receiver.StandsFor limits new after) s (receiver_receives limits s now message None) r (few_are_put_out.by_receiver limits s now message None) (steps limits s None stands)

-- ---- a phone

pub flag_is : (message : Message) → is_answer message ≡ flag_of (glance_of message)
flag_is NotCp = refl
flag_is (Note flag value) = refl
flag_is (Tiny flag value) = refl
flag_is (Data flag tag relay) = refl

module _ (now : ℕ) (octets : List ℕ) (seen : Glance) (is_seen : IsSeenAs octets seen) (old : PhoneValue) where
  answers_at : (message : Message) (b : Bool) → ReadsAs octets message → flag_of seen ≡ b → is_answer message ≡ b
  answers_at message b read e = flag_is message ∙ (ap flag_of (is_seen message read) ∙ e)

  module _ (answers : flag_of seen ≡ true) (new : SenderValue) where
    with_sender : SenderValue → PhoneValue
    with_sender v = record { sender = v; receiver = old.receiver }

    to_sender : (r : Result Step Dropped) (message : Message) → ReadsAs octets message → sender.Steps (λ x phone. sender_takes x phone message) old.sender r new
        → TakesBy (is_answer message) now message old r (record { sender = new; receiver = old.receiver })
    to_sender r message read steps =
        subst (λ (b : Bool). TakesBy b now message old r (record { sender = new; receiver = old.receiver })) (sym (answers_at message true read answers)) (steps, refl)

    pub sender_takes_it : (r : Result Step Dropped) → sender.Receives octets old.sender r new → PhoneReceives now octets old r (record { sender = new; receiver = old.receiver })
    unfolding with_sender
    sender_takes_it (Ok step) h = (h.0, h.1, to_sender (Ok step) h.0 h.1 h.2)
    sender_takes_it (Err dropped.Memory) h = ap with_sender h
    sender_takes_it (Err dropped.NotCp) h = (h.0, h.1, to_sender (Err dropped.NotCp) h.0 h.1 h.2)
    sender_takes_it (Err dropped.Unmatched) h = (h.0, h.1, to_sender (Err dropped.Unmatched) h.0 h.1 h.2)
    sender_takes_it (Err dropped.Busy) h = (h.0, h.1, to_sender (Err dropped.Busy) h.0 h.1 h.2)
    sender_takes_it (Err dropped.TooManySegments) h = (h.0, h.1, to_sender (Err dropped.TooManySegments) h.0 h.1 h.2)

  module _ (other : flag_of seen ≡ false) (new : ReceiverValue) where
    with_receiver : ReceiverValue → PhoneValue
    with_receiver v = record { sender = old.sender; receiver = v }

    to_receiver : (r : Result Step Dropped) (message : Message) → ReadsAs octets message → receiver.Steps (λ limits s origin. receiver_receives limits s now message origin) old.receiver r new
        → TakesBy (is_answer message) now message old r (record { sender = old.sender; receiver = new })
    to_receiver r message read steps =
        subst (λ (b : Bool). TakesBy b now message old r (record { sender = old.sender; receiver = new })) (sym (answers_at message false read other)) (steps, refl)

    pub receiver_takes_it : (r : Result Step Dropped) → receiver.ReceivesAs now octets old.receiver r new → OnErr r (new ≡ old.receiver)
        → PhoneReceives now octets old r (record { sender = old.sender; receiver = new })
    unfolding with_receiver
    receiver_takes_it (Ok step) h same = (h.0, h.1, to_receiver (Ok step) h.0 h.1 h.2)
    receiver_takes_it (Err dropped.Memory) h same = ap with_receiver same
    receiver_takes_it (Err dropped.NotCp) h same = (h.0, h.1, to_receiver (Err dropped.NotCp) h.0 h.1 h.2)
    receiver_takes_it (Err dropped.Unmatched) h same = (h.0, h.1, to_receiver (Err dropped.Unmatched) h.0 h.1 h.2)
    receiver_takes_it (Err dropped.Busy) h same = (h.0, h.1, to_receiver (Err dropped.Busy) h.0 h.1 h.2)
    receiver_takes_it (Err dropped.TooManySegments) h same = (h.0, h.1, to_receiver (Err dropped.TooManySegments) h.0 h.1 h.2)

  -- octets are one message, and so are seen in one way
  module _ (some : (message : Message) × ReadsAs octets message) where
    one_glance : (other : Glance) → IsSeenAs octets other → seen ≡ other
    one_glance other h = sym (is_seen some.0 some.1) ∙ h some.0 some.1

    pub memory_for_sender : flag_of seen ≡ true → (r : Result Step Dropped) → MemoryOnlyFor (waits_for old.sender) octets r → MemoryOnlyFor (phone_takes_up old) octets r
    memory_for_sender f (Ok step) h = tt
    memory_for_sender f (Err dropped.Memory) h =
        let g : flag_of h.0 ≡ true = ap flag_of (sym (one_glance h.0 h.1)) ∙ f in
        (h.0, h.1, rw g h.2)
    memory_for_sender f (Err dropped.NotCp) h = tt
    memory_for_sender f (Err dropped.Unmatched) h = tt
    memory_for_sender f (Err dropped.Busy) h = tt
    memory_for_sender f (Err dropped.TooManySegments) h = tt

    pub memory_for_receiver : flag_of seen ≡ false → (r : Result Step Dropped) → MemoryOnlyFor takes_up octets r → MemoryOnlyFor (phone_takes_up old) octets r
    memory_for_receiver f (Ok step) h = tt
    memory_for_receiver f (Err dropped.Memory) h =
        let g : flag_of h.0 ≡ false = ap flag_of (sym (one_glance h.0 h.1)) ∙ f in
        (h.0, h.1, rw g h.2)
    memory_for_receiver f (Err dropped.NotCp) h = tt
    memory_for_receiver f (Err dropped.Unmatched) h = tt
    memory_for_receiver f (Err dropped.Busy) h = tt
    memory_for_receiver f (Err dropped.TooManySegments) h = tt
