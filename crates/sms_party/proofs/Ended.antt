-- How a text has ended is told by its number.
use Rattle.std.proofs.Common.{◌≡◌, ◌≢◌, ℕ, suc, ◌+◌, ◌-◌, ◌==◌, Bool, true, false, cond, nat_lt, List, [], ◌∷◌, ◌++◌, length, Option, Some, None, refl, sym, ap, ◌∙◌, subst, arith}
use Rattle.std.specs.Prelude.{nat_le}
use Rattle.std.proofs.lemmas.Bool.Decides.{nat_tests}
use Rattle.std.proofs.lemmas.List.{append_assoc, length-append}
use Rattle.sms_field.specs.Address.Value.{AddressValue}
use Rattle.sms_relay.specs.declared.side.Side.TheVariants.{FromPhone, ToPhone}
use Rattle.sms_join.specs.declared.units.Units.{Units}
use Rattle.sms_party.specs.declared.sender.Status.{Status}
use Rattle.sms_message.specs.declared.message.Report.{Report}
use Rattle.sms_message.specs.declared.message.Relay.{Relay}
use Rattle.sms_message.specs.declared.message.Relay.TheVariants.{Transfer, Answer, UnknownType, Unreadable}
use Rattle.sms_message.specs.declared.message.Message.{Message}
use Rattle.sms_message.specs.declared.message.Message.TheVariants.{NotCp, Note, Tiny, Data}
use Rattle.sms_message.specs.declared.message.Tag.{Tag}
use Rattle.sms_message.specs.declared.outcome.Outcome.{Outcome}
use Rattle.sms_message.specs.declared.outcome.Dropped.{Dropped}
use Rattle.sms_message.specs.Message.{tag_of, same_tag}
use Rattle.sms_party.specs.Sent.{nth, Sent, Sends}
use Rattle.sms_party.specs.Sender.Texts.{Text, Sender, SenderState, new_sender, texts_of_phone, new_text, number_of}
use Rattle.sms_party.specs.Sender.Putting.{Puts, puts_text, puts_first, puts, with_sender, sender_drops, does}
use Rattle.sms_party.specs.Sender.Calls.{appended, typed, composes, ends, repeats, times_out}
use Rattle.sms_party.specs.Sender.Answers.{advanced, hears, matches, sender_receives, sender_takes}
use Rattle.sms_party.specs.Sender.Value.{status_among, all_waiting}
use Rattle.sms_party.specs.Sender.Stands.{status_if, statuses_of}
use Rattle.sms_party.specs.Sender.Ended.{Call, Compose, TimeOut, Take, called, called_all, AreTold, EndedAreTold, AreTyped, EndedAreTyped}
use Rattle.sms_party.proofs.Waiting.{nth_more, nth_new}

-- ---- the texts of a phone in order of their numbers

record HasNumber (texts : List Text) (phone n number : ℕ) : Type 0 where
  text : Text
  is_there : nth texts n ≡ Some text
  is : text.number ≡ number
  own : text.phone ≡ phone

abbrev AreEnded : List Text → ℕ → List (ℕ × Bool) → Type 0
AreEnded texts phone [] = Unit {0}
AreEnded texts phone (e ∷ past) = HasNumber texts phone e.0 (suc (length past)) × AreEnded texts phone past

abbrev AreWaiting : List Text → ℕ → ℕ → List ℕ → Type 0
AreWaiting texts phone before [] = Unit {0}
AreWaiting texts phone before (n ∷ later) = HasNumber texts phone n (suc before) × AreWaiting texts phone (suc before) later

record IsCounted (texts : List Text) (phone : ℕ) (s : Sender) : Type 0 where
  ended : AreEnded texts phone s.ended
  waiting : AreWaiting texts phone (length s.ended) s.pending
  count : texts_of_phone texts phone ≡ length s.ended + length s.pending

abbrev AreCounted : SenderState → Type 0
AreCounted x = (phone : ℕ) → IsCounted x.texts phone (x.sender phone)

-- ---- one more text

number_more : (texts : List Text) (t : Text) (phone n number : ℕ) → HasNumber texts phone n number → HasNumber (t ∷ texts) phone n number
number_more texts t phone n number h = record { text = h.text; is_there = nth_more texts n h.text t h.is_there; is = h.is; own = h.own }

ended_more : (texts : List Text) (t : Text) (phone : ℕ) (ended : List (ℕ × Bool)) → AreEnded texts phone ended → AreEnded (t ∷ texts) phone ended
ended_more texts t phone [] h = tt
ended_more texts t phone (e ∷ past) h = (number_more texts t phone e.0 (suc (length past)) h.0, ended_more texts t phone past h.1)

waiting_more : (texts : List Text) (t : Text) (phone before : ℕ) (queue : List ℕ) → AreWaiting texts phone before queue → AreWaiting (t ∷ texts) phone before queue
waiting_more texts t phone before [] h = tt
waiting_more texts t phone before (n ∷ later) h = (number_more texts t phone n (suc before) h.0, waiting_more texts t phone (suc before) later h.1)

other_more : (texts : List Text) (t : Text) (phone : ℕ) (s : Sender) → t.phone ≢ phone → IsCounted texts phone s → IsCounted (t ∷ texts) phone s
other_more texts t phone s apart h =
    let e : (t.phone == phone) ≡ false = grind (arith, nat_tests) in
    record { ended = ended_more texts t phone s.ended h.ended; waiting = waiting_more texts t phone (length s.ended) s.pending h.waiting; count = rw e h.count }

waiting_last : (texts : List Text) (phone n before : ℕ) (queue : List ℕ) → AreWaiting texts phone before queue → HasNumber texts phone n (suc (before + length queue)) → AreWaiting texts phone before (queue ++ n ∷ [])
waiting_last texts phone n before [] h k = let e : before + 0 ≡ before = omega arith in (subst (λ m. HasNumber texts phone n (suc m)) e k, tt)
waiting_last texts phone n before (m ∷ later) h k =
    let e : before + suc (length later) ≡ suc before + length later = omega arith in
    (h.0, waiting_last texts phone n (suc before) later h.1 (subst (λ i. HasNumber texts phone n (suc i)) e k))

own_more : (texts : List Text) (t : Text) (phone : ℕ) (s : Sender) → t.phone ≡ phone → t.number ≡ suc (texts_of_phone texts phone) → IsCounted texts phone s → IsCounted (t ∷ texts) phone (appended s (length texts))
unfolding appended
own_more texts t phone s own number h =
    let e : (t.phone == phone) ≡ true = grind (arith, nat_tests) in
    let count = h.count in
    let size = length-append s.pending (length texts ∷ []) in
    record {
      ended = ended_more texts t phone s.ended h.ended;
      waiting = waiting_last (t ∷ texts) phone (length texts) (length s.ended) s.pending (waiting_more texts t phone (length s.ended) s.pending h.waiting)
          (record { text = t; is_there = nth_new texts t; is = number ∙ ap suc count; own = own });
      count = rw e (omega (arith, count, size));
    }

-- ---- what is put out changes no number

one_puts : (texts : List Text) (phone : ℕ) (s : Sender) (n : ℕ) (again : Bool) (t : Option Text) → IsCounted texts phone s → IsCounted texts phone (puts_text phone s n again t).sender
unfolding puts_text
one_puts texts phone s n again None h = h
one_puts texts phone s n again (Some t) h = record { ended = h.ended; waiting = h.waiting; count = h.count }

first_puts : (texts : List Text) (phone : ℕ) (s : Sender) (again : Bool) (queue : List ℕ) → IsCounted texts phone s → IsCounted texts phone (puts_first texts phone s again queue).sender
unfolding puts_first
first_puts texts phone s again [] h = h
first_puts texts phone s again (n ∷ later) h = one_puts texts phone s n again (nth texts n) h

put : (texts : List Text) (phone : ℕ) (s : Sender) (again : Bool) → IsCounted texts phone s → IsCounted texts phone (puts texts phone s again).sender
unfolding puts
put texts phone s again h = first_puts texts phone s again s.pending h

-- the first text has ended
ended_one : (texts : List Text) (phone : ℕ) (s : Sender) (n : ℕ) (later : List ℕ) (good : Bool) → s.pending ≡ n ∷ later → IsCounted texts phone s → IsCounted texts phone (ends s n later good)
unfolding ends
ended_one texts phone s n later good is h =
    let waiting = subst (λ (q : List ℕ). AreWaiting texts phone (length s.ended) q) is h.waiting in
    let size : length s.pending ≡ suc (length later) = ap length is in
    let count = h.count in
    record { ended = (waiting.0, h.ended); waiting = waiting.1; count = omega (arith, count, size) }

one_more : (texts : List Text) (phone : ℕ) (s : Sender) → IsCounted texts phone s → IsCounted texts phone (advanced s)
unfolding advanced
one_more texts phone s h = record { ended = h.ended; waiting = h.waiting; count = h.count }

-- ---- every call

with_one : (x : SenderState) (phone : ℕ) (s : Sender) → AreCounted x → IsCounted x.texts phone s → AreCounted (with_sender x phone s)
unfolding with_sender
with_one x phone s h k other = go (other == phone) refl
  where
    go : (b : Bool) → (other == phone) ≡ b → IsCounted x.texts other (cond b s (x.sender other))
    go true e = let same : other ≡ phone = grind (arith, nat_tests) in subst (λ i. IsCounted x.texts i s) (sym same) k
    go false e = h other

done : (x : SenderState) (phone : ℕ) (word : Outcome) (first : List Sent) (p : Puts) → AreCounted x → IsCounted x.texts phone p.sender → AreCounted (does x phone word first p).after
unfolding does
done x phone word first p h k = with_one x phone p.sender h k

dropped : (x : SenderState) (why : Dropped) → AreCounted x → AreCounted (sender_drops x why).after
unfolding sender_drops
dropped x why h = h

whichever : (b : Bool) (d e : Sends SenderState) → AreCounted d.after → AreCounted e.after → AreCounted (cond b d e).after
whichever true d e h k = h
whichever false d e h k = k

either_puts : (texts : List Text) (phone : ℕ) (b : Bool) (p q : Puts) → IsCounted texts phone p.sender → IsCounted texts phone q.sender → IsCounted texts phone (cond b p q).sender
either_puts texts phone true p q h k = h
either_puts texts phone false p q h k = k

-- every phone but this one with one more text, and this one with the sender that it has then
typed_all : (x : SenderState) (phone : ℕ) (t : Text) (s : Sender) → t.phone ≡ phone → AreCounted x → IsCounted (t ∷ x.texts) phone s
    → AreCounted (with_sender (record { wide = x.wide; reject = x.reject; texts = t ∷ x.texts; sender = x.sender }) phone s)
unfolding with_sender
typed_all x phone t s own h k other = go (other == phone) refl
  where
    go : (b : Bool) → (other == phone) ≡ b → IsCounted (t ∷ x.texts) other (cond b s (x.sender other))
    go true e = let same : other ≡ phone = grind (arith, nat_tests) in subst (λ i. IsCounted (t ∷ x.texts) i s) (sym same) k
    go false e =
        let apart : t.phone ≢ other = λ same. let q : (other == phone) ≡ true = grind (arith, nat_tests) in let w : true ≡ false = sym q ∙ e in absurd cc in
        other_more x.texts t other (x.sender other) apart (h other)

types : (x : SenderState) (phone : ℕ) (t : Text) → t.phone ≡ phone → t.number ≡ suc (texts_of_phone x.texts phone) → AreCounted x → AreCounted (typed x phone t).after
unfolding typed does
types x phone t own number h =
    let more = own_more x.texts t phone (x.sender phone) own number (h phone) in
    typed_all x phone t _ own h
    (either_puts (t ∷ x.texts) phone (length (x.sender phone).pending == 0) _ _ (put (t ∷ x.texts) phone (appended (x.sender phone) (length x.texts)) x.reject more) more)

new_types : (x : SenderState) (phone : ℕ) (target : AddressValue) (characters : List ℕ) (pieces : List Units) → AreCounted x → AreCounted (typed x phone (new_text x.wide x.texts phone target characters pieces)).after
unfolding new_text
new_types x phone target characters pieces h = types x phone _ refl refl h

composed : (x : SenderState) (phone : ℕ) (target : AddressValue) (characters : List ℕ) (pieces : List Units) → AreCounted x → AreCounted (composes x phone target characters pieces).after
unfolding composes
composed x phone target characters pieces h =
    whichever (nat_le 1000 (length (x.sender phone).pending)) _ _ (dropped x _ h)
    (whichever (nat_lt 255 (length pieces)) _ _ (dropped x _ h) (new_types x phone target characters pieces h))

late_by : (x : SenderState) (phone : ℕ) (queue : List ℕ) → (x.sender phone).pending ≡ queue → AreCounted x → AreCounted (repeats x phone (x.sender phone) queue).after
unfolding repeats
late_by x phone [] is h = h
late_by x phone (n ∷ later) is h =
    whichever (nat_lt (x.sender phone).tries 4) _ _ (done x phone _ _ _ h (put x.texts phone (x.sender phone) true (h phone)))
    (done x phone _ _ _ h (put x.texts phone _ x.reject (ended_one x.texts phone (x.sender phone) n later false is (h phone))))

late : (x : SenderState) (phone : ℕ) → AreCounted x → AreCounted (times_out x phone).after
unfolding times_out
late x phone h = late_by x phone (x.sender phone).pending refl h

heard : (x : SenderState) (phone : ℕ) (tag : Tag) (n : ℕ) (later : List ℕ) (good more : Bool) (failed : Outcome) → (x.sender phone).pending ≡ n ∷ later → AreCounted x
    → AreCounted (hears x phone tag (x.sender phone) n later good more failed).after
unfolding hears
heard x phone tag n later true true failed is h = done x phone _ _ _ h (put x.texts phone _ x.reject (one_more x.texts phone (x.sender phone) (h phone)))
heard x phone tag n later true false failed is h = done x phone _ _ _ h (put x.texts phone _ x.reject (ended_one x.texts phone (x.sender phone) n later true is (h phone)))
heard x phone tag n later false true failed is h = done x phone _ _ _ h (put x.texts phone _ x.reject (ended_one x.texts phone (x.sender phone) n later false is (h phone)))
heard x phone tag n later false false failed is h = done x phone _ _ _ h (put x.texts phone _ x.reject (ended_one x.texts phone (x.sender phone) n later false is (h phone)))

matched : (x : SenderState) (phone : ℕ) (tag : Tag) (queue : List ℕ) (cause : Option ℕ) (report : Option Report) → (x.sender phone).pending ≡ queue → AreCounted x
    → AreCounted (matches x phone tag (x.sender phone) queue cause report).after
unfolding matches
matched x phone tag [] cause report is h = dropped x _ h
matched x phone tag (n ∷ later) cause report is h =
    whichever (same_tag tag (tag_of ((x.sender phone).outs - 1))) _ _ (heard x phone tag n later _ _ _ is h) (dropped x _ h)

received : (x : SenderState) (phone : ℕ) (tag : Tag) (relay : Relay) → AreCounted x → AreCounted (sender_receives x phone tag relay).after
unfolding sender_receives
received x phone tag (Answer ToPhone cause report) h = matched x phone tag (x.sender phone).pending cause report refl h
received x phone tag (Answer FromPhone cause report) h = dropped x _ h
received x phone tag (Transfer side unit) h = dropped x _ h
received x phone tag UnknownType h = dropped x _ h
received x phone tag Unreadable h = dropped x _ h

taken : (x : SenderState) (phone : ℕ) (message : Message) → AreCounted x → AreCounted (sender_takes x phone message).after
unfolding sender_takes
taken x phone NotCp h = dropped x _ h
taken x phone (Note flag value) h = h
taken x phone (Tiny flag value) h = dropped x _ h
taken x phone (Data true tag relay) h = received x phone tag relay h
taken x phone (Data false tag relay) h = dropped x _ h

one_call : (x : SenderState) (call : Call) → AreCounted x → AreCounted (called x call)
one_call x (Compose phone target characters pieces) h = composed x phone target characters pieces h
one_call x (TimeOut phone) h = late x phone h
one_call x (Take phone message) h = taken x phone message h

all_calls : (wide reject : Bool) (calls : List Call) → AreCounted (called_all wide reject calls)
unfolding new_sender
all_calls wide reject [] = λ phone. record { ended = tt; waiting = tt; count = refl }
all_calls wide reject (call ∷ past) = one_call (called_all wide reject past) call (all_calls wide reject past)

-- ---- the statuses

among : (before : List Status) (status : Status) (later : List Status) → status_among (before ++ status ∷ later) (suc (length before)) ≡ Some status
among [] status later = refl
among (s ∷ before) status later = among before status later

as_many : (ended : List (ℕ × Bool)) → length (statuses_of ended) ≡ length ended
as_many [] = refl
as_many (e ∷ past) = let size = length-append (statuses_of past) (status_if e.1 ∷ []) in let ih = as_many past in omega (arith, size, ih)

abbrev AreAmong : List Status → List Text → List (ℕ × Bool) → Type 0
AreAmong statuses texts [] = Unit {0}
AreAmong statuses texts (e ∷ past) = (status_among statuses (number_of (nth texts e.0)) ≡ Some (status_if e.1)) × AreAmong statuses texts past

are_among : (texts : List Text) (phone : ℕ) (ended : List (ℕ × Bool)) (later : List Status) → AreEnded texts phone ended → AreAmong (statuses_of ended ++ later) texts ended
are_among texts phone [] later h = tt
are_among texts phone (e ∷ past) later h =
    let split : (statuses_of past ++ status_if e.1 ∷ []) ++ later ≡ statuses_of past ++ status_if e.1 ∷ later = append_assoc (statuses_of past) (status_if e.1 ∷ []) later in
    let number : number_of (nth texts e.0) ≡ suc (length (statuses_of past)) = ap number_of h.0.is_there ∙ (h.0.is ∙ ap suc (sym (as_many past))) in (
      ap (λ (l : List Status). status_among l (number_of (nth texts e.0))) split
          ∙ (ap (status_among (statuses_of past ++ status_if e.1 ∷ later)) number ∙ among (statuses_of past) (status_if e.1) later),
      subst (λ (l : List Status). AreAmong l texts past) (sym split) (are_among texts phone past (status_if e.1 ∷ later) h.1),
    )

told_by : (x : SenderState) (phone : ℕ) (ended : List (ℕ × Bool)) → AreAmong (statuses_of (x.sender phone).ended ++ all_waiting (x.sender phone).pending) x.texts ended → AreTold x phone ended
told_by x phone [] h = tt
told_by x phone (e ∷ ended) h = (h.0, told_by x phone ended h.1)

pub ended_are_told : EndedAreTold
ended_are_told wide reject calls phone =
    let x = called_all wide reject calls in
    told_by x phone (x.sender phone).ended (are_among x.texts phone (x.sender phone).ended (all_waiting (x.sender phone).pending) (all_calls wide reject calls phone).ended)

-- ---- the texts that have ended

typed_so : (texts : List Text) (phone : ℕ) (ended : List (ℕ × Bool)) → AreEnded texts phone ended → AreTyped texts phone ended
typed_so texts phone [] h = tt
typed_so texts phone (e ∷ past) h = (record { text = h.0.text; typed = h.0.is_there; own = h.0.own; numbered = h.0.is }, typed_so texts phone past h.1)

pub ended_are_typed : EndedAreTyped
ended_are_typed wide reject calls phone =
    let x = called_all wide reject calls in
    typed_so x.texts phone (x.sender phone).ended (all_calls wide reject calls phone).ended
