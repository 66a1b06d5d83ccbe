-- What a sender puts out is told by its marks, and by how often it has put out.
use Rattle.std.proofs.Common.{◌≡◌, ◌≢◌, ℕ, zero, suc, ◌+◌, ◌-◌, ◌<◌, ◌≤◌, Bool, true, false, cond, eqb, leb, ltb, List, [], ◌∷◌, ◌++◌, map, length, Option, Some, None, Ok, Err, refl, sym, ap, ◌∙◌, subst, arith}
use Rattle.std.proofs.lemmas.Bool.{cond_both}
use Rattle.sms_field.specs.Address.Value.{AddressValue}
use Rattle.sms_join.specs.declared.units.Units.{Units}
use Rattle.sms_relay.specs.declared.side.Side.TheVariants.{FromPhone, ToPhone}
use Rattle.sms_message.specs.declared.message.Relay.{Relay}
use Rattle.sms_message.specs.declared.message.Relay.TheVariants.{Transfer, Answer, UnknownType, Unreadable}
use Rattle.sms_message.specs.declared.message.Report.{Report}
use Rattle.sms_message.specs.declared.message.Tag.{Tag}
use Rattle.sms_message.specs.declared.outcome.Outcome.{Outcome}
use Rattle.sms_message.specs.declared.outcome.Outcome.TheVariants as outcome
use Rattle.sms_message.specs.declared.outcome.Dropped.{Dropped}
use Rattle.sms_message.specs.Message.{tag_of, same_tag}
use Rattle.sms_party.specs.Sent.{nth, Sent, Sends, bare}
use Rattle.sms_party.specs.Sender.Texts.{Text, Sender, SenderState, new_text, size_of, number_of}
use Rattle.sms_party.specs.Sender.Segments.{submission_of}
use Rattle.sms_party.specs.Sender.Putting.{Puts, puts, puts_first, puts_text, sender_drops, does, with_sender}
use Rattle.sms_party.specs.Sender.Calls.{appended, composes, typed, ends, repeats, times_out}
use Rattle.sms_party.specs.Sender.Answers.{accepts, advanced, noted, matches, hears, sender_receives}
use Rattle.sms_world.specs.Told.{Told, of_party}
use Rattle.sms_world.specs.Ledger.{Mark, Submits, Delivers, Neither, mark_of}
use Rattle.sms_world.specs.Traces.{trace_of}
use Rattle.sms_world.specs.Traced.{bare_trace, called_traces, called_outs, numbers_after}
use Rattle.sms_world.proofs.Replaced.{changed_here}

-- it has put out once more at most for each mark
pub called_few : (outs : ℕ) (marks : List Mark) → called_outs outs marks ≤ outs + length marks
called_few outs [] = omega arith
called_few outs (Submits text segment reject ∷ marks) = let l = called_few (suc outs) marks in omega (arith, l)
called_few outs (Delivers phone text segment ∷ marks) = let l = called_few outs marks in omega (arith, l)
called_few outs (Neither ∷ marks) = let l = called_few outs marks in omega (arith, l)

-- the numbers of texts
abbrev pub numbers_of : List Text → List ℕ
numbers_of texts = map (λ (t : Text). t.number) texts

record PutsCounted (s : Sender) (p : Puts) : Type 0 where
  traces : map trace_of p.sent ≡ called_traces s.outs (map mark_of p.sent)
  outs : p.sender.outs ≡ called_outs s.outs (map mark_of p.sent)

puts_counted : (texts : List Text) (phone : ℕ) (s : Sender) (reject : Bool) → PutsCounted s (puts texts phone s reject)
unfolding puts puts_first submission_of
puts_counted texts phone s reject = go s.pending
  where
    text : (n : ℕ) (t : Option Text) → PutsCounted s (puts_text phone s n reject t)
    text n None = unfold puts_text in record { traces = refl; outs = refl }
    text n (Some t) = unfold puts_text in record { traces = refl; outs = refl }

    go : (ns : List ℕ) → PutsCounted s (puts_first texts phone s reject ns)
    go [] = record { traces = refl; outs = refl }
    go (n ∷ later) = text n (nth texts n)

-- what a call puts out, and how often the sender has put out then
pub record Counted (x : SenderState) (phone : ℕ) (d : Sends SenderState) : Type 0 where
  pub traces : map trace_of d.put ≡ called_traces (x.sender phone).outs (map mark_of d.put)
  pub outs : (d.after.sender phone).outs ≡ called_outs (x.sender phone).outs (map mark_of d.put)
  pub numbers : numbers_of d.after.texts ≡ numbers_after (numbers_of x.texts) (of_party d.answer)

module _ (x : SenderState) (phone : ℕ) where
  drops_counted : (why : Dropped) → Counted x phone (sender_drops x why)
  unfolding sender_drops
  drops_counted why = record { traces = refl; outs = refl; numbers = refl }

  -- its segment alone
  does_alone : (word : Outcome) (s : Sender) (p : Puts) → s.outs ≡ (x.sender phone).outs → PutsCounted s p
      → numbers_of x.texts ≡ numbers_after (numbers_of x.texts) (Ok word) → Counted x phone (does x phone word [] p)
  unfolding does with_sender
  does_alone word s p e h n =
      record {
        traces = subst (λ k. map trace_of p.sent ≡ called_traces k (map mark_of p.sent)) e h.traces;
        outs = ap (λ (v : Sender). v.outs) (changed_here x.sender phone p.sender)
            ∙ subst (λ k. p.sender.outs ≡ called_outs k (map mark_of p.sent)) e h.outs;
        numbers = n;
      }

  -- after a CP-ACK
  does_after : (tag : Tag) (word : Outcome) (s : Sender) (p : Puts) → s.outs ≡ (x.sender phone).outs → PutsCounted s p
      → numbers_of x.texts ≡ numbers_after (numbers_of x.texts) (Ok word) → Counted x phone (does x phone word (noted phone tag) p)
  unfolding does with_sender bare
  does_after tag word s p e h n =
      record {
        traces = ap (λ l. bare_trace None ∷ l) (subst (λ k. map trace_of p.sent ≡ called_traces k (map mark_of p.sent)) e h.traces);
        outs = ap (λ (v : Sender). v.outs) (changed_here x.sender phone p.sender)
            ∙ subst (λ k. p.sender.outs ≡ called_outs k (map mark_of p.sent)) e h.outs;
        numbers = n;
      }

  ended_counted : (n : ℕ) (later : List ℕ) (good : Bool) → PutsCounted (ends (x.sender phone) n later good) (puts x.texts phone (ends (x.sender phone) n later good) x.reject)
  ended_counted n later good = puts_counted x.texts phone (ends (x.sender phone) n later good) x.reject

  ends_as_often : (n : ℕ) (later : List ℕ) (good : Bool) → (ends (x.sender phone) n later good).outs ≡ (x.sender phone).outs
  unfolding ends
  ends_as_often n later good = refl

  advanced_as_often : (advanced (x.sender phone)).outs ≡ (x.sender phone).outs
  unfolding advanced
  advanced_as_often = refl

  repeats_counted : (ns : List ℕ) → Counted x phone (repeats x phone (x.sender phone) ns)
  unfolding repeats
  repeats_counted [] = record { traces = refl; outs = refl; numbers = refl }
  repeats_counted (n ∷ later) =
      cond_both (ltb (x.sender phone).tries 4) _ _ (Counted x phone)
      (λ _. does_alone (outcome.Repeated (number_of (nth x.texts n))) (x.sender phone) _ refl (puts_counted x.texts phone (x.sender phone) true) refl)
      (λ _. does_alone (outcome.GaveUp (number_of (nth x.texts n))) (ends (x.sender phone) n later false) _ (ends_as_often n later false) (ended_counted n later false) refl)

  pub late_counted : Counted x phone (times_out x phone)
  unfolding times_out
  late_counted = repeats_counted (x.sender phone).pending

  hears_counted : (tag : Tag) (n : ℕ) (later : List ℕ) (good more : Bool) (text cause : ℕ) (failure : Option ℕ)
      → Counted x phone (hears x phone tag (x.sender phone) n later good more (outcome.Failed text cause failure))
  unfolding hears
  hears_counted tag n later true true text cause failure =
      does_after tag (outcome.Segment (number_of (nth x.texts n)) (suc (x.sender phone).accepted)) (advanced (x.sender phone)) _ advanced_as_often
      (puts_counted x.texts phone (advanced (x.sender phone)) x.reject) refl
  hears_counted tag n later true false text cause failure =
      does_after tag (outcome.Accepted (number_of (nth x.texts n))) (ends (x.sender phone) n later true) _ (ends_as_often n later true) (ended_counted n later true) refl
  hears_counted tag n later false more text cause failure =
      does_after tag (outcome.Failed text cause failure) (ends (x.sender phone) n later false) _ (ends_as_often n later false) (ended_counted n later false) refl

  matches_counted : (tag : Tag) (ns : List ℕ) (cause : Option ℕ) (report : Option Report) → Counted x phone (matches x phone tag (x.sender phone) ns cause report)
  unfolding matches
  matches_counted tag [] cause report = drops_counted _
  matches_counted tag (n ∷ later) cause report =
      cond_both (same_tag tag (tag_of ((x.sender phone).outs - 1))) _ _ (Counted x phone)
      (λ _. hears_counted tag n later (accepts cause report) (ltb (suc (x.sender phone).accepted) (size_of (nth x.texts n))) _ _ _) (λ _. drops_counted _)

  pub answers_counted : (tag : Tag) (v : Relay) → Counted x phone (sender_receives x phone tag v)
  unfolding sender_receives
  answers_counted tag (Answer ToPhone cause report) = matches_counted tag (x.sender phone).pending cause report
  answers_counted tag (Answer FromPhone cause report) = drops_counted _
  answers_counted tag (Transfer side unit) = drops_counted _
  answers_counted tag UnknownType = drops_counted _
  answers_counted tag Unreadable = drops_counted _

  typed_counted : (t : Text) → Counted x phone (typed x phone t)
  unfolding typed appended does with_sender
  typed_counted t =
      cond_both (eqb (length (x.sender phone).pending) 0) _ _
      (λ (p : Puts). Counted x phone (does (record { wide = x.wide; reject = x.reject; texts = t ∷ x.texts; sender = x.sender }) phone (outcome.Typed t.number) [] p))
      (λ _. let c = puts_counted (t ∷ x.texts) phone (appended (x.sender phone) (length x.texts)) x.reject in given (puts (t ∷ x.texts) phone (appended (x.sender phone) (length x.texts)) x.reject) c.traces c.outs)
      (λ _. given (record { sent = []; sender = appended (x.sender phone) (length x.texts) }) refl refl)
    where
      given : (p : Puts) → map trace_of p.sent ≡ called_traces (x.sender phone).outs (map mark_of p.sent) → p.sender.outs ≡ called_outs (x.sender phone).outs (map mark_of p.sent)
          → Counted x phone (does (record { wide = x.wide; reject = x.reject; texts = t ∷ x.texts; sender = x.sender }) phone (outcome.Typed t.number) [] p)
      given p e o = record { traces = e; outs = ap (λ (v : Sender). v.outs) (changed_here x.sender phone p.sender) ∙ o; numbers = refl }

  pub composes_counted : (target : AddressValue) (characters : List ℕ) (pieces : List Units) → Counted x phone (composes x phone target characters pieces)
  unfolding composes
  composes_counted target characters pieces =
      cond_both (leb 1000 (length (x.sender phone).pending)) _ _ (Counted x phone) (λ _. drops_counted _)
      (λ _. cond_both (ltb 255 (length pieces)) _ _ (Counted x phone) (λ _. drops_counted _) (λ _. typed_counted (new_text x.wide x.texts phone target characters pieces)))
