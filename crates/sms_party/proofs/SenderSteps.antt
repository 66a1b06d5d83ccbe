-- What the code of a sender does is what a sender does.
use Rattle.std.proofs.Common.{◌≡◌, ◌≢◌, ℕ, suc, ◌+◌, ◌-◌, ◌<◌, ◌≤◌, ◌==◌, Bool, true, false, nat_lt, List, [], ◌∷◌, ◌++◌, length, map, drop, get_or, Option, unwrap_or, Result, Ok, Err, refl, sym, ap, ◌∙◌, subst, arith}
use Rattle.std.specs.Prelude.{nat_le}
use Rattle.std.specs.Result.{IsErrAnd}
use Rattle.std.specs.List.{slice_get}
use Rattle.std.proofs.lemmas.Bool.Decides.{nat_tests}
use Rattle.sms_field.specs.Address.Value.{AddressValue}
use Rattle.std.specs.List.{concat, flat_map}
use Rattle.sms_tpdu.specs.declared.user_data.concat.Width.{Width}
use Rattle.sms_join.specs.UnitsOfText.{Alphabet, Default, Wide, alphabet_of, units_of_character, units_of_text, units_in, numbers}
use Rattle.sms_join.specs.Cut.{room_alone, IsCut}
use Rattle.sms_join.specs.declared.cut.SplitFault.{SplitFault}
use Rattle.sms_join.specs.declared.cut.SplitFault.TheVariants as split
use Rattle.sms_join.specs.declared.segment.Segment.{Segment}
use Rattle.sms_join.specs.declared.units.Units.{Units}
use Rattle.sms_join.specs.Segments.{AreNumbered}
use Rattle.sms_message.specs.declared.message.Message.{Message}
use Rattle.sms_message.specs.declared.message.Message.TheVariants.{Note}
use Rattle.sms_message.specs.declared.message.Report.{Report}
use Rattle.sms_message.specs.declared.message.Tag.{Tag}
use Rattle.sms_message.specs.declared.outcome.Outcome.{Outcome}
use Rattle.sms_message.specs.declared.outcome.Outcome.TheVariants as outcome
use Rattle.sms_message.specs.declared.outcome.Step.{Step}
use Rattle.sms_message.specs.declared.outcome.Dropped.{Dropped}
use Rattle.sms_message.specs.declared.outcome.Dropped.TheVariants.{NotCp, Unmatched, Busy, Memory, TooManySegments}
use Rattle.sms_party.specs.declared.sender.Status.TheVariants.{Accepted, Failed}
use Rattle.sms_party.specs.declared.sender.Status.{Status}
use Rattle.sms_message.specs.Inside.Splitting.{dropped_of}
use Rattle.sms_message.specs.Message.{tag_of, same_tag}
use Rattle.sms_message.specs.Does.{Does, CarriesEach, packets_of, Answered}
use Rattle.sms_message.specs.Changed.{changed}
use Rattle.sms_party.specs.Sent.{nth, Sent, Sends, bare, messages_of}
use Rattle.sms_party.specs.Sender.Texts.{Text, Sender, SenderState, new_sender, new_senders, width_of, new_text, number_of, size_of}
use Rattle.sms_party.specs.Sender.Putting.{Puts, puts, with_sender, sender_drops, does}
use Rattle.sms_party.specs.Sender.Calls.{appended, typed, composes, ends, repeats, times_out}
use Rattle.sms_party.specs.Sender.Answers.{failure_of, accepts, advanced, noted, hears, matches}
use Rattle.sms_party.specs.Sender.Value.{TextValue, SenderValue}
use Rattle.sms_party.specs.Inside.Sender.{Did, text_put, counted, puts_out, text_in, entered, number_in, enters, ended_with, repeated, waits_no_more, stepped, settles, hears_at}
use Rattle.sms_party.specs.Sender.Stands.{TextIs, ArePending, status_if, Keeps, HasTries, SenderStands, in_messages, Steps, Types}
use Rattle.sms_party.proofs.Waiting.{pending_count, IsPut, AreReady, put_stands, ready_anew, both_pending, ended_keeps, stepped_keeps, entered_keeps, as_many}

-- ---- from the value to the state

-- what a value does and what a state does are the same
pub record IsSame (phone : ℕ) (d : Does SenderValue) (e : Sends SenderState) : Type 0 where
  pub answer : d.answer ≡ e.answer
  pub put : d.put ≡ messages_of e.put
  pub stands : SenderStands phone d.after e.after

pub carried_over : (phone : ℕ) (x : SenderState) (old new : SenderValue) (d : Does SenderValue) (e : Sends SenderState) (r : Result Step Dropped)
    → SenderStands phone old x → IsSame phone d e → Did d old r new → Answered (SenderStands phone new) x (in_messages e) r
carried_over phone x old new d e (Ok step) s h did =
    (sym h.answer ∙ did.0, subst (λ (ms : List Message). CarriesEach (packets_of step) ms) h.put did.1, subst (λ (w : SenderValue). SenderStands phone w e.after) (sym did.2) h.stands)
carried_over phone x old new d e (Err Memory) s h did = let same : new ≡ old = did in subst (λ (w : SenderValue). SenderStands phone w x) (sym same) s
carried_over phone x old new d e (Err NotCp) s h did = (sym h.answer ∙ did.0, subst (λ (w : SenderValue). SenderStands phone w e.after) (sym did.1) h.stands)
carried_over phone x old new d e (Err Unmatched) s h did = (sym h.answer ∙ did.0, subst (λ (w : SenderValue). SenderStands phone w e.after) (sym did.1) h.stands)
carried_over phone x old new d e (Err Busy) s h did = (sym h.answer ∙ did.0, subst (λ (w : SenderValue). SenderStands phone w e.after) (sym did.1) h.stands)
carried_over phone x old new d e (Err TooManySegments) s h did = (sym h.answer ∙ did.0, subst (λ (w : SenderValue). SenderStands phone w e.after) (sym did.1) h.stands)

changed_here : {X : Type 0} (f : ℕ → X) (n : ℕ) (x : X) → changed f n x n ≡ x
changed_here f n x = let e : (n == n) ≡ true = grind (arith, nat_tests) in rw e refl

messages_after : (xs ys : List Sent) → messages_of (xs ++ ys) ≡ messages_of xs ++ messages_of ys
messages_after [] ys = refl
messages_after (x ∷ xs) ys = ap (λ (ms : List Message). x.message ∷ ms) (messages_after xs ys)

-- something is put out
put_same : (phone : ℕ) (x : SenderState) (v : SenderValue) (word said : Outcome) (first : List Message) (before : List Sent) (again : Bool) (p : Puts)
    → word ≡ said → first ≡ messages_of before
    → IsPut phone x.wide x.reject x.texts v p (text_put v.next again v.accepted (slice_get v.pending 0))
    → IsSame phone (puts_out v again word first) (does x phone said before p)
unfolding does with_sender
put_same phone x v word said first before again p w f h = record {
  answer = ap Ok w;
  put = ap (λ (ms : List Message). ms ++ text_put v.next again v.accepted (slice_get v.pending 0)) f
      ∙ (ap (λ (ms : List Message). messages_of before ++ ms) (sym h.same) ∙ sym (messages_after before p.sent));
  stands = let here = sym (changed_here x.sender phone p.sender) in record {
    keeps = subst (λ (s : Sender). Keeps phone x.wide x.reject x.texts (counted v (text_put v.next again v.accepted (slice_get v.pending 0))) s) here h.keeps;
    tries_are = subst (λ (s : Sender). HasTries s.pending (counted v (text_put v.next again v.accepted (slice_get v.pending 0))).repeats s.tries) here h.tries;
  };
}

-- the number of the first text
number_same : (phone ended : ℕ) (texts : List Text) (t : TextValue) (n : ℕ) → TextIs phone (suc ended) texts t n → ended + 1 ≡ number_of (nth texts n)
number_same phone ended texts t n h =
    let e : ended + 1 ≡ h.text.number = omega (arith, h.number_is) in
    subst (λ (o : Option Text). ended + 1 ≡ number_of o) (sym h.is_there) e

size_same : (phone number : ℕ) (texts : List Text) (t : TextValue) (n : ℕ) → TextIs phone number texts t n → length t.segments ≡ size_of (nth texts n)
size_same phone number texts t n h =
    subst (λ (o : Option Text). length t.segments ≡ size_of o) (sym h.is_there) (as_many t.segments h.text.pieces h.segments_are.units)

module _ (phone : ℕ) (x : SenderState) (v : SenderValue) (s : SenderStands phone v x) where
  nothing_same : (d : Does SenderValue) (e : Sends SenderState) → d.answer ≡ e.answer → d.put ≡ messages_of e.put → d.after ≡ v → e.after ≡ x → IsSame phone d e
  nothing_same d e a p after state = record {
    answer = a;
    put = p;
    stands = subst (λ (y : SenderState). SenderStands phone d.after y) (sym state) (subst (λ (w : SenderValue). SenderStands phone w x) (sym after) s);
  }

  -- ---- an answer does not come in time

  module _ (t : TextValue) (ts : List TextValue) (n : ℕ) (ns : List ℕ) (p : v.pending ≡ t ∷ ts) (q : (x.sender phone).pending ≡ n ∷ ns) where
    first_is : TextIs phone (suc (length v.ended)) x.texts t n
    first_is = (both_pending phone x.wide x.reject x.texts v (x.sender phone) s.keeps t ts n ns p q).0

    number_is : length v.ended + 1 ≡ number_of (nth x.texts n)
    number_is = number_same phone (length v.ended) x.texts t n first_is

    tries_is : (x.sender phone).tries ≡ suc v.repeats
    tries_is = subst (λ (l : List ℕ). HasTries l v.repeats (x.sender phone).tries) q s.tries_are

    -- the first text ends
    end_same : (good : Bool) (word said : Outcome) (first : List Message) (before : List Sent) → word ≡ said → first ≡ messages_of before
        → IsSame phone (puts_out (ended_with v ts (status_if good)) v.reject word first) (does x phone said before (puts x.texts phone (ends (x.sender phone) n ns good) x.reject))
    unfolding ends
    end_same good word said first before w f =
        let k = ended_keeps phone x.wide x.reject x.texts v (x.sender phone) s.keeps t ts n ns p q good in
        subst (λ (b : Bool). IsSame phone (puts_out (ended_with v ts (status_if good)) b word first) (does x phone said before (puts x.texts phone (ends (x.sender phone) n ns good) x.reject))) (sym s.keeps.reject_is)
        (put_same phone x (ended_with v ts (status_if good)) word said first before x.reject _ w f
        (put_stands phone x.wide x.reject x.texts (ended_with v ts (status_if good)) (ends (x.sender phone) n ns good) k x.reject (ready_anew ns)))

    again_keeps : Keeps phone x.wide x.reject x.texts (repeated v) (x.sender phone)
    again_keeps = let k = s.keeps in record {
      width_is = k.width_is;
      reject_is = k.reject_is;
      pending_are = k.pending_are;
      accepted_is = k.accepted_is;
      is_unaccepted = k.is_unaccepted;
      ended_are = k.ended_are;
      count = k.count;
      message_reference_is = k.message_reference_is;
      set_reference_is = k.set_reference_is;
      next_is = k.next_is;
      latest_is = k.latest_is;
    }

    again_same : IsSame phone (puts_out (repeated v) true (outcome.Repeated (length v.ended + 1)) []) (does x phone (outcome.Repeated (number_of (nth x.texts n))) [] (puts x.texts phone (x.sender phone) true))
    again_same = put_same phone x (repeated v) _ _ [] [] true _ (ap outcome.Repeated number_is) refl
        (put_stands phone x.wide x.reject x.texts (repeated v) (x.sender phone) again_keeps true
        (subst (λ (l : List ℕ). AreReady l (v.repeats + 1) (x.sender phone).tries) (sym q) (omega (arith, tries_is))))

    late_same : (b : Bool) → nat_lt v.repeats 3 ≡ b → IsSame phone (waits_no_more v (t ∷ ts)) (repeats x phone (x.sender phone) (n ∷ ns))
    unfolding repeats
    late_same true e =
        let f : nat_lt (x.sender phone).tries 4 ≡ true = rw tries_is (grind (arith, nat_tests)) in
        rw (e, f) again_same
    late_same false e =
        let f : nat_lt (x.sender phone).tries 4 ≡ false = rw tries_is (grind (arith, nat_tests)) in
        rw (e, f) (end_same false _ _ [] [] (ap outcome.GaveUp number_is) refl)

  late_by : (p : List TextValue) (q : List ℕ) → v.pending ≡ p → (x.sender phone).pending ≡ q → IsSame phone (waits_no_more v p) (repeats x phone (x.sender phone) q)
  unfolding repeats
  late_by [] [] p q = nothing_same _ _ refl refl refl refl
  late_by [] (n ∷ ns) p q = absurd (subst (λ (l : List ℕ). ArePending phone (length v.ended) x.texts [] l) q (subst (λ (l : List TextValue). ArePending phone (length v.ended) x.texts l (x.sender phone).pending) p s.keeps.pending_are))
  late_by (t ∷ ts) [] p q = absurd (subst (λ (l : List ℕ). ArePending phone (length v.ended) x.texts (t ∷ ts) l) q (subst (λ (l : List TextValue). ArePending phone (length v.ended) x.texts l (x.sender phone).pending) p s.keeps.pending_are))
  late_by (t ∷ ts) (n ∷ ns) p q = late_same t ts n ns p q (nat_lt v.repeats 3) refl

  pub late : IsSame phone (waits_no_more v v.pending) (times_out x phone)
  unfolding times_out
  late = late_by v.pending (x.sender phone).pending refl refl

-- ---- which of its ways a value goes

module _ (P : Does SenderValue → Type 0) (v : SenderValue) where
  pub late_none : (p : List TextValue) → length p ≡ 0 → P (record { answer = Ok outcome.Idle; put = []; after = v }) → P (waits_no_more v p)
  late_none [] e h = h
  late_none (t ∷ ts) e h = absurd (omega arith)

  pub late_again : (p : List TextValue) → length p ≢ 0 → v.repeats < 3 → P (puts_out (repeated v) true (outcome.Repeated (length v.ended + 1)) []) → P (waits_no_more v p)
  late_again [] e f h = absurd (e refl)
  late_again (t ∷ ts) e f h = let g : nat_lt v.repeats 3 ≡ true = grind (arith, nat_tests) in rw g h

  pub late_end : (p : List TextValue) → length p ≢ 0 → 3 ≤ v.repeats → P (puts_out (ended_with v (drop 1 p) Failed) v.reject (outcome.GaveUp (length v.ended + 1)) []) → P (waits_no_more v p)
  late_end [] e f h = absurd (e refl)
  late_end (t ∷ ts) e f h = let g : nat_lt v.repeats 3 ≡ false = grind (arith, nat_tests) in rw g h

-- ---- a text is typed

module _ (phone : ℕ) (x : SenderState) (v : SenderValue) (s : SenderStands phone v x) (target : AddressValue) (characters : List ℕ) (pieces : List Units) (segments : List Segment) (numbered : AreNumbered pieces segments) (some : 0 < length pieces) where
  typed_keeps : Keeps phone x.wide x.reject (new_text x.wide x.texts phone target characters pieces ∷ x.texts) (entered v (text_in v target segments)) (appended (x.sender phone) (length x.texts))
  typed_keeps = entered_keeps phone x.wide x.reject x.texts v (x.sender phone) s.keeps target characters pieces segments numbered some

  typed_number : number_in v ≡ (new_text x.wide x.texts phone target characters pieces).number
  unfolding new_text
  typed_number = omega (arith, s.keeps.count)

  more_state : SenderState
  more_state = record { wide = x.wide; reject = x.reject; texts = new_text x.wide x.texts phone target characters pieces ∷ x.texts; sender = x.sender }

  first_same : (x.sender phone).pending ≡ [] → IsSame phone (puts_out (entered v (text_in v target segments)) v.reject (outcome.Typed (number_in v)) [])
      (does more_state phone (outcome.Typed (new_text x.wide x.texts phone target characters pieces).number) [] (puts more_state.texts phone (appended (x.sender phone) (length x.texts)) x.reject))
  unfolding more_state appended
  first_same none =
      let ready = subst (λ (l : List ℕ). HasTries l v.repeats (x.sender phone).tries) none s.tries_are in
      subst (λ (b : Bool). IsSame phone (puts_out (entered v (text_in v target segments)) b (outcome.Typed (number_in v)) [])
      (does more_state phone (outcome.Typed (new_text x.wide x.texts phone target characters pieces).number) [] (puts more_state.texts phone (appended (x.sender phone) (length x.texts)) x.reject))) (sym s.keeps.reject_is)
      (put_same phone more_state (entered v (text_in v target segments)) _ _ [] [] x.reject _ (ap outcome.Typed typed_number) refl
      (put_stands phone x.wide x.reject more_state.texts (entered v (text_in v target segments)) (appended (x.sender phone) (length x.texts)) typed_keeps x.reject
      (subst (λ (l : List ℕ). AreReady (l ++ length x.texts ∷ []) v.repeats (x.sender phone).tries) (sym none) (ready.1 ∙ sym ready.0))))

  later_same : (n : ℕ) (ns : List ℕ) → (x.sender phone).pending ≡ n ∷ ns → IsSame phone (record { answer = Ok (outcome.Typed (number_in v)); put = []; after = entered v (text_in v target segments) })
      (does more_state phone (outcome.Typed (new_text x.wide x.texts phone target characters pieces).number) [] (record { sent = []; sender = appended (x.sender phone) (length x.texts) }))
  unfolding more_state appended does with_sender
  later_same n ns more =
      let here = sym (changed_here x.sender phone (appended (x.sender phone) (length x.texts))) in
      let tries = subst (λ (l : List ℕ). HasTries l v.repeats (x.sender phone).tries) more s.tries_are in
      record {
        answer = ap (λ k. Ok (outcome.Typed k)) typed_number;
        put = refl;
        stands = record {
          keeps = subst (λ (u : Sender). Keeps phone x.wide x.reject more_state.texts (entered v (text_in v target segments)) u) here typed_keeps;
          tries_are = subst (λ (u : Sender). HasTries u.pending v.repeats u.tries) here (subst (λ (l : List ℕ). HasTries (l ++ length x.texts ∷ []) v.repeats (x.sender phone).tries) (sym more) tries);
        };
      }

  shaped : Option TextValue → Does SenderValue
  shaped o = record { answer = Ok (outcome.Typed (number_in v)); put = text_put v.next v.reject v.accepted o; after = counted (entered v (text_in v target segments)) (text_put v.next v.reject v.accepted o) }

  typed_by : (p : List TextValue) (q : List ℕ) → v.pending ≡ p → (x.sender phone).pending ≡ q → ArePending phone (length v.ended) x.texts p q
      → IsSame phone (enters v (text_in v target segments)) (typed x phone (new_text x.wide x.texts phone target characters pieces))
  unfolding typed more_state shaped
  typed_by [] [] p q a =
      let e : (length v.pending == 0) ≡ true = rw p refl in
      let f : (length (x.sender phone).pending == 0) ≡ true = rw q refl in
      rw (e, f) (subst (λ (d : Does SenderValue). IsSame phone d (does more_state phone (outcome.Typed (new_text x.wide x.texts phone target characters pieces).number) [] (puts more_state.texts phone (appended (x.sender phone) (length x.texts)) x.reject)))
      (ap (λ (o : Option TextValue). shaped o) (ap (λ (l : List TextValue). slice_get (l ++ text_in v target segments ∷ []) 0) p))
      (first_same q))
  typed_by [] (n ∷ ns) p q a = absurd a
  typed_by (t ∷ ts) [] p q a = absurd a
  typed_by (t ∷ ts) (n ∷ ns) p q a =
      let e : (length v.pending == 0) ≡ false = rw p (grind (arith, nat_tests)) in
      let f : (length (x.sender phone).pending == 0) ≡ false = rw q (grind (arith, nat_tests)) in
      rw (e, f) (later_same n ns q)

  typed_same : IsSame phone (enters v (text_in v target segments)) (typed x phone (new_text x.wide x.texts phone target characters pieces))
  typed_same = typed_by v.pending (x.sender phone).pending refl refl s.keeps.pending_are

  pub composed : length v.pending < 1000 → length pieces ≤ 255 → IsSame phone (enters v (text_in v target segments)) (composes x phone target characters pieces)
  unfolding composes
  composed few short =
      let size : length (x.sender phone).pending ≡ length v.pending = sym (pending_count phone (length v.ended) x.texts v.pending (x.sender phone).pending s.keeps.pending_are) in
      let e : nat_le 1000 (length (x.sender phone).pending) ≡ false = grind (arith, nat_tests) in
      let f : nat_lt 255 (length pieces) ≡ false = grind (arith, nat_tests) in
      rw (e, f) typed_same

-- ---- an answer comes

pub nothing_comes : (phone : ℕ) (x : SenderState) (v : SenderValue) → SenderStands phone v x → Answered (SenderStands phone v) x (in_messages (sender_drops x Unmatched)) (Err Unmatched)
unfolding sender_drops
nothing_comes phone x v s = (refl, s)

module _ (phone : ℕ) (x : SenderState) (v : SenderValue) (s : SenderStands phone v x) (tag : Tag) (cause : Option ℕ) (report : Option Report) where
  module _ (t : TextValue) (ts : List TextValue) (n : ℕ) (ns : List ℕ) (p : v.pending ≡ t ∷ ts) (q : (x.sender phone).pending ≡ n ∷ ns) where
    failed_same : ◌≡◌ {A = Outcome} (outcome.Failed (length v.ended + 1) (unwrap_or cause 0) (failure_of report)) (outcome.Failed (number_of (nth x.texts n)) (unwrap_or cause 0) (failure_of report))
    failed_same = ap (λ k. outcome.Failed k (unwrap_or cause 0) (failure_of report)) (number_is phone x v s t ts n ns p q)

    settled_same : (good more : Bool) → (more ≡ true → suc (x.sender phone).accepted < size_of (nth x.texts n))
        → IsSame phone (settles v ts good more (outcome.Failed (length v.ended + 1) (unwrap_or cause 0) (failure_of report)) (Note false tag.value ∷ []))
        (hears x phone tag (x.sender phone) n ns good more (outcome.Failed (number_of (nth x.texts n)) (unwrap_or cause 0) (failure_of report)))
    unfolding hears bare advanced
    settled_same true true more =
        let k = stepped_keeps phone x.wide x.reject x.texts v (x.sender phone) s.keeps t ts n ns p q (more refl) in
        let a = number_is phone x v s t ts n ns p q in
        let b : v.accepted + 1 ≡ suc (x.sender phone).accepted = omega (arith, s.keeps.accepted_is) in
        subst (λ (r : Bool). IsSame phone (puts_out (stepped v) r (outcome.Segment (length v.ended + 1) (v.accepted + 1)) (Note false tag.value ∷ []))
        (does x phone (outcome.Segment (number_of (nth x.texts n)) (suc (x.sender phone).accepted)) (noted phone tag) (puts x.texts phone (advanced (x.sender phone)) x.reject))) (sym s.keeps.reject_is)
        (put_same phone x (stepped v) _ _ _ (noted phone tag) x.reject _ (ap (λ k. outcome.Segment k (v.accepted + 1)) a ∙ ap (λ k. outcome.Segment (number_of (nth x.texts n)) k) b) refl
        (put_stands phone x.wide x.reject x.texts (stepped v) (advanced (x.sender phone)) k x.reject (ready_anew (x.sender phone).pending)))
    settled_same true false more = end_same phone x v s t ts n ns p q true _ _ (Note false tag.value ∷ []) (noted phone tag) (ap outcome.Accepted (number_is phone x v s t ts n ns p q)) refl
    settled_same false true more = end_same phone x v s t ts n ns p q false _ _ (Note false tag.value ∷ []) (noted phone tag) failed_same refl
    settled_same false false more = end_same phone x v s t ts n ns p q false _ _ (Note false tag.value ∷ []) (noted phone tag) failed_same refl

    more_same : nat_lt (v.accepted + 1) (length t.segments) ≡ nat_lt (suc (x.sender phone).accepted) (size_of (nth x.texts n))
    more_same =
        let a : v.accepted + 1 ≡ suc (x.sender phone).accepted = omega (arith, s.keeps.accepted_is) in
        let b = size_same phone (suc (length v.ended)) x.texts t n (first_is phone x v s t ts n ns p q) in
        ap (λ k. nat_lt k (length t.segments)) a ∙ ap (λ k. nat_lt (suc (x.sender phone).accepted) k) b

    known_same : (b : Bool) → same_tag tag v.latest ≡ b → IsSame phone (hears_at v tag cause report (t ∷ ts)) (matches x phone tag (x.sender phone) (n ∷ ns) cause report)
    unfolding matches sender_drops
    known_same true e =
        let f : same_tag tag (tag_of ((x.sender phone).outs - 1)) ≡ true = ap (λ (l : Tag). same_tag tag l) (sym s.keeps.latest_is) ∙ e in
        rw (e, f) (subst (λ (b : Bool). IsSame phone (settles v ts (accepts cause report) b (outcome.Failed (length v.ended + 1) (unwrap_or cause 0) (failure_of report)) (Note false tag.value ∷ []))
        (hears x phone tag (x.sender phone) n ns (accepts cause report) (nat_lt (suc (x.sender phone).accepted) (size_of (nth x.texts n))) (outcome.Failed (number_of (nth x.texts n)) (unwrap_or cause 0) (failure_of report)))) (sym more_same)
        (settled_same (accepts cause report) (nat_lt (suc (x.sender phone).accepted) (size_of (nth x.texts n))) (λ h. grind (arith, nat_tests))))
    known_same false e =
        let f : same_tag tag (tag_of ((x.sender phone).outs - 1)) ≡ false = ap (λ (l : Tag). same_tag tag l) (sym s.keeps.latest_is) ∙ e in
        rw (e, f) (nothing_same phone x v s _ _ refl refl refl refl)

  heard_by : (p : List TextValue) (q : List ℕ) → v.pending ≡ p → (x.sender phone).pending ≡ q → ArePending phone (length v.ended) x.texts p q
      → IsSame phone (hears_at v tag cause report p) (matches x phone tag (x.sender phone) q cause report)
  unfolding matches sender_drops
  heard_by [] [] p q a = nothing_same phone x v s _ _ refl refl refl refl
  heard_by [] (n ∷ ns) p q a = absurd a
  heard_by (t ∷ ts) [] p q a = absurd a
  heard_by (t ∷ ts) (n ∷ ns) p q a = known_same t ts n ns p q (same_tag tag v.latest) refl

  pub heard : IsSame phone (hears_at v tag cause report v.pending) (matches x phone tag (x.sender phone) (x.sender phone).pending cause report)
  heard = heard_by v.pending (x.sender phone).pending refl refl s.keeps.pending_are

-- which of its ways a value goes
module _ (P : Does SenderValue → Type 0) (v : SenderValue) (tag : Tag) (cause : Option ℕ) (report : Option Report) (known : same_tag tag v.latest ≡ true) (first : TextValue) where
  pub heard_failed : (p : List TextValue) → length p ≢ 0 → accepts cause report ≡ false
      → P (puts_out (ended_with v (drop 1 p) Failed) v.reject (outcome.Failed (length v.ended + 1) (unwrap_or cause 0) (failure_of report)) (Note false tag.value ∷ [])) → P (hears_at v tag cause report p)
  heard_failed [] e f h = absurd (e refl)
  heard_failed (t ∷ ts) e f h = rw (known, f) h

  pub heard_more : (p : List TextValue) → length p ≢ 0 → first ≡ get_or p 0 first → accepts cause report ≡ true → v.accepted + 1 < length first.segments
      → P (puts_out (stepped v) v.reject (outcome.Segment (length v.ended + 1) (v.accepted + 1)) (Note false tag.value ∷ [])) → P (hears_at v tag cause report p)
  heard_more [] e i f g h = absurd (e refl)
  heard_more (t ∷ ts) e i f g h =
      let is : first ≡ t = i in
      let more : nat_lt (v.accepted + 1) (length t.segments) ≡ true = subst (λ (u : TextValue). nat_lt (v.accepted + 1) (length u.segments) ≡ true) is (grind (arith, nat_tests)) in
      rw (known, f, more) h

  pub heard_last : (p : List TextValue) → length p ≢ 0 → first ≡ get_or p 0 first → accepts cause report ≡ true → length first.segments ≤ v.accepted + 1
      → P (puts_out (ended_with v (drop 1 p) Accepted) v.reject (outcome.Accepted (length v.ended + 1)) (Note false tag.value ∷ [])) → P (hears_at v tag cause report p)
  heard_last [] e i f g h = absurd (e refl)
  heard_last (t ∷ ts) e i f g h =
      let is : first ≡ t = i in
      let more : nat_lt (v.accepted + 1) (length t.segments) ≡ false = subst (λ (u : TextValue). nat_lt (v.accepted + 1) (length u.segments) ≡ false) is (grind (arith, nat_tests)) in
      rw (known, f, more) h

-- ---- what a typed text is answered

pub busy : (phone : ℕ) (x : SenderState) (v : SenderValue) (target : AddressValue) (characters : List ℕ) (pieces : List Units) → SenderStands phone v x → 1000 ≤ length v.pending
    → Answered (SenderStands phone v) x (in_messages (composes x phone target characters pieces)) (Err Busy)
unfolding composes sender_drops
busy phone x v target characters pieces s many =
    let size = pending_count phone (length v.ended) x.texts v.pending (x.sender phone).pending s.keeps.pending_are in
    let e : nat_le 1000 (length (x.sender phone).pending) ≡ true = grind (arith, nat_tests) in
    rw e (refl, s)

pub too_long : (phone : ℕ) (x : SenderState) (v : SenderValue) (target : AddressValue) (characters : List ℕ) (pieces : List Units) → SenderStands phone v x → length v.pending < 1000 → 255 < length pieces
    → Answered (SenderStands phone v) x (in_messages (composes x phone target characters pieces)) (Err TooManySegments)
unfolding composes sender_drops
too_long phone x v target characters pieces s few long =
    let size = pending_count phone (length v.ended) x.texts v.pending (x.sender phone).pending s.keeps.pending_are in
    let e : nat_le 1000 (length (x.sender phone).pending) ≡ false = grind (arith, nat_tests) in
    let f : nat_lt 255 (length pieces) ≡ true = grind (arith, nat_tests) in
    rw (e, f) (refl, s)

-- the cut of a text has a piece
some_numbers : (a : Alphabet) (l : List ℕ) → numbers (units_in a l) ≡ l
some_numbers Default l = refl
some_numbers Wide l = refl

some_list : (a : Alphabet) (lists : List (List ℕ)) (units : List ℕ) (pieces : List Units) → pieces ≡ map (units_in a) lists → concat lists ≡ units → room_alone a < length units → 0 < length pieces
some_list a [] units pieces e f h = absurd (let g : length units ≡ 0 = sym (ap length f) in omega arith)
some_list a (l ∷ ls) units pieces e f h = let g : length pieces ≡ suc (length (map (units_in a) ls)) = ap length e in omega arith

some_piece_by : (width : Width) (text : List ℕ) (pieces : List Units) → IsCut width text pieces → (b : Bool) → nat_le (length (numbers (units_of_text text))) (room_alone (alphabet_of text)) ≡ b → 0 < length pieces
some_piece_by width text pieces cut true e = let f : pieces ≡ units_of_text text ∷ [] = cut.alone (grind (arith, nat_tests)) in let g : length pieces ≡ 1 = ap length f in omega arith
some_piece_by width text pieces cut false e =
    let long : room_alone (alphabet_of text) < length (numbers (units_of_text text)) = grind (arith, nat_tests) in
    let p = cut.parted long in
    some_list (alphabet_of text) p.lists _ pieces p.in_alphabet p.cut.joined
    (subst (λ (l : List ℕ). room_alone (alphabet_of text) < length l) (some_numbers (alphabet_of text) (flat_map (units_of_character (alphabet_of text)) text)) long)

some_piece : (width : Width) (text : List ℕ) (pieces : List Units) → IsCut width text pieces → 0 < length pieces
some_piece width text pieces cut = some_piece_by width text pieces cut (nat_le (length (numbers (units_of_text text))) (room_alone (alphabet_of text))) refl

module _ (old new : SenderValue) (target : AddressValue) (text : List ℕ) (pieces : List Units) (segments : List Segment) (cut : IsCut old.width text pieces) (numbered : AreNumbered pieces segments) (short : length segments ≤ 255) (few : length old.pending < 1000) where
  steps_so : (r : Result Step Dropped) → Did (enters old (text_in old target segments)) old r new → Steps (λ x phone. composes x phone target text pieces) old r new
  steps_so r did = λ phone x stands.
      carried_over phone x old new _ _ r stands
      (composed phone x old stands target text pieces segments numbered (some_piece old.width text pieces cut) few (let e = as_many segments pieces numbered.units in omega arith)) did

  pub types_so : (r : Result Step Dropped) → Did (enters old (text_in old target segments)) old r new → Types target text old r new
  types_so (Ok step) did = (pieces, cut, steps_so (Ok step) did)
  types_so (Err Memory) did = did
  types_so (Err Busy) did = absurd (let e = did.0 in cc)
  types_so (Err NotCp) did = (pieces, cut, steps_so (Err NotCp) did)
  types_so (Err Unmatched) did = (pieces, cut, steps_so (Err Unmatched) did)
  types_so (Err TooManySegments) did = (pieces, cut, steps_so (Err TooManySegments) did)

refused_by : (old : SenderValue) (target : AddressValue) (text : List ℕ) (fault : SplitFault)
    → (fault ≡ split.TooManySegments → (pieces : List Units) × IsCut old.width text pieces × (255 < length pieces)) → length old.pending < 1000 → Types target text old (Err (dropped_of fault)) old
refused_by old target text split.TooManySegments h few = let p = h refl in (p.0, p.1, λ phone x stands. too_long phone x old target text p.0 stands few p.2)
refused_by old target text split.Memory h few = refl

pub refused_so : (old : SenderValue) (target : AddressValue) (text : List ℕ) (fault : SplitFault) (r : Result Step Dropped)
    → (fault ≡ split.TooManySegments → (pieces : List Units) × IsCut old.width text pieces × (255 < length pieces)) → length old.pending < 1000 → r ≡ Err (dropped_of fault) → Types target text old r old
refused_so old target text fault r h few e = subst (λ (r : Result Step Dropped). Types target text old r old) (sym e) (refused_by old target text fault h few)

-- ---- a sender before any text

new_by : (phone : ℕ) (reject wide : Bool) → SenderStands phone (record { width = width_of wide; reject = reject; pending = []; accepted = 0; repeats = 0; ended = []; message_reference = 0; set_reference = 0; next = record { value = 0; reference = 0 }; latest = record { value = 0; reference = 0 } }) (new_senders wide reject)
unfolding new_sender
new_by phone reject true = record {
  keeps = record { width_is = refl; reject_is = refl; pending_are = tt; accepted_is = refl; is_unaccepted = refl; ended_are = refl; count = refl; message_reference_is = refl; set_reference_is = refl; next_is = refl; latest_is = refl };
  tries_are = (refl, refl);
}
new_by phone reject false = record {
  keeps = record { width_is = refl; reject_is = refl; pending_are = tt; accepted_is = refl; is_unaccepted = refl; ended_are = refl; count = refl; message_reference_is = refl; set_reference_is = refl; next_is = refl; latest_is = refl };
  tries_are = (refl, refl);
}

pub new_stands : (phone : ℕ) (width : Width) (reject wide : Bool) (pending : List TextValue) (ended : List Status) → width ≡ width_of wide → pending ≡ [] → ended ≡ []
    → SenderStands phone (record { width = width; reject = reject; pending = pending; accepted = 0; repeats = 0; ended = ended; message_reference = 0; set_reference = 0; next = record { value = 0; reference = 0 }; latest = record { value = 0; reference = 0 } }) (new_senders wide reject)
new_stands phone width reject wide pending ended e f g = rw (e, f, g) (new_by phone reject wide)

pub is_err_so : (r : Result Step Dropped) (why : Dropped) → IsErrAnd r (λ e. e ≡ why) → r ≡ Err why
is_err_so (Ok step) why h = absurd h
is_err_so (Err e) why h = ap Err h
