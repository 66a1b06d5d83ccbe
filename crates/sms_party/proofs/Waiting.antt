-- What a sender keeps of its texts, from one state to the next.
use Rattle.std.proofs.Common.{◌≡◌, ℕ, zero, suc, ◌+◌, ◌-◌, ◌%◌, ◌<◌, ◌==◌, Bool, true, false, cond, nat_lt, List, [], ◌∷◌, ◌++◌, length, map, get_or, Option, Some, refl, sym, ap, ◌∙◌, subst, arith}
use Rattle.std.specs.List.{slice_get, AllByRecursion, range_with_len}
use Rattle.std.proofs.lemmas.Bool.Decides.{nat_tests}
use Rattle.std.proofs.lemmas.List.{length-append}
use Rattle.sms_field.specs.Address.Value.{AddressValue}
use Rattle.sms_tpdu.specs.Submit.{Submission}
use Rattle.sms_relay.specs.declared.side.Side.TheVariants.{FromPhone}
use Rattle.sms_join.specs.declared.segment.Segment.{Segment}
use Rattle.sms_join.specs.declared.units.Units.{Units}
use Rattle.sms_join.specs.declared.units.Units.TheVariants.{Gsm}
use Rattle.sms_join.specs.Segments.{AreNumbered}
use Rattle.sms_message.specs.declared.message.TransferUnit.TheVariants.{Submit}
use Rattle.sms_message.specs.declared.message.Relay.TheVariants.{Transfer}
use Rattle.sms_message.specs.declared.message.Message.{Message}
use Rattle.sms_message.specs.declared.message.Message.TheVariants.{Data}
use Rattle.sms_message.specs.declared.message.Tag.{Tag}
use Rattle.sms_party.specs.declared.sender.Status.{Status}
use Rattle.sms_message.specs.Message.{tag_of, following}
use Rattle.sms_message.specs.Inside.Tags.{following_is}
use Rattle.sms_party.specs.Sent.{nth, messages_of}
use Rattle.sms_party.specs.Sender.Texts.{Text, Sender, sets_of, width_of, new_text, size_of}
use Rattle.sms_party.specs.Sender.Segments.{submission_of}
use Rattle.sms_party.specs.Sender.Putting.{Puts, puts_text, puts_first, puts}
use Rattle.sms_party.specs.Sender.Calls.{appended, ends}
use Rattle.sms_party.specs.Sender.Answers.{advanced}
use Rattle.sms_party.specs.Sender.Value.{TextValue, SenderValue}
use Rattle.sms_party.specs.Inside.Sender.{submission_in, segment_put, text_put, counted, next_set, text_in, entered, ended_with, stepped}
use Rattle.sms_party.specs.Sender.Stands.{TextIs, ArePending, IsUnaccepted, status_if, Keeps, HasTries}

-- ---- a segment is a piece of its text

same_segment : (u w : Units) (m n i j : ℕ) → u ≡ w → m ≡ n → i ≡ j
    → ◌≡◌ {A = Segment} (record { units = u; maximum = m; sequence = i }) (record { units = w; maximum = n; sequence = j })
same_segment u w m n i j e f g = cc

numbered_from : (segments : List Segment) (pieces : List Units) (first size place : ℕ)
    → map (λ (s : Segment). s.units) segments ≡ pieces → map (λ (s : Segment). s.sequence) segments ≡ range_with_len first (length pieces)
    → AllByRecursion (λ (s : Segment). s.maximum ≡ size) segments → place < length pieces
    → slice_get segments place ≡ Some (record { units = get_or pieces place (Gsm []); maximum = size; sequence = first + place })
numbered_from [] [] first size place u q m h = absurd (omega arith)
numbered_from [] (p ∷ ps) first size place u q m h = absurd cc
numbered_from (s ∷ ss) [] first size place u q m h = absurd cc
numbered_from (s ∷ ss) (p ∷ ps) first size zero u q m h =
    let e : s.units ≡ p = cc in
    let f : s.maximum ≡ size = m.0 in
    let g : s.sequence ≡ first + 0 = let i : s.sequence ≡ first = cc in omega arith in
    ap Some (same_segment s.units p s.maximum size s.sequence (first + 0) e f g)
numbered_from (s ∷ ss) (p ∷ ps) first size (suc place) u q m h =
    let e : map (λ (s : Segment). s.units) ss ≡ ps = cc in
    let f : map (λ (s : Segment). s.sequence) ss ≡ range_with_len (first + 1) (length ps) = cc in
    let g : first + 1 + place ≡ first + suc place = omega arith in
    subst (λ n. slice_get ss place ≡ Some (record { units = get_or ps place (Gsm []); maximum = size; sequence = n })) g
    (numbered_from ss ps (first + 1) size place e f m.1 (omega arith))

pub as_many : (segments : List Segment) (pieces : List Units) → map (λ (s : Segment). s.units) segments ≡ pieces → length segments ≡ length pieces
as_many [] [] u = refl
as_many [] (p ∷ ps) u = absurd cc
as_many (s ∷ ss) [] u = absurd cc
as_many (s ∷ ss) (p ∷ ps) u = let e : map (λ (s : Segment). s.units) ss ≡ ps = cc in ap suc (as_many ss ps e)

same_submission : (t : Text) (v : TextValue) (place k sequence : ℕ) (reject : Bool) → k ≡ place → sequence ≡ suc place
    → v.target ≡ t.target → v.reference ≡ t.first_reference → v.width ≡ t.width → v.set_reference ≡ t.set_reference
    → submission_in v place (record { units = get_or t.pieces place (Gsm []); maximum = length t.pieces; sequence = sequence }) reject
    ≡ submission_in (record { target = t.target; segments = v.segments; reference = t.first_reference; width = t.width; set_reference = t.set_reference }) k
    (record { units = get_or t.pieces k (Gsm []); maximum = length t.pieces; sequence = suc place }) reject
same_submission t v place k sequence reject e f a b c d = rw (e, f, a, b, c, d) refl

pub segment_same : (phone number : ℕ) (texts : List Text) (v : TextValue) (n : ℕ) (h : TextIs phone number texts v n) (tag : Tag) (reject : Bool) (place : ℕ)
    → place < length h.text.pieces
    → segment_put tag reject v place (slice_get v.segments place) ≡ Data false tag (Transfer FromPhone (Submit (submission_of h.text (suc place) reject))) ∷ []
unfolding submission_of
segment_same phone number texts v n h tag reject place within =
    let e : suc place - 1 ≡ place = omega arith in
    let f : 1 + place ≡ suc place = omega arith in
    rw (numbered_from v.segments h.text.pieces 1 (length h.text.pieces) place h.segments_are.units h.segments_are.sequences h.segments_are.maximum within)
    (ap (λ (s : Submission). Data false tag (Transfer FromPhone (Submit s)) ∷ [])
    (same_submission h.text v place (suc place - 1) (1 + place) reject e f h.target_is h.reference_is h.width_is h.set_reference_is))

-- ---- the waiting segment is put out

-- before it is, it was put out as often as it was repeated
abbrev pub AreReady : List ℕ → ℕ → ℕ → Type 0
AreReady [] repeats tries = (repeats ≡ 0) × (tries ≡ 0)
AreReady (n ∷ later) repeats tries = tries ≡ repeats

pub record IsPut (phone : ℕ) (wide reject : Bool) (texts : List Text) (v : SenderValue) (p : Puts) (messages : List Message) : Type 0 where
  pub same : messages_of p.sent ≡ messages
  pub keeps : Keeps phone wide reject texts (counted v messages) p.sender
  pub tries : HasTries p.sender.pending (counted v messages).repeats p.sender.tries

module _ (phone : ℕ) (wide reject : Bool) (texts : List Text) (v : SenderValue) (s : Sender) (k : Keeps phone wide reject texts v s) (again : Bool) where
  put_one : (t : TextValue) (n : ℕ) (ns : List ℕ) (h : TextIs phone (suc (length v.ended)) texts t n) → s.pending ≡ n ∷ ns
      → s.accepted < length h.text.pieces → s.tries ≡ v.repeats
      → IsPut phone wide reject texts v (puts_text phone s n again (Some h.text)) (Data false (tag_of s.outs) (Transfer FromPhone (Submit (submission_of h.text (suc s.accepted) again))) ∷ [])
  unfolding puts_text
  put_one t n ns h q within tries = record {
    same = refl;
    keeps = record {
      width_is = k.width_is;
      reject_is = k.reject_is;
      pending_are = k.pending_are;
      accepted_is = k.accepted_is;
      is_unaccepted = k.is_unaccepted;
      ended_are = k.ended_are;
      count = k.count;
      message_reference_is = k.message_reference_is;
      set_reference_is = k.set_reference_is;
      next_is = ap following k.next_is ∙ following_is s.outs;
      latest_is = k.next_is ∙ ap tag_of (sub_one s.outs);
    };
    tries = subst (λ (l : List ℕ). HasTries l v.repeats (suc s.tries)) (sym q) (ap suc tries);
  } where
    sub_one : (outs : ℕ) → outs ≡ suc outs - 1
    sub_one outs = omega arith

  put_by : (p : List TextValue) (q : List ℕ) → ArePending phone (length v.ended) texts p q → s.pending ≡ q → IsUnaccepted texts s.accepted q
      → AreReady q v.repeats s.tries → IsPut phone wide reject texts v (puts_first texts phone s again q) (text_put v.next again v.accepted (slice_get p 0))
  unfolding puts_first
  put_by [] [] a e u r = record { same = refl; keeps = k; tries = subst (λ (l : List ℕ). HasTries l v.repeats s.tries) (sym e) r }
  put_by [] (n ∷ ns) a e u r = absurd a
  put_by (t ∷ ts) [] a e u r = absurd a
  put_by (t ∷ ts) (n ∷ ns) a e u r =
      let h = a.0 in
      let within : s.accepted < length h.text.pieces = subst (λ (o : Option Text). s.accepted < size_of o) h.is_there u in
      let same : segment_put v.next again t v.accepted (slice_get t.segments v.accepted) ≡ Data false (tag_of s.outs) (Transfer FromPhone (Submit (submission_of h.text (suc s.accepted) again))) ∷ [] =
      rw (k.next_is, k.accepted_is) (segment_same phone (suc (length v.ended)) texts t n h (tag_of s.outs) again s.accepted within) in
      subst (λ (o : Option Text). IsPut phone wide reject texts v (puts_text phone s n again o) (segment_put v.next again t v.accepted (slice_get t.segments v.accepted))) (sym h.is_there)
      (subst (λ (ms : List Message). IsPut phone wide reject texts v (puts_text phone s n again (Some h.text)) ms) (sym same) (put_one t n ns h e within r))

  pub put_stands : AreReady s.pending v.repeats s.tries → IsPut phone wide reject texts v (puts texts phone s again) (text_put v.next again v.accepted (slice_get v.pending 0))
  unfolding puts
  put_stands r = put_by v.pending s.pending k.pending_are refl k.is_unaccepted r

-- ---- the first text ends, or its next segment is to be put out

pub ready_anew : (q : List ℕ) → AreReady q 0 0
ready_anew [] = (refl, refl)
ready_anew (n ∷ later) = refl

unaccepted_anew : (phone ended : ℕ) (texts : List Text) (p : List TextValue) (q : List ℕ) → ArePending phone ended texts p q → IsUnaccepted texts 0 q
unaccepted_anew phone ended texts [] [] a = refl
unaccepted_anew phone ended texts [] (n ∷ ns) a = absurd a
unaccepted_anew phone ended texts (t ∷ ts) [] a = absurd a
unaccepted_anew phone ended texts (t ∷ ts) (n ∷ ns) a = let h = a.0 in subst (λ (o : Option Text). 0 < size_of o) (sym h.is_there) h.not_empty

module _ (phone : ℕ) (wide reject : Bool) (texts : List Text) (v : SenderValue) (s : Sender) (k : Keeps phone wide reject texts v s) (t : TextValue) (ts : List TextValue) (n : ℕ) (ns : List ℕ) (p : v.pending ≡ t ∷ ts) (q : s.pending ≡ n ∷ ns) where
  pub both_pending : ArePending phone (length v.ended) texts (t ∷ ts) (n ∷ ns)
  both_pending = subst (λ (l : List ℕ). ArePending phone (length v.ended) texts (t ∷ ts) l) q (subst (λ (l : List TextValue). ArePending phone (length v.ended) texts l s.pending) p k.pending_are)

  pub ended_keeps : (good : Bool) → Keeps phone wide reject texts (ended_with v ts (status_if good)) (ends s n ns good)
  unfolding ends
  ended_keeps good =
      let status : Status = status_if good in
      let size : length (v.ended ++ status ∷ []) ≡ suc (length v.ended) = length-append v.ended (status ∷ []) ∙ omega arith in
      let left = subst (λ (m : ℕ). ArePending phone m texts ts ns) (sym size) both_pending.1 in
      record {
        width_is = k.width_is;
        reject_is = k.reject_is;
        pending_are = left;
        accepted_is = refl;
        is_unaccepted = unaccepted_anew phone _ texts ts ns left;
        ended_are = ap (λ (l : List Status). l ++ status ∷ []) k.ended_are;
        count = let c : length v.pending ≡ suc (length ts) = ap length p in omega (arith, k.count, size, c);
        message_reference_is = k.message_reference_is;
        set_reference_is = k.set_reference_is;
        next_is = k.next_is;
        latest_is = k.latest_is;
      }

  pub stepped_keeps : suc s.accepted < size_of (nth texts n) → Keeps phone wide reject texts (stepped v) (advanced s)
  unfolding advanced
  stepped_keeps more = record {
    width_is = k.width_is;
    reject_is = k.reject_is;
    pending_are = k.pending_are;
    accepted_is = let e = k.accepted_is in omega arith;
    is_unaccepted = subst (λ (l : List ℕ). IsUnaccepted texts (suc s.accepted) l) (sym q) more;
    ended_are = k.ended_are;
    count = k.count;
    message_reference_is = k.message_reference_is;
    set_reference_is = k.set_reference_is;
    next_is = k.next_is;
    latest_is = k.latest_is;
  }

pub pending_count : (phone ended : ℕ) (texts : List Text) (p : List TextValue) (q : List ℕ) → ArePending phone ended texts p q → length p ≡ length q
pending_count phone ended texts [] [] a = refl
pending_count phone ended texts [] (n ∷ ns) a = absurd a
pending_count phone ended texts (t ∷ ts) [] a = absurd a
pending_count phone ended texts (t ∷ ts) (n ∷ ns) a = ap suc (pending_count phone (suc ended) texts ts ns a.1)

-- ---- one more text is typed

below_by : {X : Type 0} (ys : List X) (n : ℕ) (x y : X) → (nth ys n ≡ Some x → n < length ys) → (b : Bool) → (n == length ys) ≡ b → cond b (Some y) (nth ys n) ≡ Some x → n < suc (length ys)
below_by ys n x y ih true f e = let g : n ≡ length ys = grind (arith, nat_tests) in omega arith
below_by ys n x y ih false f e = let g : n < length ys = ih e in omega arith

pub nth_below : {X : Type 0} (xs : List X) (n : ℕ) (x : X) → nth xs n ≡ Some x → n < length xs
nth_below [] n x e = absurd cc
nth_below (y ∷ ys) n x e = below_by ys n x y (nth_below ys n x) (n == length ys) refl e

pub nth_more : {X : Type 0} (xs : List X) (n : ℕ) (x y : X) → nth xs n ≡ Some x → nth (y ∷ xs) n ≡ Some x
nth_more xs n x y e =
    let h = nth_below xs n x e in
    let f : (n == length xs) ≡ false = grind (arith, nat_tests) in
    rw f e

pub nth_new : {X : Type 0} (xs : List X) (y : X) → nth (y ∷ xs) (length xs) ≡ Some y
nth_new xs y = let f : (length xs == length xs) ≡ true = grind (arith, nat_tests) in rw f refl

pub pending_more : (phone ended : ℕ) (texts : List Text) (t : Text) (p : List TextValue) (q : List ℕ) → ArePending phone ended texts p q → ArePending phone ended (t ∷ texts) p q
pending_more phone ended texts t [] [] a = tt
pending_more phone ended texts t [] (n ∷ ns) a = absurd a
pending_more phone ended texts t (v ∷ vs) [] a = absurd a
pending_more phone ended texts t (v ∷ vs) (n ∷ ns) a =
    let h = a.0 in (
      record {
        text = h.text;
        is_there = nth_more texts n h.text t h.is_there;
        phone_is = h.phone_is;
        number_is = h.number_is;
        target_is = h.target_is;
        segments_are = h.segments_are;
        not_empty = h.not_empty;
        reference_is = h.reference_is;
        width_is = h.width_is;
        set_reference_is = h.set_reference_is;
      },
      pending_more phone (suc ended) texts t vs ns a.1,
    )

pending_end : (phone ended : ℕ) (texts : List Text) (p : List TextValue) (q : List ℕ) (v : TextValue) (n : ℕ) → ArePending phone ended texts p q
    → TextIs phone (suc (ended + length p)) texts v n → ArePending phone ended texts (p ++ v ∷ []) (q ++ n ∷ [])
pending_end phone ended texts [] [] v n a h = (subst (λ (m : ℕ). TextIs phone m texts v n) (let e : suc (ended + 0) ≡ suc ended = omega arith in e) h, tt)
pending_end phone ended texts [] (m ∷ ms) v n a h = absurd a
pending_end phone ended texts (w ∷ ws) [] v n a h = absurd a
pending_end phone ended texts (w ∷ ws) (m ∷ ms) v n a h =
    let e : suc (ended + suc (length ws)) ≡ suc (suc ended + length ws) = omega arith in
    (a.0, pending_end phone (suc ended) texts ws ms v n a.1 (subst (λ (i : ℕ). TextIs phone i texts v n) e h))

unaccepted_more : (texts : List Text) (t : Text) (accepted : ℕ) (phone ended : ℕ) (p : List TextValue) (q : List ℕ) → ArePending phone ended texts p q → 0 < length t.pieces
    → IsUnaccepted texts accepted q → IsUnaccepted (t ∷ texts) accepted (q ++ length texts ∷ [])
unaccepted_more texts t accepted phone ended [] [] a some u = subst (λ (o : Option Text). accepted < size_of o) (sym (nth_new texts t)) (let e : accepted ≡ 0 = u in omega arith)
unaccepted_more texts t accepted phone ended [] (n ∷ ns) a some u = absurd a
unaccepted_more texts t accepted phone ended (v ∷ vs) [] a some u = absurd a
unaccepted_more texts t accepted phone ended (v ∷ vs) (n ∷ ns) a some u =
    let h = a.0 in
    subst (λ (o : Option Text). accepted < size_of o) (sym (nth_more texts n h.text t h.is_there)) (subst (λ (o : Option Text). accepted < size_of o) h.is_there u)

same_number : (n : ℕ) → (n == n) ≡ true
same_number n = grind (arith, nat_tests)

next_set_is : (wide several : Bool) (size old sets : ℕ) → nat_lt 1 size ≡ several → old ≡ sets % cond wide 65536 256
    → next_set (width_of wide) size old ≡ cond several (suc sets) sets % cond wide 65536 256
next_set_is true true size old sets e h = rw e (omega arith)
next_set_is true false size old sets e h = rw e h
next_set_is false true size old sets e h = rw e (omega arith)
next_set_is false false size old sets e h = rw e h

module _ (phone : ℕ) (wide reject : Bool) (texts : List Text) (v : SenderValue) (s : Sender) (k : Keeps phone wide reject texts v s) (target : AddressValue) (characters : List ℕ) (pieces : List Units) (segments : List Segment) (numbered : AreNumbered pieces segments) (some : 0 < length pieces) where
  entered_text : TextIs phone (suc (length v.ended + length v.pending)) (new_text wide texts phone target characters pieces ∷ texts) (text_in v target segments) (length texts)
  unfolding new_text
  entered_text = record {
    text = new_text wide texts phone target characters pieces;
    is_there = nth_new texts (new_text wide texts phone target characters pieces);
    phone_is = refl;
    number_is = ap suc k.count;
    target_is = refl;
    segments_are = numbered;
    not_empty = some;
    reference_is = k.message_reference_is;
    width_is = k.width_is;
    set_reference_is = k.set_reference_is;
  }

  pub entered_keeps : Keeps phone wide reject (new_text wide texts phone target characters pieces ∷ texts) (entered v (text_in v target segments)) (appended s (length texts))
  unfolding new_text appended
  entered_keeps =
      let t : Text = new_text wide texts phone target characters pieces in
      let many : length segments ≡ length pieces = as_many segments pieces numbered.units in
      record {
        width_is = k.width_is;
        reject_is = k.reject_is;
        pending_are = pending_end phone (length v.ended) (t ∷ texts) v.pending s.pending (text_in v target segments) (length texts) (pending_more phone (length v.ended) texts t v.pending s.pending k.pending_are) entered_text;
        accepted_is = k.accepted_is;
        is_unaccepted = unaccepted_more texts t s.accepted phone (length v.ended) v.pending s.pending k.pending_are some k.is_unaccepted;
        ended_are = k.ended_are;
        count = rw (same_number phone) (omega (arith, k.count, length-append v.pending (text_in v target segments ∷ [])));
        message_reference_is = let e = k.message_reference_is in rw (same_number phone) (rw many (omega arith));
        set_reference_is = rw (same_number phone, k.width_is, many) (next_set_is wide (nat_lt 1 (length pieces)) (length pieces) v.set_reference (sets_of texts phone) refl k.set_reference_is);
        next_is = k.next_is;
        latest_is = k.latest_is;
      }
