-- The answer to a push at one line is that of the machine.
use Rattle.std.proofs.Common.{◌≡◌, ℕ, Bool, true, false, cond, not, nat_lt, List, [], ◌∷◌, Option, Some, None, Result, Ok, Err, OnErr, refl, sym, ap, ◌∙◌, subst, arith}
use Rattle.std.specs.Prelude.{◌==◌}
use Rattle.std.specs.List.{slice_get, filter}
use Rattle.sms_field.specs.Address.Value.{AddressValue}
use Rattle.sms_message.specs.declared.message.Tag.{Tag}
use Rattle.sms_centre.specs.Centre.State.{Acceptance, Pushing, CentreState}
use Rattle.sms_centre.specs.Centre.Held.{unended}
use Rattle.sms_message.specs.Few.{FewPackets, few_put}
use Rattle.sms_message.specs.declared.message.Message.TheVariants.{Note}
use Rattle.sms_centre.specs.Centre.Verdicts.{verdict, unqueued, stays, left_in, after_answer, settled, centre_hears}
use Rattle.sms_centre.specs.Centre.Value.{CentreValue, LineValue, WaitingValue, addresses}
use Rattle.sms_centre.specs.Inside.Lines.{left_waiting, HearsFor, LineHears, ChangesLine}
use Rattle.sms_centre.specs.Centre.Standing.{waiting_in, push_of, LineStands, StandsFor}
use Rattle.sms_centre.specs.Centre.Calls.{CentreAnswers}
use Rattle.sms_centre.specs.declared.centre.waiting.Push.{Push}
use Rattle.sms_message.specs.declared.outcome.Step.{Step}
use Rattle.sms_message.specs.declared.outcome.Dropped.{Dropped}
use Rattle.sms_message.specs.declared.outcome.Dropped.TheVariants.{NotCp, Unmatched, Busy, Memory, TooManySegments}
use Rattle.sms_centre.proofs.Lines.{set_stands, addresses_set}
use Rattle.sms_centre.proofs.Pushing.{with_line, unchanged}

left_step : (phones : List AddressValue) (a : Acceptance) (queue : List Acceptance) (now stamp : ℕ) (b d : Bool)
    → (a.stamp == stamp) ≡ d → nat_lt now a.ends ≡ b
    → filter (λ m. not (m.stamp == stamp)) (waiting_in phones (unended queue now)) ≡ waiting_in phones (unended (unqueued queue stamp) now)
    → filter (λ m. not (m.stamp == stamp)) (waiting_in phones (cond b (a ∷ unended queue now) (unended queue now))) ≡ waiting_in phones (unended (cond d (unqueued queue stamp) (a ∷ unqueued queue stamp)) now)
left_step phones a queue now stamp true true e f ih = rw (e) ih
left_step phones a queue now stamp true false e f ih = rw (e, f, ih) refl
left_step phones a queue now stamp false true e f ih = ih
left_step phones a queue now stamp false false e f ih = rw (f) ih

left_of_queue : (phones : List AddressValue) (queue : List Acceptance) (now stamp : ℕ) → filter (λ m. not (m.stamp == stamp)) (waiting_in phones (unended queue now)) ≡ waiting_in phones (unended (unqueued queue stamp) now)
left_of_queue phones [] now stamp = refl
left_of_queue phones (a ∷ queue) now stamp = left_step phones a queue now stamp (nat_lt now a.ends) (a.stamp == stamp) refl refl (left_of_queue phones queue now stamp)

left_by : (phones : List AddressValue) (queue : List Acceptance) (now stamp : ℕ) (b : Bool)
    → cond b (waiting_in phones (unended queue now)) (filter (λ m. not (m.stamp == stamp)) (waiting_in phones (unended queue now))) ≡ waiting_in phones (unended (cond b queue (unqueued queue stamp)) now)
left_by phones queue now stamp true = refl
left_by phones queue now stamp false = left_of_queue phones queue now stamp

left_same : (phones : List AddressValue) (queue : List Acceptance) (now stamp : ℕ) (cause : Option ℕ) → left_waiting (waiting_in phones (unended queue now)) stamp cause ≡ waiting_in phones (unended (left_in queue stamp cause) now)
left_same phones queue now stamp cause = left_by phones queue now stamp (stays cause)

module _ (limit : ℕ) (phones : List AddressValue) (now : ℕ) (v : CentreValue) (c : CentreState) (phone : ℕ) (line new : LineValue) (there : slice_get v.lines phone ≡ Some line) (s : StandsFor limit phones now v c) (tag : Tag) (cause : Option ℕ) where
  settled_stands : (p : Pushing) → new ≡ record line { queue = left_waiting line.queue p.message.stamp cause; latest = None }
      → StandsFor limit phones now (with_line v phone new) (settled c phone tag p.message cause).after
  unfolding settled
  settled_stands p is =
      let ls = s.lines_stand phone line there in
      record {
        limit_is = s.limit_is;
        phones_are = addresses_set v.lines phone line new there (ap (λ (l : LineValue). l.address) is) ∙ s.phones_are;
        held_stand = s.held_stand;
        lines_stand = set_stands phones now c.accepted c.line v.lines phone new (after_answer (c.line phone) p.message cause)
            (λ r l e apart. s.lines_stand r l e)
            (subst (λ (l : LineValue). LineStands phones now c.accepted phone l (after_answer (c.line phone) p.message cause)) (sym is) (record {
              queue = ap (λ (q : List WaitingValue). left_waiting q p.message.stamp cause) ls.queue ∙ left_same phones (c.line phone).queue now p.message.stamp cause;
              free = ls.free;
              next = ls.next;
              latest = refl;
            }));
      }

  hear_by : (latest : Option Pushing) (r : Result Step Dropped) → HearsFor now tag cause line (push_of latest) r new → CentreAnswers limit phones now c (centre_hears c now phone tag cause latest) r (with_line v phone new)
  unfolding centre_hears settled
  hear_by (Some p) (Ok step) h =
      rw (h.0) (ap Ok (sym h.1), h.2, settled_stands p h.3)
  hear_by None (Ok step) h = absurd h
  hear_by (Some p) (Err Unmatched) h = rw (h.0) (refl, unchanged limit phones now v c phone line new there h.1 s)
  hear_by None (Err Unmatched) h = (refl, unchanged limit phones now v c phone line new there h s)
  hear_by latest (Err Memory) h = unchanged limit phones now v c phone line new there h s
  hear_by (Some p) (Err NotCp) h = absurd h
  hear_by (Some p) (Err Busy) h = absurd h
  hear_by (Some p) (Err TooManySegments) h = absurd h
  hear_by None (Err NotCp) h = absurd h
  hear_by None (Err Busy) h = absurd h
  hear_by None (Err TooManySegments) h = absurd h

  pub hear_steps : (r : Result Step Dropped) → LineHears now tag cause line r new → CentreAnswers limit phones now c (centre_hears c now phone tag cause (c.line phone).latest) r (with_line v phone new)
  hear_steps r h = hear_by (c.line phone).latest r (subst (λ (l : Option Push). HearsFor now tag cause line l r new) (s.lines_stand phone line there).latest h)

address_for : (now : ℕ) (tag : Tag) (cause : Option ℕ) (line new : LineValue) (latest : Option Push) (r : Result Step Dropped) → HearsFor now tag cause line latest r new → new.address ≡ line.address
address_for now tag cause line new (Some p) (Ok step) h = ap (λ (l : LineValue). l.address) h.3
address_for now tag cause line new None (Ok step) h = absurd h
address_for now tag cause line new (Some p) (Err Unmatched) h = ap (λ (l : LineValue). l.address) h.1
address_for now tag cause line new None (Err Unmatched) h = ap (λ (l : LineValue). l.address) h
address_for now tag cause line new latest (Err Memory) h = ap (λ (l : LineValue). l.address) h
address_for now tag cause line new (Some p) (Err NotCp) h = absurd h
address_for now tag cause line new None (Err NotCp) h = absurd h
address_for now tag cause line new (Some p) (Err Busy) h = absurd h
address_for now tag cause line new None (Err Busy) h = absurd h
address_for now tag cause line new (Some p) (Err TooManySegments) h = absurd h
address_for now tag cause line new None (Err TooManySegments) h = absurd h

-- an answer keeps the address of its line
pub heard_address : (now : ℕ) (tag : Tag) (cause : Option ℕ) (line new : LineValue) (r : Result Step Dropped) → LineHears now tag cause line r new → new.address ≡ line.address
heard_address now tag cause line new r h = address_for now tag cause line new line.latest r h

few_for : (now : ℕ) (tag : Tag) (cause : Option ℕ) (line new : LineValue) (latest : Option Push) (r : Result Step Dropped) → HearsFor now tag cause line latest r new → FewPackets r
few_for now tag cause line new (Some p) (Ok step) h = few_put (verdict cause) (Note false tag.value ∷ []) (Ok step) (omega arith) (h.1, h.2)
few_for now tag cause line new None (Ok step) h = absurd h
few_for now tag cause line new latest (Err why) h = tt

-- an answer is answered by one packet, or none
pub heard_few : (now : ℕ) (tag : Tag) (cause : Option ℕ) (line new : LineValue) (r : Result Step Dropped) → LineHears now tag cause line r new → FewPackets r
heard_few now tag cause line new r h = few_for now tag cause line new line.latest r h

-- one that fails changes nothing
pub heard_same : (now : ℕ) (tag : Tag) (cause : Option ℕ) (line new : LineValue) (r : Result Step Dropped) → LineHears now tag cause line r new → OnErr r (new ≡ line)
heard_same now tag cause line new r h = same_for line.latest r h
  where
    same_for : (latest : Option Push) (r : Result Step Dropped) → HearsFor now tag cause line latest r new → OnErr r (new ≡ line)
    same_for latest (Ok step) h = tt
    same_for (Some p) (Err Unmatched) h = h.1
    same_for None (Err Unmatched) h = h
    same_for latest (Err Memory) h = h
    same_for (Some p) (Err NotCp) h = absurd h
    same_for None (Err NotCp) h = absurd h
    same_for (Some p) (Err Busy) h = absurd h
    same_for None (Err Busy) h = absurd h
    same_for (Some p) (Err TooManySegments) h = absurd h
    same_for None (Err TooManySegments) h = absurd h

pub heard_phones : (now : ℕ) (tag : Tag) (cause : Option ℕ) (phone : ℕ) (old new : List LineValue) (r : Result Step Dropped) → ChangesLine phone old new (λ line new. LineHears now tag cause line r new) → addresses new ≡ addresses old
heard_phones now tag cause phone old new r h = ap addresses h.others_stay ∙ addresses_set old phone h.before h.after h.is_there (heard_address now tag cause h.before h.after r h.how)
