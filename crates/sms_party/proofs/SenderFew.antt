-- How many packets a sender's call has: as many as the value puts out.
use Rattle.std.proofs.Common.{◌≡◌, ◌≤◌, ◌<◌, ℕ, ◌+◌, ◌==◌, Bool, true, false, cond, List, [], ◌∷◌, ◌++◌, length, Option, Some, None, Result, Ok, Err, refl, ap, ◌∙◌, arith}
use Rattle.std.proofs.lemmas.List.{length-append}
use Rattle.sms_message.specs.declared.message.Message.{Message}
use Rattle.sms_message.specs.declared.message.Message.TheVariants.{Note}
use Rattle.sms_message.specs.declared.message.Report.{Report}
use Rattle.sms_message.specs.declared.message.Tag.{Tag}
use Rattle.sms_message.specs.declared.outcome.Outcome.{Outcome}
use Rattle.sms_message.specs.declared.outcome.Outcome.TheVariants as outcome
use Rattle.sms_message.specs.declared.outcome.Step.{Step}
use Rattle.sms_message.specs.declared.outcome.Dropped.{Dropped}
use Rattle.sms_message.specs.declared.outcome.Dropped.TheVariants.{NotCp, Unmatched, Busy, Memory, TooManySegments}
use Rattle.sms_message.specs.Does.{Does}
use Rattle.sms_message.specs.Few.{PutsFew, FewPackets, few_either, few_answered}
use Rattle.sms_message.specs.Message.{same_tag}
use Rattle.sms_join.specs.declared.segment.Segment.{Segment}
use Rattle.sms_party.specs.declared.sender.Status.TheVariants.{Accepted, Failed}
use Rattle.sms_party.specs.Sender.Value.{TextValue, SenderValue}
use Rattle.sms_party.specs.Inside.Sender.{Did, segment_put, text_put, puts_out, counted, entered, first_put, enters, settles, stepped, ended_with, hears_at}
use Rattle.std.specs.List.{slice_get}

segment_few : (tag : Tag) (reject : Bool) (t : TextValue) (place : ℕ) (s : Option Segment) → length (segment_put tag reject t place s) ≤ 1
segment_few tag reject t place None = omega arith
segment_few tag reject t place (Some s) = omega arith

text_few : (tag : Tag) (reject : Bool) (place : ℕ) (o : Option TextValue) → length (text_put tag reject place o) ≤ 1
text_few tag reject place None = omega arith
text_few tag reject place (Some t) = segment_few tag reject t place (slice_get t.segments place)

pub out_few : (v : SenderValue) (again : Bool) (word : Outcome) (first : List Message) → length first ≤ 1 → PutsFew (puts_out v again word first)
out_few v again word first h =
    let e = length-append first (text_put v.next again v.accepted (slice_get v.pending 0)) in
    let k = text_few v.next again v.accepted (slice_get v.pending 0) in
    omega (arith, e, h, k)

first_few : (b : Bool) (tag : Tag) (reject : Bool) (place : ℕ) (o : Option TextValue) → length (cond b (text_put tag reject place o) []) ≤ 2
first_few true tag reject place o = let k = text_few tag reject place o in omega (arith, k)
first_few false tag reject place o = omega arith

pub enters_few : (v : SenderValue) (t : TextValue) → PutsFew (enters v t)
enters_few v t = first_few (length v.pending == 0) v.next v.reject v.accepted (Some t)

settles_few : (v : SenderValue) (later : List TextValue) (good more : Bool) (failed : Outcome) (note : List Message) → length note ≤ 1 → PutsFew (settles v later good more failed note)
settles_few v later true true failed note h = out_few (stepped v) v.reject (outcome.Segment (length v.ended + 1) (v.accepted + 1)) note h
settles_few v later true false failed note h = out_few (ended_with v later Accepted) v.reject (outcome.Accepted (length v.ended + 1)) note h
settles_few v later false more failed note h = out_few (ended_with v later Failed) v.reject failed note h

pub hears_few : (v : SenderValue) (tag : Tag) (cause : Option ℕ) (report : Option Report) (p : List TextValue) → PutsFew (hears_at v tag cause report p)
hears_few v tag cause report [] = omega arith
hears_few v tag cause report (t ∷ later) = few_either (same_tag tag v.latest) _ _ (settles_few v later _ _ _ (Note false tag.value ∷ []) (omega arith)) (omega arith)

-- a call that did this
pub few_did : (d : Does SenderValue) (old new : SenderValue) (r : Result Step Dropped) → PutsFew d → Did d old r new → FewPackets r
few_did d old new r few did = few_answered (λ (v : SenderValue). new ≡ v) old d r few did

pub few_none : (step : Step) → step.packets.items ≡ [] → FewPackets (Ok step)
few_none step e = rw e (omega arith)

-- ---- how many texts wait

counted_pending : (v : SenderValue) (ms : List Message) → (counted v ms).pending ≡ v.pending
counted_pending v [] = refl
counted_pending v (m ∷ ms) = refl

pub waiting_did : (old new : SenderValue) (t : TextValue) (r : Result Step Dropped) → length old.pending < 1000 → Did (enters old t) old r new → length new.pending ≤ 1000
waiting_did old new t (Ok step) h did =
    let e : length new.pending ≡ length (old.pending ++ t ∷ []) = ap (λ (v : SenderValue). length v.pending) did.2 ∙ ap length (counted_pending (entered old t) (first_put old t)) in
    let k = length-append old.pending (t ∷ []) in omega (arith, e, k, h)
waiting_did old new t (Err Memory) h did = let same : new ≡ old = did in let e : length new.pending ≡ length old.pending = ap (λ (v : SenderValue). length v.pending) same in omega (arith, e, h)
waiting_did old new t (Err NotCp) h did = absurd (let e = did.0 in cc)
waiting_did old new t (Err Unmatched) h did = absurd (let e = did.0 in cc)
waiting_did old new t (Err Busy) h did = absurd (let e = did.0 in cc)
waiting_did old new t (Err TooManySegments) h did = absurd (let e = did.0 in cc)
