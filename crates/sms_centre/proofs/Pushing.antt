-- A push at one line is a push of the machine.
use Rattle.std.proofs.Common.{◌≡◌, ℕ, suc, Bool, false, List, [], ◌∷◌, Some, Result, Ok, Err, OnErr, refl, sym, ap, ◌∙◌, subst, arith, length, nat_lt}
use Rattle.std.proofs.lemmas.Bool.Decides.{nat_tests}
use Rattle.std.specs.List.{slice_get}
use Rattle.std.proofs.Math.ListN.{set}
use Rattle.sms_field.specs.Address.Value.{AddressValue}
use Rattle.sms_relay.specs.declared.side.Side.TheVariants.{ToPhone}
use Rattle.sms_message.specs.Message.{following}
use Rattle.sms_message.specs.Inside.Tags.{following_is}
use Rattle.sms_message.specs.declared.message.TransferUnit.TheVariants.{Deliver}
use Rattle.sms_message.specs.declared.message.Relay.TheVariants.{Transfer}
use Rattle.sms_message.specs.declared.message.Message.TheVariants.{Data}
use Rattle.sms_message.specs.declared.message.Tag.{Tag}
use Rattle.sms_centre.specs.Centre.State.{Acceptance, CentreState}
use Rattle.sms_centre.specs.Centre.Pushes.{delivery, after_push, pushes_first, centre_pushes}
use Rattle.sms_message.specs.More.{is_more}
use Rattle.sms_centre.specs.Centre.Held.{unended}
use Rattle.sms_centre.specs.Centre.Value.{CentreValue, LineValue, WaitingValue, addresses}
use Rattle.sms_message.specs.Does.{packets_of, CarriesEach}
use Rattle.sms_message.specs.Few.{FewPackets, few_put}
use Rattle.std.proofs.lemmas.List.{length-map}
use Rattle.sms_centre.specs.Inside.Lines.{delivery_of, pushed_line, PushesFrom, LinePushes, ChangesLine}
use Rattle.sms_centre.specs.Centre.Standing.{waiting_of, waiting_in, LineStands, StandsFor}
use Rattle.sms_centre.specs.Centre.Calls.{CentreAnswers}
use Rattle.sms_message.specs.declared.outcome.Step.{Step}
use Rattle.sms_message.specs.declared.outcome.Outcome.TheVariants.{Pushed}
use Rattle.sms_message.specs.declared.outcome.Dropped.{Dropped}
use Rattle.sms_message.specs.declared.outcome.Dropped.TheVariants.{NotCp, Unmatched, Busy, Memory, TooManySegments}
use Rattle.sms_centre.proofs.Lines.{set_same, set_stands, addresses_set, AreUnended, unended_are, unended_end, waiting_end}

-- the value with another line
abbrev pub with_line : CentreValue → ℕ → LineValue → CentreValue
with_line v i line = record { limit = v.limit; held = v.held; lines = set v.lines i line }

pub unchanged : (limit : ℕ) (phones : List AddressValue) (now : ℕ) (v : CentreValue) (c : CentreState) (phone : ℕ) (line new : LineValue) → slice_get v.lines phone ≡ Some line → new ≡ line → StandsFor limit phones now v c → StandsFor limit phones now (with_line v phone new) c
unchanged limit phones now v c phone line new there same s =
    let e : set v.lines phone new ≡ v.lines = ap (set v.lines phone) same ∙ set_same v.lines phone line there in
    subst (λ (lines : List LineValue). StandsFor limit phones now (record { limit = v.limit; held = v.held; lines = lines }) c) (sym e) s

pub failed_push : (line new : LineValue) (queue : List WaitingValue) (why : Dropped) → PushesFrom line queue (Err why) new → (why ≡ Memory) × (new ≡ line)
failed_push line new [] why p = absurd p
failed_push line new (m ∷ others) why p = p

more_waits : (phones : List AddressValue) (queue : List Acceptance) → is_more (waiting_in phones queue) ≡ is_more queue
more_waits phones [] = refl
more_waits phones (a ∷ queue) = refl

module _ (limit : ℕ) (phones : List AddressValue) (now : ℕ) (v : CentreValue) (c : CentreState) (phone : ℕ) (line new : LineValue) (there : slice_get v.lines phone ≡ Some line) (s : StandsFor limit phones now v c) where
  pushed_stands : (a : Acceptance) (others : List Acceptance) → AreUnended (a ∷ others) now → new ≡ pushed_line line (waiting_of phones a) (waiting_in phones others)
      → StandsFor limit phones now (with_line v phone new) (pushes_first phones c phone (a ∷ others)).after
  unfolding pushes_first
  pushed_stands a others live is =
      let ls = s.lines_stand phone line there in
      record {
        limit_is = s.limit_is;
        phones_are = addresses_set v.lines phone line new there (ap (λ (l : LineValue). l.address) is) ∙ s.phones_are;
        held_stand = s.held_stand;
        lines_stand = set_stands phones now c.accepted c.line v.lines phone new (after_push (c.line phone) a others)
            (λ r l e apart. s.lines_stand r l e)
            (subst (λ (l : LineValue). LineStands phones now c.accepted phone l (after_push (c.line phone) a others)) (sym is) (record {
              queue = sym (ap (waiting_in phones) (unended_end others a now live.1 live.0) ∙ waiting_end phones others a);
              free = ls.free;
              next = ap following ls.next ∙ following_is (c.line phone).pushes;
              latest = ap (λ (t : Tag). Some (record { tag = t; stamp = a.stamp; ends = a.ends })) ls.next;
            }));
      }

  push_ok : (q : List Acceptance) (queue : List WaitingValue) (step : Step) → AreUnended q now → queue ≡ waiting_in phones q → PushesFrom line queue (Ok step) new
      → CentreAnswers limit phones now c (pushes_first phones c phone q) (Ok step) (with_line v phone new)
  unfolding pushes_first
  push_ok [] queue step live is p =
      let h = subst (λ (q : List WaitingValue). PushesFrom line q (Ok step) new) is p in
      (ap Ok (sym h.0), subst (λ (ps : List (List ℕ)). CarriesEach ps []) (sym h.1) tt, unchanged limit phones now v c phone line new there h.2 s)
  push_ok (a ∷ others) queue step live is p =
      let h = subst (λ (q : List WaitingValue). PushesFrom line q (Ok step) new) is p in
      let ls = s.lines_stand phone line there in (
        ap Ok (sym h.0),
        subst (λ (t : Tag). CarriesEach (packets_of step) (Data false t (Transfer ToPhone (Deliver (delivery phones a (is_more others)))) ∷ [])) ls.next
            (subst (λ (b : Bool). CarriesEach (packets_of step) (Data false line.next (Transfer ToPhone (Deliver (delivery phones a b))) ∷ [])) (more_waits phones others) h.1),
        pushed_stands a others live h.2,
      )

  push_by : (r : Result Step Dropped) → LinePushes line r new → CentreAnswers limit phones now c (centre_pushes phones c now phone) r (with_line v phone new)
  unfolding centre_pushes
  push_by (Ok step) p = push_ok (unended (c.line phone).queue now) line.queue step (unended_are (c.line phone).queue now) (s.lines_stand phone line there).queue p
  push_by (Err NotCp) p = absurd (let e : NotCp ≡ Memory = (failed_push line new line.queue NotCp p).0 in cc)
  push_by (Err Unmatched) p = absurd (let e : Unmatched ≡ Memory = (failed_push line new line.queue Unmatched p).0 in cc)
  push_by (Err Busy) p = absurd (let e : Busy ≡ Memory = (failed_push line new line.queue Busy p).0 in cc)
  push_by (Err TooManySegments) p = absurd (let e : TooManySegments ≡ Memory = (failed_push line new line.queue TooManySegments p).0 in cc)
  push_by (Err Memory) p = unchanged limit phones now v c phone line new there (failed_push line new line.queue Memory p).1 s

  -- a push fails only where a message waits
  waits_by : (q : List Acceptance) (queue : List WaitingValue) (why : Dropped) → queue ≡ waiting_in phones q → PushesFrom line queue (Err why) new → (pushes_first phones c phone q).answer ≡ Ok Pushed
  unfolding pushes_first
  waits_by [] queue why is p = absurd (subst (λ (q : List WaitingValue). PushesFrom line q (Err why) new) is p)
  waits_by (a ∷ others) queue why is p = refl

  pub push_waits : (r : Result Step Dropped) → LinePushes line r new → OnErr r ((centre_pushes phones c now phone).answer ≡ Ok Pushed)
  unfolding centre_pushes
  push_waits (Ok step) p = tt
  push_waits (Err why) p = waits_by (unended (c.line phone).queue now) line.queue why (s.lines_stand phone line there).queue p

  pub push_steps : (r : Result Step Dropped) → LinePushes line r new → CentreAnswers limit phones now c (centre_pushes phones c now phone) r (with_line v phone new)
  push_steps r p = push_by r p

address_from : (line new : LineValue) (queue : List WaitingValue) (r : Result Step Dropped) → PushesFrom line queue r new → new.address ≡ line.address
address_from line new queue (Err why) h = ap (λ (l : LineValue). l.address) (failed_push line new queue why h).1
address_from line new [] (Ok step) h = ap (λ (l : LineValue). l.address) h.2
address_from line new (m ∷ others) (Ok step) h = ap (λ (l : LineValue). l.address) h.2

-- a push keeps the address of its line
pub pushed_address : (line new : LineValue) (r : Result Step Dropped) → LinePushes line r new → new.address ≡ line.address
pushed_address line new r h = address_from line new line.queue r h

-- ---- the code's push

more_are : (others : List WaitingValue) → nat_lt 1 (suc (length others)) ≡ is_more others
more_are [] = refl
more_are (m ∷ others) = grind (arith, nat_tests)

-- the first message of the queue is put out, and goes to its end
pub pushed_from : (line new : LineValue) (queue : List WaitingValue) (m : WaitingValue) (others : List WaitingValue) (more : Bool) (step : Step) → queue ≡ m ∷ others → more ≡ nat_lt 1 (suc (length others)) → step.outcome ≡ Pushed
    → CarriesEach (packets_of step) (Data false line.next (Transfer ToPhone (Deliver (delivery_of m more))) ∷ [])
    → new ≡ pushed_line line m others → PushesFrom line queue (Ok step) new
pushed_from line new queue m others more step is more_is pushed carries after =
    subst (λ (q : List WaitingValue). PushesFrom line q (Ok step) new) (sym is) (
      pushed,
      subst (λ (b : Bool). CarriesEach (packets_of step) (Data false line.next (Transfer ToPhone (Deliver (delivery_of m b))) ∷ [])) (more_is ∙ more_are others) carries,
      after,
    )

pub failed_from : (line new : LineValue) (queue : List WaitingValue) (m : WaitingValue) (others : List WaitingValue) → queue ≡ m ∷ others → new ≡ line → PushesFrom line queue (Err Memory) new
failed_from line new queue m others is same = subst (λ (q : List WaitingValue). PushesFrom line q (Err Memory) new) (sym is) (refl, same)

few_from : (line new : LineValue) (queue : List WaitingValue) (r : Result Step Dropped) → PushesFrom line queue r new → FewPackets r
few_from line new [] (Ok step) h =
    let none : length step.packets.items ≡ 0 = sym (length-map step.packets.items (λ packet. packet.items)) ∙ ap (λ (l : List (List ℕ)). length l) h.1 in omega arith
few_from line new (m ∷ others) (Ok step) h =
    few_put Pushed (Data false line.next (Transfer ToPhone (Deliver (delivery_of m (is_more others)))) ∷ []) (Ok step) (omega arith) (h.0, h.1)
few_from line new queue (Err why) h = tt

-- a push puts out one packet, or none
pub pushed_few : (line new : LineValue) (r : Result Step Dropped) → LinePushes line r new → FewPackets r
pushed_few line new r h = few_from line new line.queue r h

-- a push that fails changes nothing
pub pushed_same : (line new : LineValue) (r : Result Step Dropped) → LinePushes line r new → OnErr r (new ≡ line)
pushed_same line new (Ok step) h = tt
pushed_same line new (Err why) h = (failed_push line new line.queue why h).1

-- the lines keep their addresses
pub pushed_phones : (phone : ℕ) (old new : List LineValue) (r : Result Step Dropped) → ChangesLine phone old new (λ line new. LinePushes line r new) → addresses new ≡ addresses old
pushed_phones phone old new r h = ap addresses h.others_stay ∙ addresses_set old phone h.before h.after h.is_there (pushed_address h.before h.after r h.how)
