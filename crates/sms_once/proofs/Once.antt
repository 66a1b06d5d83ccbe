-- The pieces of a message finish it just once.
use Rattle.std.proofs.Common.{◌≡◌, ℕ, ◌<◌, Bool, true, false, cond, List, [], ◌∷◌, ◌++◌, refl, sym, ap, ◌∙◌, subst, map, arith}
use Rattle.std.proofs.lemmas.Bool.{or_parts}
use Rattle.std.proofs.lemmas.List.{append_assoc}
use Rattle.sms_join.specs.declared.key.Key.{Key}
use Rattle.sms_join.specs.declared.units.Units.{Units}
use Rattle.sms_join.specs.Reading.{text_of_segments, CutIsReadAsText}
use Rattle.sms_join.specs.Key.{same_key}
use Rattle.sms_join.specs.Piece.{Piece}
use Rattle.sms_join.specs.Joiner.Sets.{has, units_upto}
use Rattle.sms_join.specs.Joiner.{Joiner, Finished, is_among, is_repeat, is_whole, has_room, decided, answer, answered, offered}
use Rattle.sms_join.specs.Joiner.Acts.{Act, Brings, Ages, brought}
use Rattle.sms_join.specs.Arrivals.Pieces.{finished_now}
use Rattle.sms_join.specs.Gateway.Answers.{gateway_answer, is_passed}
use Rattle.sms_join.specs.Gateway.Finishings.{finishings_after}
use Rattle.sms_join.specs.Gateway.Value.{LimitsValue}
use Rattle.sms_once.specs.Run.{Held, finishing_by, held_after, run}
use Rattle.sms_once.specs.Repeats.{NoneForgets, RepeatsInTime, others_finished}
use Rattle.sms_once.specs.Once.{ComeAllInTime, FinishesOnceInTime, FinishesTextInTime, IsNew, finishes}
use Rattle.sms_once.proofs.Keys.{same_key_refl, same_key_true}
use Rattle.sms_once.proofs.Holding.{Holds, at_whole, before_whole}
use Rattle.sms_once.proofs.Lasting.{IsLasting, Lasts, is_lasting, lasts_first}

pub run-append : (limits : LimitsValue) (h : Held) (os ps : List (Act Piece)) → run limits h (os ++ ps) ≡ run limits (run limits h ps) os
run-append limits h [] ps = refl
run-append limits h (a ∷ os) ps = ap (λ i. held_after limits i a) (run-append limits h os ps)

pub finishes-append : (limits : LimitsValue) (h : Held) (k : Key) (os ps : List (Act Piece))
    → finishes limits h k (os ++ ps) ≡ finishes limits (run limits h ps) k os ++ finishes limits h k ps
finishes-append limits h k [] ps = refl
finishes-append limits h k (Ages now ∷ os) ps = finishes-append limits h k os ps
finishes-append limits h k (Brings o ∷ os) ps = go (same_key o.key k) (finishes-append limits h k os ps) (run-append limits h os ps)
  where
    go : (s : Bool)
        → finishes limits h k (os ++ ps) ≡ finishes limits (run limits h ps) k os ++ finishes limits h k ps
        → run limits h (os ++ ps) ≡ run limits (run limits h ps) os
        → cond s (finished_now (gateway_answer limits (run limits h (os ++ ps)).holds o) ++ finishes limits h k (os ++ ps)) (finishes limits h k (os ++ ps))
        ≡ cond s (finished_now (gateway_answer limits (run limits (run limits h ps) os).holds o) ++ finishes limits (run limits h ps) k os)
        (finishes limits (run limits h ps) k os) ++ finishes limits h k ps
    go true f g =
        ap (λ (i : Held). finished_now (gateway_answer limits i.holds o) ++ finishes limits h k (os ++ ps)) g
        ∙ (ap (λ l. finished_now (gateway_answer limits (run limits (run limits h ps) os).holds o) ++ l) f
        ∙ sym (append_assoc (finished_now (gateway_answer limits (run limits (run limits h ps) os).holds o)) (finishes limits (run limits h ps) k os) (finishes limits h k ps)))
    go false f g = f

-- what finishes is no repeat
fresh : (open_max : ℕ) (j : Joiner) (o : Piece) (us : List Units) → answer open_max j o ≡ Finished us → is_among j.finished o.key ≡ false
unfolding answer decided is_repeat
fresh open_max j o us = go (is_repeat j o) refl (is_whole j o) (has_room open_max j o)
  where
    go : (a : Bool) → is_repeat j o ≡ a → (b c : Bool) → decided a b c (units_upto (o ∷ j.kept) o.key o.maximum) ≡ Finished us → is_among j.finished o.key ≡ false
    go true e b c f = absurd cc
    go false e b c f = (or_parts (is_among j.finished o.key) (has j.kept o.key o.sequence) e).0

-- ---- after a piece that finishes a key

module _ (limits : LimitsValue) (h : Held) (k : Key) (o : Piece) (us : List Units) (after : List (Act Piece))
    (keeps : is_passed limits.alone k ≡ false) (under : same_key o.key k ≡ true) (done : gateway_answer limits h.holds o ≡ Finished us)
    (few : others_finished limits (held_after limits h (Brings o)) k after < limits.remembered)
    (in_time : NoneForgets limits.remember_for (finishing_by h o) after) where
  own : o.key ≡ k
  own = same_key_true o.key k under

  kept : is_passed limits.alone o.key ≡ false
  kept = ap (is_passed limits.alone) own ∙ keeps

  whole : answer limits.open_max h.holds o ≡ Finished us
  whole = sym (ap (λ b. cond b (Finished (o.units ∷ [])) (answer limits.open_max h.holds o)) kept) ∙ done

  first : Lasts (held_after limits h (Brings o)).holds (held_after limits h (Brings o)).finishings k (finishing_by h o) 0
  unfolding answered offered
  first =
      let some : 0 < limits.remembered = omega arith in
      subst (λ b. Lasts (cond b h.holds (answered limits.remembered h.holds o (answer limits.open_max h.holds o)))
      (cond b h.finishings (finishings_after limits.remembered h.finishings o.moment (answer limits.open_max h.holds o)))
      k (finishing_by h o) 0) (sym kept)
      (subst (λ a. Lasts (answered limits.remembered h.holds o a) (finishings_after limits.remembered h.finishings o.moment a) k (finishing_by h o) 0) (sym whole)
      (lasts_first limits.remembered h.holds h.finishings k o (finishing_by h o) own some
      (ap (is_among h.holds.finished) (sym own) ∙ fresh limits.open_max h.holds o us whole)))

  pub lasting : IsLasting limits (held_after limits h (Brings o)) k (finishing_by h o) after
  lasting = is_lasting limits (held_after limits h (Brings o)) k (finishing_by h o) keeps first after few in_time

pub repeats_in_time : RepeatsInTime
repeats_in_time limits h o us after keeps done stays =
    (lasting limits h o.key o us after keeps (same_key_refl o.key) done stays.few stays.in_time).repeats

-- ---- the pieces of a message

module _ (limits : LimitsValue) (h : Held) (k : Key) (us : List Units) (after : List (Act Piece)) (o : Piece) (before : List (Act Piece))
    (new : IsNew h.holds k) (come : ComeAllInTime limits h k us after o before) where
  prior : Holds (run limits h before).holds k us (brought before) × (finishes limits h k before ≡ [])
  prior = before_whole limits h k us before come.not_passed new come.are_pieces.1 come.none_refused come.none_dropped come.missing

  pub finishes_now : gateway_answer limits (run limits h before).holds o ≡ Finished us
  finishes_now =
      ap (λ b. cond b (Finished (o.units ∷ [])) (answer limits.open_max (run limits h before).holds o))
      (ap (is_passed limits.alone) (same_key_true o.key k come.under_key) ∙ come.not_passed)
      ∙ at_whole limits.open_max (run limits h before).holds k us (brought before) o prior.0 (same_key_true o.key k come.under_key) come.are_pieces.0
      come.missing come.all

  pub lasting_after : IsLasting limits (run limits h (Brings o ∷ before)) k (finishing_by (run limits h before) o) after
  lasting_after =
      lasting limits (run limits h before) k o us after come.not_passed come.under_key finishes_now
      (subst (λ x. others_finished limits (run limits h (Brings o ∷ before)) x after < limits.remembered) (same_key_true o.key k come.under_key) come.remembered.few)
      come.remembered.in_time

  here : finishes limits h k (Brings o ∷ before) ≡ us ∷ []
  here =
      ap (λ b. cond b (finished_now (gateway_answer limits (run limits h before).holds o) ++ finishes limits h k before) (finishes limits h k before)) come.under_key
      ∙ (ap (λ a. finished_now a ++ finishes limits h k before) finishes_now ∙ ap (λ l. (us ∷ []) ++ l) prior.1)

  pub just_once : finishes limits h k (after ++ Brings o ∷ before) ≡ us ∷ []
  just_once =
      finishes-append limits h k after (Brings o ∷ before)
      ∙ (ap (λ l. l ++ finishes limits h k (Brings o ∷ before)) lasting_after.none ∙ here)

pub finishes_once_in_time : FinishesOnceInTime
finishes_once_in_time limits h k us after o before new come =
    (finishes_now limits h k us after o before new come, just_once limits h k us after o before new come)

pub finishes_text_in_time : CutIsReadAsText → FinishesTextInTime
finishes_text_in_time reads limits h k us after o before width text new come is cut =
    ap (map text_of_segments) (just_once limits h k us after o before new come)
    ∙ ap (λ t. t ∷ []) (reads width text us is cut)
