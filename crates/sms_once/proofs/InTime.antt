-- A run that forgets keys by their age remembers the first of the keys that one does which forgets
-- none so.
use Rattle.std.proofs.Common.{◌≡◌, ℕ, suc, ◌<◌, ◌≤◌, ◌⊎◌, inl, inr, Bool, true, false, cond, ◌||◌, List, [], ◌∷◌, take, length, None, refl, sym, ap, ◌∙◌, arith, length-take}
use Rattle.std.proofs.lemmas.Bool.{cases_lt}
use Rattle.std.proofs.lemmas.List.{take_all, take-take}
use Rattle.sms_join.specs.declared.key.Key.{Key}
use Rattle.sms_join.specs.Piece.{Piece}
use Rattle.sms_join.specs.Joiner.Sets.{has, units_upto, without}
use Rattle.sms_join.specs.Joiner.{Joiner, Answer, Repeat, Kept, Finished, TooManyOpen, new_joiner, is_among, answer, answered, offered, decided, is_repeat, is_whole, has_room}
use Rattle.sms_join.specs.Joiner.Aging.{aged_after, is_old_after, young}
use Rattle.sms_join.specs.Joiner.Acts.{Act, Brings, Ages}
use Rattle.sms_join.specs.Gateway.Answers.{gateway_holds, gateway_offered, is_passed}
use Rattle.sms_join.specs.Gateway.Finishings.{finishings_at, keys_at}
use Rattle.sms_join.specs.Gateway.Value.{LimitsValue}
use Rattle.sms_once.specs.Run.{Held, held_aged, new_held, run}
use Rattle.sms_once.specs.Sound.{IsSound}
use Rattle.sms_once.specs.InTime.{AnswersInTime, AreInTime, RunsWithoutAge}
use Rattle.sms_once.proofs.Sets.{among_taken}
use Rattle.sms_once.proofs.Falling.{keys_always, keys_by}
use Rattle.sms_once.proofs.Sound.{runs_stay_sound}

-- ---- the first ones of a list

taken_twice : {X : Type 0} (a n : ℕ) (xs : List X) → (m : ℕ) × (take a (take n xs) ≡ take m xs)
taken_twice a n xs = go (cases_lt n a)
  where
    go : (n < a) ⊎ (a ≤ n) → (m : ℕ) × (take a (take n xs) ≡ take m xs)
    go (inl l) = (n, take_all a (take n xs) (let e = length-take n xs in omega arith))
    go (inr l) = (a, take-take a n xs l)

taken_within : {X : Type 0} (a n : ℕ) (xs : List X) → (m : ℕ) × (take a (take n xs) ≡ take m (take a xs))
taken_within a n xs = go (cases_lt n a)
  where
    go : (n < a) ⊎ (a ≤ n) → (m : ℕ) × (take a (take n xs) ≡ take m (take a xs))
    go (inl l) =
        let le : n ≤ a = omega arith in
        (n, take_all a (take n xs) (let e = length-take n xs in omega arith) ∙ sym (take-take n a xs le))
    go (inr l) =
        let le : a ≤ a = omega arith in
        (a, take-take a n xs l ∙ sym (take-take a a xs le))

among_front : (n : ℕ) (ks : List Key) (k : Key) → (is_among ks k ≡ true → is_among (take n ks) k ≡ true) → is_among (take n ks) k ≡ is_among ks k
among_front n ks k h = go (is_among ks k) refl
  where
    go : (b : Bool) → is_among ks k ≡ b → is_among (take n ks) k ≡ is_among ks k
    go true e = h e ∙ sym e
    go false e = among_taken n ks k e ∙ sym e

-- ---- joiners that keep the same, and of which one remembers the first of the other's keys

pub record IsFront (i j : Joiner) : Type 0 where
  pub kept : i.kept ≡ j.kept
  pub many : ℕ
  pub finished : i.finished ≡ take many j.finished

module _ (i j : Joiner) (p : Piece) (f : IsFront i j) (known : is_among j.finished p.key ≡ true → is_among i.finished p.key ≡ true) where
  among_same : is_among i.finished p.key ≡ is_among j.finished p.key
  among_same =
      ap (λ ks. is_among ks p.key) f.finished
      ∙ among_front f.many j.finished p.key (λ t. sym (ap (λ ks. is_among ks p.key) f.finished) ∙ known t)

  pub answer_same : (open_max : ℕ) → answer open_max i p ≡ answer open_max j p
  unfolding answer is_repeat is_whole has_room
  answer_same open_max =
      ap (λ ps. answer open_max (record { kept = ps; finished = i.finished }) p) f.kept
      ∙ ap (λ b. decided (b || has j.kept p.key p.sequence) (is_whole j p) (has_room open_max j p) (units_upto (p ∷ j.kept) p.key p.maximum)) among_same

  answered_front : (remembered : ℕ) (a : Answer) → IsFront (answered remembered i p a) (answered remembered j p a)
  unfolding answered
  answered_front remembered Repeat = f
  answered_front remembered Kept = record { kept = ap (λ ps. p ∷ ps) f.kept; many = f.many; finished = f.finished }
  answered_front remembered (Finished us) =
      let t = taken_within remembered (suc f.many) (p.key ∷ j.finished) in
      record {
        kept = ap (λ ps. without ps p.key) f.kept;
        many = t.0;
        finished = ap (λ ks. take remembered (p.key ∷ ks)) f.finished ∙ t.1;
      }
  answered_front remembered TooManyOpen = f

  offered_front : (limits : LimitsValue) → IsFront (gateway_offered limits i p) (gateway_offered limits j p)
  unfolding offered
  offered_front limits = go (is_passed limits.alone p.key)
    where
      go : (b : Bool) → IsFront (cond b i (offered limits.open_max limits.remembered i p)) (cond b j (offered limits.open_max limits.remembered j p))
      go true = f
      go false =
          let e : answered limits.remembered j p (answer limits.open_max i p) ≡ answered limits.remembered j p (answer limits.open_max j p) =
          ap (answered limits.remembered j p) (answer_same limits.open_max) in
          let r : IsFront (answered limits.remembered i p (answer limits.open_max i p)) (answered limits.remembered j p (answer limits.open_max i p)) =
          answered_front limits.remembered (answer limits.open_max i p) in
          record {
            kept = r.kept ∙ ap (λ (l : Joiner). l.kept) e;
            many = r.many;
            finished = r.finished ∙ ap (λ (l : Joiner). take r.many l.finished) e;
          }

aged_front : (limits : LimitsValue) (h : Held) (j : Joiner) (now : ℕ) → IsSound h → IsFront h.holds j → IsFront (held_aged limits h now).holds (aged_after limits.open_for now j)
unfolding aged_after
aged_front limits h j now s f =
    let t = taken_twice (length (finishings_at limits.remember_for now h.finishings)) f.many j.finished in
    record {
      kept = ap (λ ps. young (is_old_after limits.open_for now ps) ps) f.kept;
      many = t.0;
      finished =
          sym (keys_by limits.remember_for now h.holds.finished h.finishings s.as_many s.fall)
          ∙ (ap (take (length (finishings_at limits.remember_for now h.finishings))) f.finished ∙ t.1);
    }

pub sound_run : (limits : LimitsValue) (acts : List (Act Piece)) → IsSound (run limits new_held acts)
sound_run limits acts = runs_stay_sound.stays limits new_held acts runs_stay_sound.new

pub front_run : (limits : LimitsValue) (acts : List (Act Piece)) → AreInTime limits acts → IsFront (run limits new_held acts).holds (gateway_holds limits acts)
unfolding new_joiner
front_run limits [] h = record { kept = refl; many = 0; finished = refl }
front_run limits (Brings p ∷ acts) h = offered_front (run limits new_held acts).holds (gateway_holds limits acts) p (front_run limits acts h.1) h.0 limits
front_run limits (Ages now ∷ acts) h = aged_front limits (run limits new_held acts) (gateway_holds limits acts) now (sound_run limits acts) (front_run limits acts h)

pub answers_in_time : AnswersInTime
answers_in_time limits acts p h =
    ap (cond (is_passed limits.alone p.key) (Finished (p.units ∷ [])))
    (answer_same (run limits new_held acts).holds (gateway_holds limits acts) p (front_run limits acts h.1) h.0 limits.open_max)

-- ---- where none is forgotten by its age

pub all_stay : (limits : LimitsValue) (now : ℕ) (h : Held) (j : Joiner) → limits.remember_for ≡ None → length h.finishings ≡ length h.holds.finished → h.holds ≡ j
    → (held_aged limits h now).holds ≡ aged_after limits.open_for now j
unfolding aged_after
all_stay limits now h j e many same =
    ap (λ ks. record { kept = young (is_old_after limits.open_for now h.holds.kept) h.holds.kept; finished = ks })
    (ap (λ o. keys_at o now h.holds.finished h.finishings) e ∙ keys_always now h.holds.finished h.finishings many)
    ∙ ap (aged_after limits.open_for now) same

pub runs_without_age : RunsWithoutAge
runs_without_age limits [] e = refl
runs_without_age limits (Brings p ∷ acts) e = ap (λ j. gateway_offered limits j p) (runs_without_age limits acts e)
runs_without_age limits (Ages now ∷ acts) e = all_stay limits now (run limits new_held acts) (gateway_holds limits acts) e (sound_run limits acts).as_many (runs_without_age limits acts e)
