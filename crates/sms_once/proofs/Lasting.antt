-- A key that has finished, while it is remembered.
use Rattle.std.proofs.Common.{◌≡◌, ℕ, zero, suc, ◌+◌, ◌<◌, ◌≤◌, Bool, true, false, cond, ◌||◌, List, [], ◌∷◌, ◌++◌, take, length, refl, sym, ap, ◌∙◌, subst, arith}
use Rattle.sms_join.specs.declared.key.Key.{Key}
use Rattle.sms_join.specs.Key.{same_key}
use Rattle.sms_join.specs.Piece.{Piece}
use Rattle.sms_join.specs.Joiner.Sets.{has, is_open, units_upto, without}
use Rattle.sms_join.specs.Joiner.{Joiner, Repeat, Finished, is_among, answer, answered, offered, decided, is_repeat, is_whole, has_room}
use Rattle.sms_join.specs.Joiner.Aging.{is_old_after, aged_after}
use Rattle.sms_join.specs.Joiner.Acts.{Act, Brings, Ages}
use Rattle.sms_join.specs.Arrivals.Pieces.{finished_now}
use Rattle.sms_join.specs.Gateway.Answers.{gateway_answer, gateway_finishings, gateway_offered, is_passed}
use Rattle.sms_join.specs.Gateway.Finishings.{finishings_after, finishings_at, is_forgotten, keys_at, not_before}
use Rattle.sms_join.specs.Gateway.Value.{LimitsValue}
use Rattle.sms_once.specs.Run.{Held, held_aged, run}
use Rattle.sms_once.specs.Repeats.{AreRepeats, NoneForgets, others_finished}
use Rattle.sms_once.specs.Once.{finishes}
use Rattle.sms_once.proofs.Keys.{same_key_true}
use Rattle.sms_once.proofs.Sets.{among_mid, among_taken, open-without, open-without_same}
use Rattle.sms_once.proofs.Aged.{among_aged, as_many_aged, closed_aged, fewer_aged, keys_stay, moments_stay}

-- The key stands once among the remembered ones, behind at most so many others, and its moment at
-- its place.
pub record Lasts (j : Joiner) (ms : List ℕ) (k : Key) (m n : ℕ) : Type 0 where
  pub later : List Key
  pub earlier : List Key
  pub later_at : List ℕ
  pub earlier_at : List ℕ
  pub keys : j.finished ≡ later ++ k ∷ earlier
  pub moments : ms ≡ later_at ++ m ∷ earlier_at
  pub as_many : length later_at ≡ length later
  pub few : length later ≤ n
  pub none_later : is_among later k ≡ false
  pub none_earlier : is_among earlier k ≡ false
  pub closed : is_open j.kept k ≡ false

-- the first ones of a list, up to a place and beyond it
taken_past : {X : Type 0} (r : ℕ) (xs : List X) (x : X) (ys : List X) → length xs < r → (n : ℕ) × (take r (xs ++ x ∷ ys) ≡ xs ++ x ∷ take n ys)
taken_past zero xs x ys l = absurd (omega arith)
taken_past (suc r) [] x ys l = (r, refl)
taken_past (suc r) (y ∷ xs) x ys l =
    let ih = taken_past r xs x ys (omega arith) in
    (ih.0, ap (λ l. y ∷ l) ih.1)

module _ (j : Joiner) (ms : List ℕ) (k : Key) (m n : ℕ) (l : Lasts j ms k m n) where
  pub lasts_among : is_among j.finished k ≡ true
  lasts_among = ap (λ ks. is_among ks k) l.keys ∙ among_mid l.later k l.earlier

  lasts_up : (a : ℕ) → n ≤ a → Lasts j ms k m a
  lasts_up a le =
      record {
        later = l.later;
        earlier = l.earlier;
        later_at = l.later_at;
        earlier_at = l.earlier_at;
        keys = l.keys;
        moments = l.moments;
        as_many = l.as_many;
        few = let f = l.few in omega arith;
        none_later = l.none_later;
        none_earlier = l.none_earlier;
        closed = l.closed;
      }

  -- a piece of another set is kept
  lasts_kept : (o : Piece) (a : ℕ) → same_key o.key k ≡ false → n ≤ a → Lasts (record { kept = o ∷ j.kept; finished = j.finished }) ms k m a
  lasts_kept o a e le =
      record {
        later = l.later;
        earlier = l.earlier;
        later_at = l.later_at;
        earlier_at = l.earlier_at;
        keys = l.keys;
        moments = l.moments;
        as_many = l.as_many;
        few = let f = l.few in omega arith;
        none_later = l.none_later;
        none_earlier = l.none_earlier;
        closed = rw e l.closed;
      }

  -- another set finishes
  lasts_past : (remembered : ℕ) (o : Piece) (now a : ℕ) → same_key o.key k ≡ false → n < a → a < remembered
      → Lasts (record { kept = without j.kept o.key; finished = take remembered (o.key ∷ j.finished) }) (take remembered (now ∷ ms)) k m a
  lasts_past remembered o now a e le less =
      let f = l.few in
      let c = l.as_many in
      let one : length (o.key ∷ l.later) < remembered = omega arith in
      let other : length (now ∷ l.later_at) < remembered = omega arith in
      let ks = taken_past remembered (o.key ∷ l.later) k l.earlier one in
      let ns = taken_past remembered (now ∷ l.later_at) m l.earlier_at other in
      record {
        later = o.key ∷ l.later;
        earlier = take ks.0 l.earlier;
        later_at = now ∷ l.later_at;
        earlier_at = take ns.0 l.earlier_at;
        keys = ap (λ xs. take remembered (o.key ∷ xs)) l.keys ∙ ks.1;
        moments = ap (λ xs. take remembered (now ∷ xs)) l.moments ∙ ns.1;
        as_many = ap suc l.as_many;
        few = omega arith;
        none_later = rw (e, l.none_later) refl;
        none_earlier = among_taken ks.0 l.earlier k l.none_earlier;
        closed = open-without j.kept o.key k e ∙ l.closed;
      }

  -- an offer under another key
  lasts_other : (open_max remembered : ℕ) (o : Piece) → same_key o.key k ≡ false
      → length (finished_now (answer open_max j o)) + n < remembered
      → Lasts (offered open_max remembered j o) (finishings_after remembered ms o.moment (answer open_max j o)) k m (length (finished_now (answer open_max j o)) + n)
  unfolding offered answer answered decided
  lasts_other open_max remembered o e = go (is_repeat j o) (is_whole j o) (has_room open_max j o)
    where
      go : (b w r : Bool)
          → length (finished_now (decided b w r (units_upto (o ∷ j.kept) o.key o.maximum))) + n < remembered
          → Lasts (answered remembered j o (decided b w r (units_upto (o ∷ j.kept) o.key o.maximum)))
          (finishings_after remembered ms o.moment (decided b w r (units_upto (o ∷ j.kept) o.key o.maximum))) k m
          (length (finished_now (decided b w r (units_upto (o ∷ j.kept) o.key o.maximum))) + n)
      go true w r less = lasts_up (0 + n) (omega arith)
      go false true r less = lasts_past remembered o (not_before ms o.moment) (1 + n) e (omega arith) less
      go false false true less = lasts_kept o (0 + n) e (omega arith)
      go false false false less = lasts_up (0 + n) (omega arith)

-- it has just finished
pub lasts_first : (remembered : ℕ) (j : Joiner) (ms : List ℕ) (k : Key) (o : Piece) (m : ℕ) → o.key ≡ k → 0 < remembered → is_among j.finished k ≡ false
    → Lasts (record { kept = without j.kept o.key; finished = take remembered (o.key ∷ j.finished) }) (take remembered (m ∷ ms)) k m 0
lasts_first remembered j ms k o m e less fresh =
    let ks = taken_past remembered [] k j.finished less in
    let ns = taken_past remembered [] m ms less in
    record {
      later = [];
      earlier = take ks.0 j.finished;
      later_at = [];
      earlier_at = take ns.0 ms;
      keys = ap (λ x. take remembered (x ∷ j.finished)) e ∙ ks.1;
      moments = ns.1;
      as_many = refl;
      few = omega arith;
      none_later = refl;
      none_earlier = among_taken ks.0 j.finished k fresh;
      closed = subst (λ x. is_open (without j.kept o.key) x ≡ false) e (open-without_same j.kept o.key);
    }

-- an aging that comes in time
pub lasts_aged : (limits : LimitsValue) (h : Held) (now : ℕ) (k : Key) (m n : ℕ) → is_forgotten limits.remember_for now m ≡ false
    → Lasts h.holds h.finishings k m n → Lasts (held_aged limits h now).holds (held_aged limits h now).finishings k m n
unfolding aged_after
lasts_aged limits h now k m n f l =
    record {
      later = keys_at limits.remember_for now l.later l.later_at;
      earlier = keys_at limits.remember_for now l.earlier l.earlier_at;
      later_at = finishings_at limits.remember_for now l.later_at;
      earlier_at = finishings_at limits.remember_for now l.earlier_at;
      keys =
          ap (λ ks. keys_at limits.remember_for now ks h.finishings) l.keys
          ∙ (ap (keys_at limits.remember_for now (l.later ++ k ∷ l.earlier)) l.moments
          ∙ keys_stay limits.remember_for now l.later l.later_at k m l.earlier l.earlier_at l.as_many f);
      moments =
          ap (finishings_at limits.remember_for now) l.moments
          ∙ moments_stay limits.remember_for now l.later l.later_at k m l.earlier l.earlier_at l.as_many f;
      as_many = as_many_aged limits.remember_for now l.later l.later_at l.as_many;
      few = let a = fewer_aged limits.remember_for now l.later l.later_at in let b = l.few in omega arith;
      none_later = among_aged limits.remember_for now l.later l.later_at k l.none_later;
      none_earlier = among_aged limits.remember_for now l.earlier l.earlier_at k l.none_earlier;
      closed = closed_aged (is_old_after limits.open_for now h.holds.kept) h.holds.kept k l.closed;
    }

-- an offer under the key is a repeat
module _ (limits : LimitsValue) (j : Joiner) (ms : List ℕ) (k : Key) (o : Piece) (keeps : is_passed limits.alone k ≡ false) (e : o.key ≡ k) (there : is_among j.finished k ≡ true) where
  own : is_passed limits.alone o.key ≡ false
  own = ap (is_passed limits.alone) e ∙ keeps

  again : answer limits.open_max j o ≡ Repeat
  unfolding answer decided is_repeat
  again =
      let r : (is_among j.finished o.key || has j.kept o.key o.sequence) ≡ true =
      ap (λ l. is_among j.finished l || has j.kept o.key o.sequence) e ∙ rw there refl in
      rw r refl

  repeats_own : gateway_answer limits j o ≡ Repeat
  repeats_own = ap (λ b. cond b (Finished (o.units ∷ [])) (answer limits.open_max j o)) own ∙ again

  holds_own : gateway_offered limits j o ≡ j
  unfolding offered answered
  holds_own =
      ap (λ b. cond b j (answered limits.remembered j o (answer limits.open_max j o))) own
      ∙ ap (answered limits.remembered j o) again

  moments_own : gateway_finishings limits j ms o ≡ ms
  moments_own =
      ap (λ b. cond b ms (finishings_after limits.remembered ms o.moment (answer limits.open_max j o))) own
      ∙ ap (finishings_after limits.remembered ms o.moment) again

-- all that came since is held so, and each offer under the key was a repeat
pub record IsLasting (limits : LimitsValue) (h : Held) (k : Key) (m : ℕ) (os : List (Act Piece)) : Type 0 where
  pub lasts : Lasts (run limits h os).holds (run limits h os).finishings k m (others_finished limits h k os)
  pub repeats : AreRepeats limits h k os
  pub none : finishes limits h k os ≡ []

module _ (limits : LimitsValue) (h : Held) (k : Key) (m : ℕ) (keeps : is_passed limits.alone k ≡ false) (first : Lasts h.holds h.finishings k m 0) where
  same_more : (o : Piece) (os : List (Act Piece)) → same_key o.key k ≡ true → IsLasting limits h k m os → IsLasting limits h k m (Brings o ∷ os)
  same_more o os s c =
      let j : Joiner = (run limits h os).holds in
      let ms : List ℕ = (run limits h os).finishings in
      let n : ℕ = others_finished limits h k os in
      let e : o.key ≡ k = same_key_true o.key k s in
      let there : is_among j.finished k ≡ true = lasts_among j ms k m n c.lasts in
      record {
        lasts =
            subst (λ b. Lasts (gateway_offered limits j o) (gateway_finishings limits j ms o) k m
            (cond (b || is_passed limits.alone o.key) n (length (finished_now (gateway_answer limits j o)) + n))) (sym s)
            (subst (λ i. Lasts i (gateway_finishings limits j ms o) k m n) (sym (holds_own limits j ms k o keeps e there))
            (subst (λ l. Lasts j l k m n) (sym (moments_own limits j ms k o keeps e there)) c.lasts));
        repeats = (λ t. repeats_own limits j ms k o keeps e there, c.repeats);
        none =
            ap (λ b. cond b (finished_now (gateway_answer limits j o) ++ finishes limits h k os) (finishes limits h k os)) s
            ∙ (ap (λ a. finished_now a ++ finishes limits h k os) (repeats_own limits j ms k o keeps e there) ∙ c.none);
      }

  other_more : (o : Piece) (os : List (Act Piece)) → same_key o.key k ≡ false
      → (others_finished limits h k os < limits.remembered → IsLasting limits h k m os)
      → others_finished limits h k (Brings o ∷ os) < limits.remembered
      → IsLasting limits h k m (Brings o ∷ os)
  other_more o os s ih less =
      record {
        lasts = subst (λ b. Lasts (gateway_offered limits j o) (gateway_finishings limits j ms o) k m (cond (b || is_passed limits.alone o.key) n (length (finished_now (gateway_answer limits j o)) + n))) (sym s)
            (go (is_passed limits.alone o.key) few);
        repeats = (λ t. let z : true ≡ false = sym t ∙ s in cc, (ih fewer).repeats);
        none = ap (λ b. cond b (finished_now (gateway_answer limits j o) ++ finishes limits h k os) (finishes limits h k os)) s ∙ (ih fewer).none;
      }
    where
      j : Joiner
      j = (run limits h os).holds

      ms : List ℕ
      ms = (run limits h os).finishings

      n : ℕ
      n = others_finished limits h k os

      few : cond (is_passed limits.alone o.key) n (length (finished_now (gateway_answer limits j o)) + n) < limits.remembered
      few = subst (λ b. cond (b || is_passed limits.alone o.key) n (length (finished_now (gateway_answer limits j o)) + n) < limits.remembered) s less

      fewer : n < limits.remembered
      fewer = at (is_passed limits.alone o.key) few
        where
          at : (b : Bool) → cond b n (length (finished_now (gateway_answer limits j o)) + n) < limits.remembered → n < limits.remembered
          at true l = l
          at false l = omega arith

      go : (b : Bool)
          → cond b n (length (finished_now (cond b (Finished (o.units ∷ [])) (answer limits.open_max j o))) + n) < limits.remembered
          → Lasts (cond b j (offered limits.open_max limits.remembered j o))
          (cond b ms (finishings_after limits.remembered ms o.moment (answer limits.open_max j o))) k m
          (cond b n (length (finished_now (cond b (Finished (o.units ∷ [])) (answer limits.open_max j o))) + n))
      go true l = (ih fewer).lasts
      go false l = lasts_other j ms k m n (ih fewer).lasts limits.open_max limits.remembered o s l

  pub is_lasting : (os : List (Act Piece)) → others_finished limits h k os < limits.remembered → NoneForgets limits.remember_for m os → IsLasting limits h k m os
  is_lasting [] few kept = record { lasts = first; repeats = tt; none = refl }
  is_lasting (Ages now ∷ os) few kept =
      let c = is_lasting os few kept.1 in
      record {
        lasts = lasts_aged limits (run limits h os) now k m (others_finished limits h k os) kept.0 c.lasts;
        repeats = c.repeats;
        none = c.none;
      }
  is_lasting (Brings o ∷ os) few kept = go (same_key o.key k) refl (λ l. is_lasting os l kept)
    where
      go : (b : Bool) → same_key o.key k ≡ b → (others_finished limits h k os < limits.remembered → IsLasting limits h k m os)
          → IsLasting limits h k m (Brings o ∷ os)
      go true s ih =
          same_more o os s
          (ih (subst (λ b. cond (b || is_passed limits.alone o.key) (others_finished limits h k os) (length (finished_now (gateway_answer limits (run limits h os).holds o)) + others_finished limits h k os) < limits.remembered) s few))
      go false s ih = other_more o os s ih few
