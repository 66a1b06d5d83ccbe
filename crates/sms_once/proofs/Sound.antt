-- No key comes to be remembered twice, and each has its moment.
use Rattle.std.proofs.Common.{◌≡◌, ℕ, zero, suc, Bool, true, false, cond, ◌||◌, List, [], ◌∷◌, take, length, Option, refl, sym, ap, ◌∙◌, subst, arith}
use Rattle.std.proofs.lemmas.Bool.{or_parts}
use Rattle.sms_join.specs.declared.key.Key.{Key}
use Rattle.sms_join.specs.Key.{same_key}
use Rattle.sms_join.specs.Piece.{Piece}
use Rattle.sms_join.specs.Joiner.Sets.{has, is_open, units_upto, without}
use Rattle.sms_join.specs.Joiner.{Joiner, new_joiner, is_among, is_repeat, is_whole, has_room, decided, answer, answered, offered}
use Rattle.sms_join.specs.Joiner.Aging.{is_old_after, aged_after}
use Rattle.sms_join.specs.Joiner.Acts.{Act, Brings, Ages}
use Rattle.sms_join.specs.Gateway.Answers.{gateway_finishings, gateway_offered, is_passed}
use Rattle.sms_join.specs.Gateway.Distinct.{NoneTwice}
use Rattle.sms_join.specs.Gateway.Finishings.{Fall, finishings_after, is_forgotten, keys_at, not_before}
use Rattle.sms_join.specs.Gateway.Value.{LimitsValue}
use Rattle.sms_once.specs.Run.{Held, held_aged, new_held, run}
use Rattle.sms_once.specs.Sound.{IsSound, RunsStaySound}
use Rattle.sms_once.proofs.Keys.{same_key_true}
use Rattle.sms_once.proofs.Sets.{among_taken, open-without_same, open_before}
use Rattle.sms_once.proofs.Aged.{among_aged, as_many_aged, open_young}
use Rattle.sms_once.proofs.Falling.{fall_forgotten, fall_noted}

-- ---- distinct keys

twice_taken : (n : ℕ) (ks : List Key) → NoneTwice ks → NoneTwice (take n ks)
twice_taken zero ks h = tt
twice_taken (suc n) [] h = tt
twice_taken (suc n) (k ∷ ks) h = (among_taken n ks k h.0, twice_taken n ks h.1)

twice_aged : (longest : Option ℕ) (now : ℕ) (ks : List Key) (ms : List ℕ) → NoneTwice ks → NoneTwice (keys_at longest now ks ms)
twice_aged longest now [] ms h = tt
twice_aged longest now (k ∷ ks) [] h = tt
twice_aged longest now (k ∷ ks) (m ∷ ms) h = go (is_forgotten longest now m) (twice_aged longest now ks ms h.1)
  where
    go : (b : Bool) → NoneTwice (keys_at longest now ks ms) → NoneTwice (cond b (keys_at longest now ks ms) (k ∷ keys_at longest now ks ms))
    go true r = r
    go false r = (among_aged longest now ks ms k h.0, r)

-- ---- as many moments as keys

taken_alike : {X Y : Type 0} (n : ℕ) (xs : List X) (ys : List Y) → length xs ≡ length ys → length (take n xs) ≡ length (take n ys)
taken_alike zero xs ys e = refl
taken_alike (suc n) [] [] e = refl
taken_alike (suc n) [] (y ∷ ys) e = absurd (omega (arith, e))
taken_alike (suc n) (x ∷ xs) [] e = absurd (omega (arith, e))
taken_alike (suc n) (x ∷ xs) (y ∷ ys) e = ap suc (taken_alike n xs ys (omega (arith, e)))

-- what is so of a joiner and its moments
record Stands (j : Joiner) (ms : List ℕ) : Type 0 where
  once : NoneTwice j.finished
  closed : (k : Key) → is_open j.kept k ≡ true → is_among j.finished k ≡ false
  as_many : length ms ≡ length j.finished
  fall : Fall ms

module _ (j : Joiner) (ms : List ℕ) (s : Stands j ms) where
  stands_past : (remembered : ℕ) (p : Piece) → is_among j.finished p.key ≡ false
      → Stands (record { kept = without j.kept p.key; finished = take remembered (p.key ∷ j.finished) }) (take remembered (not_before ms p.moment ∷ ms))
  stands_past remembered p f =
      record {
        once = twice_taken remembered (p.key ∷ j.finished) (f, s.once);
        closed = λ k e. among_taken remembered (p.key ∷ j.finished) k (go k (same_key p.key k) refl e);
        as_many = taken_alike remembered (not_before ms p.moment ∷ ms) (p.key ∷ j.finished) (ap suc s.as_many);
        fall = fall_noted remembered p.moment ms s.fall;
      }
    where
      go : (k : Key) (b : Bool) → same_key p.key k ≡ b → is_open (without j.kept p.key) k ≡ true → (same_key p.key k || is_among j.finished k) ≡ false
      go k true t e =
          let gone : is_open (without j.kept p.key) k ≡ false = subst (λ (m : Key). is_open (without j.kept p.key) m ≡ false) (same_key_true p.key k t) (open-without_same j.kept p.key) in
          let z : true ≡ false = sym e ∙ gone in
          cc
      go k false t e = ap (λ b. b || is_among j.finished k) t ∙ s.closed k (open_before j.kept p.key k e)

  stands_kept : (p : Piece) → is_among j.finished p.key ≡ false → Stands (record { kept = p ∷ j.kept; finished = j.finished }) ms
  stands_kept p f = record { once = s.once; closed = λ k e. go k (same_key p.key k) refl e; as_many = s.as_many; fall = s.fall }
    where
      go : (k : Key) (b : Bool) → same_key p.key k ≡ b → (b || is_open j.kept k) ≡ true → is_among j.finished k ≡ false
      go k true t e = ap (is_among j.finished) (sym (same_key_true p.key k t)) ∙ f
      go k false t e = s.closed k e

  -- after an offer
  stands_offered : (open_max remembered : ℕ) (p : Piece)
      → Stands (offered open_max remembered j p) (finishings_after remembered ms p.moment (answer open_max j p))
  unfolding offered answer answered decided is_repeat
  stands_offered open_max remembered p = go (is_repeat j p) refl (is_whole j p) (has_room open_max j p)
    where
      go : (a : Bool) → is_repeat j p ≡ a → (b c : Bool)
          → Stands (answered remembered j p (decided a b c (units_upto (p ∷ j.kept) p.key p.maximum)))
          (finishings_after remembered ms p.moment (decided a b c (units_upto (p ∷ j.kept) p.key p.maximum)))
      go true e b c = s
      go false e true c = stands_past remembered p (or_parts (is_among j.finished p.key) (has j.kept p.key p.sequence) e).0
      go false e false true = stands_kept p (or_parts (is_among j.finished p.key) (has j.kept p.key p.sequence) e).0
      go false e false false = s

  stands_held : (limits : LimitsValue) (p : Piece) → Stands (gateway_offered limits j p) (gateway_finishings limits j ms p)
  stands_held limits p = go (is_passed limits.alone p.key)
    where
      go : (b : Bool)
          → Stands (cond b j (offered limits.open_max limits.remembered j p)) (cond b ms (finishings_after limits.remembered ms p.moment (answer limits.open_max j p)))
      go true = s
      go false = stands_offered limits.open_max limits.remembered p

-- after an aging
stands_aged : (limits : LimitsValue) (h : Held) (now : ℕ) → Stands h.holds h.finishings → Stands (held_aged limits h now).holds (held_aged limits h now).finishings
unfolding aged_after
stands_aged limits h now s =
    record {
      once = twice_aged limits.remember_for now h.holds.finished h.finishings s.once;
      closed = λ k e.
          among_aged limits.remember_for now h.holds.finished h.finishings k
          (s.closed k (open_young (is_old_after limits.open_for now h.holds.kept) h.holds.kept k e));
      as_many = as_many_aged limits.remember_for now h.holds.finished h.finishings s.as_many;
      fall = fall_forgotten limits.remember_for now h.finishings s.fall;
    }

stands_run : (limits : LimitsValue) (h : Held) (acts : List (Act Piece)) → Stands h.holds h.finishings → Stands (run limits h acts).holds (run limits h acts).finishings
stands_run limits h [] s = s
stands_run limits h (Brings p ∷ acts) s = stands_held (run limits h acts).holds (run limits h acts).finishings (stands_run limits h acts s) limits p
stands_run limits h (Ages now ∷ acts) s = stands_aged limits (run limits h acts) now (stands_run limits h acts s)

sound : (h : Held) → Stands h.holds h.finishings → IsSound h
sound h s = record { distinct = record { once = s.once; closed = s.closed }; as_many = s.as_many; fall = s.fall }

pub runs_stay_sound : RunsStaySound
unfolding new_joiner
runs_stay_sound =
    record {
      new = sound new_held (record { once = tt; closed = λ k e. refl; as_many = refl; fall = tt });
      stays = λ limits h acts s.
          sound (run limits h acts)
          (stands_run limits h acts (record { once = s.distinct.once; closed = s.distinct.closed; as_many = s.as_many; fall = s.fall }));
    }
