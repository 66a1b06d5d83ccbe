-- What is held of a set that has not finished: just the pieces that came.
use Rattle.std.proofs.Common.{◌≡◌, ◌≢◌, ℕ, zero, suc, ◌+◌, ◌-◌, ◌<◌, ◌≤◌, Bool, true, false, cond, ◌&&◌, ◌||◌, eqb, List, [], ◌∷◌, ◌++◌, take, length, get_or, refl, sym, ap, ◌∙◌, subst, arith}
use Rattle.std.proofs.lemmas.Bool.{eqb-true, and_parts, or_right, and_from, false_from_ne_true}
use Rattle.std.proofs.lemmas.List.{take_more, take_all}
use Rattle.sms_join.specs.declared.key.Key.{Key}
use Rattle.sms_join.specs.declared.units.Units.{Units}
use Rattle.sms_join.specs.declared.units.Units.TheVariants.{Gsm}
use Rattle.sms_join.specs.Key.{same_key}
use Rattle.sms_join.specs.Piece.{Piece}
use Rattle.sms_join.specs.Joiner.Sets.{has, has_all, units_at, units_upto, without}
use Rattle.sms_join.specs.Joiner.{Joiner, Finished, TooManyOpen, is_among, answer, answered, offered, decided, is_repeat, is_whole, has_room}
use Rattle.sms_join.specs.Joiner.Aging.{is_old_after, aged_after}
use Rattle.sms_join.specs.Joiner.Acts.{Act, Brings, Ages, brought}
use Rattle.sms_join.specs.Arrivals.Pieces.{IsPiece, ArePieces, finished_now}
use Rattle.sms_join.specs.Gateway.Answers.{gateway_answer, gateway_offered, is_passed}
use Rattle.sms_join.specs.Gateway.Value.{LimitsValue}
use Rattle.sms_once.specs.Run.{Held, held_aged, run}
use Rattle.sms_once.specs.Once.{IsNew, NoneDropped, NoneRefused, finishes}
use Rattle.sms_once.proofs.Keys.{same_key_refl, same_key_true}
use Rattle.sms_once.proofs.Sets.{has-closed, has-without, units_at-without, has_all-same, among_taken}
use Rattle.sms_once.proofs.Aged.{among_aged, has-young, units_at-young}

pub record Holds (j : Joiner) (k : Key) (us : List Units) (os : List Piece) : Type 0 where
  pub fresh : is_among j.finished k ≡ false
  pub same : (n : ℕ) → has j.kept k n ≡ has os k n
  pub right : (n : ℕ) → has j.kept k n ≡ true → units_at j.kept k n ≡ get_or us (n - 1) (Gsm [])

or_absorbs : (x y : Bool) → (x ≡ true → y ≡ true) → y ≡ (x || y)
or_absorbs true y h = h refl
or_absorbs false y h = refl

-- an offer under the key, before the set is whole
holds_repeat : (j : Joiner) (k : Key) (us : List Units) (os : List Piece) (o : Piece) → Holds j k us os
    → o.key ≡ k → is_repeat j o ≡ true → Holds j k us (o ∷ os)
unfolding is_repeat
holds_repeat j k us os o v e r =
    record {
      fresh = v.fresh;
      same = λ n. same' n;
      right = v.right;
    }
  where
    there : has j.kept k o.sequence ≡ true
    there = let h : (is_among j.finished k || has j.kept k o.sequence) ≡ true = rw (← e) r in
        rw v.fresh at h

    same' : (n : ℕ) → has j.kept k n ≡ has (o ∷ os) k n
    same' n = rw (e, same_key_refl k) (v.same n ∙ or_absorbs (eqb o.sequence n) (has os k n)
        (λ q. sym (v.same n) ∙ (ap (λ i. has j.kept k i) (sym (eqb-true _ _ q)) ∙ there)))

holds_kept : (j : Joiner) (k : Key) (us : List Units) (os : List Piece) (o : Piece) → Holds j k us os
    → o.key ≡ k → o.units ≡ get_or us (o.sequence - 1) (Gsm [])
    → Holds (record { kept = o ∷ j.kept; finished = j.finished }) k us (o ∷ os)
holds_kept j k us os o v e u =
    record {
      fresh = v.fresh;
      same = λ n. ap (λ b. (same_key o.key k && eqb o.sequence n) || b) (v.same n);
      right = λ n h. right' n (eqb o.sequence n) refl h;
    }
  where
    right' : (n : ℕ) (b : Bool) → eqb o.sequence n ≡ b → has (o ∷ j.kept) k n ≡ true
        → units_at (o ∷ j.kept) k n ≡ get_or us (n - 1) (Gsm [])
    right' n true q h = rw (e, same_key_refl k, q) (u ∙ ap (λ i. get_or us (i - 1) (Gsm [])) (eqb-true _ _ q))
    right' n false q h =
        let h' : has j.kept k n ≡ true = rw (e, same_key_refl k, q) at h in
        rw (e, same_key_refl k, q) (v.right n h')

-- an offer under another key
holds_other : (j : Joiner) (k : Key) (us : List Units) (os : List Piece) (o : Piece) → Holds j k us os
    → same_key o.key k ≡ false → Holds j k us (o ∷ os)
holds_other j k us os o v e =
    record { fresh = v.fresh; same = λ n. rw e (v.same n); right = v.right }

holds_other_kept : (j : Joiner) (k : Key) (us : List Units) (os : List Piece) (o : Piece) → Holds j k us os
    → same_key o.key k ≡ false → Holds (record { kept = o ∷ j.kept; finished = j.finished }) k us (o ∷ os)
holds_other_kept j k us os o v e =
    record { fresh = v.fresh; same = λ n. rw e (v.same n); right = λ n h. let h' : has j.kept k n ≡ true = rw e at h in rw e (v.right n h') }

holds_other_finished : (remembered : ℕ) (j : Joiner) (k : Key) (us : List Units) (os : List Piece) (o : Piece) → Holds j k us os
    → same_key o.key k ≡ false
    → Holds (record { kept = without j.kept o.key; finished = take remembered (o.key ∷ j.finished) }) k us (o ∷ os)
holds_other_finished remembered j k us os o v e =
    record {
      fresh = among_taken remembered (o.key ∷ j.finished) k (or_from' e v.fresh);
      same = λ n. rw e (has-without j.kept o.key k n e ∙ v.same n);
      right = λ n h.
          let h' : has j.kept k n ≡ true = sym (has-without j.kept o.key k n e) ∙ h in
          units_at-without j.kept o.key k n e ∙ v.right n h';
    }
  where
    or_from' : same_key o.key k ≡ false → is_among j.finished k ≡ false → is_among (o.key ∷ j.finished) k ≡ false
    or_from' a b = rw (a, b) refl

has_all-more : (o : Piece) (os : List Piece) (k : Key) (n : ℕ) → has_all os k n ≡ true → has_all (o ∷ os) k n ≡ true
has_all-more o os k zero h = refl
has_all-more o os k (suc n) h =
    let p = and_parts (has os k (suc n)) (has_all os k n) h in
    and_from _ _ (or_right _ _ p.0) (has_all-more o os k n p.1)

has_all-fewer : (o : Piece) (os : List Piece) (k : Key) (n : ℕ) → has_all (o ∷ os) k n ≡ false → has_all os k n ≡ false
has_all-fewer o os k n h = false_from_ne_true _ (λ t. let u : has_all (o ∷ os) k n ≡ true = has_all-more o os k n t in cc)

-- the set is whole where all pieces have come
whole_same : (j : Joiner) (k : Key) (us : List Units) (os : List Piece) (o : Piece) → Holds j k us os
    → o.key ≡ k → o.maximum ≡ length us → is_whole j o ≡ has_all (o ∷ os) k (length us)
unfolding is_whole
whole_same j k us os o v e m =
    ap (λ l. has_all (o ∷ j.kept) l o.maximum) e ∙ (ap (λ i. has_all (o ∷ j.kept) k i) m ∙ (has_all-same (o ∷ j.kept) (o ∷ os) k (length us)
    (λ n. ap (λ b. (same_key o.key k && eqb o.sequence n) || b) (v.same n))))

-- what one offer does before the set is whole
record Next (open_max remembered : ℕ) (j : Joiner) (k : Key) (us : List Units) (os : List Piece) (o : Piece) : Type 0 where
  holds : Holds (offered open_max remembered j o) k us (o ∷ os)
  none : same_key o.key k ≡ true → finished_now (answer open_max j o) ≡ []

next_same : (open_max remembered : ℕ) (j : Joiner) (k : Key) (us : List Units) (os : List Piece) (o : Piece) → Holds j k us os
    → o.key ≡ k → IsPiece k us o → answer open_max j o ≢ TooManyOpen → has_all (o ∷ os) k (length us) ≡ false
    → Next open_max remembered j k us os o
unfolding offered answer answered decided
next_same open_max remembered j k us os o v e piece allowed part =
    record {
      holds = go (is_repeat j o) refl (is_whole j o) refl (has_room open_max j o) refl allowed;
      none = λ _. none' (is_repeat j o) (is_whole j o) refl (has_room open_max j o);
    }
  where
    pieces : (o.maximum ≡ length us) × (0 < o.sequence) × (o.sequence ≤ length us)
        × (o.units ≡ get_or us (o.sequence - 1) (Gsm []))
    pieces = piece (rw e (same_key_refl k))

    not_whole : is_whole j o ≡ true → ⊥
    not_whole t = let s = whole_same j k us os o v e pieces.0 in cc

    go : (b : Bool) → is_repeat j o ≡ b → (w : Bool) → is_whole j o ≡ w → (r : Bool) → has_room open_max j o ≡ r
        → decided b w r (units_upto (o ∷ j.kept) o.key o.maximum) ≢ TooManyOpen
        → Holds (answered remembered j o (decided b w r (units_upto (o ∷ j.kept) o.key o.maximum))) k us (o ∷ os)
    go true p w q r x n = holds_repeat j k us os o v e p
    go false p true q r x n = absurd (not_whole q)
    go false p false q true x n = holds_kept j k us os o v e pieces.3
    go false p false q false x n = absurd (n refl)

    none' : (b w : Bool) → is_whole j o ≡ w → (r : Bool)
        → finished_now (decided b w r (units_upto (o ∷ j.kept) o.key o.maximum)) ≡ []
    none' true w q r = refl
    none' false true q r = absurd (not_whole q)
    none' false false q true = refl
    none' false false q false = refl

next_other : (open_max remembered : ℕ) (j : Joiner) (k : Key) (us : List Units) (os : List Piece) (o : Piece) → Holds j k us os
    → same_key o.key k ≡ false → Holds (offered open_max remembered j o) k us (o ∷ os)
unfolding offered answer answered decided
next_other open_max remembered j k us os o v e = go (is_repeat j o) (is_whole j o) (has_room open_max j o)
  where
    go : (b w r : Bool)
        → Holds (answered remembered j o (decided b w r (units_upto (o ∷ j.kept) o.key o.maximum))) k us (o ∷ os)
    go true w r = holds_other j k us os o v e
    go false true r = holds_other_finished remembered j k us os o v e
    go false false true = holds_other_kept j k us os o v e
    go false false false = holds_other j k us os o v e

module _ (limits : LimitsValue) (j : Joiner) (k : Key) (us : List Units) (os : List Piece) (o : Piece) (v : Holds j k us os) where
  -- to a joiner for many recipients, where the key is not passed
  held_same : is_passed limits.alone k ≡ false → o.key ≡ k → IsPiece k us o → gateway_answer limits j o ≢ TooManyOpen
      → has_all (o ∷ os) k (length us) ≡ false
      → Holds (gateway_offered limits j o) k us (o ∷ os) × (finished_now (gateway_answer limits j o) ≡ [])
  held_same keeps e piece allowed part = (
    subst (λ b. Holds (cond b j (offered limits.open_max limits.remembered j o)) k us (o ∷ os)) (sym own) next.holds,
    ap (λ b. finished_now (cond b (Finished (o.units ∷ [])) (answer limits.open_max j o))) own ∙ next.none (rw e (same_key_refl k)),
  )
    where
      own : is_passed limits.alone o.key ≡ false
      own = ap (is_passed limits.alone) e ∙ keeps

      next : Next limits.open_max limits.remembered j k us os o
      next =
          next_same limits.open_max limits.remembered j k us os o v e piece
          (subst (λ b. cond b (Finished (o.units ∷ [])) (answer limits.open_max j o) ≢ TooManyOpen) own allowed) part

  held_other : same_key o.key k ≡ false → Holds (gateway_offered limits j o) k us (o ∷ os)
  held_other e = go (is_passed limits.alone o.key)
    where
      go : (b : Bool) → Holds (cond b j (offered limits.open_max limits.remembered j o)) k us (o ∷ os)
      go true = holds_other j k us os o v e
      go false = next_other limits.open_max limits.remembered j k us os o v e

-- an aging that does not drop the set
held_aging : (limits : LimitsValue) (now : ℕ) (h : Held) (k : Key) (us : List Units) (os : List Piece) → Holds h.holds k us os
    → is_old_after limits.open_for now h.holds.kept k ≡ false → Holds (held_aged limits h now).holds k us os
unfolding aged_after
held_aging limits now h k us os v stays =
    record {
      fresh = among_aged limits.remember_for now h.holds.finished h.finishings k v.fresh;
      same = λ n. has-young (is_old_after limits.open_for now h.holds.kept) k h.holds.kept n stays ∙ v.same n;
      right = λ n t.
          units_at-young (is_old_after limits.open_for now h.holds.kept) k h.holds.kept n stays
          ∙ v.right n (sym (has-young (is_old_after limits.open_for now h.holds.kept) k h.holds.kept n stays) ∙ t);
    }

-- all that came so far is held, and nothing finished
pub before_whole : (limits : LimitsValue) (h : Held) (k : Key) (us : List Units) (os : List (Act Piece))
    → is_passed limits.alone k ≡ false → IsNew h.holds k → ArePieces k us os
    → NoneRefused limits h k os → NoneDropped limits h k os → has_all (brought os) k (length us) ≡ false
    → Holds (run limits h os).holds k us (brought os) × (finishes limits h k os ≡ [])
before_whole limits h k us [] keeps a c d f e =
    (record { fresh = a.not_remembered; same = λ n. has-closed h.holds.kept k n a.not_open; right = λ n t. let z = has-closed h.holds.kept k n a.not_open in cc }, refl)
before_whole limits h k us (Ages now ∷ os) keeps a c d f e =
    let ih = before_whole limits h k us os keeps a c d f.1 e in
    (held_aging limits now (run limits h os) k us (brought os) ih.0 f.0, ih.1)
before_whole limits h k us (Brings o ∷ os) keeps a c d f e =
    go (before_whole limits h k us os keeps a c.1 d.1 f (has_all-fewer o (brought os) k (length us) e)) (same_key o.key k) refl
  where
    go : Holds (run limits h os).holds k us (brought os) × (finishes limits h k os ≡ [])
        → (s : Bool) → same_key o.key k ≡ s
        → Holds (gateway_offered limits (run limits h os).holds o) k us (o ∷ brought os)
        × (cond s (finished_now (gateway_answer limits (run limits h os).holds o) ++ finishes limits h k os) (finishes limits h k os) ≡ [])
    go ih true s =
        let n = held_same limits (run limits h os).holds k us (brought os) o ih.0 keeps (same_key_true o.key k s) c.0 (d.0 s) e in
        (n.0, ap (λ l. l ++ finishes limits h k os) n.1 ∙ ih.1)
    go ih false s = (held_other limits (run limits h os).holds k us (brought os) o ih.0 s, ih.1)

-- the pieces in order
units_upto_is : (ps : List Piece) (k : Key) (us : List Units) (n : ℕ)
    → ((i : ℕ) → has ps k i ≡ true → units_at ps k i ≡ get_or us (i - 1) (Gsm []))
    → n ≤ length us → has_all ps k n ≡ true → units_upto ps k n ≡ take n us
units_upto_is ps k us zero right h a = refl
units_upto_is ps k us (suc n) right h a =
    let p = and_parts (has ps k (suc n)) (has_all ps k n) a in
    let ih : units_upto ps k n ≡ take n us = units_upto_is ps k us n right (omega arith) p.1 in
    let less : n < length us = omega arith in
    let at : units_at ps k (suc n) ≡ get_or us (suc n - 1) (Gsm []) = right (suc n) p.0 in
    let e : suc n - 1 ≡ n = omega arith in
    let e' : n + 1 ≡ suc n = omega arith in
    let step : take (n + 1) us ≡ take n us ++ get_or us n (Gsm []) ∷ [] = take_more us n (Gsm []) less in
    rw (ih, at, e, ← step, e') refl

-- the offer by which all pieces have come
pub at_whole : (open_max : ℕ) (j : Joiner) (k : Key) (us : List Units) (os : List Piece) (o : Piece) → Holds j k us os
    → o.key ≡ k → IsPiece k us o
    → has_all os k (length us) ≡ false → has_all (o ∷ os) k (length us) ≡ true
    → answer open_max j o ≡ Finished us
unfolding answer decided is_repeat
at_whole open_max j k us os o v e piece part all = is_finished
  where
    pieces : (o.maximum ≡ length us) × (0 < o.sequence) × (o.sequence ≤ length us)
        × (o.units ≡ get_or us (o.sequence - 1) (Gsm []))
    pieces = piece (rw e (same_key_refl k))

    kept : Holds (record { kept = o ∷ j.kept; finished = j.finished }) k us (o ∷ os)
    kept = holds_kept j k us os o v e pieces.3

    old : has os k o.sequence ≡ true → ⊥
    old t =
        let s : has_all os k (length us) ≡ has_all (o ∷ os) k (length us) =
        has_all-same os (o ∷ os) k (length us) (λ n. or_absorbs (same_key o.key k && eqb o.sequence n) (has os k n)
        (λ q. let r = and_parts (same_key o.key k) (eqb o.sequence n) q in
        ap (has os k) (sym (eqb-true o.sequence n r.1)) ∙ t)) in
        cc

    new : has j.kept k o.sequence ≡ false
    new = v.same o.sequence ∙ false_from_ne_true _ old

    repeat' : is_repeat j o ≡ false
    repeat' = ap (λ l. is_among j.finished l || has j.kept l o.sequence) e ∙ rw (v.fresh, new) refl

    whole : is_whole j o ≡ true
    whole = whole_same j k us os o v e pieces.0 ∙ all

    there : has_all (o ∷ j.kept) k (length us) ≡ true
    there = has_all-same (o ∷ j.kept) (o ∷ os) k (length us) kept.same ∙ all

    units : units_upto (o ∷ j.kept) o.key o.maximum ≡ us
    units = ap (λ l. units_upto (o ∷ j.kept) l o.maximum) e ∙ (ap (units_upto (o ∷ j.kept) k) pieces.0
        ∙ (units_upto_is (o ∷ j.kept) k us (length us) kept.right (omega arith) there
        ∙ take_all (length us) us (omega arith)))

    is_finished : answer open_max j o ≡ Finished us
    is_finished = rw (repeat', whole, units) refl
