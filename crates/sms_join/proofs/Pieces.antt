-- The law of the pieces of one text.
use Rattle.std.proofs.Common.{◌≡◌, ◌≢◌, ℕ, zero, suc, ◌+◌, ◌-◌, ◌<◌, ◌≤◌, Bool, true, false, cond, ◌&&◌, ◌||◌, eqb, List, [], ◌∷◌, ◌++◌, take, length, get_or, refl, sym, ap, ◌∙◌, arith}
use Rattle.std.proofs.lemmas.Bool.{eqb-true, and_parts, or_parts, or_right, and_from, false_from_ne_true}
use Rattle.std.proofs.lemmas.List.{take_more, take_all, take-take, append_assoc}
use Rattle.sms_join.specs.declared.key.Key.{Key}
use Rattle.sms_join.specs.declared.units.Units.{Units}
use Rattle.sms_join.specs.declared.units.Units.TheVariants.{Gsm}
use Rattle.sms_join.specs.Key.{same_key}
use Rattle.sms_join.specs.Piece.{Piece}
use Rattle.sms_join.specs.Joiner.Sets.{has, has_all, units_at, units_upto, without, is_open}
use Rattle.sms_join.specs.Joiner.{Joiner, Repeat, Finished, TooManyOpen, is_among, answer, answered, offered, decided, is_repeat, is_whole, has_room}
use Rattle.sms_join.specs.Joiner.Aging.{is_old, young, aged}
use Rattle.sms_join.specs.Joiner.Acts.{Act, Brings, Ages, brought, acted, acted_all}
use Rattle.sms_join.specs.Arrivals.Pieces.{IsPiece, ArePieces, finished_now, finishes, others_finished, NoneRefused, NoneDropped, FinishesOnce, FinishesText}
use Rattle.sms_join.specs.Reading.{text_of_segments}
use Rattle.sms_join.proofs.ReadingLaws.{cut_read}
use Rattle.sms_join.proofs.SameKeys.{same_key_refl, same_key_true}
use Rattle.sms_join.proofs.Young.{has-young, has-gone, units_at-young}
use Rattle.sms_join.proofs.Sets.{has-without, units_at-without, has_all-same, is_among-take}

-- what the joiner holds of a set that has not finished: just the pieces that came
record Holds (j : Joiner) (k : Key) (us : List Units) (os : List Piece) : Type 0 where
  fresh : is_among j.finished k ≡ false
  same : (n : ℕ) → has j.kept k n ≡ has os k n
  right : (n : ℕ) → has j.kept k n ≡ true → units_at j.kept k n ≡ get_or us (n - 1) (Gsm [])

has-closed : (ps : List Piece) (k : Key) (n : ℕ) → is_open ps k ≡ false → has ps k n ≡ false
has-closed [] k n h = refl
has-closed (p ∷ ps) k n h =
    let q = or_parts (same_key p.key k) (is_open ps k) h in
    rw (q.0, has-closed ps k n q.1) refl

or_absorbs : (x y : Bool) → (x ≡ true → y ≡ true) → y ≡ (x || y)
or_absorbs true y h = h refl
or_absorbs false y h = refl

-- an offer under the key, before the set is whole
holds_repeat : (j : Joiner) (k : Key) (us : List Units) (os : List Piece) (o : Piece) → Holds j k us os
    → o.key ≡ k → is_repeat j o ≡ true → Holds j k us (o ∷ os)
unfolding is_repeat
holds_repeat j k us os o v e r =
    record {
      fresh = v.fresh;
      same = λ n. same' n;
      right = v.right;
    }
  where
    there : has j.kept k o.sequence ≡ true
    there = let h : (is_among j.finished k || has j.kept k o.sequence) ≡ true = rw (← e) r in
        rw v.fresh at h

    same' : (n : ℕ) → has j.kept k n ≡ has (o ∷ os) k n
    same' n = rw (e, same_key_refl k) (v.same n ∙ or_absorbs (eqb o.sequence n) (has os k n)
        (λ q. sym (v.same n) ∙ (ap (λ i. has j.kept k i) (sym (eqb-true _ _ q)) ∙ there)))

holds_kept : (j : Joiner) (k : Key) (us : List Units) (os : List Piece) (o : Piece) → Holds j k us os
    → o.key ≡ k → o.units ≡ get_or us (o.sequence - 1) (Gsm [])
    → Holds (record { kept = o ∷ j.kept; finished = j.finished }) k us (o ∷ os)
holds_kept j k us os o v e u =
    record {
      fresh = v.fresh;
      same = λ n. ap (λ b. (same_key o.key k && eqb o.sequence n) || b) (v.same n);
      right = λ n h. right' n (eqb o.sequence n) refl h;
    }
  where
    right' : (n : ℕ) (b : Bool) → eqb o.sequence n ≡ b → has (o ∷ j.kept) k n ≡ true
        → units_at (o ∷ j.kept) k n ≡ get_or us (n - 1) (Gsm [])
    right' n true q h = rw (e, same_key_refl k, q) (u ∙ ap (λ i. get_or us (i - 1) (Gsm [])) (eqb-true _ _ q))
    right' n false q h =
        let h' : has j.kept k n ≡ true = rw (e, same_key_refl k, q) at h in
        rw (e, same_key_refl k, q) (v.right n h')

-- an offer under another key
holds_other : (j : Joiner) (k : Key) (us : List Units) (os : List Piece) (o : Piece) → Holds j k us os
    → same_key o.key k ≡ false → Holds j k us (o ∷ os)
holds_other j k us os o v e =
    record { fresh = v.fresh; same = λ n. rw e (v.same n); right = v.right }

holds_other_kept : (j : Joiner) (k : Key) (us : List Units) (os : List Piece) (o : Piece) → Holds j k us os
    → same_key o.key k ≡ false → Holds (record { kept = o ∷ j.kept; finished = j.finished }) k us (o ∷ os)
holds_other_kept j k us os o v e =
    record { fresh = v.fresh; same = λ n. rw e (v.same n); right = λ n h. let h' : has j.kept k n ≡ true = rw e at h in rw e (v.right n h') }

holds_other_finished : (remembered : ℕ) (j : Joiner) (k : Key) (us : List Units) (os : List Piece) (o : Piece) → Holds j k us os
    → same_key o.key k ≡ false
    → Holds (record { kept = without j.kept o.key; finished = take remembered (o.key ∷ j.finished) }) k us (o ∷ os)
holds_other_finished remembered j k us os o v e =
    record {
      fresh = is_among-take remembered (o.key ∷ j.finished) k (or_from' e v.fresh);
      same = λ n. rw e (has-without j.kept o.key k n e ∙ v.same n);
      right = λ n h.
          let h' : has j.kept k n ≡ true = sym (has-without j.kept o.key k n e) ∙ h in
          units_at-without j.kept o.key k n e ∙ v.right n h';
    }
  where
    or_from' : same_key o.key k ≡ false → is_among j.finished k ≡ false → is_among (o.key ∷ j.finished) k ≡ false
    or_from' a b = rw (a, b) refl

has_all-more : (o : Piece) (os : List Piece) (k : Key) (n : ℕ) → has_all os k n ≡ true → has_all (o ∷ os) k n ≡ true
has_all-more o os k zero h = refl
has_all-more o os k (suc n) h =
    let p = and_parts (has os k (suc n)) (has_all os k n) h in
    and_from _ _ (or_right _ _ p.0) (has_all-more o os k n p.1)

has_all-fewer : (o : Piece) (os : List Piece) (k : Key) (n : ℕ) → has_all (o ∷ os) k n ≡ false → has_all os k n ≡ false
has_all-fewer o os k n h = false_from_ne_true _ (λ t. let u : has_all (o ∷ os) k n ≡ true = has_all-more o os k n t in cc)

-- the set is whole where all pieces have come
whole_same : (j : Joiner) (k : Key) (us : List Units) (os : List Piece) (o : Piece) → Holds j k us os
    → o.key ≡ k → o.maximum ≡ length us → is_whole j o ≡ has_all (o ∷ os) k (length us)
unfolding is_whole
whole_same j k us os o v e m =
    ap (λ l. has_all (o ∷ j.kept) l o.maximum) e ∙ (ap (λ i. has_all (o ∷ j.kept) k i) m ∙ (has_all-same (o ∷ j.kept) (o ∷ os) k (length us)
    (λ n. ap (λ b. (same_key o.key k && eqb o.sequence n) || b) (v.same n))))

-- what one offer does before the set is whole
record Next (open_max remembered : ℕ) (j : Joiner) (k : Key) (us : List Units) (os : List Piece) (o : Piece) : Type 0 where
  holds : Holds (offered open_max remembered j o) k us (o ∷ os)
  none : same_key o.key k ≡ true → finished_now (answer open_max j o) ≡ []

next_same : (open_max remembered : ℕ) (j : Joiner) (k : Key) (us : List Units) (os : List Piece) (o : Piece) → Holds j k us os
    → o.key ≡ k → IsPiece k us o → answer open_max j o ≢ TooManyOpen → has_all (o ∷ os) k (length us) ≡ false
    → Next open_max remembered j k us os o
unfolding offered answer answered decided
next_same open_max remembered j k us os o v e piece allowed part =
    record {
      holds = go (is_repeat j o) refl (is_whole j o) refl (has_room open_max j o) refl allowed;
      none = λ _. none' (is_repeat j o) (is_whole j o) refl (has_room open_max j o);
    }
  where
    pieces : (o.maximum ≡ length us) × (0 < o.sequence) × (o.sequence ≤ length us)
        × (o.units ≡ get_or us (o.sequence - 1) (Gsm []))
    pieces = piece (rw e (same_key_refl k))

    not_whole : is_whole j o ≡ true → ⊥
    not_whole t = let s = whole_same j k us os o v e pieces.0 in cc

    go : (b : Bool) → is_repeat j o ≡ b → (w : Bool) → is_whole j o ≡ w → (r : Bool) → has_room open_max j o ≡ r
        → decided b w r (units_upto (o ∷ j.kept) o.key o.maximum) ≢ TooManyOpen
        → Holds (answered remembered j o (decided b w r (units_upto (o ∷ j.kept) o.key o.maximum))) k us (o ∷ os)
    go true p w q r x n = holds_repeat j k us os o v e p
    go false p true q r x n = absurd (not_whole q)
    go false p false q true x n = holds_kept j k us os o v e pieces.3
    go false p false q false x n = absurd (n refl)

    none' : (b w : Bool) → is_whole j o ≡ w → (r : Bool)
        → finished_now (decided b w r (units_upto (o ∷ j.kept) o.key o.maximum)) ≡ []
    none' true w q r = refl
    none' false true q r = absurd (not_whole q)
    none' false false q true = refl
    none' false false q false = refl

next_other : (open_max remembered : ℕ) (j : Joiner) (k : Key) (us : List Units) (os : List Piece) (o : Piece) → Holds j k us os
    → same_key o.key k ≡ false → Holds (offered open_max remembered j o) k us (o ∷ os)
unfolding offered answer answered decided
next_other open_max remembered j k us os o v e = go (is_repeat j o) (is_whole j o) (has_room open_max j o)
  where
    go : (b w r : Bool)
        → Holds (answered remembered j o (decided b w r (units_upto (o ∷ j.kept) o.key o.maximum))) k us (o ∷ os)
    go true w r = holds_other j k us os o v e
    go false true r = holds_other_finished remembered j k us os o v e
    go false false true = holds_other_kept j k us os o v e
    go false false false = holds_other j k us os o v e

-- an aging that does not drop the set
holds_aged : (now : ℕ) (j : Joiner) (k : Key) (us : List Units) (os : List Piece) → Holds j k us os
    → (is_open j.kept k ≡ true → is_old now j.kept k ≡ false) → Holds (aged now j) k us os
unfolding aged
holds_aged now j k us os v stays =
    record {
      fresh = v.fresh;
      same = λ n. there n (is_old now j.kept k) refl (is_open j.kept k) refl ∙ v.same n;
      right = λ n h. right' n (is_old now j.kept k) refl h;
    }
  where
    there : (n : ℕ) (b : Bool) → is_old now j.kept k ≡ b → (c : Bool) → is_open j.kept k ≡ c → has (young (is_old now j.kept) j.kept) k n ≡ has j.kept k n
    there n false e c f = has-young (is_old now j.kept) k j.kept n e
    there n true e true f = let z = stays f in let q : true ≡ false = sym e ∙ z in cc
    there n true e false f = has-gone (is_old now j.kept) k j.kept n e ∙ sym (has-closed j.kept k n f)

    right' : (n : ℕ) (b : Bool) → is_old now j.kept k ≡ b → has (young (is_old now j.kept) j.kept) k n ≡ true
        → units_at (young (is_old now j.kept) j.kept) k n ≡ get_or us (n - 1) (Gsm [])
    right' n false e h =
        units_at-young (is_old now j.kept) k j.kept n e ∙ v.right n (sym (has-young (is_old now j.kept) k j.kept n e) ∙ h)
    right' n true e h = let z = has-gone (is_old now j.kept) k j.kept n e in let q : true ≡ false = sym h ∙ z in cc

-- all that came so far is held, and nothing finished
before_whole : (open_max remembered : ℕ) (j : Joiner) (k : Key) (us : List Units) (os : List (Act Piece))
    → is_open j.kept k ≡ false → is_among j.finished k ≡ false → ArePieces k us os
    → NoneRefused open_max remembered j k os → NoneDropped open_max remembered j k os → has_all (brought os) k (length us) ≡ false
    → Holds (acted_all open_max remembered j os) k us (brought os) × (finishes open_max remembered j k os ≡ [])
before_whole open_max remembered j k us [] a b c d f e =
    (record { fresh = b; same = λ n. has-closed j.kept k n a; right = λ n h. let z = has-closed j.kept k n a in cc }, refl)
before_whole open_max remembered j k us (Ages now ∷ os) a b c d f e =
    let ih = before_whole open_max remembered j k us os a b c d f.1 e in
    (holds_aged now (acted_all open_max remembered j os) k us (brought os) ih.0 f.0, ih.1)
before_whole open_max remembered j k us (Brings o ∷ os) a b c d f e =
    go (before_whole open_max remembered j k us os a b c.1 d.1 f (has_all-fewer o (brought os) k (length us) e)) (same_key o.key k) refl
  where
    go : Holds (acted_all open_max remembered j os) k us (brought os) × (finishes open_max remembered j k os ≡ [])
        → (s : Bool) → same_key o.key k ≡ s
        → Holds (acted_all open_max remembered j (Brings o ∷ os)) k us (o ∷ brought os)
        × (cond s (finished_now (answer open_max (acted_all open_max remembered j os) o) ++ finishes open_max remembered j k os)
        (finishes open_max remembered j k os) ≡ [])
    go ih true s =
        let n = next_same open_max remembered (acted_all open_max remembered j os) k us (brought os) o ih.0 (same_key_true o.key k s) c.0 (d.0 s) e in
        (n.holds, rw (n.none s, ih.1) refl)
    go ih false s = (next_other open_max remembered (acted_all open_max remembered j os) k us (brought os) o ih.0 s, ih.1)

-- the pieces in order
pub units_upto_is : (ps : List Piece) (k : Key) (us : List Units) (n : ℕ)
    → ((i : ℕ) → has ps k i ≡ true → units_at ps k i ≡ get_or us (i - 1) (Gsm []))
    → n ≤ length us → has_all ps k n ≡ true → units_upto ps k n ≡ take n us
units_upto_is ps k us zero right h a = refl
units_upto_is ps k us (suc n) right h a =
    let p = and_parts (has ps k (suc n)) (has_all ps k n) a in
    let ih : units_upto ps k n ≡ take n us = units_upto_is ps k us n right (omega arith) p.1 in
    let less : n < length us = omega arith in
    let at : units_at ps k (suc n) ≡ get_or us (suc n - 1) (Gsm []) = right (suc n) p.0 in
    let e : suc n - 1 ≡ n = omega arith in
    let e' : n + 1 ≡ suc n = omega arith in
    let step : take (n + 1) us ≡ take n us ++ get_or us n (Gsm []) ∷ [] = take_more us n (Gsm []) less in
    rw (ih, at, e, ← step, e') refl

-- the offer by which all pieces have come
at_whole : (open_max remembered : ℕ) (j : Joiner) (k : Key) (us : List Units) (os : List Piece) (o : Piece) → Holds j k us os
    → o.key ≡ k → IsPiece k us o
    → has_all os k (length us) ≡ false → has_all (o ∷ os) k (length us) ≡ true
    → (answer open_max j o ≡ Finished us) × (offered open_max remembered j o ≡ answered remembered j o (Finished us))
unfolding offered answer decided is_repeat
at_whole open_max remembered j k us os o v e piece part all =
    (is_finished, ap (answered remembered j o) is_finished)
  where
    pieces : (o.maximum ≡ length us) × (0 < o.sequence) × (o.sequence ≤ length us)
        × (o.units ≡ get_or us (o.sequence - 1) (Gsm []))
    pieces = piece (rw e (same_key_refl k))

    kept : Holds (record { kept = o ∷ j.kept; finished = j.finished }) k us (o ∷ os)
    kept = holds_kept j k us os o v e pieces.3

    old : has os k o.sequence ≡ true → ⊥
    old t =
        let s : has_all os k (length us) ≡ has_all (o ∷ os) k (length us) =
        has_all-same os (o ∷ os) k (length us) (λ n. or_absorbs (same_key o.key k && eqb o.sequence n) (has os k n)
        (λ q. let r = and_parts (same_key o.key k) (eqb o.sequence n) q in
        ap (has os k) (sym (eqb-true o.sequence n r.1)) ∙ t)) in
        cc

    new : has j.kept k o.sequence ≡ false
    new = v.same o.sequence ∙ false_from_ne_true _ old

    repeat' : is_repeat j o ≡ false
    repeat' = ap (λ l. is_among j.finished l || has j.kept l o.sequence) e ∙ rw (v.fresh, new) refl

    whole : is_whole j o ≡ true
    whole = whole_same j k us os o v e pieces.0 ∙ all

    there : has_all (o ∷ j.kept) k (length us) ≡ true
    there = has_all-same (o ∷ j.kept) (o ∷ os) k (length us) kept.same ∙ all

    units : units_upto (o ∷ j.kept) o.key o.maximum ≡ us
    units = ap (λ l. units_upto (o ∷ j.kept) l o.maximum) e ∙ (ap (units_upto (o ∷ j.kept) k) pieces.0
        ∙ (units_upto_is (o ∷ j.kept) k us (length us) kept.right (omega arith) there
        ∙ take_all (length us) us (omega arith)))

    is_finished : answer open_max j o ≡ Finished us
    is_finished = rw (repeat', whole, units) refl

is_among-of_take : (n : ℕ) (ks : List Key) (k : Key) → is_among (take n ks) k ≡ true → is_among ks k ≡ true
is_among-of_take zero ks k h = cc
is_among-of_take (suc n) [] k h = cc
is_among-of_take (suc n) (x ∷ ks) k h = go (same_key x k) h (is_among-of_take n ks k)
  where
    go : (b : Bool) → (b || is_among (take n ks) k) ≡ true → (is_among (take n ks) k ≡ true → is_among ks k ≡ true) → (b || is_among ks k) ≡ true
    go true h f = refl
    go false h f = f h

-- the key is still remembered, and its offers are repeats
record Closed (open_max remembered : ℕ) (j : Joiner) (k : Key) (os : List (Act Piece)) : Type 0 where
  recent : is_among (take (suc (others_finished open_max remembered j k os)) (acted_all open_max remembered j os).finished) k ≡ true
  none : finishes open_max remembered j k os ≡ []

closed_same : (open_max remembered : ℕ) (j : Joiner) (k : Key) (o : Piece) → o.key ≡ k → is_among j.finished k ≡ true
    → (answer open_max j o ≡ Repeat) × (offered open_max remembered j o ≡ j)
unfolding offered answer answered decided is_repeat
closed_same open_max remembered j k o e h = (is_repeated, ap (answered remembered j o) is_repeated)
  where
    repeat' : is_repeat j o ≡ true
    repeat' = ap (λ l. is_among j.finished l || has j.kept l o.sequence) e ∙ rw h refl

    is_repeated : answer open_max j o ≡ Repeat
    is_repeated = rw repeat' refl

closed_other : (open_max remembered : ℕ) (j : Joiner) (k : Key) (o : Piece) (c : ℕ)
    → is_among (take (suc c) j.finished) k ≡ true → length (finished_now (answer open_max j o)) + c < remembered
    → is_among (take (suc (length (finished_now (answer open_max j o)) + c)) (offered open_max remembered j o).finished) k ≡ true
unfolding offered answer answered decided
closed_other open_max remembered j k o c h less =
    go (is_repeat j o) (is_whole j o) (has_room open_max j o) less
  where
    zero_more : is_among (take (suc (0 + c)) j.finished) k ≡ true
    zero_more = let e : 0 + c ≡ c = omega arith in rw e h

    go : (b w r : Bool)
        → length (finished_now (decided b w r (units_upto (o ∷ j.kept) o.key o.maximum))) + c < remembered
        → is_among (take (suc (length (finished_now (decided b w r (units_upto (o ∷ j.kept) o.key o.maximum))) + c))
        (answered remembered j o (decided b w r (units_upto (o ∷ j.kept) o.key o.maximum))).finished) k ≡ true
    go true w r l = zero_more
    go false false true l = zero_more
    go false false false l = zero_more
    go false true r l =
        let e : 1 + c ≡ suc c = omega arith in
        let below : suc (1 + c) ≤ remembered = l in
        let t : take (suc (1 + c)) (take remembered (o.key ∷ j.finished)) ≡ take (suc (1 + c)) (o.key ∷ j.finished) =
        take-take (suc (1 + c)) remembered (o.key ∷ j.finished) below in
        rw t (rw e (or_right (same_key o.key k) _ h))

aged_closed : (open_max remembered : ℕ) (j : Joiner) (k : Key) (now : ℕ) (os : List (Act Piece)) → Closed open_max remembered j k os
    → Closed open_max remembered j k (Ages now ∷ os)
unfolding aged
aged_closed open_max remembered j k now os c = record { recent = c.recent; none = c.none }

after_whole : (open_max remembered : ℕ) (j : Joiner) (k : Key) (os : List (Act Piece))
    → is_among (take 1 j.finished) k ≡ true → others_finished open_max remembered j k os < remembered
    → Closed open_max remembered j k os
after_whole open_max remembered j k [] h less = record { recent = h; none = refl }
after_whole open_max remembered j k (Ages now ∷ os) h less =
    aged_closed open_max remembered j k now os (after_whole open_max remembered j k os h less)
after_whole open_max remembered j k (Brings o ∷ os) h less =
    go (same_key o.key k) refl less (after_whole open_max remembered j k os h)
  where
    go : (s : Bool) → same_key o.key k ≡ s
        → cond s (others_finished open_max remembered j k os)
        (length (finished_now (answer open_max (acted_all open_max remembered j os) o)) + others_finished open_max remembered j k os) < remembered
        → (others_finished open_max remembered j k os < remembered → Closed open_max remembered j k os)
        → Closed open_max remembered j k (Brings o ∷ os)
    go true s l ih =
        let c = ih l in
        let here = closed_same open_max remembered (acted_all open_max remembered j os) k o (same_key_true o.key k s)
        (is_among-of_take (suc (others_finished open_max remembered j k os)) (acted_all open_max remembered j os).finished k c.recent) in
        record { recent = rw (s, here.1) c.recent; none = rw (s, here.0) c.none }
    go false s l ih =
        let c = ih (omega arith) in
        record {
          recent = rw s (closed_other open_max remembered (acted_all open_max remembered j os) k o
              (others_finished open_max remembered j k os) c.recent l);
          none = rw s c.none;
        }

acted_all-append : (open_max remembered : ℕ) (j : Joiner) (os ps : List (Act Piece))
    → acted_all open_max remembered j (os ++ ps) ≡ acted_all open_max remembered (acted_all open_max remembered j ps) os
acted_all-append open_max remembered j [] ps = refl
acted_all-append open_max remembered j (a ∷ os) ps =
    ap (λ i. acted open_max remembered i a) (acted_all-append open_max remembered j os ps)

finishes-append : (open_max remembered : ℕ) (j : Joiner) (k : Key) (os ps : List (Act Piece))
    → finishes open_max remembered j k (os ++ ps)
    ≡ finishes open_max remembered (acted_all open_max remembered j ps) k os ++ finishes open_max remembered j k ps
finishes-append open_max remembered j k [] ps = refl
finishes-append open_max remembered j k (Ages now ∷ os) ps = finishes-append open_max remembered j k os ps
finishes-append open_max remembered j k (Brings o ∷ os) ps =
    go (same_key o.key k) (finishes-append open_max remembered j k os ps) (acted_all-append open_max remembered j os ps)
  where
    go : (s : Bool)
        → finishes open_max remembered j k (os ++ ps)
        ≡ finishes open_max remembered (acted_all open_max remembered j ps) k os ++ finishes open_max remembered j k ps
        → acted_all open_max remembered j (os ++ ps) ≡ acted_all open_max remembered (acted_all open_max remembered j ps) os
        → cond s (finished_now (answer open_max (acted_all open_max remembered j (os ++ ps)) o) ++ finishes open_max remembered j k (os ++ ps))
        (finishes open_max remembered j k (os ++ ps))
        ≡ cond s (finished_now (answer open_max (acted_all open_max remembered (acted_all open_max remembered j ps) os) o) ++ finishes open_max remembered (acted_all open_max remembered j ps) k os)
        (finishes open_max remembered (acted_all open_max remembered j ps) k os) ++ finishes open_max remembered j k ps
    go true f g = rw (f, g) (simp append_assoc)
    go false f g = f

pieces_later : (k : Key) (us : List Units) (os ps : List (Act Piece)) → ArePieces k us (os ++ ps) → ArePieces k us ps
pieces_later k us [] ps h = h
pieces_later k us (Ages now ∷ os) ps h = pieces_later k us os ps h
pieces_later k us (Brings o ∷ os) ps h = pieces_later k us os ps h.1

none_refused_later : (open_max remembered : ℕ) (j : Joiner) (k : Key) (os ps : List (Act Piece))
    → NoneRefused open_max remembered j k (os ++ ps) → NoneRefused open_max remembered j k ps
none_refused_later open_max remembered j k [] ps h = h
none_refused_later open_max remembered j k (Ages now ∷ os) ps h = none_refused_later open_max remembered j k os ps h
none_refused_later open_max remembered j k (Brings o ∷ os) ps h = none_refused_later open_max remembered j k os ps h.1

pub finishes_once : FinishesOnce
unfolding answered
finishes_once open_max remembered j k us after o before come = (
  whole.0,
  finishes-append open_max remembered j k after (Brings o ∷ before)
      ∙ rw (later.none, come.under_key, whole.0, prior.1) refl,
)
  where
    pieces : ArePieces k us (Brings o ∷ before)
    pieces = pieces_later k us after (Brings o ∷ before) come.are_pieces

    allowed : NoneRefused open_max remembered j k (Brings o ∷ before)
    allowed = none_refused_later open_max remembered j k after (Brings o ∷ before) come.none_refused

    prior : Holds (acted_all open_max remembered j before) k us (brought before) × (finishes open_max remembered j k before ≡ [])
    prior = before_whole open_max remembered j k us before come.not_open come.not_remembered pieces.1 allowed.1 come.none_dropped come.missing

    is_key : o.key ≡ k
    is_key = same_key_true o.key k come.under_key

    whole : (answer open_max (acted_all open_max remembered j before) o ≡ Finished us)
        × (offered open_max remembered (acted_all open_max remembered j before) o
        ≡ answered remembered (acted_all open_max remembered j before) o (Finished us))
    whole = at_whole open_max remembered (acted_all open_max remembered j before) k us (brought before) o prior.0 is_key pieces.0 come.missing come.all

    newest : is_among (take 1 (take remembered (o.key ∷ (acted_all open_max remembered j before).finished))) k ≡ true
    newest =
        let few = come.few in
        let t : take 1 (take remembered (o.key ∷ (acted_all open_max remembered j before).finished))
        ≡ take 1 (o.key ∷ (acted_all open_max remembered j before).finished) = take-take 1 remembered _ (omega (arith, few)) in
        rw t (rw come.under_key refl)

    later : Closed open_max remembered (acted_all open_max remembered j (Brings o ∷ before)) k after
    later = after_whole open_max remembered (acted_all open_max remembered j (Brings o ∷ before)) k after
        (rw whole.1 newest) come.few

same_units : (us vs : List Units) → Finished us ≡ Finished vs → us ≡ vs
same_units us vs e = cc

pub finishes_text : FinishesText
finishes_text open_max remembered j k pieces after p before width text units come is cut given =
    let same : pieces ≡ units = same_units pieces units (sym (finishes_once open_max remembered j k pieces after p before come).0 ∙ given) in
    ap text_of_segments (sym same) ∙ cut_read width text pieces is cut
