-- What comes before any aging forgets the finishing of its key finds the key remembered.
use Rattle.std.proofs.Common.{◌≡◌, ℕ, zero, suc, ◌<◌, ◌≤◌, ◌⊎◌, inl, inr, Bool, true, false, cond, not, ◌||◌, max, List, [], ◌∷◌, take, length, slice_get, Option, Some, refl, sym, ap, ◌∙◌, subst, arith}
use Rattle.std.proofs.lemmas.Bool.{cases_lt}
use Rattle.sms_join.specs.declared.key.Key.{Key}
use Rattle.sms_join.specs.Key.{same_key}
use Rattle.sms_join.specs.Piece.{Piece}
use Rattle.sms_join.specs.Joiner.{Joiner, Answer, Repeat, Kept, Finished, TooManyOpen, is_among, answer}
use Rattle.sms_join.specs.Joiner.Acts.{Act, Brings, Ages}
use Rattle.sms_join.specs.Gateway.Answers.{gateway_finishings, gateway_holds, gateway_offered, is_passed}
use Rattle.sms_join.specs.Gateway.Finishings.{Fall, FallFrom, finishings_after, finishings_at, is_forgotten, not_before}
use Rattle.sms_join.specs.Gateway.Value.{LimitsValue}
use Rattle.sms_once.specs.Run.{new_held, run}
use Rattle.sms_once.specs.Repeats.{NoneForgets}
use Rattle.sms_once.specs.InTime.{AreInTime, AreTimely, ComesInTime, IsTimely, TimelyComeInTime, without_age}
use Rattle.sms_once.proofs.Keys.{same_key_true}
use Rattle.sms_once.proofs.Falling.{all_forgotten, fall_tail, finishings_always, forgotten_before}
use Rattle.sms_once.proofs.Anew.{among_at}
use Rattle.sms_once.proofs.InTime.{all_stay, answer_same, front_run, sound_run, IsFront}

-- ---- places in lists

find_at : (ks : List Key) (k : Key) → is_among ks k ≡ true → (i : ℕ) × (slice_get ks i ≡ Some k)
find_at [] k e = absurd cc
find_at (x ∷ ks) k e = go (same_key x k) refl e (find_at ks k)
  where
    go : (b : Bool) → same_key x k ≡ b → (b || is_among ks k) ≡ true → (is_among ks k ≡ true → (i : ℕ) × (slice_get ks i ≡ Some k))
        → (i : ℕ) × (slice_get (x ∷ ks) i ≡ Some k)
    go true s e ih = (0, ap Some (same_key_true x k s))
    go false s e ih = let r = ih e in (suc r.0, r.1)

moment_at : (ks : List Key) (ms : List ℕ) (k : Key) (i : ℕ) → length ms ≡ length ks → slice_get ks i ≡ Some k → (m : ℕ) × (slice_get ms i ≡ Some m)
moment_at [] ms k zero e f = absurd cc
moment_at [] ms k (suc i) e f = absurd cc
moment_at (x ∷ ks) [] k i e f = absurd (omega (arith, e))
moment_at (x ∷ ks) (m ∷ ms) k zero e f = (m, refl)
moment_at (x ∷ ks) (m ∷ ms) k (suc i) e f = moment_at ks ms k i (omega (arith, e)) f

taken_at : (n : ℕ) (ks : List Key) (k : Key) (i : ℕ) → i < length (take n ks) → slice_get ks i ≡ Some k → slice_get (take n ks) i ≡ Some k
taken_at zero ks k i l e = absurd (omega arith)
taken_at (suc n) [] k i l e = absurd (omega arith)
taken_at (suc n) (x ∷ ks) k zero l e = e
taken_at (suc n) (x ∷ ks) k (suc i) l e = taken_at n ks k i (omega arith) e

-- ---- the moments of a run beside those of one that forgets none by its age: of each that is gone
-- or earlier, some aging came too late

abbrev Beside : (ℕ → Type 0) → List ℕ → List ℕ → Type 0
Beside S [] [] = Unit {0}
Beside S [] (m ∷ ns) = S m × Beside S [] ns
Beside S (r ∷ ms) [] = ⊥
Beside S (r ∷ ms) (m ∷ ns) = ((r ≤ m) × (S m ⊎ (r ≡ m))) × Beside S ms ns

module _ (S : ℕ → Type 0) where
  beside_at : (ms ns : List ℕ) (i m : ℕ) → Beside S ms ns → slice_get ns i ≡ Some m → S m ⊎ (i < length ms)
  beside_at [] [] zero m b e = absurd cc
  beside_at [] [] (suc i) m b e = absurd cc
  beside_at [] (n ∷ ns) zero m b e = inl (subst S (some_same n m e) b.0)
    where
      some_same : (x y : ℕ) → Some x ≡ Some y → x ≡ y
      some_same x y e = cc
  beside_at [] (n ∷ ns) (suc i) m b e = elim (beside_at [] ns i m b.1 e) [
    | inl s ↦ inl s
    | inr l ↦ absurd (omega (arith, l))
  ]
  beside_at (r ∷ ms) [] i m b e = absurd b
  beside_at (r ∷ ms) (n ∷ ns) zero m b e = inr (omega arith)
  beside_at (r ∷ ms) (n ∷ ns) (suc i) m b e = elim (beside_at ms ns i m b.1 e) [
    | inl s ↦ inl s
    | inr l ↦ inr (omega arith)
  ]

  gone_taken : (k : ℕ) (ns : List ℕ) → Beside S [] ns → Beside S [] (take k ns)
  gone_taken zero ns b = tt
  gone_taken (suc k) [] b = tt
  gone_taken (suc k) (n ∷ ns) b = (b.0, gone_taken k ns b.1)

  beside_taken : (k : ℕ) (ms ns : List ℕ) → Beside S ms ns → Beside S (take k ms) (take k ns)
  beside_taken zero ms ns b = tt
  beside_taken (suc k) [] [] b = tt
  beside_taken (suc k) [] (n ∷ ns) b = (b.0, gone_taken k ns b.1)
  beside_taken (suc k) (r ∷ ms) [] b = absurd b
  beside_taken (suc k) (r ∷ ms) (n ∷ ns) b = (b.0, beside_taken k ms ns b.1)

  -- one more is noted in both
  later : (r m now : ℕ) → r ≤ m → S m ⊎ (r ≡ m) → S (max m now) ⊎ (max r now ≡ max m now)
  later r m now l (inr e) = inr (ap (λ x. max x now) e)
  later r m now l (inl s) = elim (cases_lt now m) [
    | inl more ↦ (let e : m ≡ max m now = omega arith in inl (subst S e s))
    | inr less ↦ inr (omega arith)
  ]

  alone : (m now : ℕ) → S m → S (max m now) ⊎ (now ≡ max m now)
  alone m now s = elim (cases_lt now m) [
    | inl more ↦ (let e : m ≡ max m now = omega arith in inl (subst S e s))
    | inr less ↦ inr (omega arith)
  ]

  beside_noted : (now : ℕ) (ms ns : List ℕ) → Beside S ms ns → Beside S (not_before ms now ∷ ms) (not_before ns now ∷ ns)
  beside_noted now [] [] b = ((omega arith, inr refl), tt)
  beside_noted now [] (n ∷ ns) b = ((omega arith, alone n now b.0), b)
  beside_noted now (r ∷ ms) [] b = absurd b
  beside_noted now (r ∷ ms) (n ∷ ns) b = ((let l = b.0.0 in omega arith, later r n now b.0.0 b.0.1), b)

  beside_after : (remembered now : ℕ) (a : Answer) (ms ns : List ℕ) → Beside S ms ns
      → Beside S (finishings_after remembered ms now a) (finishings_after remembered ns now a)
  beside_after remembered now Repeat ms ns b = b
  beside_after remembered now Kept ms ns b = b
  beside_after remembered now (Finished us) ms ns b = beside_taken remembered (not_before ms now ∷ ms) (not_before ns now ∷ ns) (beside_noted now ms ns b)
  beside_after remembered now TooManyOpen ms ns b = b

  -- an aging, which forgets in one of them
  module _ (T : ℕ → Type 0) (longest : Option ℕ) (now : ℕ) (wider : (m : ℕ) → S m → T m) (late : (m : ℕ) → is_forgotten longest now m ≡ true → T m) where
    gone_or_late : (r m : ℕ) → is_forgotten longest now r ≡ true → S m ⊎ (r ≡ m) → T m
    gone_or_late r m f (inl s) = wider m s
    gone_or_late r m f (inr e) = late m (ap (is_forgotten longest now) (sym e) ∙ f)

    all_gone : (r : ℕ) (ms ns : List ℕ) → is_forgotten longest now r ≡ true → FallFrom r ms → Beside S ms ns → Beside T [] ns
    all_gone r [] [] f h b = tt
    all_gone r [] (n ∷ ns) f h b = (wider n b.0, all_gone r [] ns f tt b.1)
    all_gone r (x ∷ ms) [] f h b = absurd b
    all_gone r (x ∷ ms) (n ∷ ns) f h b =
        let g = forgotten_before longest now r x h.0 f in
        (gone_or_late x n g b.0.1, all_gone x ms ns g h.1 b.1)

    beside_aged : (ms ns : List ℕ) → Fall ms → Beside S ms ns → Beside T (finishings_at longest now ms) ns
    beside_aged [] [] h b = tt
    beside_aged [] (n ∷ ns) h b = (wider n b.0, beside_aged [] ns tt b.1)
    beside_aged (r ∷ ms) [] h b = absurd b
    beside_aged (r ∷ ms) (n ∷ ns) h b = go (is_forgotten longest now r) refl (beside_aged ms ns (fall_tail r ms h) b.1)
      where
        go : (c : Bool) → is_forgotten longest now r ≡ c → Beside T (finishings_at longest now ms) ns
            → Beside T (cond (not c) (r ∷ finishings_at longest now ms) (finishings_at longest now ms)) (n ∷ ns)
        go true f ih =
            subst (λ l. Beside T l (n ∷ ns)) (sym (all_forgotten longest now r ms f h))
            (gone_or_late r n f b.0.1, all_gone r ms ns f h b.1)
        go false f ih = ((b.0.0, elim b.0.1 [ inl s ↦ inl (wider n s) | inr e ↦ inr e ]), ih)

-- ---- a run

plain : (limits : LimitsValue) (acts : List (Act Piece)) → (run (without_age limits) new_held acts).holds ≡ gateway_holds limits acts
plain limits [] = refl
plain limits (Brings p ∷ acts) = ap (λ j. gateway_offered limits j p) (plain limits acts)
plain limits (Ages now ∷ acts) = all_stay (without_age limits) now (run (without_age limits) new_held acts) (gateway_holds limits acts) refl (sound_run (without_age limits) acts).as_many (plain limits acts)

abbrev IsLate : LimitsValue → List (Act Piece) → ℕ → Type 0
IsLate limits acts m = NoneForgets limits.remember_for m acts → ⊥

record Follows (limits : LimitsValue) (acts : List (Act Piece)) : Type 0 where
  in_time : AreInTime limits acts
  beside : Beside (IsLate limits acts) (run limits new_held acts).finishings (run (without_age limits) new_held acts).finishings

-- a timely piece finds its key
known : (limits : LimitsValue) (acts : List (Act Piece)) (p : Piece) → Follows limits acts → IsTimely limits acts p → ComesInTime limits acts p
known limits acts p f timely e =
    let g : is_among (run (without_age limits) new_held acts).holds.finished p.key ≡ true = ap (λ (j : Joiner). is_among j.finished p.key) (plain limits acts) ∙ e in
    let i = find_at (run (without_age limits) new_held acts).holds.finished p.key g in
    let m = moment_at (run (without_age limits) new_held acts).holds.finished (run (without_age limits) new_held acts).finishings p.key i.0 (sound_run (without_age limits) acts).as_many i.1 in
    go i.0 i.1 m.0 m.1 (beside_at (IsLate limits acts) (run limits new_held acts).finishings (run (without_age limits) new_held acts).finishings i.0 m.0 f.beside m.1)
  where
    front : IsFront (run limits new_held acts).holds (gateway_holds limits acts)
    front = front_run limits acts f.in_time

    go : (i : ℕ) → slice_get (run (without_age limits) new_held acts).holds.finished i ≡ Some p.key → (m : ℕ)
        → slice_get (run (without_age limits) new_held acts).finishings i ≡ Some m
        → IsLate limits acts m ⊎ (i < length (run limits new_held acts).finishings) → is_among (run limits new_held acts).holds.finished p.key ≡ true
    go i at m moment (inl late) = absurd (late (timely m (record { index = i; key = at; moment = moment })))
    go i at m moment (inr l) =
        let many = (sound_run limits acts).as_many in
        let taken = ap (λ (ks : List Key). length ks) front.finished in
        let less : i < length (take front.many (gateway_holds limits acts).finished) = omega (arith, many, taken) in
        ap (λ ks. is_among ks p.key) front.finished
        ∙ among_at (take front.many (gateway_holds limits acts).finished) i p.key
        (taken_at front.many (gateway_holds limits acts).finished p.key i less (ap (λ (j : Joiner). slice_get j.finished i) (sym (plain limits acts)) ∙ at))

follows : (limits : LimitsValue) (acts : List (Act Piece)) → AreTimely limits acts → Follows limits acts
follows limits [] h = record { in_time = tt; beside = tt }
follows limits (Ages now ∷ acts) h =
    let ih = follows limits acts h in
    record {
      in_time = ih.in_time;
      beside = subst (λ l. Beside (IsLate limits (Ages now ∷ acts)) (finishings_at limits.remember_for now (run limits new_held acts).finishings) l)
          (sym (finishings_always now (run (without_age limits) new_held acts).finishings))
          (beside_aged (IsLate limits acts) (IsLate limits (Ages now ∷ acts)) limits.remember_for now (λ m f q. f q.1)
          (λ m t q. let z : true ≡ false = sym t ∙ q.0 in absurd cc)
          (run limits new_held acts).finishings (run (without_age limits) new_held acts).finishings (sound_run limits acts).fall ih.beside);
    }
follows limits (Brings p ∷ acts) h =
    let ih = follows limits acts h.1 in
    let k : ComesInTime limits acts p = known limits acts p ih h.0 in
    record { in_time = (k, ih.in_time); beside = next ih k }
  where
    next : Follows limits acts → ComesInTime limits acts p
        → Beside (IsLate limits acts) (gateway_finishings limits (run limits new_held acts).holds (run limits new_held acts).finishings p)
        (gateway_finishings limits (run (without_age limits) new_held acts).holds (run (without_age limits) new_held acts).finishings p)
    next ih k =
        go (is_passed limits.alone p.key) (answer limits.open_max (run limits new_held acts).holds p)
        (answer limits.open_max (run (without_age limits) new_held acts).holds p)
        (answer_same (run limits new_held acts).holds (gateway_holds limits acts) p (front_run limits acts ih.in_time) k limits.open_max
        ∙ ap (λ j. answer limits.open_max j p) (sym (plain limits acts)))
      where
        go : (b : Bool) (x y : Answer) → x ≡ y
            → Beside (IsLate limits acts) (cond b (run limits new_held acts).finishings (finishings_after limits.remembered (run limits new_held acts).finishings p.moment x))
            (cond b (run (without_age limits) new_held acts).finishings (finishings_after limits.remembered (run (without_age limits) new_held acts).finishings p.moment y))
        go true x y e = ih.beside
        go false x y e =
            subst (λ a. Beside (IsLate limits acts) (finishings_after limits.remembered (run limits new_held acts).finishings p.moment x)
            (finishings_after limits.remembered (run (without_age limits) new_held acts).finishings p.moment a)) e
            (beside_after (IsLate limits acts) limits.remembered p.moment x (run limits new_held acts).finishings (run (without_age limits) new_held acts).finishings ih.beside)

pub timely_come_in_time : TimelyComeInTime
timely_come_in_time limits acts h = (follows limits acts h).in_time
