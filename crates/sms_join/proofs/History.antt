-- What the joiner holds and answers is told by the offers and agings.
use Rattle.std.proofs.Common.{◌≡◌, ℕ, zero, suc, ◌+◌, leb, Bool, true, false, cond, not, ◌&&◌, ◌||◌, eqb, List, [], ◌∷◌, take, refl, sym, ap, ◌∙◌, subst, arith}
use Rattle.std.proofs.lemmas.Bool.{or_parts, false_from_ne_true}
use Rattle.std.proofs.lemmas.List.{take-take}
use Rattle.sms_join.specs.declared.key.Key.{Key}
use Rattle.sms_join.specs.Key.{same_key}
use Rattle.sms_join.specs.Piece.{Piece}
use Rattle.sms_join.specs.Joiner.Sets.{has, is_open, open_sets, opened_at, without, units_at, units_upto}
use Rattle.sms_join.specs.Joiner.{Joiner, Answer, Repeat, Kept, Finished, TooManyOpen, is_among, answer, answered, offered, new_joiner, decided, is_repeat, is_whole, has_room}
use Rattle.sms_join.specs.Joiner.Aging.{is_old, young, aged}
use Rattle.sms_join.specs.Joiner.Acts.{Act, Brings, Ages, acted_all}
use Rattle.sms_join.specs.Joiner.History.{history, told, since, kept_since, after_finish, finished_keys, offered_keys, open_among, comes_again, is_last, finds_room, answer_told, OffersTellAnswers, FinishesByHistory}
use Rattle.sms_join.specs.Joiner.Finishing.{is_finished}
use Rattle.sms_join.proofs.SameKeys.{same_key_refl, same_key_true}
use Rattle.sms_join.proofs.Sets.{has_all-same}
use Rattle.sms_join.proofs.Same.{open-without, open-without_same, sets-without}

abbrev of_key : List Piece → Key → List Piece
of_key [] k = []
of_key (p ∷ ps) k = cond (same_key p.key k) (p ∷ of_key ps k) (of_key ps k)

has-of_key : (ps : List Piece) (k : Key) (n : ℕ) → has ps k n ≡ has (of_key ps k) k n
has-of_key [] k n = refl
has-of_key (p ∷ ps) k n = go (same_key p.key k) refl (has-of_key ps k n)
  where
    go : (b : Bool) → same_key p.key k ≡ b → has ps k n ≡ has (of_key ps k) k n
        → ((b && eqb p.sequence n) || has ps k n) ≡ has (cond b (p ∷ of_key ps k) (of_key ps k)) k n
    go true e ih = rw (e, ih) refl
    go false e ih = ih

of_key-without : (ps : List Piece) (k l : Key) → of_key (without ps k) l ≡ cond (same_key k l) [] (of_key ps l)
of_key-without [] k l = go (same_key k l)
  where
    go : (b : Bool) → [] ≡ cond b [] (let l : List Piece = [] in l)
    go true = refl
    go false = refl
of_key-without (p ∷ ps) k l = go (same_key p.key k) refl (same_key k l) refl (of_key-without ps k l)
  where
    go : (b : Bool) → same_key p.key k ≡ b → (c : Bool) → same_key k l ≡ c → of_key (without ps k) l ≡ cond (same_key k l) [] (of_key ps l)
        → of_key (cond b (without ps k) (p ∷ without ps k)) l ≡ cond c [] (cond (same_key p.key l) (p ∷ of_key ps l) (of_key ps l))
    go true e true f ih = ih ∙ rw f refl
    go true e false f ih =
        let g : same_key p.key l ≡ false = rw (same_key_true p.key k e) f in
        ih ∙ rw (f, g) refl
    go false e true f ih =
        let g : same_key p.key l ≡ false = subst (λ m. same_key p.key m ≡ false) (same_key_true k l f) e in
        let h : of_key (without ps k) l ≡ [] = ih ∙ rw f refl in
        rw (g, h) refl
    go false e false f ih =
        let h : of_key (without ps k) l ≡ of_key ps l = ih ∙ rw f refl in
        rw h refl

open-of_key : (ps : List Piece) (k : Key) → is_open ps k ≡ is_open (of_key ps k) k
open-of_key [] k = refl
open-of_key (p ∷ ps) k = go (same_key p.key k) refl (open-of_key ps k)
  where
    go : (b : Bool) → same_key p.key k ≡ b → is_open ps k ≡ is_open (of_key ps k) k
        → (b || is_open ps k) ≡ is_open (cond b (p ∷ of_key ps k) (of_key ps k)) k
    go true e ih = rw e refl
    go false e ih = ih

opened-of_key : (ps : List Piece) (k : Key) → opened_at ps k ≡ opened_at (of_key ps k) k
opened-of_key [] k = refl
opened-of_key (p ∷ ps) k = go (same_key p.key k) refl (opened-of_key ps k)
  where
    go : (b : Bool) → same_key p.key k ≡ b → opened_at ps k ≡ opened_at (of_key ps k) k
        → cond (b && not (is_open ps k)) p.moment (opened_at ps k) ≡ opened_at (cond b (p ∷ of_key ps k) (of_key ps k)) k
    go true e ih = rw (e, ← open-of_key ps k, ← ih) refl
    go false e ih = ih

of_key-young : (old : Key → Bool) (ps : List Piece) (k : Key) → of_key (young old ps) k ≡ cond (old k) [] (of_key ps k)
of_key-young old [] k = go (old k)
  where
    go : (b : Bool) → [] ≡ cond b [] (let l : List Piece = [] in l)
    go true = refl
    go false = refl
of_key-young old (p ∷ ps) k = go (old p.key) refl (same_key p.key k) refl (of_key-young old ps k)
  where
    go : (b : Bool) → old p.key ≡ b → (c : Bool) → same_key p.key k ≡ c → of_key (young old ps) k ≡ cond (old k) [] (of_key ps k)
        → of_key (cond b (young old ps) (p ∷ young old ps)) k ≡ cond (old k) [] (cond c (p ∷ of_key ps k) (of_key ps k))
    go true e false f ih = ih
    go false e false f ih = rw f ih
    go true e true f ih =
        let z : old k ≡ true = subst (λ m. old m ≡ true) (same_key_true p.key k f) e in
        ih ∙ rw z refl
    go false e true f ih =
        let z : old k ≡ false = subst (λ m. old m ≡ false) (same_key_true p.key k f) e in
        rw (f, z) (ap (λ l. p ∷ l) (ih ∙ rw z refl))

take-again : (n : ℕ) (y : Key) (ys : List Key) → take n (y ∷ take n ys) ≡ take n (y ∷ ys)
take-again zero y ys = refl
take-again (suc n) y ys = ap (λ l. y ∷ l) (take-take n (suc n) ys (omega arith))

units-of_key : (ps : List Piece) (k : Key) (n : ℕ) → units_at ps k n ≡ units_at (of_key ps k) k n
units-of_key [] k n = refl
units-of_key (p ∷ ps) k n = go (same_key p.key k) refl (units-of_key ps k n)
  where
    go : (b : Bool) → same_key p.key k ≡ b → units_at ps k n ≡ units_at (of_key ps k) k n
        → cond (b && eqb p.sequence n) p.units (units_at ps k n) ≡ units_at (cond b (p ∷ of_key ps k) (of_key ps k)) k n
    go true e ih = rw (e, ih) refl
    go false e ih = ih

-- ---- what a list of acts leaves

record Tells (remembered : ℕ) (h : List (Act (Piece × Answer))) (j : Joiner) : Type 0 where
  kept : (k : Key) → of_key j.kept k ≡ kept_since h k
  finished : j.finished ≡ take remembered (finished_keys h)

answered_tells : (remembered : ℕ) (h : List (Act (Piece × Answer))) (o : Piece) (j : Joiner) (g : Answer) → Tells remembered h j
    → ((k : Key) → of_key (answered remembered j o g).kept k ≡ cond (same_key o.key k) (since g o (kept_since h k)) (kept_since h k))
    × ((answered remembered j o g).finished ≡ take remembered (after_finish g o.key (finished_keys h)))
unfolding answered
answered_tells remembered h o j Repeat t = ((λ k. t.kept k ∙ go (same_key o.key k)), t.finished)
  where
    go : {x : List Piece} (b : Bool) → x ≡ cond b x x
    go true = refl
    go false = refl
answered_tells remembered h o j Kept t = ((λ k. go k (same_key o.key k)), t.finished)
  where
    go : (k : Key) (b : Bool) → cond b (o ∷ of_key j.kept k) (of_key j.kept k)
        ≡ cond b (o ∷ kept_since h k) (kept_since h k)
    go k true = ap (λ l. o ∷ l) (t.kept k)
    go k false = t.kept k
answered_tells remembered h o j (Finished us) t = (
  (λ k. of_key-without j.kept o.key k ∙ ap (λ l. cond (same_key o.key k) [] l) (t.kept k)),
  ap (λ l. take remembered (o.key ∷ l)) t.finished ∙ take-again remembered o.key (finished_keys h),
)
answered_tells remembered h o j TooManyOpen t = ((λ k. t.kept k ∙ go (same_key o.key k)), t.finished)
  where
    go : {x : List Piece} (b : Bool) → x ≡ cond b x x
    go true = refl
    go false = refl

open_told : (remembered : ℕ) (h : List (Act (Piece × Answer))) (j : Joiner) (k : Key) → Tells remembered h j → is_open j.kept k ≡ is_open (kept_since h k) k
open_told remembered h j k t = open-of_key j.kept k ∙ ap (λ l. is_open l k) (t.kept k)

aged_tells : (remembered : ℕ) (h : List (Act (Piece × Answer))) (now : ℕ) (j : Joiner) → Tells remembered h j
    → Tells remembered (Ages now ∷ h) (aged now j)
unfolding aged
aged_tells remembered h now j t =
    record {
      kept = λ k.
          let same : opened_at j.kept k ≡ opened_at (kept_since h k) k =
          opened-of_key j.kept k ∙ ap (λ l. opened_at l k) (t.kept k) in
          of_key-young (is_old now j.kept) j.kept k
          ∙ (ap (λ l. cond (is_old now j.kept k) [] l) (t.kept k)
          ∙ (ap (λ b. cond (b && leb (opened_at j.kept k + 604800) now) [] (kept_since h k)) (open_told remembered h j k t)
          ∙ ap (λ n. cond (is_open (kept_since h k) k && leb (n + 604800) now) [] (kept_since h k)) same));
      finished = t.finished;
    }

-- ---- how many sets are open

AreApart : List Key → Type 0
AreApart [] = Unit {0}
AreApart (k ∷ ks) = (is_among ks k ≡ false) × AreApart ks

-- how many of the keys are open among these pieces
abbrev open_of : List Piece → List Key → ℕ
open_of ps [] = 0
open_of ps (k ∷ ks) = cond (is_open ps k) (suc (open_of ps ks)) (open_of ps ks)

left_open : (ps : List Piece) (k : Key) (ks : List Key) → is_among ks k ≡ false → open_of (without ps k) ks ≡ open_of ps ks
left_open ps k [] h = refl
left_open ps k (l ∷ ks) h =
    let q = or_parts (same_key l k) (is_among ks k) h in
    let apart : same_key k l ≡ false = turned k l q.0 in
    rw (open-without ps k l apart, left_open ps k ks q.1) refl
  where
    turned : (a b : Key) → same_key b a ≡ false → same_key a b ≡ false
    turned a b e = false_from_ne_true _ (λ t.
        let f : same_key b a ≡ true = subst (λ m. same_key m a ≡ true) (same_key_true a b t) (same_key_refl a) in
        let z : true ≡ false = sym f ∙ e in cc)

none_open : (ps : List Piece) → ((k : Key) → is_open ps k ≡ true → false ≡ true) → open_sets ps ≡ 0
none_open [] h = refl
none_open (p ∷ ps) h = absurd (let e : false ≡ true = h p.key (rw (same_key_refl p.key) refl) in cc)

-- each set is counted by its key
sets_by_keys : (ps : List Piece) (ks : List Key) → AreApart ks → ((k : Key) → is_open ps k ≡ true → is_among ks k ≡ true) → open_sets ps ≡ open_of ps ks
unfolding AreApart
sets_by_keys ps [] a h = none_open ps h
sets_by_keys ps (k ∷ ks) a h =
    sets-without ps k ∙ ap (λ n. cond (is_open ps k) (suc n) n) (sets_by_keys (without ps k) ks a.1 others ∙ left_open ps k ks a.0)
  where
    others : (l : Key) → is_open (without ps k) l ≡ true → is_among ks l ≡ true
    others l e = which (same_key k l) refl
      where
        which : (b : Bool) → same_key k l ≡ b → is_among ks l ≡ true
        which true f =
            let g : is_open (without ps k) l ≡ false = subst (λ m. is_open (without ps k) m ≡ false) (same_key_true k l f) (open-without_same ps k) in
            absurd (let z : true ≡ false = sym e ∙ g in cc)
        which false f =
            let g : (same_key k l || is_among ks l) ≡ true = h l (sym (open-without ps k l f) ∙ e) in
            ap (λ b. b || is_among ks l) (sym f) ∙ g

offered_apart : (h : List (Act (Piece × Answer))) → AreApart (offered_keys h)
unfolding AreApart
offered_apart [] = tt
offered_apart (Brings e ∷ h) = go (is_among (offered_keys h) e.0.key) refl (offered_apart h)
  where
    go : (b : Bool) → is_among (offered_keys h) e.0.key ≡ b → AreApart (offered_keys h) → AreApart (cond b (offered_keys h) (e.0.key ∷ offered_keys h))
    go true f a = a
    go false f a = (f, a)
offered_apart (Ages now ∷ h) = offered_apart h

still_among : (ks : List Key) (k l : Key) (b : Bool) → is_among ks l ≡ true → is_among (cond b ks (k ∷ ks)) l ≡ true
still_among ks k l true e = e
still_among ks k l false e = go (same_key k l)
  where
    go : (c : Bool) → (c || is_among ks l) ≡ true
    go true = refl
    go false = e

new_among : (ks : List Key) (k l : Key) (b : Bool) → is_among ks k ≡ b → same_key k l ≡ true → is_among (cond b ks (k ∷ ks)) l ≡ true
new_among ks k l true e same = subst (λ m. is_among ks m ≡ true) (same_key_true k l same) e
new_among ks k l false e same = rw same refl

-- a key that has pieces was offered
open_offered : (h : List (Act (Piece × Answer))) (k : Key) → is_open (kept_since h k) k ≡ true → is_among (offered_keys h) k ≡ true
open_offered [] k e = e
open_offered (Brings o ∷ h) k e = go (same_key o.0.key k) refl e (open_offered h k)
  where
    go : (b : Bool) → same_key o.0.key k ≡ b → is_open (cond b (since o.1 o.0 (kept_since h k)) (kept_since h k)) k ≡ true
        → (is_open (kept_since h k) k ≡ true → is_among (offered_keys h) k ≡ true)
        → is_among (cond (is_among (offered_keys h) o.0.key) (offered_keys h) (o.0.key ∷ offered_keys h)) k ≡ true
    go true f g ih = new_among (offered_keys h) o.0.key k (is_among (offered_keys h) o.0.key) refl f
    go false f g ih = still_among (offered_keys h) o.0.key k (is_among (offered_keys h) o.0.key) (ih g)
open_offered (Ages now ∷ h) k e = go (is_old now (kept_since h k) k) e (open_offered h k)
  where
    go : (b : Bool) → is_open (cond b [] (kept_since h k)) k ≡ true → (is_open (kept_since h k) k ≡ true → is_among (offered_keys h) k ≡ true) → is_among (offered_keys h) k ≡ true
    go true g ih = absurd (let z : false ≡ true = g in cc)
    go false g ih = ih g

open_by : (remembered : ℕ) (h : List (Act (Piece × Answer))) (j : Joiner) (ks : List Key) → Tells remembered h j → open_of j.kept ks ≡ open_among h ks
open_by remembered h j [] t = refl
open_by remembered h j (k ∷ ks) t = rw (open_told remembered h j k t, open_by remembered h j ks t) refl

as_many_open : (remembered : ℕ) (h : List (Act (Piece × Answer))) (j : Joiner) → Tells remembered h j → open_sets j.kept ≡ open_among h (offered_keys h)
as_many_open remembered h j t =
    sets_by_keys j.kept (offered_keys h) (offered_apart h) (λ k e. open_offered h k (sym (open_told remembered h j k t) ∙ e))
    ∙ open_by remembered h j (offered_keys h) t

-- ---- the next offer

module _ (open_max remembered : ℕ) (h : List (Act (Piece × Answer))) (j : Joiner) (o : Piece) (t : Tells remembered h j) where
  held : (n : ℕ) → has j.kept o.key n ≡ has (kept_since h o.key) o.key n
  held n = has-of_key j.kept o.key n ∙ ap (λ l. has l o.key n) (t.kept o.key)

  again_told : is_repeat j o ≡ comes_again remembered h o
  unfolding is_repeat
  again_told = rw (t.finished, held o.sequence) refl

  last_told : is_whole j o ≡ is_last h o
  unfolding is_whole
  last_told =
      has_all-same (o ∷ j.kept) (o ∷ kept_since h o.key) o.key o.maximum
      (λ n. ap (λ b. (same_key o.key o.key && eqb o.sequence n) || b) (held n))

  room_told : has_room open_max j o ≡ finds_room open_max h o
  unfolding has_room
  room_told = rw (open_told remembered h j o.key t, as_many_open remembered h j t) refl

  units_told : (n : ℕ) → units_upto (o ∷ j.kept) o.key n ≡ units_upto (o ∷ kept_since h o.key) o.key n
  units_told zero = refl
  units_told (suc n) =
      let same : units_at j.kept o.key (suc n) ≡ units_at (kept_since h o.key) o.key (suc n) =
      units-of_key j.kept o.key (suc n) ∙ ap (λ l. units_at l o.key (suc n)) (t.kept o.key) in
      rw (units_told n, same) refl

  answer_is_told : answer open_max j o ≡ answer_told open_max remembered h o
  unfolding answer
  answer_is_told = rw (again_told, last_told, room_told, units_told o.maximum) refl

  finishes_told : is_finished (answer open_max j o) ≡ (not (comes_again remembered h o) && is_last h o)
  unfolding answer decided
  finishes_told = rw (sym again_told, sym last_told) (go (is_repeat j o) (is_whole j o) (has_room open_max j o))
    where
      go : (p w r : Bool) → is_finished (decided p w r (units_upto (o ∷ j.kept) o.key o.maximum)) ≡ (not p && w)
      go true w r = refl
      go false true r = refl
      go false false true = refl
      go false false false = refl

-- ---- any list

tells : (open_max remembered : ℕ) (os : List (Act Piece)) → Tells remembered (told open_max remembered os) (acted_all open_max remembered new_joiner os)
unfolding new_joiner offered
tells open_max remembered [] = record { kept = λ k. refl; finished = none remembered }
  where
    none : (n : ℕ) → [] ≡ take n (let l : List Key = [] in l)
    none zero = refl
    none (suc n) = refl
tells open_max remembered (Brings o ∷ os) =
    let h = told open_max remembered os in
    let j = acted_all open_max remembered new_joiner os in
    let t = tells open_max remembered os in
    let p = answered_tells remembered h o j (answer open_max j o) t in
    let same : answer open_max j o ≡ answer_told open_max remembered h o = answer_is_told open_max remembered h j o t in
    record {
      kept = λ k. p.0 k ∙ ap (λ g. cond (same_key o.key k) (since g o (kept_since h k)) (kept_since h k)) same;
      finished = p.1 ∙ ap (λ g. take remembered (after_finish g o.key (finished_keys h))) same;
    }
tells open_max remembered (Ages now ∷ os) =
    aged_tells remembered (told open_max remembered os) now (acted_all open_max remembered new_joiner os) (tells open_max remembered os)

all_told : (open_max remembered : ℕ) (os : List (Act Piece)) → history open_max remembered os ≡ told open_max remembered os
all_told open_max remembered [] = refl
all_told open_max remembered (Brings o ∷ os) =
    ap (λ g. Brings (o, g) ∷ history open_max remembered os)
    (answer_is_told open_max remembered (told open_max remembered os) (acted_all open_max remembered new_joiner os) o (tells open_max remembered os))
    ∙ ap (λ h. Brings (o, answer_told open_max remembered (told open_max remembered os) o) ∷ h) (all_told open_max remembered os)
all_told open_max remembered (Ages now ∷ os) = ap (λ h. Ages now ∷ h) (all_told open_max remembered os)

pub offers_tell_answers : OffersTellAnswers
offers_tell_answers open_max remembered os = record {
  answers = all_told open_max remembered os;
  keys = ap finished_keys (all_told open_max remembered os);
  last_keys = (tells open_max remembered os).finished;
}

pub finishes_by_history : FinishesByHistory
finishes_by_history open_max remembered os o =
    finishes_told open_max remembered (told open_max remembered os) (acted_all open_max remembered new_joiner os) o (tells open_max remembered os)
