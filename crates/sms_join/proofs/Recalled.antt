-- A recipient is answered as by a joiner of its own while its pieces find their keys.
use Rattle.std.proofs.Common.{◌≡◌, ◌≢◌, ℕ, zero, suc, ◌≤◌, Bool, true, false, cond, List, [], ◌∷◌, take, length, Option, refl, sym, ap, ◌∙◌, subst, arith}
use Rattle.std.proofs.lemmas.Bool.{or_parts}
use Rattle.std.specs.List.{filter}
use Rattle.sms_field.specs.Address.Value.{AddressValue}
use Rattle.sms_join.specs.declared.key.Key.{Key}
use Rattle.sms_join.specs.Key.{same_key, is_for}
use Rattle.sms_join.specs.Piece.{Piece}
use Rattle.sms_join.specs.Joiner.Sets.{without}
use Rattle.sms_join.specs.Joiner.{Joiner, Answer, Repeat, Kept, Finished, TooManyOpen, new_joiner, is_among, is_repeat, is_whole, has_room, answer, answered, offered}
use Rattle.sms_join.specs.Joiner.Acts.{Act, Brings, Ages}
use Rattle.sms_join.specs.Joiner.Aging.{aged_after}
use Rattle.sms_join.specs.Gateway.Value.{LimitsValue}
use Rattle.sms_join.specs.Gateway.Answers.{is_passed, gateway_answer, gateway_offered, gateway_holds}
use Rattle.sms_join.specs.Gateway.Recipients.{acts_for}
use Rattle.sms_join.specs.Gateway.WithoutRecipient.{piece_alone, joiner_alone, IsAllFor}
use Rattle.sms_join.specs.Gateway.Recalled.{IsRecalled, AreRecalled, acts_alone, AnswersRecalled, LimitsRecall}
use Rattle.sms_join.proofs.OwnParts.{own, among-own, answer-own, more, without-own, kept-others, aged-own, fewer_keys, holds_each}
use Rattle.sms_join.proofs.WithoutRecipients.{AllFor, KeysFor, pieces_are_own, answers_alone, aged-alone}

-- ---- the front of a list

abbrev Fronts : {X : Type 0} → List X → List X → Type 0
Fronts [] ys = Unit {0}
Fronts (x ∷ xs) [] = ⊥
Fronts (x ∷ xs) (y ∷ ys) = (x ≡ y) × Fronts xs ys

fronts_self : {X : Type 0} (xs : List X) → Fronts xs xs
fronts_self [] = tt
fronts_self (x ∷ xs) = (refl, fronts_self xs)

fronts_on : {X : Type 0} (xs ys zs : List X) → Fronts xs ys → Fronts ys zs → Fronts xs zs
fronts_on [] ys zs f g = tt
fronts_on (x ∷ xs) [] zs f g = absurd f
fronts_on (x ∷ xs) (y ∷ ys) [] f g = absurd g
fronts_on (x ∷ xs) (y ∷ ys) (z ∷ zs) f g = (f.0 ∙ g.0, fronts_on xs ys zs f.1 g.1)

fronts_taken : {X : Type 0} (m : ℕ) (xs ys : List X) → Fronts xs ys → length xs ≤ m → Fronts xs (take m ys)
fronts_taken m [] ys f few = tt
fronts_taken m (x ∷ xs) [] f few = absurd f
fronts_taken zero (x ∷ xs) (y ∷ ys) f few = absurd (omega arith)
fronts_taken (suc m) (x ∷ xs) (y ∷ ys) f few = (f.0, fronts_taken m xs ys f.1 (omega arith))

length_taken : {X : Type 0} (m : ℕ) (xs : List X) → length (take m xs) ≤ m
length_taken zero xs = omega arith
length_taken (suc m) [] = omega arith
length_taken (suc m) (x ∷ xs) = let l = length_taken m xs in omega arith

filtered_front : {X : Type 0} (f : X → Bool) (m : ℕ) (xs : List X) → Fronts (filter f (take m xs)) (filter f xs)
filtered_front f zero xs = tt
filtered_front f (suc m) [] = tt
filtered_front f (suc m) (x ∷ xs) = go (f x) (filtered_front f m xs)
  where
    go : (b : Bool) → Fronts (filter f (take m xs)) (filter f xs) → Fronts (cond b (x ∷ filter f (take m xs)) (filter f (take m xs))) (cond b (x ∷ filter f xs) (filter f xs))
    go true ih = (refl, ih)
    go false ih = ih

not_in_front : (xs ys : List Key) (k : Key) → Fronts xs ys → is_among ys k ≡ false → is_among xs k ≡ false
not_in_front [] ys k f h = refl
not_in_front (x ∷ xs) [] k f h = absurd f
not_in_front (x ∷ xs) (y ∷ ys) k f h =
    let q = or_parts (same_key y k) (is_among ys k) h in
    rw (f.0, q.0, not_in_front xs ys k f.1 q.1) refl

-- ---- one that has some of the keys

-- the answer asks of the keys only whether this one is there
answer_by : (open_max : ℕ) (ps : List Piece) (ks ls : List Key) (p : Piece) → is_among ks p.key ≡ is_among ls p.key
    → answer open_max (record { kept = ps; finished = ks }) p ≡ answer open_max (record { kept = ps; finished = ls }) p
unfolding answer is_repeat is_whole has_room
answer_by open_max ps ks ls p e = rw e refl

module _ (r : Option AddressValue) where
  -- the one keeps what the other keeps of the recipient, and remembers the last keys of it that the other does, or more
  record Follows (j own_one : Joiner) : Type 0 where
    kept : own r j.kept ≡ own_one.kept
    keys : Fronts (filter (is_for r) j.finished) own_one.finished
    all : KeysFor r own_one.finished

  known_alike : (j o : Joiner) (k : Key) → Follows j o → is_for r k ≡ true → (is_among o.finished k ≡ true → is_among j.finished k ≡ true)
      → is_among (filter (is_for r) j.finished) k ≡ is_among o.finished k
  known_alike j o k h t known = go (is_among o.finished k) refl
    where
      go : (b : Bool) → is_among o.finished k ≡ b → is_among (filter (is_for r) j.finished) k ≡ b
      go true e = among-own r j.finished k t ∙ known e
      go false e = not_in_front (filter (is_for r) j.finished) o.finished k h.keys e

  answers_alike : (open_max : ℕ) (j o : Joiner) (p : Piece) → Follows j o → is_for r p.key ≡ true → answer open_max j p ≢ TooManyOpen
      → (is_among o.finished p.key ≡ true → is_among j.finished p.key ≡ true) → answer open_max j p ≡ answer open_max o p
  answers_alike open_max j o p h t taken known =
      answer-own r open_max j p t taken
      ∙ (answer_by open_max (own r j.kept) (filter (is_for r) j.finished) o.finished p (known_alike j o p.key h t known)
      ∙ ap (λ (ps : List Piece). answer open_max (record { kept = ps; finished = o.finished }) p) h.kept)

  keys_taken : (m : ℕ) (ks : List Key) → KeysFor r ks → KeysFor r (take m ks)
  keys_taken zero ks h = tt
  keys_taken (suc m) [] h = tt
  keys_taken (suc m) (k ∷ ks) h = (h.0, keys_taken m ks h.1)

  -- ---- after a piece of the recipient

  own_keys : (m : ℕ) (ks os : List Key) (k : Key) → is_for r k ≡ true → Fronts (filter (is_for r) ks) os
      → Fronts (filter (is_for r) (take m (k ∷ ks))) (take m (k ∷ os))
  own_keys m ks os k t f =
      let l = fewer_keys r (take m (k ∷ ks)) in
      let n = length_taken m (k ∷ ks) in
      let own_first : filter (is_for r) (k ∷ ks) ≡ k ∷ filter (is_for r) ks = rw t refl in
      fronts_taken m (filter (is_for r) (take m (k ∷ ks))) (k ∷ os)
      (fronts_on (filter (is_for r) (take m (k ∷ ks))) (filter (is_for r) (k ∷ ks)) (k ∷ os) (filtered_front (is_for r) m (k ∷ ks))
      (subst (λ (xs : List Key). Fronts xs (k ∷ os)) (sym own_first) (refl, f))) (omega arith)

  follows_own : (m : ℕ) (j o : Joiner) (p : Piece) (a : Answer) → Follows j o → is_for r p.key ≡ true → Follows (answered m j p a) (answered m o p a)
  unfolding answered
  follows_own m j o p Repeat h t = h
  follows_own m j o p Kept h t = record { kept = more r p j.kept t ∙ ap (λ (ps : List Piece). p ∷ ps) h.kept; keys = h.keys; all = h.all }
  follows_own m j o p (Finished us) h t =
      record {
        kept = without-own r j.kept p.key ∙ ap (λ (ps : List Piece). without ps p.key) h.kept;
        keys = own_keys m j.finished o.finished p.key t h.keys;
        all = keys_taken m (p.key ∷ o.finished) (t, h.all);
      }
  follows_own m j o p TooManyOpen h t = h

  -- ---- after a piece of another

  other_keys : (m : ℕ) (ks os : List Key) (k : Key) → is_for r k ≡ false → Fronts (filter (is_for r) ks) os
      → Fronts (filter (is_for r) (take m (k ∷ ks))) os
  other_keys m ks os k t f =
      let others : filter (is_for r) (k ∷ ks) ≡ filter (is_for r) ks = rw t refl in
      fronts_on (filter (is_for r) (take m (k ∷ ks))) (filter (is_for r) (k ∷ ks)) os (filtered_front (is_for r) m (k ∷ ks))
      (subst (λ (xs : List Key). Fronts xs os) (sym others) f)

  follows_other : (m : ℕ) (j o : Joiner) (p : Piece) (a : Answer) → Follows j o → is_for r p.key ≡ false → Follows (answered m j p a) o
  unfolding answered
  follows_other m j o p Repeat h t = h
  follows_other m j o p Kept h t = record { kept = kept-others r m j p Kept t ∙ h.kept; keys = h.keys; all = h.all }
  follows_other m j o p (Finished us) h t =
      record { kept = kept-others r m j p (Finished us) t ∙ h.kept; keys = other_keys m j.finished o.finished p.key t h.keys; all = h.all }
  follows_other m j o p TooManyOpen h t = h

  -- ---- after an aging

  follows_aged : (longest now : ℕ) (j o : Joiner) → Follows j o → Follows (aged_after longest now j) (aged_after longest now o)
  unfolding aged_after
  follows_aged longest now j o h =
      record {
        kept = ap (λ (i : Joiner). i.kept) (aged-own r longest now j)
            ∙ ap (λ (ps : List Piece). (aged_after longest now (record { kept = ps; finished = o.finished })).kept) h.kept;
        keys = h.keys;
        all = h.all;
      }

  -- ---- a list of offers and agings

  module _ (limits : LimitsValue) where
    step_own : (j o : Joiner) (p : Piece) (b : Bool) → is_passed limits.alone p.key ≡ b → Follows j o → is_for r p.key ≡ true
        → cond b (Finished (p.units ∷ [])) (answer limits.open_max j p) ≢ TooManyOpen
        → (is_among o.finished p.key ≡ true → is_among j.finished p.key ≡ true)
        → (gateway_answer limits j p ≡ gateway_answer limits o p) × Follows (gateway_offered limits j p) (gateway_offered limits o p)
    unfolding offered
    step_own j o p true e h t taken known = (rw e refl, rw e h)
    step_own j o p false e h t taken known =
        let same : answer limits.open_max j p ≡ answer limits.open_max o p = answers_alike limits.open_max j o p h t taken known in
        let next : Follows (answered limits.remembered j p (answer limits.open_max j p)) (answered limits.remembered o p (answer limits.open_max o p)) =
        subst (λ (a : Answer). Follows (answered limits.remembered j p (answer limits.open_max j p)) (answered limits.remembered o p a)) same
        (follows_own limits.remembered j o p (answer limits.open_max j p) h t) in
        (rw e same, rw e next)

    step_other : (j o : Joiner) (p : Piece) (b : Bool) → is_passed limits.alone p.key ≡ b → Follows j o → is_for r p.key ≡ false → Follows (gateway_offered limits j p) o
    unfolding offered
    step_other j o p true e h t = rw e h
    step_other j o p false e h t = rw e (follows_other limits.remembered j o p (answer limits.open_max j p) h t)

    step : (j o : Joiner) (p : Piece) → Follows j o → is_for r p.key ≡ true → IsRecalled limits j o p
        → (gateway_answer limits j p ≡ gateway_answer limits o p) × Follows (gateway_offered limits j p) (gateway_offered limits o p)
    step j o p h t q = step_own j o p (is_passed limits.alone p.key) refl h t q.taken q.known

    all_follow : (acts : List (Act Piece)) → AreRecalled limits r acts → Follows (gateway_holds limits acts) (gateway_holds limits (acts_for r acts))
    unfolding new_joiner
    all_follow [] h = record { kept = refl; keys = tt; all = tt }
    all_follow (Brings p ∷ acts) h = go (is_for r p.key) refl (all_follow acts h.1)
      where
        go : (b : Bool) → is_for r p.key ≡ b → Follows (gateway_holds limits acts) (gateway_holds limits (acts_for r acts))
            → Follows (gateway_offered limits (gateway_holds limits acts) p) (gateway_holds limits (cond b (Brings p ∷ acts_for r acts) (acts_for r acts)))
        go true e ih = (step (gateway_holds limits acts) (gateway_holds limits (acts_for r acts)) p ih e (h.0 e)).1
        go false e ih = step_other (gateway_holds limits acts) (gateway_holds limits (acts_for r acts)) p (is_passed limits.alone p.key) refl ih e
    all_follow (Ages now ∷ acts) h = follows_aged limits.open_for now (gateway_holds limits acts) (gateway_holds limits (acts_for r acts)) (all_follow acts h)

    own_all : (acts : List (Act Piece)) → AreRecalled limits r acts → IsAllFor r (gateway_holds limits (acts_for r acts))
    own_all acts h =
        let f = all_follow acts h in
        record { kept = subst (AllFor r) f.kept (pieces_are_own r (gateway_holds limits acts).kept); finished = f.all }

    all_alone : (acts : List (Act Piece)) → AreRecalled limits r acts
        → joiner_alone (gateway_holds limits (acts_for r acts)) ≡ gateway_holds limits (acts_alone r acts)
    unfolding new_joiner
    all_alone [] h = refl
    all_alone (Brings p ∷ acts) h = go (is_for r p.key) refl (all_alone acts h.1)
      where
        go : (b : Bool) → is_for r p.key ≡ b → joiner_alone (gateway_holds limits (acts_for r acts)) ≡ gateway_holds limits (acts_alone r acts)
            → joiner_alone (gateway_holds limits (cond b (Brings p ∷ acts_for r acts) (acts_for r acts)))
            ≡ gateway_holds limits (cond b (Brings (piece_alone p) ∷ acts_alone r acts) (acts_alone r acts))
        go true e ih =
            (answers_alone limits (gateway_holds limits (acts_for r acts)) p r (own_all acts h.1) e).1
            ∙ ap (λ (j : Joiner). gateway_offered limits j (piece_alone p)) ih
        go false e ih = ih
    all_alone (Ages now ∷ acts) h =
        aged-alone r (gateway_holds limits (acts_for r acts)) (own_all acts h) limits.open_for now ∙ ap (aged_after limits.open_for now) (all_alone acts h)

pub answers_recalled : AnswersRecalled
answers_recalled limits acts p r h t =
    (step r limits (gateway_holds limits acts) (gateway_holds limits (acts_for r acts)) p (all_follow r limits acts h.1) t (h.0 t)).0
    ∙ ((answers_alone limits (gateway_holds limits (acts_for r acts)) p r (own_all r limits acts h.1) t).0
    ∙ ap (λ (j : Joiner). gateway_answer limits j (piece_alone p)) (all_alone r limits acts h.1))

pub limits_recall : LimitsRecall
limits_recall limits [] r h = tt
limits_recall limits (Brings p ∷ acts) r h = (
  λ t. record {
    taken = h.0.taken;
    known = λ e.
        sym (among-own r (gateway_holds limits acts).finished p.key t)
        ∙ (ap (λ (j : Joiner). is_among j.finished p.key) (holds_each limits acts r h.1) ∙ e);
  },
  limits_recall limits acts r h.1,
)
limits_recall limits (Ages now ∷ acts) r h = limits_recall limits acts r h
