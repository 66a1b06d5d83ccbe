-- A list of n different numbers from 1 to n has them all.
use Rattle.std.proofs.Common.{◌≡◌, ◌≢◌, ℕ, zero, suc, ◌+◌, ◌<◌, ◌≤◌, Bool, true, false, cond, ◌&&◌, ◌||◌, eqb, List, [], ◌∷◌, refl, sym, ap, ◌∙◌, subst, arith}
use Rattle.std.proofs.lemmas.Bool.{eqb-true, eq-eqb, eqb-false, ne_eqb, or_parts}
use Rattle.sms_join.specs.declared.key.Key.{Key}
use Rattle.sms_join.specs.Key.{same_key, maximum_of}
use Rattle.sms_join.specs.Piece.{Piece}
use Rattle.sms_join.specs.Joiner.Sets.{has, has_all, without, units_upto}
use Rattle.sms_join.specs.Joiner.{Joiner, is_among, is_repeat, is_whole, has_room, decided, answer, answered, offered, new_joiner}
use Rattle.sms_join.specs.Joiner.Aging.{is_old, young, aged}
use Rattle.sms_join.specs.Joiner.Acts.{Act, Brings, Ages, brought, acted_all}
use Rattle.sms_join.specs.Joiner.Counts.{count_of, IsInSet, AreInSets, WholeByCount}
use Rattle.sms_join.proofs.SameKeys.{same_key_refl, same_key_true}

-- the pieces of the set have different sequences from 1 to n
abbrev pub AreDistinct : List Piece → Key → ℕ → Type 0
AreDistinct [] k n = Unit {0}
AreDistinct (p ∷ ps) k n =
    (same_key p.key k ≡ true → (0 < p.sequence) × (p.sequence ≤ n) × (has ps k p.sequence ≡ false)) × AreDistinct ps k n

abbrev one_if : Bool → ℕ
one_if true = 1
one_if false = 0

-- how many of the numbers from 1 to n are there
abbrev there : List Piece → Key → ℕ → ℕ
there ps k zero = 0
there ps k (suc n) = one_if (has ps k (suc n)) + there ps k n

there_same : (ps qs : List Piece) (k : Key) (n : ℕ) → ((i : ℕ) → i ≤ n → has ps k i ≡ has qs k i) → there ps k n ≡ there qs k n
there_same ps qs k zero h = refl
there_same ps qs k (suc n) h = rw (h (suc n) (omega arith), there_same ps qs k n (λ i l. h i (omega arith))) refl

there_more : (p : Piece) (ps : List Piece) (k : Key) (n : ℕ) → same_key p.key k ≡ true → 0 < p.sequence → p.sequence ≤ n
    → has ps k p.sequence ≡ false → there (p ∷ ps) k n ≡ suc (there ps k n)
there_more p ps k zero e a b h = absurd (omega arith)
there_more p ps k (suc n) e a b h = go (eqb p.sequence (suc n)) refl (there_more p ps k n e a)
  where
    go : (c : Bool) → eqb p.sequence (suc n) ≡ c
        → (p.sequence ≤ n → has ps k p.sequence ≡ false → there (p ∷ ps) k n ≡ suc (there ps k n))
        → there (p ∷ ps) k (suc n) ≡ suc (there ps k (suc n))
    go true f ih =
        let same = eqb-true p.sequence (suc n) f in
        let none : has ps k (suc n) ≡ false = subst (λ i. has ps k i ≡ false) same h in
        let below : there (p ∷ ps) k n ≡ there ps k n =
        there_same (p ∷ ps) ps k n (λ i l. let ne : eqb p.sequence i ≡ false = ne_eqb _ _ (λ q. omega arith) in rw (e, ne) refl) in
        let z : 0 + there ps k n ≡ there ps k n = omega arith in
        let o : 1 + there ps k n ≡ suc (there ps k n) = omega arith in
        rw (e, f, none, below) (o ∙ ap suc (sym z))
    go false f ih =
        let ne : p.sequence ≢ suc n = eqb-false _ _ f in
        let g = ih (omega arith) h in
        rw (e, f, g) (omega arith)

count_there : (ps : List Piece) (k : Key) (n : ℕ) → AreDistinct ps k n → count_of ps k ≡ there ps k n
count_there [] k n h = go n
  where
    go : (m : ℕ) → 0 ≡ there [] k m
    go zero = refl
    go (suc m) = let e = go m in omega arith
count_there (p ∷ ps) k n h = go (same_key p.key k) refl (count_there ps k n h.1)
  where
    go : (c : Bool) → same_key p.key k ≡ c → count_of ps k ≡ there ps k n → cond c (suc (count_of ps k)) (count_of ps k) ≡ there (p ∷ ps) k n
    go true e ih = let q = h.0 e in ap suc ih ∙ sym (there_more p ps k n e q.0 q.1 q.2)
    go false e ih = ih ∙ sym (there_same (p ∷ ps) ps k n (λ i l. rw e refl))

there_most : (ps : List Piece) (k : Key) (n : ℕ) → there ps k n ≤ n
there_most ps k zero = omega arith
there_most ps k (suc n) = go (has ps k (suc n)) (there_most ps k n)
  where
    go : (b : Bool) → there ps k n ≤ n → one_if b + there ps k n ≤ suc n
    go true h = omega arith
    go false h = omega arith

there_all : (ps : List Piece) (k : Key) (n : ℕ) → has_all ps k n ≡ eqb (there ps k n) n
there_all ps k zero = refl
there_all ps k (suc n) = go (has ps k (suc n)) (there_all ps k n) (there_most ps k n)
  where
    go : (b : Bool) → has_all ps k n ≡ eqb (there ps k n) n → there ps k n ≤ n → (b && has_all ps k n) ≡ eqb (one_if b + there ps k n) (suc n)
    go false h m = sym (ne_eqb _ _ (λ e. omega arith))
    go true h m = which (eqb (there ps k n) n) refl
      where
        which : (c : Bool) → eqb (there ps k n) n ≡ c → has_all ps k n ≡ eqb (1 + there ps k n) (suc n)
        which true e = h ∙ (e ∙ sym (eq-eqb _ _ (let f = eqb-true _ _ e in omega arith)))
        which false e = let ne : there ps k n ≢ n = eqb-false _ _ e in h ∙ (e ∙ sym (ne_eqb _ _ (λ f. omega arith)))

pub whole_if_many : (j : Joiner) (p : Piece) → AreDistinct j.kept p.key p.maximum → 0 < p.sequence → p.sequence ≤ p.maximum
    → is_repeat j p ≡ false → is_whole j p ≡ eqb (suc (count_of j.kept p.key)) p.maximum
unfolding is_whole is_repeat
whole_if_many j o distinct a b n =
    there_all (o ∷ j.kept) o.key o.maximum
    ∙ ap (λ i. eqb i o.maximum) (there_more o j.kept o.key o.maximum (same_key_refl o.key) a b new
    ∙ ap suc (sym (count_there j.kept o.key o.maximum distinct)))
  where
    new : has j.kept o.key o.sequence ≡ false
    new = (or_parts (is_among j.finished o.key) (has j.kept o.key o.sequence) n).1

-- ---- the pieces of a set stay different

has-none_without : (ps : List Piece) (k l : Key) (n : ℕ) → has ps l n ≡ false → has (without ps k) l n ≡ false
has-none_without [] k l n h = refl
has-none_without (p ∷ ps) k l n h =
    let q = or_parts (same_key p.key l && eqb p.sequence n) (has ps l n) h in
    go (same_key p.key k) q.0 (has-none_without ps k l n q.1)
  where
    go : (b : Bool) → (same_key p.key l && eqb p.sequence n) ≡ false → has (without ps k) l n ≡ false
        → has (cond b (without ps k) (p ∷ without ps k)) l n ≡ false
    go true e ih = ih
    go false e ih = rw (e, ih) refl

distinct_without : (ps : List Piece) (k l : Key) (n : ℕ) → AreDistinct ps l n → AreDistinct (without ps k) l n
distinct_without [] k l n h = tt
distinct_without (p ∷ ps) k l n h = go (same_key p.key k) (distinct_without ps k l n h.1)
  where
    go : (b : Bool) → AreDistinct (without ps k) l n → AreDistinct (cond b (without ps k) (p ∷ without ps k)) l n
    go true ih = ih
    go false ih = ((λ e. let q = h.0 e in (q.0, q.1, has-none_without ps k l p.sequence q.2)), ih)

one_more_distinct : (p : Piece) (ps : List Piece) (k : Key) → IsInSet p → has ps p.key p.sequence ≡ false → AreDistinct ps k (maximum_of k)
    → AreDistinct (p ∷ ps) k (maximum_of k)
one_more_distinct p ps k is new h = ((λ e. here (same_key_true p.key k e)), h)
  where
    here : p.key ≡ k → (0 < p.sequence) × (p.sequence ≤ maximum_of k) × (has ps k p.sequence ≡ false)
    here e =
        let within = is.within in
        let same : p.maximum ≡ maximum_of k = is.maximum ∙ ap maximum_of e in
        (is.from_one, omega (arith, within, same), subst (λ l. has ps l p.sequence ≡ false) e new)

offer_distinct : (open_max remembered : ℕ) (j : Joiner) (p : Piece) → IsInSet p → ((k : Key) → AreDistinct j.kept k (maximum_of k))
    → (k : Key) → AreDistinct (offered open_max remembered j p).kept k (maximum_of k)
unfolding offered answer answered decided is_repeat
offer_distinct open_max remembered j p is h k = go (is_repeat j p) (is_whole j p) (has_room open_max j p) refl
  where
    go : (b w r : Bool) → (is_among j.finished p.key || has j.kept p.key p.sequence) ≡ b
        → AreDistinct (answered remembered j p (decided b w r (units_upto (p ∷ j.kept) p.key p.maximum))).kept k (maximum_of k)
    go true w r e = h k
    go false true r e = distinct_without j.kept p.key k (maximum_of k) (h k)
    go false false true e = one_more_distinct p j.kept k is (or_parts (is_among j.finished p.key) (has j.kept p.key p.sequence) e).1 (h k)
    go false false false e = h k

has-none_young : (old : Key → Bool) (ps : List Piece) (k : Key) (n : ℕ) → has ps k n ≡ false → has (young old ps) k n ≡ false
has-none_young old [] k n h = refl
has-none_young old (p ∷ ps) k n h =
    let q = or_parts (same_key p.key k && eqb p.sequence n) (has ps k n) h in
    go (old p.key) q.0 (has-none_young old ps k n q.1)
  where
    go : (b : Bool) → (same_key p.key k && eqb p.sequence n) ≡ false → has (young old ps) k n ≡ false
        → has (cond b (young old ps) (p ∷ young old ps)) k n ≡ false
    go true e ih = ih
    go false e ih = rw (e, ih) refl

distinct_young : (old : Key → Bool) (ps : List Piece) (k : Key) (n : ℕ) → AreDistinct ps k n → AreDistinct (young old ps) k n
distinct_young old [] k n h = tt
distinct_young old (p ∷ ps) k n h = go (old p.key) (distinct_young old ps k n h.1)
  where
    go : (b : Bool) → AreDistinct (young old ps) k n → AreDistinct (cond b (young old ps) (p ∷ young old ps)) k n
    go true ih = ih
    go false ih = ((λ e. let q = h.0 e in (q.0, q.1, has-none_young old ps k p.sequence q.2)), ih)

all_distinct : (open_max remembered : ℕ) (acts : List (Act Piece)) → AreInSets (brought acts) → (k : Key)
    → AreDistinct (acted_all open_max remembered new_joiner acts).kept k (maximum_of k)
unfolding new_joiner aged
all_distinct open_max remembered [] is k = tt
all_distinct open_max remembered (Brings p ∷ acts) is k =
    offer_distinct open_max remembered (acted_all open_max remembered new_joiner acts) p is.0 (all_distinct open_max remembered acts is.1) k
all_distinct open_max remembered (Ages now ∷ acts) is k =
    distinct_young (is_old now (acted_all open_max remembered new_joiner acts).kept) (acted_all open_max remembered new_joiner acts).kept k (maximum_of k)
    (all_distinct open_max remembered acts is k)

pub whole_by_count : WholeByCount
whole_by_count open_max remembered p acts is new =
    whole_if_many (acted_all open_max remembered new_joiner acts) p
    (subst (λ n. AreDistinct (acted_all open_max remembered new_joiner acts).kept p.key n) (sym is.0.maximum) (all_distinct open_max remembered acts is.1 p.key))
    is.0.from_one is.0.within new
