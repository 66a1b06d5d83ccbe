-- How a key is found among those that are linked, of which the oldest is at the first place.
use Rattle.std.proofs.Common.{◌≡◌, ◌≢◌, ℕ, suc, ◌+◌, ◌-◌, ◌<◌, ◌≤◌, bit_and, Bool, true, false, cond, not, ltb, List, [], ◌∷◌, ◌++◌, map, take, drop, length, reverse, get_or, refl, sym, ap, ◌∙◌, subst, arith, length-append}
use Rattle.std.proofs.lemmas.Bool.{ltb-true, not-true}
use Rattle.std.proofs.Math.ListN.{set}
use Rattle.std.proofs.lemmas.List.{append_assoc, get_or_default, get_or-take, reverse-append, take-map, take_all, take_more, length-take, length-reverse}
use Rattle.sms_join.specs.declared.key.Key.{Key}
use Rattle.sms_join.specs.Key.{same_key}
use Rattle.sms_join.specs.Joiner.{is_among}
use Rattle.sms_join.specs.Gateway.Distinct.{NoneTwice}
use Rattle.sms_join.specs.Inside.LooseKeys.{LooseKeysValue}
use Rattle.sms_join.specs.Inside.KeyRings.{came_after, entries, keys_of, IsChained}
use Rattle.sms_join.proofs.MetKeys.{met_is}
use Rattle.sms_join.proofs.Places.{split_at}
use Rattle.sms_join.proofs.RingHashes.{chained_keys}
use Rattle.sms_join.proofs.RingKeys.{laid_first, keys_of_laid}
use Rattle.sms_join.proofs.RingPushed.{pushed_room}
use Rattle.sms_join.proofs.RingSearch.{Asked, Sought, any_met, is_met, met_both, met_other, met_elsewhere, sought_first}

-- the key is the one that is asked for; all came last enough
abbrev pub loose : Key → List Key → Asked
loose k ks = record { key = k; last = length ks; after = came_after 0 (length ks) }

-- the hashes of those that are linked are in chains, so these are
pub loose_chained : (f : Key → ℕ) (limit n : ℕ) (hs : List ℕ) (ks : List Key) (next heads : List ℕ) → IsChained (λ (hash : ℕ). hash) limit 0 (take n hs) next heads
    → hs ≡ map f ks → IsChained f limit 0 (take n ks) next heads
loose_chained f limit n hs ks next heads i is = chained_keys f limit 0 (take n hs) (take n ks) next heads i (ap (take n) is ∙ take-map f n ks)

among_met : (k : Key) (ks : List Key) → is_among (reverse ks) k ≡ any_met (loose k ks) (entries 0 ks)
among_met k ks =
    let all : keys_of (entries 0 ks) ≡ reverse ks = ap (λ l. keys_of (entries 0 l)) (sym (laid_first ks)) ∙ keys_of_laid 0 ks (omega arith) in
    ap (λ l. is_among l k) (sym (take_all (length ks) (reverse ks) (omega (arith, length-reverse ks))) ∙ ap (take (length ks)) (sym all))
    ∙ met_is 0 ks (omega arith) k (length ks)

pub loose_first : (f : Key → ℕ) (limit : ℕ) (ks : List Key) (next heads : List ℕ) (i : IsChained f limit 0 ks next heads) (k : Key) (h n p : ℕ)
    → h ≡ bit_and (f k) (n - 1) → h < n → n ≡ length heads → p ≡ get_or heads h p → Sought ks next (is_among (reverse ks) k) (loose k ks) p
loose_first f limit ks next heads i k h n p is below as_many at =
    sought_first f limit 0 ks next heads i (is_among (reverse ks) k) (loose k ks) h n p (among_met k ks) is below as_many at

none_below_first : (p : ℕ) → ltb p 0 ≡ false
none_below_first p = go (ltb p 0) refl
  where
    go : (b : Bool) → ltb p 0 ≡ b → b ≡ false
    go false e = refl
    go true e = let l = ltb-true p 0 e in absurd (omega arith)

pub loose_met : (k x : Key) (ks : List Key) (p : ℕ) → p < length ks → same_key x k ≡ true → is_met (loose k ks) (p, x) ≡ true
loose_met k x ks p l same =
    met_both (loose k ks) p x (0 + (length ks - 1 - p)) same
    (sym (ap (λ (b : Bool). cond b (0 - 1 - p) (0 + (length ks - 1 - p))) (none_below_first p))) (omega arith)

pub loose_other : (k x : Key) (ks : List Key) (p : ℕ) → same_key x k ≡ false → is_met (loose k ks) (p, x) ≡ false
loose_other k x ks p other = met_other (loose k ks) p x other

pub loose_elsewhere : (f : Key → ℕ) (k x : Key) (ks : List Key) (p own asked : ℕ) → own ≡ f x → asked ≡ f k → own ≢ asked → is_met (loose k ks) (p, x) ≡ false
loose_elsewhere f k x ks p own asked own_is asked_is other = met_elsewhere f (loose k ks) p x own asked own_is asked_is other

-- the key at a place, of those that are linked
pub linked_at : (ks : List Key) (n p : ℕ) (x : Key) → p < n → x ≡ get_or ks p x → x ≡ get_or (take n ks) p x
linked_at ks n p x l at = at ∙ sym (get_or-take n ks p x l)

-- the next one is linked
pub linked_more : (limit n q h m v : ℕ) (hs next heads ns : List ℕ) → IsChained (λ (hash : ℕ). hash) limit 0 (take (length next) hs) next heads
    → q ≡ length next → q < length hs → n ≡ get_or hs q n → length hs ≤ limit → h ≡ bit_and n (m - 1) → h < m → m ≡ length heads → v ≡ get_or heads h v
    → ns ≡ next ++ v ∷ [] → IsChained (λ (hash : ℕ). hash) limit 0 (take (length ns) hs) ns (set heads h q)
linked_more limit n q h m v hs next heads ns i q_is within at room is below as_many leads ns_is =
    let shown : length (take (length next) hs) ≡ length next = omega (arith, length-take (length next) hs) in
    let longer : length ns ≡ q + 1 = omega (arith, ap (λ (l : List ℕ). length l) ns_is, length-append next (v ∷ [])) in
    pushed_room i n q h m v (take (length ns) hs) ns (set heads h q) (omega arith) (omega arith) is below as_many leads
    (ap (λ j. take j hs) longer ∙ (take_more hs q n within ∙ (ap (λ j. take j hs ++ get_or hs q n ∷ []) q_is ∙ ap (λ x. take (length next) hs ++ x ∷ []) (sym at))))
    ns_is refl

-- ---- all of them

-- so many are linked, and none of these is there twice
pub record Linking (old new : LooseKeysValue) (count end : ℕ) : Type 0 where
  pub limit : new.limit ≡ old.limit
  pub keys : new.keys ≡ old.keys
  pub hashing : new.hashing ≡ old.hashing
  pub linked : new.linked ≡ count
  pub all : end ≡ length old.keys
  pub few : count ≤ end
  pub once : NoneTwice (reverse (take count old.keys))

twice_front : (xs ys : List Key) → NoneTwice (xs ++ ys) → NoneTwice ys
twice_front [] ys h = h
twice_front (x ∷ xs) ys h = twice_front xs ys h.1

-- the key at a place, of which there is one
some_at : (ks : List Key) (n : ℕ) → n < length ks → (k : Key) × (k ≡ get_or ks n k)
some_at [] n l = absurd (omega arith)
some_at (x ∷ xs) n l = (get_or (x ∷ xs) n x, get_or_default (x ∷ xs) n x (get_or (x ∷ xs) n x) l)

reversed_at : (ks : List Key) (n : ℕ) (k : Key) → n < length ks → k ≡ get_or ks n k → reverse ks ≡ reverse (drop (suc n) ks) ++ k ∷ reverse (take n ks)
reversed_at ks n k l at =
    ap reverse (split_at ks n k l ∙ ap (λ x. take n ks ++ x ∷ drop (suc n) ks) (sym at))
    ∙ (reverse-append (take n ks) (k ∷ drop (suc n) ks)
    ∙ (ap (λ l. l ++ reverse (take n ks)) (reverse-append (k ∷ []) (drop (suc n) ks)) ∙ append_assoc (reverse (drop (suc n) ks)) (k ∷ []) (reverse (take n ks))))

reversed_more : (ks : List Key) (n : ℕ) (k : Key) → n < length ks → k ≡ get_or ks n k → reverse (take (n + 1) ks) ≡ k ∷ reverse (take n ks)
reversed_more ks n k l at =
    ap reverse (take_more ks n k l ∙ ap (λ x. take n ks ++ x ∷ []) (sym at)) ∙ reverse-append (take n ks) (k ∷ [])

-- the answer to the next one
abbrev Answers : LooseKeysValue → Bool → Type 0
Answers v b = (k : Key) → k ≡ get_or v.keys v.linked k → b ≡ not (is_among (reverse (take v.linked v.keys)) k)

answers_at : (old v : LooseKeysValue) (count end : ℕ) (b : Bool) → Linking old v count end → Answers v b
    → (k : Key) → k ≡ get_or old.keys count k → b ≡ not (is_among (reverse (take count old.keys)) k)
answers_at old v count end b i answers k at =
    answers k (at ∙ (ap (λ n. get_or old.keys n k) (sym i.linked) ∙ ap (λ l. get_or l v.linked k) (sym i.keys)))
    ∙ ap not (ap (λ n. is_among (reverse (take n v.keys)) k) i.linked ∙ ap (λ l. is_among (reverse (take count l)) k) i.keys)

pub linking_twice : (old v : LooseKeysValue) (count end : ℕ) (b : Bool) → Linking old v count end → count < end → Answers v b → b ≡ false → NoneTwice (reverse old.keys) → ⊥
linking_twice old v count end b i more answers failed once =
    let all : end ≡ length old.keys = i.all in
    let there : count < length old.keys = omega arith in
    let k = some_at old.keys count there in
    let h : NoneTwice (k.0 ∷ reverse (take count old.keys)) =
    twice_front (reverse (drop (suc count) old.keys)) (k.0 ∷ reverse (take count old.keys)) (subst NoneTwice (reversed_at old.keys count k.0 there k.1) once) in
    let z : false ≡ true = sym failed ∙ (answers_at old v count end b i answers k.0 k.1 ∙ ap not h.0) in
    cc

pub linking_more : (old v w : LooseKeysValue) (count end : ℕ) (b : Bool) → Linking old v count end → count < end → Answers v b → b ≡ true
    → w ≡ record { limit = v.limit; keys = v.keys; hashing = v.hashing; linked = v.linked + 1 } → Linking old w (count + 1) end
linking_more old v w count end b i more answers done is =
    let all : end ≡ length old.keys = i.all in
    let linked : v.linked ≡ count = i.linked in
    let there : count < length old.keys = omega arith in
    let k = some_at old.keys count there in
    record {
      limit = ap (λ (u : LooseKeysValue). u.limit) is ∙ i.limit;
      keys = ap (λ (u : LooseKeysValue). u.keys) is ∙ i.keys;
      hashing = ap (λ (u : LooseKeysValue). u.hashing) is ∙ i.hashing;
      linked = ap (λ (u : LooseKeysValue). u.linked) is ∙ ap (λ n. n + 1) linked;
      all = all;
      few = omega arith;
      once = subst NoneTwice (sym (reversed_more old.keys count k.0 there k.1))
          (not-true (is_among (reverse (take count old.keys)) k.0) (sym (answers_at old v count end b i answers k.0 k.1) ∙ done), i.once);
    }
