-- Which keys of a ring are among the last so many.
use Rattle.std.proofs.Common.{◌≡◌, ℕ, zero, suc, ◌+◌, ◌-◌, ◌<◌, ◌≤◌, Bool, true, false, cond, ltb, ◌&&◌, ◌||◌, List, [], ◌∷◌, ◌++◌, take, drop, length, reverse, refl, sym, ap, ◌∙◌, subst, arith, length-drop}
use Rattle.std.proofs.lemmas.Bool.{lt-ltb, ltb-true}
use Rattle.std.proofs.lemmas.List.{reverse-append, length-take, length-reverse}
use Rattle.sms_join.specs.declared.key.Key.{Key}
use Rattle.sms_join.specs.Key.{same_key}
use Rattle.sms_join.specs.Joiner.{is_among}
use Rattle.sms_join.specs.Inside.KeyRings.{placed, entries, keys_of, came_after}
use Rattle.sms_join.proofs.RingSearch.{Asked, any_met}

-- From this number on each came after as many as its number says.
abbrev AreCounted : (ℕ → ℕ) → ℕ → List (ℕ × Key) → Type 0
AreCounted after n [] = Unit {0}
AreCounted after n (e ∷ es) = (after e.0 ≡ n) × AreCounted after (suc n) es

counted_append : (after : ℕ → ℕ) (n : ℕ) (es fs : List (ℕ × Key)) → AreCounted after n es → AreCounted after (n + length es) fs → AreCounted after n (es ++ fs)
counted_append after n [] fs a b = subst (λ m. AreCounted after m fs) (omega arith) b
counted_append after n (e ∷ es) fs a b = (a.0, counted_append after (suc n) es fs a.1 (subst (λ m. AreCounted after m fs) (omega arith) b))

not_below : (n last : ℕ) → last ≤ n → ltb n last ≡ false
not_below n last l = go (ltb n last) refl
  where
    go : (b : Bool) → ltb n last ≡ b → b ≡ false
    go false e = refl
    go true e = let k = ltb-true n last e in absurd (omega arith)

none_met : (a : Asked) (n : ℕ) (es : List (ℕ × Key)) → a.last ≤ n → AreCounted a.after n es → any_met a es ≡ false
none_met a n [] l h = refl
none_met a n (e ∷ es) l h =
    ap (λ b. (same_key e.1 a.key && b) || any_met a es) (ap (λ m. ltb m a.last) h.0 ∙ not_below n a.last l)
    ∙ go (same_key e.1 a.key) (none_met a (suc n) es (omega arith) h.1)
  where
    go : (b : Bool) → any_met a es ≡ false → ((b && false) || any_met a es) ≡ false
    go true ih = ih
    go false ih = ih

met_from : (a : Asked) (n m : ℕ) (es : List (ℕ × Key)) → a.last ≡ n + m → AreCounted a.after n es → is_among (take m (keys_of es)) a.key ≡ any_met a es
met_from a n zero es l h = sym (none_met a n es (omega arith) h)
met_from a n (suc m) [] l h = refl
met_from a n (suc m) (e ∷ es) l h =
    let yes : ltb (a.after e.0) a.last ≡ true = ap (λ k. ltb k a.last) h.0 ∙ lt-ltb n a.last (omega arith) in
    ap (λ b. same_key e.1 a.key || b) (met_from a (suc n) m es (omega arith) h.1)
    ∙ (ap (λ b. b || any_met a es) (go (same_key e.1 a.key)) ∙ ap (λ b. (same_key e.1 a.key && b) || any_met a es) (sym yes))
  where
    go : (b : Bool) → b ≡ (b && true)
    go true = refl
    go false = refl

-- keys that lie one after another, told from the last
counted_placed : (after : ℕ → ℕ) (n p : ℕ) (ks : List Key) → ((i : ℕ) → i < length ks → after (p + i) ≡ n + (length ks - 1 - i)) → AreCounted after n (reverse (placed p ks))
counted_placed after n p [] h = tt
counted_placed after n p (k ∷ ks) h =
    subst (AreCounted after n) (sym (reverse-append ((p, k) ∷ []) (placed (suc p) ks)))
    (counted_append after n (reverse (placed (suc p) ks)) ((p, k) ∷ [])
    (counted_placed after n (suc p) ks (λ i l.
    let at : p + suc i ≡ suc p + i = omega arith in
    let same : n + (length (k ∷ ks) - 1 - suc i) ≡ n + (length ks - 1 - i) = omega arith in
    ap after (sym at) ∙ (h (suc i) (omega arith) ∙ same)))
    ((
      (let at : p + 0 ≡ p = omega arith in
          let last : n + (length (k ∷ ks) - 1 - 0) ≡ n + length (reverse (placed (suc p) ks)) = omega (arith, length-reverse (placed (suc p) ks), count (suc p) ks) in
          ap after (sym at) ∙ (h 0 (omega arith) ∙ last)),
      tt,
    )))
  where
    count : (m : ℕ) (ls : List Key) → length (placed m ls) ≡ length ls
    count m [] = refl
    count m (l ∷ ls) = ap suc (count (suc m) ls)

take_placed : (n o : ℕ) (ks : List Key) → take o (placed n ks) ≡ placed n (take o ks)
take_placed n zero ks = refl
take_placed n (suc o) [] = refl
take_placed n (suc o) (k ∷ ks) = ap (λ es. (n, k) ∷ es) (take_placed (suc n) o ks)

drop_placed : (n o m : ℕ) (ks : List Key) → m ≡ n + o → drop o (placed n ks) ≡ placed m (drop o ks)
drop_placed n zero m ks e = ap (λ p. placed p ks) (let f : n ≡ m = omega arith in f)
drop_placed n (suc o) m [] e = refl
drop_placed n (suc o) m (k ∷ ks) e = drop_placed (suc n) o m ks (omega arith)

-- the keys of a ring, whose oldest lies at a place
module _ (oldest : ℕ) (ks : List Key) (there : oldest ≤ length ks) where
  front : (i : ℕ) → i < length (take oldest ks) → came_after oldest (length ks) (0 + i) ≡ 0 + (length (take oldest ks) - 1 - i)
  front i l =
      let long = length-take oldest ks in
      let under : i < oldest = omega arith in
      let at : 0 + i ≡ i = omega arith in
      ap (came_after oldest (length ks)) at
      ∙ (ap (λ b. cond b (oldest - 1 - i) (oldest + (length ks - 1 - i))) (lt-ltb i oldest under) ∙ omega arith)

  back : (i : ℕ) → i < length (drop oldest ks) → came_after oldest (length ks) (oldest + i) ≡ oldest + (length (drop oldest ks) - 1 - i)
  back i l =
      let long = length-drop oldest ks in
      ap (λ b. cond b (oldest - 1 - (oldest + i)) (oldest + (length ks - 1 - (oldest + i)))) (not_below (oldest + i) oldest (omega arith)) ∙ omega arith

  counted : AreCounted (came_after oldest (length ks)) 0 (entries oldest ks)
  counted =
      subst (AreCounted (came_after oldest (length ks)) 0) (sym (reverse-append (drop oldest (placed 0 ks)) (take oldest (placed 0 ks))))
      (counted_append (came_after oldest (length ks)) 0 (reverse (take oldest (placed 0 ks))) (reverse (drop oldest (placed 0 ks)))
      (subst (λ es. AreCounted (came_after oldest (length ks)) 0 (reverse es)) (sym (take_placed 0 oldest ks)) (counted_placed (came_after oldest (length ks)) 0 0 (take oldest ks) front))
      (subst (λ n. AreCounted (came_after oldest (length ks)) n (reverse (drop oldest (placed 0 ks)))) (sym long)
      (subst (λ es. AreCounted (came_after oldest (length ks)) oldest (reverse es)) (sym (drop_placed 0 oldest oldest ks (omega arith)))
      (counted_placed (came_after oldest (length ks)) oldest oldest (drop oldest ks) back))))
    where
      placed_length : (m : ℕ) (ls : List Key) → length (placed m ls) ≡ length ls
      placed_length m [] = refl
      placed_length m (l ∷ ls) = ap suc (placed_length (suc m) ls)

      long : 0 + length (reverse (take oldest (placed 0 ks))) ≡ oldest
      long = omega (arith, length-reverse (take oldest (placed 0 ks)), length-take oldest (placed 0 ks), placed_length 0 ks)

  pub met_is : (k : Key) (last : ℕ) → is_among (take last (keys_of (entries oldest ks))) k
      ≡ any_met (record { key = k; last = last; after = came_after oldest (length ks) }) (entries oldest ks)
  met_is k last = met_from (record { key = k; last = last; after = came_after oldest (length ks) }) 0 last (entries oldest ks) (omega arith) counted
