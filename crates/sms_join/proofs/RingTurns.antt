-- How keys with their places lie round the ring.
use Rattle.std.proofs.Common.{◌≡◌, ◌≢◌, ℕ, zero, suc, ◌+◌, ◌<◌, Bool, true, false, cond, eqb, List, [], ◌∷◌, ◌++◌, take, drop, length, reverse, get_or, refl, sym, ap, ◌∙◌, arith, length-append}
use Rattle.std.proofs.Math.ListN.{set}
use Rattle.std.proofs.lemmas.Bool.{eqb-true, eqb-false}
use Rattle.std.proofs.lemmas.List.{append-nil, append_assoc, drop_all, drop-set-lt, length-reverse, length-take, reverse-append, set_split, take-append-drop, take_at}
use Rattle.sms_join.specs.Inside.KeyRings.{placed, newest_first, entries, newer}

module _ {X : Type 0} where
  pub length-newest_first : (o : ℕ) (xs : List X) → length (newest_first o xs) ≡ length xs
  length-newest_first o xs =
      omega (
        arith,
        length-reverse (drop o xs ++ take o xs),
        length-append (drop o xs) (take o xs),
        length-append (take o xs) (drop o xs),
        ap (λ (l : List X). length l) (take-append-drop o xs),
      )

  pub newest_first-push : (xs : List X) (x : X) → newest_first 0 (xs ++ x ∷ []) ≡ x ∷ newest_first 0 xs
  newest_first-push xs x =
      ap reverse (append-nil (xs ++ x ∷ [])) ∙ (reverse-append xs (x ∷ []) ∙ ap (λ l. x ∷ reverse l) (sym (append-nil xs)))

  -- a new one in place of the oldest
  module _ (limit o : ℕ) (xs : List X) (x : X) (turns : o < limit) (long : length xs ≡ limit) where
    others : List X
    others = drop (suc o) xs ++ take o xs

    turned : (b : Bool) → eqb (o + 1) limit ≡ b → (cond b 0 (o + 1) < limit) × (drop (cond b 0 (o + 1)) (set xs o x) ++ take (cond b 0 (o + 1)) (set xs o x) ≡ others ++ x ∷ [])
    unfolding others
    turned true e =
        let last : o + 1 ≡ limit = eqb-true (o + 1) limit e in
        let none : drop (suc o) xs ≡ [] = drop_all (suc o) xs (omega arith) in (
          omega arith,
          append-nil (set xs o x)
              ∙ (set_split xs o x (omega arith)
              ∙ (ap (λ l. take o xs ++ x ∷ l) none ∙ ap (λ l. (l ++ take o xs) ++ x ∷ []) (sym none))),
        )
    turned false e =
        let ne : o + 1 ≢ limit = eqb-false (o + 1) limit e in
        let next : o + 1 ≡ suc o = omega arith in (
          omega arith,
          ap (λ n. drop n (set xs o x) ++ take n (set xs o x)) next
              ∙ (ap (λ l. l ++ take (suc o) (set xs o x)) (drop-set-lt (suc o) xs o x (omega arith))
              ∙ (ap (λ l. drop (suc o) xs ++ l) front ∙ sym (append_assoc (drop (suc o) xs) (take o xs) (x ∷ [])))),
        )
      where
        shown : length (take o xs ++ x ∷ []) ≡ suc o
        shown = omega (arith, length-append (take o xs) (x ∷ []), length-take o xs)

        front : take (suc o) (set xs o x) ≡ take o xs ++ x ∷ []
        front =
            ap (take (suc o)) (set_split xs o x (omega arith) ∙ sym (append_assoc (take o xs) (x ∷ []) (drop (suc o) xs)))
            ∙ take_at (take o xs ++ x ∷ []) (drop (suc o) xs) (suc o) shown

    pub newest_first-turn : (n : ℕ) → n ≡ cond (eqb (o + 1) limit) 0 (o + 1)
        → (n < limit) × (newest_first n (set xs o x) ≡ x ∷ reverse (drop (suc o) xs ++ take o xs))
    unfolding others
    newest_first-turn n i =
        let t = turned (eqb (o + 1) limit) refl in (
          omega (arith, t.0),
          ap (λ m. newest_first m (set xs o x)) i ∙ (ap reverse t.1 ∙ reverse-append others (x ∷ [])),
        )

module _ {K : Type 0} where
  pub length-placed : (n : ℕ) (ks : List K) → length (placed n ks) ≡ length ks
  length-placed n [] = refl
  length-placed n (k ∷ ks) = ap suc (length-placed (suc n) ks)

  pub length-entries : (o : ℕ) (ks : List K) → length (entries o ks) ≡ length ks
  length-entries o ks = length-newest_first o (placed 0 ks) ∙ length-placed 0 ks

  placed-push : (n m : ℕ) (ks : List K) (k : K) → m ≡ n + length ks → placed n (ks ++ k ∷ []) ≡ placed n ks ++ (m, k) ∷ []
  placed-push n m [] k i = let j : n ≡ m = omega arith in ap (λ (q : ℕ). (q, k) ∷ []) j
  placed-push n m (l ∷ ks) k i = ap (λ es. (n, l) ∷ es) (placed-push (suc n) m ks k (omega arith))

  pub placed-set : (n m o : ℕ) (ks : List K) (k : K) → m ≡ n + o → placed n (set ks o k) ≡ set (placed n ks) o (m, k)
  placed-set n m o [] k i = refl
  placed-set n m zero (l ∷ ks) k i = let j : n ≡ m = omega arith in ap (λ (q : ℕ). (q, k) ∷ placed (suc n) ks) j
  placed-set n m (suc o) (l ∷ ks) k i = ap (λ es. (n, l) ∷ es) (placed-set (suc n) m o ks k (omega arith))

  drop-placed : (n m o : ℕ) (ks : List K) (d : K) → m ≡ n + o → o < length ks → drop o (placed n ks) ≡ (m, get_or ks o d) ∷ drop (suc o) (placed n ks)
  drop-placed n m o [] d i l = absurd (omega arith)
  drop-placed n m zero (k ∷ ks) d i l = let j : n ≡ m = omega arith in ap (λ (q : ℕ). (q, k) ∷ placed (suc n) ks) j
  drop-placed n m (suc o) (k ∷ ks) d i l = drop-placed (suc n) m o ks d (omega arith) (omega arith)

  -- a key more, where there is room
  pub entries-push : (ks : List K) (k : K) → entries 0 (ks ++ k ∷ []) ≡ (length ks, k) ∷ entries 0 ks
  entries-push ks k =
      ap (newest_first 0) (placed-push 0 (length ks) ks k (omega arith)) ∙ newest_first-push (placed 0 ks) (length ks, k)

  -- the oldest is the last
  pub entries_split : (o : ℕ) (ks : List K) (d : K) → o < length ks → entries o ks ≡ newer o ks ++ (o, get_or ks o d) ∷ []
  entries_split o ks d l =
      ap (λ es. reverse (es ++ take o (placed 0 ks))) (drop-placed 0 o o ks d (omega arith) l)
      ∙ reverse-append ((o, get_or ks o d) ∷ []) (drop (suc o) (placed 0 ks) ++ take o (placed 0 ks))

  -- a key in place of the oldest
  pub entries-turn : (limit o n : ℕ) (ks : List K) (k : K) → o < limit → length ks ≡ limit → n ≡ cond (eqb (o + 1) limit) 0 (o + 1)
      → (n < limit) × (entries n (set ks o k) ≡ (o, k) ∷ newer o ks)
  entries-turn limit o n ks k turns long i =
      let t = newest_first-turn limit o (placed 0 ks) (o, k) turns (length-placed 0 ks ∙ long) n i in (
        t.0,
        ap (newest_first n) (placed-set 0 o o ks k (omega arith)) ∙ t.1,
      )
