-- The keys of a ring by their places.
use Rattle.std.proofs.Common.{◌≡◌, ℕ, zero, suc, ◌+◌, ◌-◌, ◌<◌, ◌≤◌, Bool, true, false, cond, eqb, List, [], ◌∷◌, ◌++◌, take, drop, length, reverse, refl, sym, ap, ◌∙◌, arith, length-append, length-drop}
use Rattle.std.proofs.Math.ListN.{set}
use Rattle.std.proofs.lemmas.Bool.{eqb-true}
use Rattle.std.proofs.lemmas.List.{append_assoc, drop_all, take_all, drop_at, take_at, take-append-drop, take-append-le, drop-append-le, reverse-append, set-append_right}
use Rattle.circular_buffer.specs.Buffer.{keep_last}
use Rattle.sms_join.specs.Inside.KeyRings.{placed, newest_first, entries, keys_of, laid, IsChained}

module _ {K : Type 0} where
  pub length-laid : (o : ℕ) (ks : List K) → length (laid o ks) ≡ length ks
  length-laid o ks =
      omega (
        arith,
        length-append (drop (length ks - o) ks) (take (length ks - o) ks),
        length-append (take (length ks - o) ks) (drop (length ks - o) ks),
        ap (λ (l : List K). length l) (take-append-drop (length ks - o) ks),
      )

  -- where the oldest is at the first place
  pub laid_first : (ks : List K) → laid 0 ks ≡ ks
  laid_first ks =
      let all : length ks - 0 ≡ length ks = omega arith in
      ap (λ n. drop n ks ++ take n ks) all
      ∙ (ap (λ l. l ++ take (length ks) ks) (drop_all (length ks) ks (omega arith)) ∙ take_all (length ks) ks (omega arith))

  pub laid-push : (ks : List K) (k : K) → laid 0 (ks ++ k ∷ []) ≡ laid 0 ks ++ k ∷ []
  laid-push ks k = laid_first (ks ++ k ∷ []) ∙ ap (λ l. l ++ k ∷ []) (sym (laid_first ks))

  -- a new one in place of the oldest
  turned : (limit o m : ℕ) (x : K) (xs : List K) (k : K) (b : Bool) → o + suc m ≡ limit → suc (length xs) ≡ limit → eqb (o + 1) limit ≡ b
      → laid (cond b 0 (o + 1)) (xs ++ k ∷ []) ≡ drop m xs ++ k ∷ take m xs
  turned limit o m x xs k true split long e =
      let last : o + 1 ≡ limit = eqb-true (o + 1) limit e in
      let none : m ≡ 0 = omega arith in
      laid_first (xs ++ k ∷ []) ∙ ap (λ n. drop n xs ++ k ∷ take n xs) (sym none)
  turned limit o m x xs k false split long e =
      let shown : length (xs ++ k ∷ []) - (o + 1) ≡ m = omega (arith, length-append xs (k ∷ [])) in
      ap (λ n. drop n (xs ++ k ∷ []) ++ take n (xs ++ k ∷ [])) shown
      ∙ (ap (λ l. l ++ take m (xs ++ k ∷ [])) (drop-append-le m xs (k ∷ []) (omega arith))
      ∙ (ap (λ l. (drop m xs ++ k ∷ []) ++ l) (take-append-le m xs (k ∷ []) (omega arith)) ∙ append_assoc (drop m xs) (k ∷ []) (take m xs)))

  replaced : (o m : ℕ) (x : K) (xs : List K) (k : K) → o + suc m ≡ suc (length xs) → set (laid o (x ∷ xs)) o k ≡ drop m xs ++ k ∷ take m xs
  replaced o m x xs k split =
      let shown : suc (length xs) - o ≡ suc m = omega arith in
      let front : length (drop m xs) ≡ o = omega (arith, length-drop m xs) in
      let here : o - o ≡ 0 = omega arith in
      ap (λ n. set (drop n (x ∷ xs) ++ take n (x ∷ xs)) o k) shown
      ∙ (set-append_right (drop m xs) (x ∷ take m xs) o o k front (omega arith) ∙ ap (λ n. drop m xs ++ set (x ∷ take m xs) n k) here)

  pub laid-turn : (limit o n : ℕ) (ks : List K) (k : K) → o < limit → length ks ≡ limit → n ≡ cond (eqb (o + 1) limit) 0 (o + 1)
      → laid n (keep_last limit (ks ++ k ∷ [])) ≡ set (laid o ks) o k
  laid-turn limit o n [] k turns long i = absurd (omega arith)
  laid-turn limit o n (x ∷ xs) k turns long i =
      let m : ℕ = limit - suc o in
      let split : o + suc m ≡ limit = omega arith in
      let one : suc (length (xs ++ k ∷ [])) - limit ≡ 1 = omega (arith, length-append xs (k ∷ [])) in
      ap (λ l. laid n (drop l (x ∷ (xs ++ k ∷ [])))) one
      ∙ (ap (λ l. laid l (xs ++ k ∷ [])) i
      ∙ (turned limit o m x xs k (eqb (o + 1) limit) split long refl ∙ sym (replaced o m x xs k (omega arith))))

  -- the newest come first
  keys_of-placed : (n : ℕ) (ks : List K) → keys_of (placed n ks) ≡ ks
  keys_of-placed n [] = refl
  keys_of-placed n (k ∷ ks) = ap (λ l. k ∷ l) (keys_of-placed (suc n) ks)

  keys_of-append : (es fs : List (ℕ × K)) → keys_of (es ++ fs) ≡ keys_of es ++ keys_of fs
  keys_of-append [] fs = refl
  keys_of-append (e ∷ es) fs = ap (λ l. e.1 ∷ l) (keys_of-append es fs)

  keys_of-reverse : (es : List (ℕ × K)) → keys_of (reverse es) ≡ reverse (keys_of es)
  keys_of-reverse [] = refl
  keys_of-reverse (e ∷ es) =
      ap keys_of (reverse-append (e ∷ []) es)
      ∙ (keys_of-append (reverse es) (e ∷ []) ∙ (ap (λ l. l ++ e.1 ∷ []) (keys_of-reverse es) ∙ sym (reverse-append (e.1 ∷ []) (keys_of es))))

  keys_of-take : (n : ℕ) (es : List (ℕ × K)) → keys_of (take n es) ≡ take n (keys_of es)
  keys_of-take zero es = refl
  keys_of-take (suc n) [] = refl
  keys_of-take (suc n) (e ∷ es) = ap (λ l. e.1 ∷ l) (keys_of-take n es)

  keys_of-drop : (n : ℕ) (es : List (ℕ × K)) → keys_of (drop n es) ≡ drop n (keys_of es)
  keys_of-drop zero es = refl
  keys_of-drop (suc n) [] = refl
  keys_of-drop (suc n) (e ∷ es) = keys_of-drop n es

  keys_of-entries : (o : ℕ) (ks : List K) → keys_of (entries o ks) ≡ newest_first o ks
  keys_of-entries o ks =
      keys_of-reverse (drop o (placed 0 ks) ++ take o (placed 0 ks))
      ∙ ap reverse
      (keys_of-append (drop o (placed 0 ks)) (take o (placed 0 ks))
      ∙ (ap (λ l. l ++ keys_of (take o (placed 0 ks))) (keys_of-drop o (placed 0 ks) ∙ ap (drop o) (keys_of-placed 0 ks))
      ∙ ap (λ l. drop o ks ++ l) (keys_of-take o (placed 0 ks) ∙ ap (take o) (keys_of-placed 0 ks))))

  pub keys_of_laid : (o : ℕ) (ks : List K) → o ≤ length ks → keys_of (entries o (laid o ks)) ≡ reverse ks
  keys_of_laid o ks l =
      let n : ℕ = length ks - o in
      let front : length (drop n ks) ≡ o = omega (arith, length-drop n ks) in
      keys_of-entries o (laid o ks)
      ∙ ap reverse
      (ap (λ es. es ++ take o (drop n ks ++ take n ks)) (drop_at (drop n ks) (take n ks) o front)
      ∙ (ap (λ es. take n ks ++ es) (take_at (drop n ks) (take n ks) o front) ∙ take-append-drop n ks))

-- of what is kept of a ring
module _ {K : Type 0} {hash : K → ℕ} {limit oldest : ℕ} (ks : List K) {next heads : List ℕ} (i : IsChained hash limit oldest (laid oldest ks) next heads) where
  pub oldest_there : oldest ≤ length ks
  oldest_there = by_oldest oldest refl
    where
      by_oldest : (o : ℕ) → oldest ≡ o → oldest ≤ length ks
      by_oldest zero q = omega (arith, q)
      by_oldest (suc o) q =
          let long : length (laid oldest ks) ≡ limit = i.full (omega (arith, q)) in
          let turns : oldest < limit = i.turns in
          omega (arith, length-laid oldest ks, long, turns)

  pub keys_in : keys_of (entries oldest (laid oldest ks)) ≡ reverse ks
  keys_in = keys_of_laid oldest ks oldest_there
