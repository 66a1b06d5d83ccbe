-- The keys of a ring beside their hashes, by the same places.
use Rattle.std.proofs.Common.{◌≡◌, ℕ, zero, suc, ◌+◌, ◌-◌, ◌<◌, ◌≤◌, Bool, true, false, cond, eqb, List, [], ◌∷◌, ◌++◌, map, take, drop, length, reverse, get_or, refl, sym, ap, ◌∙◌, subst, arith, length-append}
use Rattle.std.proofs.Math.ListN.{set}
use Rattle.std.proofs.lemmas.List.{map-append, map-set, take-map, drop-map, length-map, reverse-append, take-append-drop, get_or-drop, get_or-map, get_or_default, map_push}
use Rattle.circular_buffer.specs.Buffer.{keep_last}
use Rattle.sms_join.specs.Inside.KeyRings.{laid, placed, newest_first, entries, of_head, head_of, IsChain, LieIn, IsFree, LieApart, IsChained}
use Rattle.sms_join.proofs.RingPlaces.{lie_front, lie_back}
use Rattle.sms_join.proofs.RingKeys.{length-laid, laid-push, laid-turn}

-- each key lies where it is placed
module _ {K : Type 0} where
  lie_append : (ks : List K) (ls bs : List (ℕ × K)) → LieIn ks ls → LieIn ks bs → LieIn ks (ls ++ bs)
  lie_append ks [] bs l b = b
  lie_append ks (e ∷ ls) bs l b = (l.0, l.1, lie_append ks ls bs l.2 b)

  lie_reverse : (ks : List K) (es : List (ℕ × K)) → LieIn ks es → LieIn ks (reverse es)
  lie_reverse ks [] l = tt
  lie_reverse ks (e ∷ es) l =
      subst (LieIn ks) (sym (reverse-append (e ∷ []) es)) (lie_append ks (reverse es) (e ∷ []) (lie_reverse ks es l.2) (l.0, l.1, tt))

  lie_placed : (ks : List K) (n : ℕ) (rest : List K) → n + length rest ≡ length ks → drop n ks ≡ rest → LieIn ks (placed n rest)
  lie_placed ks n [] long at = tt
  lie_placed ks n (k ∷ rest) long at = (
    omega (arith, long),
    ap (λ (m : ℕ). get_or ks m k) here ∙ (sym (get_or-drop n ks 0 k) ∙ ap (λ l. get_or l 0 k) at),
    lie_placed ks (suc n) rest (omega (arith, long)) after,
  )
    where
      here : n ≡ n + 0
      here = omega arith

      after : drop (suc n) ks ≡ rest
      after = later n ks at
        where
          later : (m : ℕ) (ls : List K) → drop m ls ≡ k ∷ rest → drop (suc m) ls ≡ rest
          later zero [] q = ap (drop 1) q
          later zero (l ∷ ls) q = ap (drop 1) q
          later (suc m) [] q = ap (drop 1) q
          later (suc m) (l ∷ ls) q = later m ls q

  lie_entries : (o : ℕ) (ks : List K) → LieIn ks (entries o ks)
  lie_entries o ks =
      let all : LieIn ks (placed 0 ks) = lie_placed ks 0 ks (omega arith) refl in
      let parts : LieIn ks (take o (placed 0 ks) ++ drop o (placed 0 ks)) = subst (LieIn ks) (sym (take-append-drop o (placed 0 ks))) all in
      lie_reverse ks (drop o (placed 0 ks) ++ take o (placed 0 ks))
      (lie_append ks (drop o (placed 0 ks)) (take o (placed 0 ks)) (lie_back ks (take o (placed 0 ks)) (drop o (placed 0 ks)) parts)
      (lie_front ks (take o (placed 0 ks)) (drop o (placed 0 ks)) parts))

pub there_at : {K : Type 0} (ks : List K) (p : ℕ) (d : K) → p < length ks → get_or ks p d ≡ get_or ks p (get_or ks p d)
there_at ks p d within = get_or_default ks p d (get_or ks p d) within

reverse-map : {X Y : Type 0} (g : X → Y) (xs : List X) → reverse (map g xs) ≡ map g (reverse xs)
reverse-map g [] = refl
reverse-map g (x ∷ xs) =
    reverse-append (g x ∷ []) (map g xs)
    ∙ (ap (λ l. l ++ g x ∷ []) (reverse-map g xs)
    ∙ (sym (map-append g (reverse xs) (x ∷ [])) ∙ ap (map g) (sym (reverse-append (x ∷ []) xs))))

module _ {K : Type 0} (f : K → ℕ) where
  -- a hash in place of the key
  abbrev hashed : ℕ × K → ℕ × ℕ
  hashed e = (e.0, f e.1)

  placed-map : (n : ℕ) (ks : List K) → placed n (map f ks) ≡ map hashed (placed n ks)
  placed-map n [] = refl
  placed-map n (k ∷ ks) = ap (λ es. (n, f k) ∷ es) (placed-map (suc n) ks)

  entries-map : (o : ℕ) (ks : List K) → entries o (map f ks) ≡ map hashed (entries o ks)
  entries-map o ks =
      ap (newest_first o) (placed-map 0 ks)
      ∙ (ap reverse
      (ap (λ l. l ++ take o (map hashed (placed 0 ks))) (drop-map hashed o (placed 0 ks))
      ∙ (ap (λ l. map hashed (drop o (placed 0 ks)) ++ l) (take-map hashed o (placed 0 ks))
      ∙ sym (map-append hashed (drop o (placed 0 ks)) (take o (placed 0 ks)))))
      ∙ reverse-map hashed (drop o (placed 0 ks) ++ take o (placed 0 ks)))

  free_keys : (p : ℕ) (es : List (ℕ × K)) → IsFree p (map hashed es) → IsFree p es
  free_keys p [] h = tt
  free_keys p (e ∷ es) h = (h.0, free_keys p es h.1)

  apart_keys : (es : List (ℕ × K)) → LieApart (map hashed es) → LieApart es
  apart_keys [] h = tt
  apart_keys (e ∷ es) h = (free_keys e.0 es h.0, apart_keys es h.1)

  chain_keys : (next : List ℕ) (p : ℕ) (es : List (ℕ × K)) → IsChain next p (map hashed es) → IsChain next p es
  chain_keys next p [] c = c
  chain_keys next p (e ∷ es) c = (c.0, chain_keys next (get_or next p 0) es c.1)

  of_head-map : (head : ℕ → ℕ) (h : ℕ) (es : List (ℕ × K)) → of_head head h (map hashed es) ≡ map hashed (of_head (λ k. head (f k)) h es)
  of_head-map head h [] = refl
  of_head-map head h (e ∷ es) =
      by_head (eqb (head (f e.1)) h) (of_head head h (map hashed es)) (of_head (λ k. head (f k)) h es) (of_head-map head h es)
    where
      by_head : (b : Bool) (xs : List (ℕ × ℕ)) (ys : List (ℕ × K)) → xs ≡ map hashed ys → cond b (hashed e ∷ xs) xs ≡ map hashed (cond b (e ∷ ys) ys)
      by_head true xs ys q = ap (λ l. hashed e ∷ l) q
      by_head false xs ys q = q

  -- what is known of the hashes' chains holds of the keys'
  pub chained_keys : (limit oldest : ℕ) (hs : List ℕ) (ks : List K) (next heads : List ℕ) → IsChained (λ (hash : ℕ). hash) limit oldest hs next heads
      → hs ≡ map f ks → IsChained f limit oldest ks next heads
  chained_keys limit oldest hs ks next heads i is = record {
    turns = i.turns;
    small = i.small;
    few = subst (λ (n : ℕ). n ≤ limit) long i.few;
    full = λ l. sym long ∙ i.full l;
    all_next = i.all_next ∙ long;
    some_heads = i.some_heads;
    lie = lie_entries oldest ks;
    apart = apart_keys (entries oldest ks) (subst LieApart are i.apart);
    linked = λ h l.
        chain_keys next (get_or heads h 0) (of_head (head_of f (length heads)) h (entries oldest ks))
        (subst (λ (es : List (ℕ × ℕ)). IsChain next (get_or heads h 0) es)
        (ap (of_head (head_of (λ (hash : ℕ). hash) (length heads)) h) are ∙ of_head-map (head_of (λ (hash : ℕ). hash) (length heads)) h (entries oldest ks)) (i.linked h l));
  }
    where
      long : length hs ≡ length ks
      long = ap (λ l. length l) is ∙ length-map ks f

      are : entries oldest hs ≡ map hashed (entries oldest ks)
      are = ap (entries oldest) is ∙ entries-map oldest ks

  pub as_many_hashes : (oldest : ℕ) (hs : List ℕ) (ks : List K) → hs ≡ map f (laid oldest ks) → length hs ≡ length ks
  as_many_hashes oldest hs ks is = ap (λ l. length l) is ∙ (length-map (laid oldest ks) f ∙ length-laid oldest ks)

  -- the hash and the key at a place
  pub hash_at : (hs : List ℕ) (ks : List K) (p own : ℕ) (d : K) → hs ≡ map f ks → p < length ks → get_or hs p own ≡ f (get_or ks p d)
  hash_at hs ks p own d is within = ap (λ (l : List ℕ). get_or l p own) is ∙ get_or-map f ks p d own within

  -- a key more, where there is room
  pub hashes-push : (limit oldest : ℕ) (hs : List ℕ) (ks ms : List K) (k : K) (next heads : List ℕ) → IsChained (λ (hash : ℕ). hash) limit oldest hs next heads
      → hs ≡ map f (laid oldest ks) → length ks < limit → ms ≡ keep_last limit (ks ++ k ∷ []) → hs ++ f k ∷ [] ≡ map f (laid oldest ms)
  hashes-push limit (suc o) hs ks ms k next heads i is room ms_is =
      let full : length hs ≡ limit = i.full (omega arith) in
      absurd (omega (arith, full, as_many_hashes (suc o) hs ks is))
  hashes-push limit zero hs ks ms k next heads i is room ms_is =
      let none : length (ks ++ k ∷ []) - limit ≡ 0 = omega (arith, length-append ks (k ∷ [])) in
      ap (λ l. l ++ f k ∷ []) is
      ∙ (sym (map_push f (laid 0 ks) k)
      ∙ ap (map f) (sym (ap (laid 0) (ms_is ∙ ap (λ l. drop l (ks ++ k ∷ [])) none) ∙ laid-push ks k)))

  -- and in place of the oldest
  pub hashes-turn : (limit oldest n : ℕ) (hs : List ℕ) (ks ms : List K) (k : K) → hs ≡ map f (laid oldest ks) → oldest < limit → length ks ≡ limit
      → n ≡ cond (eqb (oldest + 1) limit) 0 (oldest + 1) → ms ≡ keep_last limit (ks ++ k ∷ []) → set hs oldest (f k) ≡ map f (laid n ms)
  hashes-turn limit oldest n hs ks ms k is turns long n_is ms_is =
      ap (λ l. set l oldest (f k)) is
      ∙ (sym (map-set f (laid oldest ks) oldest k) ∙ ap (map f) (sym (ap (laid n) ms_is ∙ laid-turn limit oldest n ks k turns long n_is)))
