-- The places of keys.
use Rattle.std.proofs.Common.{◌≡◌, ◌≢◌, ℕ, ◌-◌, bit_and, suc, ◌<◌, ◌≤◌, Bool, true, false, cond, eqb, List, [], ◌∷◌, ◌++◌, length, get_or, refl, sym, ap, ◌∙◌, arith, length-append}
use Rattle.std.proofs.Math.ListN.{set, length-set}
use Rattle.std.proofs.lemmas.List.{get_or_append_left, get_or-set_other, get_or_default}
use Rattle.std.proofs.lemmas.Bool.{eqb-true, eq-eqb, ne_eqb}
use Rattle.sms_join.specs.Inside.KeyRings.{keys_of, of_head, LieIn, IsFree, LieApart}

module _ {K : Type 0} where
  -- each place is below this
  abbrev pub AreBelow : ℕ → List (ℕ × K) → Type 0
  AreBelow n [] = Unit {0}
  AreBelow n (e ∷ es) = (e.0 < n) × AreBelow n es

  pub below_from_lie : (ks : List K) (n : ℕ) (es : List (ℕ × K)) → length ks ≤ n → LieIn ks es → AreBelow n es
  below_from_lie ks n [] l h = tt
  below_from_lie ks n (e ∷ es) l h = let b = h.0 in (omega arith, below_from_lie ks n es l h.2)

  -- a place past all is free
  pub free_past : (n : ℕ) (es : List (ℕ × K)) → AreBelow n es → IsFree n es
  free_past n [] h = tt
  free_past n (e ∷ es) h = let b = h.0 in (λ q. absurd (omega arith), free_past n es h.1)

  -- a key more, at the end or at a free place
  pub lie_push : (ks : List K) (k : K) (es : List (ℕ × K)) → LieIn ks es → LieIn (ks ++ k ∷ []) es
  lie_push ks k [] h = tt
  lie_push ks k (e ∷ es) h =
      let b = h.0 in (
        omega (arith, length-append ks (k ∷ [])),
        get_or_append_left ks (k ∷ []) e.1 e.0 h.0 ∙ h.1,
        lie_push ks k es h.2,
      )

  pub lie_set : (ks : List K) (o : ℕ) (k : K) (es : List (ℕ × K)) → IsFree o es → LieIn ks es → LieIn (set ks o k) es
  lie_set ks o k [] f h = tt
  lie_set ks o k (e ∷ es) f h =
      let b = h.0 in (
        omega (arith, length-set ks o k),
        get_or-set_other ks o e.0 k e.1 (λ q. f.0 (sym q)) ∙ h.1,
        lie_set ks o k es f.1 h.2,
      )

  -- the front of a list, and its last
  pub lie_front : (ks : List K) (ls bs : List (ℕ × K)) → LieIn ks (ls ++ bs) → LieIn ks ls
  lie_front ks [] bs h = tt
  lie_front ks (a ∷ ls) bs h = (h.0, h.1, lie_front ks ls bs h.2)

  pub lie_back : (ks : List K) (ls bs : List (ℕ × K)) → LieIn ks (ls ++ bs) → LieIn ks bs
  lie_back ks [] bs h = h
  lie_back ks (a ∷ ls) bs h = lie_back ks ls bs h.2

  pub free_front : (p : ℕ) (ls bs : List (ℕ × K)) → IsFree p (ls ++ bs) → IsFree p ls
  free_front p [] bs h = tt
  free_front p (a ∷ ls) bs h = (h.0, free_front p ls bs h.1)

  pub free_back : (p : ℕ) (ls bs : List (ℕ × K)) → IsFree p (ls ++ bs) → IsFree p bs
  free_back p [] bs h = h
  free_back p (a ∷ ls) bs h = free_back p ls bs h.1

  pub apart_front : (ls bs : List (ℕ × K)) → LieApart (ls ++ bs) → LieApart ls
  apart_front [] bs h = tt
  apart_front (a ∷ ls) bs h = (free_front a.0 ls bs h.0, apart_front ls bs h.1)

  pub last_is_free : (ls : List (ℕ × K)) (e : ℕ × K) (bs : List (ℕ × K)) → LieApart (ls ++ e ∷ bs) → IsFree e.0 ls
  last_is_free [] e bs h = tt
  last_is_free (a ∷ ls) e bs h =
      let f : IsFree a.0 (e ∷ bs) = free_back a.0 ls (e ∷ bs) h.0 in
      (λ q. f.0 (sym q), last_is_free ls e bs h.1)

  pub keys_of-append : (ls : List (ℕ × K)) (e : ℕ × K) → keys_of (ls ++ e ∷ []) ≡ keys_of ls ++ e.1 ∷ []
  keys_of-append [] e = refl
  keys_of-append (a ∷ ls) e = ap (λ l. a.1 ∷ l) (keys_of-append ls e)

  pub length-keys_of : (es : List (ℕ × K)) → length (keys_of es) ≡ length es
  length-keys_of [] = refl
  length-keys_of (e ∷ es) = ap suc (length-keys_of es)

-- those of one head
module _ {K : Type 0} (head : K → ℕ) where
  pub free_of_head : (p h : ℕ) (es : List (ℕ × K)) → IsFree p es → IsFree p (of_head head h es)
  free_of_head p h [] f = tt
  free_of_head p h (e ∷ es) f =
      let r = free_of_head p h es f.1 in
      elim (eqb (head e.1) h) as (λ b. IsFree p (cond b (e ∷ of_head head h es) (of_head head h es))) [ true ↦ (f.0, r) | false ↦ r ]

  pub apart_of_head : (h : ℕ) (es : List (ℕ × K)) → LieApart es → LieApart (of_head head h es)
  apart_of_head h [] a = tt
  apart_of_head h (e ∷ es) a =
      let r = apart_of_head h es a.1 in
      elim (eqb (head e.1) h) as (λ b. LieApart (cond b (e ∷ of_head head h es) (of_head head h es))) [ true ↦ (free_of_head e.0 h es a.0, r) | false ↦ r ]

  pub lie_of_head : (ks : List K) (h : ℕ) (es : List (ℕ × K)) → LieIn ks es → LieIn ks (of_head head h es)
  lie_of_head ks h [] l = tt
  lie_of_head ks h (e ∷ es) l =
      let r = lie_of_head ks h es l.2 in
      elim (eqb (head e.1) h) as (λ b. LieIn ks (cond b (e ∷ of_head head h es) (of_head head h es))) [ true ↦ (l.0, l.1, r) | false ↦ r ]

  pub length-of_head : (h : ℕ) (es : List (ℕ × K)) → length (of_head head h es) ≤ length es
  length-of_head h [] = omega arith
  length-of_head h (e ∷ es) =
      let r = length-of_head h es in
      elim (eqb (head e.1) h) as (λ b. length (cond b (e ∷ of_head head h es) (of_head head h es)) ≤ suc (length es)) [ true ↦ omega arith | false ↦ omega arith ]

  -- each of them has the head
  abbrev pub HaveHead : ℕ → List (ℕ × K) → Type 0
  HaveHead h [] = Unit {0}
  HaveHead h (e ∷ es) = (head e.1 ≡ h) × HaveHead h es

  have_more : (h : ℕ) (e : ℕ × K) (os : List (ℕ × K)) (b : Bool) → eqb (head e.1) h ≡ b → HaveHead h os → HaveHead h (cond b (e ∷ os) os)
  have_more h e os true q r = (eqb-true (head e.1) h q, r)
  have_more h e os false q r = r

  pub have_head : (h : ℕ) (es : List (ℕ × K)) → HaveHead h (of_head head h es)
  have_head h [] = tt
  have_head h (e ∷ es) = have_more h e (of_head head h es) (eqb (head e.1) h) refl (have_head h es)

  pub have_back : (h : ℕ) (ls bs : List (ℕ × K)) → HaveHead h (ls ++ bs) → HaveHead h bs
  have_back h [] bs r = r
  have_back h (a ∷ ls) bs r = have_back h ls bs r.1

  -- with one more at the end
  more_at_end : (a : ℕ × K) (xs ys zs : List (ℕ × K)) (b : Bool) → xs ≡ ys ++ zs → cond b (a ∷ xs) xs ≡ cond b (a ∷ ys) ys ++ zs
  more_at_end a xs ys zs true q = ap (λ l. a ∷ l) q
  more_at_end a xs ys zs false q = q

  pub of_head-append : (h : ℕ) (ls bs : List (ℕ × K)) → of_head head h (ls ++ bs) ≡ of_head head h ls ++ of_head head h bs
  of_head-append h [] bs = refl
  of_head-append h (a ∷ ls) bs =
      more_at_end a (of_head head h (ls ++ bs)) (of_head head h ls) (of_head head h bs) (eqb (head a.1) h) (of_head-append h ls bs)

  pub of_head-last : (h : ℕ) (ls : List (ℕ × K)) (e : ℕ × K) → head e.1 ≡ h → of_head head h (ls ++ e ∷ []) ≡ of_head head h ls ++ e ∷ []
  of_head-last h ls e q =
      of_head-append h ls (e ∷ []) ∙ ap (λ b. of_head head h ls ++ cond b (e ∷ []) []) (eq-eqb (head e.1) h q)

  pub of_head-others : (h : ℕ) (ls : List (ℕ × K)) (e : ℕ × K) → head e.1 ≢ h → of_head head h (ls ++ e ∷ []) ≡ of_head head h ls ++ []
  of_head-others h ls e q =
      of_head-append h ls (e ∷ []) ∙ ap (λ b. of_head head h ls ++ cond b (e ∷ []) []) (ne_eqb (head e.1) h q)

  -- a key of one head is at no place of another
  free_step : (ks : List K) (q h : ℕ) (k : K) (e : ℕ × K) (os : List (ℕ × K)) (b : Bool) → eqb (head e.1) h ≡ b
      → q < length ks → get_or ks q k ≡ k → head k ≢ h → get_or ks e.0 e.1 ≡ e.1 → IsFree q os → IsFree q (cond b (e ∷ os) os)
  free_step ks q h k e os false w l at ne lies r = r
  free_step ks q h k e os true w l at ne lies r = (apart, r)
    where
      apart : q ≢ e.0
      apart i =
          let same : k ≡ e.1 = sym at ∙ (get_or_default ks q k e.1 l ∙ (ap (λ n. get_or ks n e.1) i ∙ lies)) in
          ne (ap head same ∙ eqb-true (head e.1) h w)

  pub free_elsewhere : (ks : List K) (q h : ℕ) (k : K) (es : List (ℕ × K)) → q < length ks → get_or ks q k ≡ k → head k ≢ h → LieIn ks es → IsFree q (of_head head h es)
  free_elsewhere ks q h k [] l at ne lies = tt
  free_elsewhere ks q h k (e ∷ es) l at ne lies =
      free_step ks q h k e (of_head head h es) (eqb (head e.1) h) refl l at ne lies.1 (free_elsewhere ks q h k es l at ne lies.2)

-- the head that a hash gives, where the hash is known by another name
pub head_at : (h n m m' : ℕ) → h ≡ bit_and m (n - 1) → m ≡ m' → h ≡ bit_and m' (n - 1)
head_at h n m m' is same = is ∙ ap (λ (i : ℕ). bit_and i (n - 1)) same
