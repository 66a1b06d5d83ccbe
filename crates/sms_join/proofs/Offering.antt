-- What an offer does to the sets in order of opening.
use Rattle.std.proofs.Common.{◌≡◌, ℕ, zero, suc, inl, inr, Bool, true, false, cond, ◌||◌, not, eqb, ltb, List, [], ◌∷◌, ◌++◌, map, slice_get, Some, refl, sym, ap, ◌∙◌}
use Rattle.std.proofs.Math.ListN.{set}
use Rattle.std.proofs.lemmas.Bool.{eqb-true, eq-eqb, or_parts}
use Rattle.std.specs.List.{filter, swap_remove}
use Rattle.sms_join.specs.declared.key.Key.{Key}
use Rattle.sms_join.specs.Key.{same_key}
use Rattle.sms_join.specs.Piece.{Piece}
use Rattle.sms_join.specs.OpenSets.{SetValue, AreOpen, has_set, with_piece}
use Rattle.sms_join.specs.OpenSets.Offered.{opened_by, without_set, TellsKept}
use Rattle.sms_join.specs.Inside.Turns.{HaveTurns, AreApart, has_turn, put_in, arranged}
use Rattle.sms_join.proofs.SameKeys.{same_key_true, same_key_refl}
use Rattle.sms_join.proofs.Arranged.{has_arranged}
use Rattle.sms_join.proofs.Told.{Among, arranged_among}
use Rattle.sms_join.proofs.Order.{arranged_more, arranged_gone}
use Rattle.sms_join.proofs.Offers.{Found}

-- ---- one more piece

module _ (f : SetValue → SetValue) (keeps : (s : SetValue) → (f s).turn ≡ s.turn) where
  put_map : (s : SetValue) (ts : List SetValue) → put_in (f s) (map f ts) ≡ map f (put_in s ts)
  put_map s [] = refl
  put_map s (t ∷ ts) = go (ltb s.turn t.turn) (ltb (f s).turn (f t).turn) (ap (λ n. ltb n (f t).turn) (keeps s) ∙ ap (ltb s.turn) (keeps t)) (put_map s ts)
    where
      go : (b c : Bool) → c ≡ b → put_in (f s) (map f ts) ≡ map f (put_in s ts)
          → cond c (f s ∷ f t ∷ map f ts) (f t ∷ put_in (f s) (map f ts)) ≡ map f (cond b (s ∷ t ∷ ts) (t ∷ put_in s ts))
      go true true e ih = refl
      go false false e ih = ap (λ l. f t ∷ l) ih
      go true false e ih = cc
      go false true e ih = cc

  -- sets that keep their numbers keep their order
  arranged_map : (ss : List SetValue) → arranged (map f ss) ≡ map f (arranged ss)
  arranged_map [] = refl
  arranged_map (s ∷ ss) = ap (put_in (f s)) (arranged_map ss) ∙ put_map s (arranged ss)

abbrev more : Piece → SetValue → SetValue
more p s = cond (same_key s.key p.key) (with_piece s p.sequence p.units) s

more_turn : (p : Piece) (s : SetValue) → (more p s).turn ≡ s.turn
more_turn p s = go (same_key s.key p.key)
  where
    go : (b : Bool) → (cond b (with_piece s p.sequence p.units) s).turn ≡ s.turn
    go true = refl
    go false = refl

set_there : (ss : List SetValue) (i : ℕ) (s : SetValue) (k : Key) → slice_get ss i ≡ Some s → s.key ≡ k → has_set ss k ≡ true
set_there [] zero s k t e = cc
set_there [] (suc i) s k t e = cc
set_there (x ∷ ss) zero s k t e =
    let f : x ≡ s = cc in
    let h : same_key x.key k ≡ true = ap (λ (l : Key). same_key l k) (ap (λ (v : SetValue). v.key) f ∙ e) ∙ same_key_refl k in
    rw h refl
set_there (x ∷ ss) (suc i) s k t e = go (same_key x.key k) (set_there ss i s k t e)
  where
    go : (b : Bool) → has_set ss k ≡ true → (b || has_set ss k) ≡ true
    go true h = refl
    go false h = h

none_more : (ss : List SetValue) (p : Piece) → has_set ss p.key ≡ false → map (more p) ss ≡ ss
none_more [] p h = refl
none_more (s ∷ ss) p h =
    let q = or_parts (same_key s.key p.key) (has_set ss p.key) h in
    ap (λ b. cond b (with_piece s p.sequence p.units) s ∷ map (more p) ss) q.0 ∙ ap (λ l. s ∷ l) (none_more ss p q.1)

-- the set of the piece is the only one that changes
one_more : (ss : List SetValue) (i : ℕ) (s : SetValue) (p : Piece) → AreOpen ss → slice_get ss i ≡ Some s → s.key ≡ p.key
    → set ss i (with_piece s p.sequence p.units) ≡ map (more p) ss
one_more [] zero s p o t e = cc
one_more [] (suc i) s p o t e = cc
one_more (x ∷ ss) zero s p o t e =
    let f : x ≡ s = cc in
    let k : x.key ≡ p.key = ap (λ (v : SetValue). v.key) f ∙ e in
    let h : same_key x.key p.key ≡ true = ap (λ (l : Key). same_key l p.key) k ∙ same_key_refl p.key in
    ap (λ (v : SetValue). with_piece v p.sequence p.units ∷ ss) (sym f)
    ∙ (ap (λ (l : List SetValue). with_piece x p.sequence p.units ∷ l) (sym (none_more ss p (ap (has_set ss) (sym k) ∙ o.1)))
    ∙ ap (λ b. cond b (with_piece x p.sequence p.units) x ∷ map (more p) ss) (sym h))
one_more (x ∷ ss) (suc i) s p o t e = go (same_key x.key p.key) refl (one_more ss i s p o.2 t e)
  where
    go : (b : Bool) → same_key x.key p.key ≡ b → set ss i (with_piece s p.sequence p.units) ≡ map (more p) ss
        → x ∷ set ss i (with_piece s p.sequence p.units) ≡ cond b (with_piece x p.sequence p.units) x ∷ map (more p) ss
    go true h ih =
        let y : has_set ss p.key ≡ true = set_there ss i s p.key t e in
        let z : has_set ss p.key ≡ false = ap (has_set ss) (sym (same_key_true x.key p.key h)) ∙ o.1 in
        let w : true ≡ false = sym y ∙ z in
        cc
    go false h ih = ap (λ l. x ∷ l) ih

-- a further piece of a set
pub tells_put : (ss ts : List SetValue) (i : ℕ) (s : SetValue) (p : Piece) → AreOpen ss → Found ss p.key i s
    → ts ≡ set ss i (with_piece s p.sequence p.units) → TellsKept (arranged ss) (arranged ts) p
tells_put ss ts i s p o f e = inl (
  has_arranged ss p.key ∙ set_there ss i s p.key f.there f.key,
  ap arranged (e ∙ one_more ss i s p o f.there f.key) ∙ arranged_map (more p) (more_turn p) ss,
)

-- the first piece of a set
pub tells_opened : (ss ts : List SetValue) (t : ℕ) (p : Piece) → HaveTurns t ss → has_set ss p.key ≡ false
    → ts ≡ ss ++ opened_by p t ∷ [] → TellsKept (arranged ss) (arranged ts) p
tells_opened ss ts t p h closed e = inr (
  has_arranged ss p.key ∙ closed,
  (t, ap arranged e ∙ arranged_more ss (opened_by p t) h),
)

-- ---- a set that goes

turn_there : (ss : List SetValue) (s : SetValue) (n : ℕ) → Among s ss → s.turn ≡ n → has_turn ss n ≡ true
turn_there [] s n a e = absurd a
turn_there (x ∷ ss) s n (inl f) e = rw (eq-eqb x.turn n (ap (λ (v : SetValue). v.turn) f ∙ e)) refl
turn_there (x ∷ ss) s n (inr a) e = go (eqb x.turn n) (turn_there ss s n a e)
  where
    go : (b : Bool) → has_turn ss n ≡ true → (b || has_turn ss n) ≡ true
    go true h = refl
    go false h = h

key_there : (ss : List SetValue) (s : SetValue) (k : Key) → Among s ss → s.key ≡ k → has_set ss k ≡ true
key_there [] s k a e = absurd a
key_there (x ∷ ss) s k (inl f) e =
    let h : same_key x.key k ≡ true = ap (λ (l : Key). same_key l k) (ap (λ (v : SetValue). v.key) f ∙ e) ∙ same_key_refl k in
    rw h refl
key_there (x ∷ ss) s k (inr a) e = go (same_key x.key k) (key_there ss s k a e)
  where
    go : (b : Bool) → has_set ss k ≡ true → (b || has_set ss k) ≡ true
    go true h = refl
    go false h = h

one_turn : (ss : List SetValue) (x s : SetValue) → AreApart ss → Among x ss → Among s ss → x.turn ≡ s.turn → x ≡ s
one_turn [] x s h a b e = absurd a
one_turn (y ∷ ss) x s h (inl f) (inl g) e = sym f ∙ g
one_turn (y ∷ ss) x s h (inl f) (inr b) e =
    let t : has_turn ss y.turn ≡ true = turn_there ss s y.turn b (sym (ap (λ (v : SetValue). v.turn) f ∙ e)) in
    let z : true ≡ false = sym t ∙ h.0 in
    cc
one_turn (y ∷ ss) x s h (inr a) (inl g) e =
    let t : has_turn ss y.turn ≡ true = turn_there ss x y.turn a (e ∙ sym (ap (λ (v : SetValue). v.turn) g)) in
    let z : true ≡ false = sym t ∙ h.0 in
    cc
one_turn (y ∷ ss) x s h (inr a) (inr b) e = one_turn ss x s h.1 a b e

one_key : (ss : List SetValue) (x s : SetValue) → AreOpen ss → Among x ss → Among s ss → x.key ≡ s.key → x ≡ s
one_key [] x s h a b e = absurd a
one_key (y ∷ ss) x s h (inl f) (inl g) e = sym f ∙ g
one_key (y ∷ ss) x s h (inl f) (inr b) e =
    let t : has_set ss y.key ≡ true = key_there ss s y.key b (sym (ap (λ (v : SetValue). v.key) f ∙ e)) in
    let z : true ≡ false = sym t ∙ h.1 in
    cc
one_key (y ∷ ss) x s h (inr a) (inl g) e =
    let t : has_set ss y.key ≡ true = key_there ss x y.key a (e ∙ sym (ap (λ (v : SetValue). v.key) g)) in
    let z : true ≡ false = sym t ∙ h.1 in
    cc
one_key (y ∷ ss) x s h (inr a) (inr b) e = one_key ss x s h.2 a b e

-- the set of a key is the one of its opening
key_or_turn : (ss : List SetValue) (x s : SetValue) (k : Key) → AreOpen ss → AreApart ss → Among x ss → Among s ss → s.key ≡ k
    → not (eqb x.turn s.turn) ≡ not (same_key x.key k)
key_or_turn ss x s k o h a b e = go (eqb x.turn s.turn) refl (same_key x.key k) refl
  where
    go : (c : Bool) → eqb x.turn s.turn ≡ c → (d : Bool) → same_key x.key k ≡ d → not c ≡ not d
    go true p true q = refl
    go false p false q = refl
    go true p false q =
        let y : x ≡ s = one_turn ss x s h a b (eqb-true x.turn s.turn p) in
        let r : same_key x.key k ≡ true = ap (λ (l : Key). same_key l k) (ap (λ (v : SetValue). v.key) y ∙ e) ∙ same_key_refl k in
        let z : true ≡ false = sym r ∙ q in
        cc
    go false p true q =
        let y : x ≡ s = one_key ss x s o a b (same_key_true x.key k q ∙ sym e) in
        let r : eqb x.turn s.turn ≡ true = eq-eqb x.turn s.turn (ap (λ (v : SetValue). v.turn) y) in
        let z : true ≡ false = sym r ∙ p in
        cc

filter_alike : (f g : SetValue → Bool) (xs : List SetValue) → ((x : SetValue) → Among x xs → f x ≡ g x) → filter f xs ≡ filter g xs
filter_alike f g [] h = refl
filter_alike f g (x ∷ xs) h = go (f x) (g x) (h x (inl refl)) (filter_alike f g xs (λ y a. h y (inr a)))
  where
    go : (b c : Bool) → b ≡ c → filter f xs ≡ filter g xs → cond b (x ∷ filter f xs) (filter f xs) ≡ cond c (x ∷ filter g xs) (filter g xs)
    go true true e ih = ap (λ l. x ∷ l) ih
    go false false e ih = ih
    go true false e ih = cc
    go false true e ih = cc

among_there : (ss : List SetValue) (i : ℕ) (s : SetValue) → slice_get ss i ≡ Some s → Among s ss
among_there [] zero s t = cc
among_there [] (suc i) s t = cc
among_there (x ∷ ss) zero s t = let f : x ≡ s = cc in inl f
among_there (x ∷ ss) (suc i) s t = inr (among_there ss i s t)

-- a set that is finished
pub tells_left : (ss ts : List SetValue) (u i : ℕ) (s : SetValue) (k : Key) → AreOpen ss → HaveTurns u ss → Found ss k i s
    → ts ≡ swap_remove ss i s → arranged ts ≡ without_set k (arranged ss)
tells_left ss ts u i s k o h f e =
    ap arranged e
    ∙ (arranged_gone u ss i s f.there f.within h
    ∙ filter_alike (λ x. not (eqb x.turn s.turn)) (λ x. not (same_key x.key k)) (arranged ss)
    (λ x a. key_or_turn ss x s k o h.apart (arranged_among ss x a) (among_there ss i s f.there) f.key))

none_goes : (ss : List SetValue) (k : Key) → has_set ss k ≡ false → ss ≡ without_set k ss
none_goes [] k h = refl
none_goes (s ∷ ss) k h =
    let q = or_parts (same_key s.key k) (has_set ss k) h in
    rw q.0 (ap (λ l. s ∷ l) (none_goes ss k q.1))

-- a message in one piece
pub tells_alone : (ss : List SetValue) (k : Key) → has_set ss k ≡ false → arranged ss ≡ without_set k (arranged ss)
tells_alone ss k h = none_goes (arranged ss) k (has_arranged ss k ∙ h)
