-- What an opening and an age do to the order of opening.
use Rattle.std.proofs.Common.{◌≡◌, ℕ, suc, ◌<◌, ◌⊎◌, inl, inr, Bool, true, false, cond, List, [], ◌∷◌, ◌++◌, take, drop, length, slice_get, Some, not, eqb, ◌-◌, refl, sym, ap, ◌∙◌, subst, arith}
use Rattle.std.proofs.lemmas.Bool.{eqb-false, not-true, or_parts}
use Rattle.std.proofs.lemmas.List.{append-nil}
use Rattle.std.proofs.lemmas.Option.{get_or_from_slice_get}
use Rattle.std.specs.List.{filter, swap_remove}
use Rattle.sms_join.specs.OpenSets.{SetValue}
use Rattle.sms_join.specs.Inside.Turns.{AreBefore, HaveTurns, arranged}
use Rattle.sms_join.specs.OpenSets.Told.{AreAbove, RiseInTurn}
use Rattle.sms_join.specs.Inside.Turns.{has_turn, AreApart}
use Rattle.sms_join.proofs.Places.{split_at}
use Rattle.sms_join.proofs.Swapped.{last_moves}
use Rattle.sms_join.proofs.Turns.{Between, between, turns_more, turns_filtered, turns_gone}
use Rattle.sms_join.proofs.Told.{Among, one_climbs, arranged_among, among_arranged, arranged_climbs}

among_front : (xs ys : List SetValue) (s : SetValue) → Among s xs → Among s (xs ++ ys)
among_front [] ys s a = absurd a
among_front (x ∷ xs) ys s (inl e) = inl e
among_front (x ∷ xs) ys s (inr a) = inr (among_front xs ys s a)

among_back : (xs ys : List SetValue) (s : SetValue) → Among s ys → Among s (xs ++ ys)
among_back [] ys s a = a
among_back (x ∷ xs) ys s a = inr (among_back xs ys s a)

among_parts : (xs ys : List SetValue) (s : SetValue) → Among s (xs ++ ys) → Among s xs ⊎ Among s ys
among_parts [] ys s a = inr a
among_parts (x ∷ xs) ys s (inl e) = inl (inl e)
among_parts (x ∷ xs) ys s (inr a) = elim (among_parts xs ys s a) [
  | inl b ↦ inl (inr b)
  | inr b ↦ inr b
]

among_before : (t : ℕ) (xs : List SetValue) (s : SetValue) → AreBefore t xs → Among s xs → s.turn < t
among_before t [] s h a = absurd a
among_before t (x ∷ xs) s h (inl e) = subst (λ (y : SetValue). y.turn < t) e h.0
among_before t (x ∷ xs) s h (inr a) = among_before t xs s h.1 a

before_all : (t : ℕ) (xs : List SetValue) → ((s : SetValue) → Among s xs → s.turn < t) → AreBefore t xs
before_all t [] h = tt
before_all t (x ∷ xs) h = (h x (inl refl), before_all t xs (λ s a. h s (inr a)))

above_last : (n : ℕ) (xs : List SetValue) (s : SetValue) → AreAbove n xs → n < s.turn → AreAbove n (xs ++ s ∷ [])
above_last n [] s h l = (l, tt)
above_last n (x ∷ xs) s h l = (h.0, above_last n xs s h.1 l)

rise_last : (xs : List SetValue) (s : SetValue) → RiseInTurn xs → AreBefore s.turn xs → RiseInTurn (xs ++ s ∷ [])
rise_last [] s h b = (tt, tt)
rise_last (x ∷ xs) s h b = (above_last x.turn xs s h.0 b.0, rise_last xs s h.1 b.1)

-- a set that is opened is told last
pub arranged_more : (ss : List SetValue) (s : SetValue) → HaveTurns s.turn ss → arranged (ss ++ s ∷ []) ≡ arranged ss ++ s ∷ []
arranged_more ss s h =
    one_climbs (arranged (ss ++ s ∷ [])) (arranged ss ++ s ∷ [])
    (arranged_climbs (ss ++ s ∷ []) (turns_more s.turn ss s refl h).apart)
    (rise_last (arranged ss) s (arranged_climbs ss h.apart) (before_all s.turn (arranged ss) (λ x a. among_before s.turn ss x h.before (arranged_among ss x a))))
    (λ x a. elim (among_parts ss (s ∷ []) x (arranged_among (ss ++ s ∷ []) x a)) [
      | inl b ↦ among_front (arranged ss) (s ∷ []) x (among_arranged ss x b)
      | inr b ↦ among_back (arranged ss) (s ∷ []) x b
    ])
    (λ x a. among_arranged (ss ++ s ∷ []) x (elim (among_parts (arranged ss) (s ∷ []) x a) [
      | inl b ↦ among_front ss (s ∷ []) x (arranged_among ss x b)
      | inr b ↦ among_back ss (s ∷ []) x b
    ]))

module _ (t : SetValue → Bool) where
  kept_among : (xs : List SetValue) (s : SetValue) → Among s (filter t xs) → Among s xs × (t s ≡ true)
  kept_among [] s a = absurd a
  kept_among (x ∷ xs) s a = go (t x) refl a (kept_among xs s)
    where
      go : (b : Bool) → t x ≡ b → Among s (cond b (x ∷ filter t xs) (filter t xs)) → (Among s (filter t xs) → Among s xs × (t s ≡ true))
          → ((x ≡ s) ⊎ Among s xs) × (t s ≡ true)
      go true e (inl f) ih = (inl f, ap t (sym f) ∙ e)
      go true e (inr a) ih = let h = ih a in (inr h.0, h.1)
      go false e a ih = let h = ih a in (inr h.0, h.1)

  among_kept : (xs : List SetValue) (s : SetValue) → Among s xs → t s ≡ true → Among s (filter t xs)
  among_kept [] s a e = absurd a
  among_kept (x ∷ xs) s a e = go (t x) refl a (among_kept xs s)
    where
      go : (b : Bool) → t x ≡ b → (x ≡ s) ⊎ Among s xs → (Among s xs → t s ≡ true → Among s (filter t xs)) → Among s (cond b (x ∷ filter t xs) (filter t xs))
      go true f (inl g) ih = inl g
      go true f (inr a) ih = inr (ih a e)
      go false f (inl g) ih = let h : true ≡ false = sym e ∙ (ap t (sym g) ∙ f) in cc
      go false f (inr a) ih = ih a e

  above_kept : (n : ℕ) (xs : List SetValue) → AreAbove n xs → AreAbove n (filter t xs)
  above_kept n [] h = tt
  above_kept n (x ∷ xs) h = go (t x) (above_kept n xs h.1)
    where
      go : (b : Bool) → AreAbove n (filter t xs) → AreAbove n (cond b (x ∷ filter t xs) (filter t xs))
      go true ih = (h.0, ih)
      go false ih = ih

  rise_kept : (xs : List SetValue) → RiseInTurn xs → RiseInTurn (filter t xs)
  rise_kept [] h = tt
  rise_kept (x ∷ xs) h = go (t x) (rise_kept xs h.1)
    where
      go : (b : Bool) → RiseInTurn (filter t xs) → RiseInTurn (cond b (x ∷ filter t xs) (filter t xs))
      go true ih = (above_kept x.turn xs h.0, ih)
      go false ih = ih

  -- those that stay are told in the order in which they were
  pub arranged_kept : (u : ℕ) (ss : List SetValue) → HaveTurns u ss → arranged (filter t ss) ≡ filter t (arranged ss)
  arranged_kept u ss h =
      one_climbs (arranged (filter t ss)) (filter t (arranged ss))
      (arranged_climbs (filter t ss) (turns_filtered u t ss h).apart)
      (rise_kept (arranged ss) (arranged_climbs ss h.apart))
      (λ x a. let k = kept_among ss x (arranged_among (filter t ss) x a) in among_kept (arranged ss) x (among_arranged ss x k.0) k.1)
      (λ x a. let k = kept_among (arranged ss) x a in among_arranged (filter t ss) x (among_kept ss x (arranged_among ss x k.0) k.1))

-- one that goes

not_there : (xs : List SetValue) (n : ℕ) (x : SetValue) → has_turn xs n ≡ false → Among x xs → eqb x.turn n ≡ false
not_there [] n x h a = absurd a
not_there (y ∷ ys) n x h (inl e) = ap (λ (z : SetValue). eqb z.turn n) (sym e) ∙ (or_parts (eqb y.turn n) (has_turn ys n) h).0
not_there (y ∷ ys) n x h (inr a) = not_there ys n x (or_parts (eqb y.turn n) (has_turn ys n) h).1 a

-- the last of those after an index stands there, and the others are the same
moved_among : (fs ys : List SetValue) (l x : SetValue) → Among x (fs ++ l ∷ ys) → Among x (fs ++ (ys ++ l ∷ []))
moved_among fs ys l x a = elim (among_parts fs (l ∷ ys) x a) [
  | inl b ↦ among_front fs (ys ++ l ∷ []) x b
  | inr (inl e) ↦ among_back fs (ys ++ l ∷ []) x (among_back ys (l ∷ []) x (inl e))
  | inr (inr b) ↦ among_back fs (ys ++ l ∷ []) x (among_front ys (l ∷ []) x b)
]

back_among : (fs ys : List SetValue) (l x : SetValue) → Among x (fs ++ (ys ++ l ∷ [])) → Among x (fs ++ l ∷ ys)
back_among fs ys l x a = elim (among_parts fs (ys ++ l ∷ []) x a) [
  | inl b ↦ among_front fs (l ∷ ys) x b
  | inr b ↦ among_back fs (l ∷ ys) x (turn (among_parts ys (l ∷ []) x b))
]
  where
    turn : Among x ys ⊎ Among x (l ∷ []) → Among x (l ∷ ys)
    turn (inl c) = inr c
    turn (inr (inl e)) = inl e
    turn (inr (inr c)) = absurd c

-- a set that goes is told no more, and the others in the order in which they were
module _ (u : ℕ) (ss : List SetValue) (i : ℕ) (s : SetValue) (there : slice_get ss i ≡ Some s) (l : i < length ss) (h : HaveTurns u ss) where
  stays_there : SetValue → Bool
  stays_there x = not (eqb x.turn s.turn)

  split : ss ≡ take i ss ++ s ∷ drop (suc i) ss
  split = split_at ss i s l ∙ ap (λ v. take i ss ++ v ∷ drop (suc i) ss) (get_or_from_slice_get ss i s s there)

  sides : Between (take i ss) s (drop (suc i) ss)
  sides = between (take i ss) s (drop (suc i) ss) (subst AreApart split h.apart)

  left_among : (x : SetValue) → Among x (swap_remove ss i s) → Among x (take i ss ++ drop (suc i) ss)
  left_among x a = elim (last_moves ss i (length ss - 1) s (omega arith) l) [
    | inl e ↦ among_front (take i ss) (drop (suc i) ss) x (subst (Among x) e.1 a)
    | inr m ↦ subst (λ r. Among x (take i ss ++ r)) (sym m.after) (moved_among (take i ss) m.others m.last x (subst (Among x) m.is a))
  ]

  among_left : (x : SetValue) → Among x (take i ss ++ drop (suc i) ss) → Among x (swap_remove ss i s)
  among_left x a = elim (last_moves ss i (length ss - 1) s (omega arith) l) [
    | inl e ↦ subst (Among x) (sym e.1) (subst (Among x) (ap (λ r. take i ss ++ r) e.0 ∙ append-nil (take i ss)) a)
    | inr m ↦ subst (Among x) (sym m.is) (back_among (take i ss) m.others m.last x (subst (λ r. Among x (take i ss ++ r)) m.after a))
  ]

  rest_among : (x : SetValue) → Among x (take i ss ++ drop (suc i) ss) → Among x ss × (eqb x.turn s.turn ≡ false)
  rest_among x a = elim (among_parts (take i ss) (drop (suc i) ss) x a) [
    | inl b ↦ (subst (Among x) (sym split) (among_front (take i ss) (s ∷ drop (suc i) ss) x b), not_there (take i ss) s.turn x sides.front b)
    | inr b ↦ (subst (Among x) (sym split) (among_back (take i ss) (s ∷ drop (suc i) ss) x (inr b)), not_there (drop (suc i) ss) s.turn x sides.back b)
  ]

  among_rest : (x : SetValue) → Among x ss → eqb x.turn s.turn ≡ false → Among x (take i ss ++ drop (suc i) ss)
  among_rest x a e = go (among_parts (take i ss) (s ∷ drop (suc i) ss) x (subst (Among x) split a))
    where
      go : Among x (take i ss) ⊎ ((s ≡ x) ⊎ Among x (drop (suc i) ss)) → Among x (take i ss ++ drop (suc i) ss)
      go (inl b) = among_front (take i ss) (drop (suc i) ss) x b
      go (inr (inl f)) = absurd (self x.turn s.turn e (ap (λ (z : SetValue). z.turn) (sym f)))
        where
          self : (a b : ℕ) → eqb a b ≡ false → a ≡ b → ⊥
          self a b e f = eqb-false a b e f
      go (inr (inr b)) = among_back (take i ss) (drop (suc i) ss) x b

  pub arranged_gone : arranged (swap_remove ss i s) ≡ filter (λ (x : SetValue). not (eqb x.turn s.turn)) (arranged ss)
  arranged_gone =
      one_climbs (arranged (swap_remove ss i s)) (filter (λ (x : SetValue). not (eqb x.turn s.turn)) (arranged ss))
      (arranged_climbs (swap_remove ss i s) (turns_gone u ss i s there l h).apart)
      (rise_kept (λ (x : SetValue). not (eqb x.turn s.turn)) (arranged ss) (arranged_climbs ss h.apart))
      (λ x a. let k = rest_among x (left_among x (arranged_among (swap_remove ss i s) x a)) in among_kept (λ (y : SetValue). not (eqb y.turn s.turn)) (arranged ss) x (among_arranged ss x k.0) (ap not k.1))
      (λ x a. let k = kept_among (λ (y : SetValue). not (eqb y.turn s.turn)) (arranged ss) x a in among_arranged (swap_remove ss i s) x (among_left x (among_rest x (arranged_among ss x k.0) (not-true (eqb x.turn s.turn) k.1))))
