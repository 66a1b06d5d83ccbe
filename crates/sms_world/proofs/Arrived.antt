-- Pieces that have arrived.
use Rattle.std.proofs.Common.{◌≡◌, ◌≢◌, ℕ, zero, suc, ◌<◌, ◌≤◌, Bool, true, false, ◌||◌, eqb, List, [], ◌∷◌, take, refl, arith}
use Rattle.std.proofs.lemmas.Bool.{eqb-true, eqb-false, and_parts, or_right, and_from}
use Rattle.sms_join.specs.Arrivals.{Arrival, has_piece, has_pieces, is_done, is_listed}

same_pieces : (past bs : List Arrival) (t n : ℕ) → ((i : ℕ) → has_piece past t i ≡ has_piece bs t i) → has_pieces past t n ≡ has_pieces bs t n
same_pieces past bs t zero h = refl
same_pieces past bs t (suc n) h = rw (h (suc n), same_pieces past bs t n h) refl

pub each_piece : (past : List Arrival) (t n i : ℕ) → has_pieces past t n ≡ true → 0 < i → i ≤ n → has_piece past t i ≡ true
each_piece past t zero i h a b = absurd (omega arith)
each_piece past t (suc n) i h a b =
    let p = and_parts (has_piece past t (suc n)) (has_pieces past t n) h in
    go (eqb i (suc n)) refl p.0 (each_piece past t n i p.1 a)
  where
    go : (c : Bool) → eqb i (suc n) ≡ c → has_piece past t (suc n) ≡ true → (i ≤ n → has_piece past t i ≡ true) → has_piece past t i ≡ true
    go true e p q = rw (eqb-true i (suc n) e) p
    go false e p q = let ne : i ≢ suc n = eqb-false i (suc n) e in q (omega arith)

pub more_pieces : (a : Arrival) (past : List Arrival) (t n : ℕ) → has_pieces past t n ≡ true → has_pieces (a ∷ past) t n ≡ true
more_pieces a past t zero h = refl
more_pieces a past t (suc n) h =
    let p = and_parts (has_piece past t (suc n)) (has_pieces past t n) h in
    and_from _ _ (or_right _ _ p.0) (more_pieces a past t n p.1)

-- a piece of another text changes nothing
pub done_as_before : (size : ℕ → ℕ) (a : Arrival) (past : List Arrival) (t : ℕ) → eqb a.text t ≡ false
    → is_done size (a ∷ past) t ≡ is_done size past t
done_as_before size a past t h = same_pieces (a ∷ past) past t (size t) (λ i. rw h refl)

pub listed_in_take : (n : ℕ) (us : List ℕ) (t : ℕ) → is_listed (take n us) t ≡ true → is_listed us t ≡ true
listed_in_take zero us t h = cc
listed_in_take (suc n) [] t h = cc
listed_in_take (suc n) (u ∷ us) t h = go (eqb u t) h (listed_in_take n us t)
  where
    go : (b : Bool) → (b || is_listed (take n us) t) ≡ true → (is_listed (take n us) t ≡ true → is_listed us t ≡ true) → (b || is_listed us t) ≡ true
    go true h f = refl
    go false h f = f h
