-- Laws of what has arrived.
use Rattle.std.proofs.Common.{◌≡◌, ◌≢◌, ℕ, zero, suc, ◌<◌, ◌≤◌, Bool, true, false, cond, ◌&&◌, ◌||◌, eqb, List, [], ◌∷◌, map, take, refl, sym, ap, ◌∙◌, subst, arith}
use Rattle.std.proofs.lemmas.Bool.{eqb-true, eqb-false, and_parts, or_right, and_from}
use Rattle.sms_join.specs.declared.key.Key.{Key}
use Rattle.sms_join.specs.Key.{same_key}
use Rattle.sms_join.specs.Joiner.{is_among}
use Rattle.sms_join.specs.Arrivals.{Arrival, has_text, has_piece, has_pieces, is_done, completed, open_pieces, is_listed}
use Rattle.sms_join.proofs.SameKeys.{same_key_refl}

pub or_absorbs : (x y : Bool) → (x ≡ true → y ≡ true) → (x || y) ≡ y
or_absorbs true y h = sym (h refl)
or_absorbs false y h = refl

-- pieces that have arrived

pub has_pieces-same : (past bs : List Arrival) (t n : ℕ) → ((i : ℕ) → has_piece past t i ≡ has_piece bs t i) → has_pieces past t n ≡ has_pieces bs t n
has_pieces-same past bs t zero h = refl
has_pieces-same past bs t (suc n) h = rw (h (suc n), has_pieces-same past bs t n h) refl

pub has_piece-of_all : (past : List Arrival) (t n i : ℕ) → has_pieces past t n ≡ true → 0 < i → i ≤ n → has_piece past t i ≡ true
has_piece-of_all past t zero i h a b = absurd (omega arith)
has_piece-of_all past t (suc n) i h a b =
    let p = and_parts (has_piece past t (suc n)) (has_pieces past t n) h in
    go (eqb i (suc n)) refl p.0 (has_piece-of_all past t n i p.1 a)
  where
    go : (c : Bool) → eqb i (suc n) ≡ c → has_piece past t (suc n) ≡ true → (i ≤ n → has_piece past t i ≡ true) → has_piece past t i ≡ true
    go true e p q = rw (eqb-true i (suc n) e) p
    go false e p q = let ne : i ≢ suc n = eqb-false i (suc n) e in q (omega arith)

pub has_pieces-more : (a : Arrival) (past : List Arrival) (t n : ℕ) → has_pieces past t n ≡ true → has_pieces (a ∷ past) t n ≡ true
has_pieces-more a past t zero h = refl
has_pieces-more a past t (suc n) h =
    let p = and_parts (has_piece past t (suc n)) (has_pieces past t n) h in
    and_from _ _ (or_right _ _ p.0) (has_pieces-more a past t n p.1)

-- a piece of another text changes nothing
pub is_done-other : (size : ℕ → ℕ) (a : Arrival) (past : List Arrival) (t : ℕ) → eqb a.text t ≡ false
    → is_done size (a ∷ past) t ≡ is_done size past t
is_done-other size a past t h = has_pieces-same (a ∷ past) past t (size t) (λ i. rw h refl)

-- nor does a piece that has arrived before
pub is_done-repeat : (size : ℕ → ℕ) (a : Arrival) (past : List Arrival) (t : ℕ) → has_piece past a.text a.piece.sequence ≡ true
    → is_done size (a ∷ past) t ≡ is_done size past t
is_done-repeat size a past t h =
    has_pieces-same (a ∷ past) past t (size t) (λ i. or_absorbs (eqb a.text t && eqb a.piece.sequence i) (has_piece past t i)
    (λ q. let r = and_parts (eqb a.text t) (eqb a.piece.sequence i) q in
    let e : a.text ≡ t = eqb-true a.text t r.0 in
    let f : a.piece.sequence ≡ i = eqb-true a.piece.sequence i r.1 in
    ap (λ u. has_piece past u i) (sym e) ∙ (ap (has_piece past a.text) (sym f) ∙ h)))

pub open_pieces-same : (size : ℕ → ℕ) (all all' : List Arrival) (bs : List Arrival)
    → ((t : ℕ) → is_done size all t ≡ is_done size all' t) → open_pieces size all bs ≡ open_pieces size all' bs
open_pieces-same size all all' [] h = refl
open_pieces-same size all all' (b ∷ bs) h = rw (h b.text, open_pieces-same size all all' bs h) refl

-- a completed text has arrived whole, and some piece of it is among the arrivals
pub listed_done : (size : ℕ → ℕ) (past : List Arrival) (t : ℕ) → is_listed (completed size past) t ≡ true
    → (is_done size past t ≡ true) × (has_text past t ≡ true)
listed_done size [] t h = cc
listed_done size (a ∷ past) t h = go (is_done size past a.text) refl (is_done size (a ∷ past) a.text) refl h (listed_done size past t)
  where
    later : (is_done size past t ≡ true) × (has_text past t ≡ true) → (is_done size (a ∷ past) t ≡ true) × (has_text (a ∷ past) t ≡ true)
    later p = (has_pieces-more a past t (size t) p.0, or_right (eqb a.text t) (has_text past t) p.1)

    go : (b : Bool) → is_done size past a.text ≡ b → (c : Bool) → is_done size (a ∷ past) a.text ≡ c
        → is_listed (cond b (completed size past) (cond c (a.text ∷ completed size past) (completed size past))) t ≡ true
        → (is_listed (completed size past) t ≡ true → (is_done size past t ≡ true) × (has_text past t ≡ true))
        → (is_done size (a ∷ past) t ≡ true) × (has_text (a ∷ past) t ≡ true)
    go true e c f h ih = later (ih h)
    go false e false f h ih = later (ih h)
    go false e true f h ih = which (eqb a.text t) refl h
      where
        which : (d : Bool) → eqb a.text t ≡ d → (d || is_listed (completed size past) t) ≡ true
            → (is_done size (a ∷ past) t ≡ true) × (has_text (a ∷ past) t ≡ true)
        which true g h = (subst (λ u. is_done size (a ∷ past) u ≡ true) (eqb-true a.text t g) f, rw g refl)
        which false g h = later (ih h)

pub listed-of_take : (n : ℕ) (us : List ℕ) (t : ℕ) → is_listed (take n us) t ≡ true → is_listed us t ≡ true
listed-of_take zero us t h = cc
listed-of_take (suc n) [] t h = cc
listed-of_take (suc n) (u ∷ us) t h = go (eqb u t) h (listed-of_take n us t)
  where
    go : (b : Bool) → (b || is_listed (take n us) t) ≡ true → (is_listed (take n us) t ≡ true → is_listed us t ≡ true) → (b || is_listed us t) ≡ true
    go true h f = refl
    go false h f = f h

pub is_among-listed : (key : ℕ → Key) (us : List ℕ) (t : ℕ) → is_listed us t ≡ true → is_among (map key us) (key t) ≡ true
is_among-listed key [] t h = cc
is_among-listed key (u ∷ us) t h = go (eqb u t) refl h (is_among-listed key us t)
  where
    go : (b : Bool) → eqb u t ≡ b → (b || is_listed us t) ≡ true → (is_listed us t ≡ true → is_among (map key us) (key t) ≡ true)
        → (same_key (key u) (key t) || is_among (map key us) (key t)) ≡ true
    go true e h f = rw (eqb-true u t e, same_key_refl (key t)) refl
    go false e h f = or_right _ _ (f h)
