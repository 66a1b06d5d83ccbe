-- Entries of lists.
use Rattle.std.proofs.Common.{◌≡◌, ℕ, zero, suc, ◌<◌, Bool, true, false, ◌||◌, eqb, List, [], ◌∷◌, length, slice_index_or, refl, subst, arith, ◌⊎◌, inl, inr, Contains}
use Rattle.std.specs.List.{AllByRecursion}
use Rattle.std.proofs.lemmas.Bool.{eqb-true, eq-eqb}
use Rattle.sms_join.specs.Arrivals.{Arrival, has_text}

pub contains_none : {X : Type 0} (x : X) → Contains [] x → ⊥
contains_none x h = let l = h.1 in absurd (omega arith)

pub contains_here : {X : Type 0} (x : X) (xs : List X) → Contains (x ∷ xs) x
contains_here x xs = (0, omega arith, refl)

pub contains_more : {X : Type 0} (y : X) (xs : List X) (x : X) → Contains xs x → Contains (y ∷ xs) x
contains_more y xs x h = let l = h.1 in (suc h.0, omega arith, h.2)

pub contains_cases : {X : Type 0} (y : X) (ys : List X) (x : X) → Contains (y ∷ ys) x → (y ≡ x) ⊎ Contains ys x
contains_cases y ys x h = go h.0 h.1 h.2
  where
    go : (k : ℕ) → k < suc (length ys) → slice_index_or (y ∷ ys) k x ≡ x → (y ≡ x) ⊎ Contains ys x
    go zero l e = inl e
    go (suc k) l e = inr (k, omega arith, e)

-- what holds of each entry, and of every one that the list contains

pub each_at : {X : Type 0} (P : X → Type 0) (xs : List X) (x : X) → AllByRecursion P xs → Contains xs x → P x
each_at P [] x h c = absurd (contains_none x c)
each_at P (y ∷ ys) x h c = go (contains_cases y ys x c) (λ d. each_at P ys x h.1 d)
  where
    go : (y ≡ x) ⊎ Contains ys x → (Contains ys x → P x) → P x
    go (inl e) ih = subst P e h.0
    go (inr d) ih = ih d

pub each_of : {X : Type 0} (P : X → Type 0) (xs : List X) → ((x : X) → Contains xs x → P x) → AllByRecursion P xs
each_of P [] f = tt
each_of P (y ∷ ys) f = (f y (contains_here y ys), each_of P ys (λ x c. f x (contains_more y ys x c)))

-- arrivals of a text

pub has_text_of : (past : List Arrival) (a : Arrival) → Contains past a → has_text past a.text ≡ true
has_text_of [] a c = absurd (contains_none a c)
has_text_of (b ∷ past) a c = go (contains_cases b past a c) (λ d. has_text_of past a d)
  where
    which : (q : Bool) → has_text past a.text ≡ true → (q || has_text past a.text) ≡ true
    which true h = refl
    which false h = h

    go : (b ≡ a) ⊎ Contains past a → (Contains past a → has_text past a.text ≡ true) → has_text (b ∷ past) a.text ≡ true
    go (inl e) ih = subst (λ (x : Arrival). has_text (b ∷ past) x.text ≡ true) e (rw (eq-eqb b.text b.text refl) refl)
    go (inr d) ih = which (eqb b.text a.text) (ih d)

pub text_entry : (past : List Arrival) (n : ℕ) → has_text past n ≡ true → (a : Arrival) × Contains past a × (a.text ≡ n)
text_entry [] n h = cc
text_entry (b ∷ past) n h = go (eqb b.text n) refl h (λ g. text_entry past n g)
  where
    go : (q : Bool) → eqb b.text n ≡ q → (q || has_text past n) ≡ true → (has_text past n ≡ true → (a : Arrival) × Contains past a × (a.text ≡ n))
        → (a : Arrival) × Contains (b ∷ past) a × (a.text ≡ n)
    go true e h ih = (b, contains_here b past, eqb-true _ _ e)
    go false e h ih = let r = ih h in (r.0, contains_more b past r.0 r.1, r.2)
