-- Lists around one of their places.
use Rattle.std.proofs.Common.{◌≡◌, ℕ, zero, suc, ◌+◌, ◌-◌, ◌<◌, ◌≤◌, ◌⊎◌, inl, inr, Bool, true, false, cond, not, ◌||◌, ltb, List, [], ◌∷◌, ◌++◌, take, drop, length, reverse, get_or, Some, None, refl, sym, ap, ◌∙◌, arith, length-drop}
use Rattle.std.proofs.Math.ListN.{set}
use Rattle.std.proofs.lemmas.Bool.{ltb-false, cases_lt, or_parts}
use Rattle.std.proofs.lemmas.List.{take_all, take_at, take-append-drop, length-reverse, reverse-append}
use Rattle.std.specs.List.{position, position_or_len, prefix_len, list_any}
use Rattle.circular_buffer.specs.Buffer.{Buffer, buffer, keep_last}
use Rattle.sms_join.specs.declared.key.Key.{Key}
use Rattle.sms_join.specs.Key.{same_key}
use Rattle.sms_join.specs.Joiner.{is_among}
use Rattle.sms_join.specs.OpenSets.{SetValue, AreOpen, has_set, all_pieces, pieces_in}
use Rattle.sms_join.specs.Joiner.Sets.{is_open}
use Rattle.sms_join.proofs.SameKeys.{same_key_true}
use Rattle.sms_join.proofs.SetPieces.{open-append, own_open}

pub split_at : {X : Type 0} (xs : List X) (i : ℕ) (d : X) → i < length xs → xs ≡ take i xs ++ get_or xs i d ∷ drop (suc i) xs
split_at [] i d h = absurd (omega arith)
split_at (x ∷ xs) zero d h = refl
split_at (x ∷ xs) (suc i) d h = ap (λ l. x ∷ l) (split_at xs i d (omega arith))

pub set_at : {X : Type 0} (xs : List X) (i : ℕ) (v : X) → i < length xs → set xs i v ≡ take i xs ++ v ∷ drop (suc i) xs
set_at [] i v h = absurd (omega arith)
set_at (x ∷ xs) zero v h = refl
set_at (x ∷ xs) (suc i) v h = ap (λ l. x ∷ l) (set_at xs i v (omega arith))

-- no set of the key is there
pub none_found : (ss : List SetValue) (k : Key) → position (λ (s : SetValue). same_key s.key k) ss ≡ None → has_set ss k ≡ false
none_found ss k h = past ss (go (ltb (position_or_len (λ (s : SetValue). same_key s.key k) ss) (length ss)) refl h)
  where
    go : (b : Bool) → ltb (position_or_len (λ (s : SetValue). same_key s.key k) ss) (length ss) ≡ b
        → cond b (Some (position_or_len (λ (s : SetValue). same_key s.key k) ss)) None ≡ None
        → length ss ≤ position_or_len (λ (s : SetValue). same_key s.key k) ss
    go true e h = cc
    go false e h = ltb-false _ _ e

    past : (ts : List SetValue) → length ts ≤ position_or_len (λ (s : SetValue). same_key s.key k) ts → has_set ts k ≡ false
    past [] l = refl
    past (t ∷ ts) l = which (same_key t.key k) l (past ts)
      where
        which : (b : Bool) → suc (length ts) ≤ cond (not b) (1 + prefix_len (λ (s : SetValue). not (same_key s.key k)) ts) 0
            → (length ts ≤ position_or_len (λ (s : SetValue). same_key s.key k) ts → has_set ts k ≡ false) → (b || has_set ts k) ≡ false
        which true l ih = absurd (omega arith)
        which false l ih = ih (omega arith)

pub none_open : (ss : List SetValue) (k : Key) → AreOpen ss → is_open (all_pieces ss) k ≡ false → has_set ss k ≡ false
none_open [] k o h = refl
none_open (s ∷ ss) k o h = go (same_key s.key k) refl (sym (open-append (pieces_in s) (all_pieces ss) k) ∙ h) (none_open ss k o.2)
  where
    go : (b : Bool) → same_key s.key k ≡ b → (is_open (pieces_in s) k || is_open (all_pieces ss) k) ≡ false
        → (is_open (all_pieces ss) k ≡ false → has_set ss k ≡ false) → (b || has_set ss k) ≡ false
    go true e g ih =
        let f : is_open (pieces_in s) k ≡ true =
        ap (is_open (pieces_in s)) (sym (same_key_true s.key k e)) ∙ own_open s.key s.opened s.sequences s.units o.0.is_set.as_many o.0.some in
        let z : (true || is_open (all_pieces ss) k) ≡ false = rw f at g in cc
    go false e g ih = ih (later (is_open (pieces_in s) k) g)
      where
        later : (c : Bool) → (c || is_open (all_pieces ss) k) ≡ false → is_open (all_pieces ss) k ≡ false
        later true g = cc
        later false g = g

-- keys, the newest last
pub among_any : (ks : List Key) (k : Key) → list_any (λ x. same_key x k) ks ≡ is_among ks k
among_any [] k = refl
among_any (x ∷ xs) k = ap (λ b. same_key x k || b) (among_any xs k)

pub among-append : (ks ls : List Key) (k : Key) → is_among (ks ++ ls) k ≡ (is_among ks k || is_among ls k)
among-append [] ls k = refl
among-append (x ∷ ks) ls k = go (same_key x k) (among-append ks ls k)
  where
    go : (b : Bool) → is_among (ks ++ ls) k ≡ (is_among ks k || is_among ls k) → (b || is_among (ks ++ ls) k) ≡ ((b || is_among ks k) || is_among ls k)
    go true h = refl
    go false h = h

pub among_reversed : (ks : List Key) (k : Key) → is_among (reverse ks) k ≡ is_among ks k
among_reversed [] k = refl
among_reversed (x ∷ xs) k =
    ap (λ l. is_among l k) (reverse-append (x ∷ []) xs)
    ∙ (among-append (reverse xs) (x ∷ []) k ∙ (ap (λ b. b || (same_key x k || false)) (among_reversed xs k) ∙ swap (is_among xs k) (same_key x k)))
  where
    swap : (a b : Bool) → (a || (b || false)) ≡ (b || a)
    swap true true = refl
    swap true false = refl
    swap false true = refl
    swap false false = refl

-- nor is it among the first ones
pub among_taken : (n : ℕ) (ks : List Key) (k : Key) → is_among ks k ≡ false → is_among (take n ks) k ≡ false
among_taken zero ks k h = refl
among_taken (suc n) [] k h = refl
among_taken (suc n) (x ∷ ks) k h =
    let q = or_parts (same_key x k) (is_among ks k) h in
    rw q.0 (among_taken n ks k q.1)

-- the last of a list are the first of the reversed one
pub last_first : {X : Type 0} (n : ℕ) (ys : List X) → reverse (drop (length ys - n) ys) ≡ take n (reverse ys)
last_first n ys = go (cases_lt (length ys) n)
  where
    go : (length ys < n) ⊎ (n ≤ length ys) → reverse (drop (length ys - n) ys) ≡ take n (reverse ys)
    go (inl more) =
        let none : length ys - n ≡ 0 = omega arith in
        let few : length (reverse ys) ≤ n = let e = length-reverse ys in omega arith in
        ap (λ m. reverse (drop m ys)) none ∙ sym (take_all n (reverse ys) few)
    go (inr enough) =
        let m : ℕ = length ys - n in
        let len : length (reverse (drop m ys)) ≡ n =
        let a = length-reverse (drop m ys) in let b = length-drop m ys in omega arith in
        sym (ap (take n) (ap reverse (sym (take-append-drop m ys)) ∙ reverse-append (take m ys) (drop m ys))
        ∙ take_at (reverse (drop m ys)) (reverse (take m ys)) n len)

-- the ring after a key more
pub ring_pushed : (b c : Buffer Key) (k : Key) → c ≡ buffer (keep_last b.capacity (b.items ++ k ∷ [])) b.capacity
    → (c.capacity ≡ b.capacity) × (reverse c.items ≡ take b.capacity (k ∷ reverse b.items))
ring_pushed b c k e = (
  ap (λ (r : Buffer Key). r.capacity) e,
  ap (λ (r : Buffer Key). reverse r.items) e
      ∙ (last_first b.capacity (b.items ++ k ∷ []) ∙ ap (take b.capacity) (reverse-append b.items (k ∷ []))),
)
