-- What the pieces of all open sets say of one of the sets.
use Rattle.std.proofs.Common.{◌≡◌, ℕ, suc, ◌+◌, ◌<◌, Bool, true, false, cond, not, ◌&&◌, ◌||◌, eqb, List, [], ◌∷◌, ◌++◌, length, refl, sym, ap, ◌∙◌, arith}
use Rattle.std.proofs.lemmas.Bool.{or_parts}
use Rattle.std.proofs.lemmas.List.{append_assoc}
use Rattle.sms_join.specs.declared.key.Key.{Key}
use Rattle.sms_join.specs.declared.units.Units.{Units}
use Rattle.sms_join.specs.Key.{same_key}
use Rattle.sms_join.specs.Piece.{Piece}
use Rattle.sms_join.specs.Joiner.Sets.{has, is_open, opened_at, units_at, without}
use Rattle.sms_join.specs.Joiner.Counts.{count_of}
use Rattle.sms_join.specs.OpenSets.{SetValue, pieces_with, pieces_in, all_pieces, has_set, is_in}
use Rattle.sms_join.proofs.SameKeys.{same_key_refl}

-- two lists of pieces in one

pub has-append : (xs ys : List Piece) (k : Key) (n : ℕ) → has (xs ++ ys) k n ≡ (has xs k n || has ys k n)
has-append [] ys k n = refl
has-append (x ∷ xs) ys k n = go (same_key x.key k && eqb x.sequence n) (has-append xs ys k n)
  where
    go : (b : Bool) → has (xs ++ ys) k n ≡ (has xs k n || has ys k n) → (b || has (xs ++ ys) k n) ≡ ((b || has xs k n) || has ys k n)
    go true h = refl
    go false h = h

pub open-append : (xs ys : List Piece) (k : Key) → is_open (xs ++ ys) k ≡ (is_open xs k || is_open ys k)
open-append [] ys k = refl
open-append (x ∷ xs) ys k = go (same_key x.key k) (open-append xs ys k)
  where
    go : (b : Bool) → is_open (xs ++ ys) k ≡ (is_open xs k || is_open ys k) → (b || is_open (xs ++ ys) k) ≡ ((b || is_open xs k) || is_open ys k)
    go true h = refl
    go false h = h

pub units-append : (xs ys : List Piece) (k : Key) (n : ℕ) → units_at (xs ++ ys) k n ≡ cond (has xs k n) (units_at xs k n) (units_at ys k n)
units-append [] ys k n = refl
units-append (x ∷ xs) ys k n = go (same_key x.key k && eqb x.sequence n) (units-append xs ys k n)
  where
    go : (b : Bool) → units_at (xs ++ ys) k n ≡ cond (has xs k n) (units_at xs k n) (units_at ys k n)
        → cond b x.units (units_at (xs ++ ys) k n) ≡ cond (b || has xs k n) (cond b x.units (units_at xs k n)) (units_at ys k n)
    go true h = refl
    go false h = h

pub opened-append : (xs ys : List Piece) (k : Key) → opened_at (xs ++ ys) k ≡ cond (is_open ys k) (opened_at ys k) (opened_at xs k)
opened-append [] ys k = go (is_open ys k) refl
  where
    go : (b : Bool) → is_open ys k ≡ b → opened_at ys k ≡ cond b (opened_at ys k) 0
    go true e = refl
    go false e = closed ys e
      where
        closed : (zs : List Piece) → is_open zs k ≡ false → opened_at zs k ≡ 0
        closed [] e = refl
        closed (z ∷ zs) e = let q = or_parts (same_key z.key k) (is_open zs k) e in rw q.0 (closed zs q.1)
opened-append (x ∷ xs) ys k =
    go (same_key x.key k) (is_open xs k) (is_open ys k) (is_open (xs ++ ys) k) (open-append xs ys k) (opened-append xs ys k)
  where
    go : (b c d e : Bool) → e ≡ (c || d) → opened_at (xs ++ ys) k ≡ cond d (opened_at ys k) (opened_at xs k)
        → cond (b && not e) x.moment (opened_at (xs ++ ys) k) ≡ cond d (opened_at ys k) (cond (b && not c) x.moment (opened_at xs k))
    go true true true e f h = rw f h
    go true true false e f h = rw f h
    go true false true e f h = rw f h
    go true false false e f h = rw f refl
    go false c d e f h = h

pub without-append : (xs ys : List Piece) (k : Key) → without (xs ++ ys) k ≡ without xs k ++ without ys k
without-append [] ys k = refl
without-append (x ∷ xs) ys k = go (same_key x.key k) (without-append xs ys k)
  where
    go : (b : Bool) → without (xs ++ ys) k ≡ without xs k ++ without ys k
        → cond b (without (xs ++ ys) k) (x ∷ without (xs ++ ys) k) ≡ cond b (without xs k) (x ∷ without xs k) ++ without ys k
    go true h = h
    go false h = ap (λ l. x ∷ l) h

pub count-append : (xs ys : List Piece) (k : Key) → count_of (xs ++ ys) k ≡ count_of xs k + count_of ys k
count-append [] ys k = omega arith
count-append (x ∷ xs) ys k = go (same_key x.key k) (count-append xs ys k)
  where
    go : (b : Bool) → count_of (xs ++ ys) k ≡ count_of xs k + count_of ys k
        → cond b (suc (count_of (xs ++ ys) k)) (count_of (xs ++ ys) k) ≡ cond b (suc (count_of xs k)) (count_of xs k) + count_of ys k
    go true h = omega arith
    go false h = h

pub all-append : (ls rs : List SetValue) → all_pieces (ls ++ rs) ≡ all_pieces ls ++ all_pieces rs
all-append [] rs = refl
all-append (a ∷ ls) rs = ap (λ l. pieces_in a ++ l) (all-append ls rs) ∙ sym (append_assoc (pieces_in a) (all_pieces ls) (all_pieces rs))

pub has_set-append : (ls rs : List SetValue) (k : Key) → has_set (ls ++ rs) k ≡ (has_set ls k || has_set rs k)
has_set-append [] rs k = refl
has_set-append (a ∷ ls) rs k = go (same_key a.key k) (has_set-append ls rs k)
  where
    go : (b : Bool) → has_set (ls ++ rs) k ≡ (has_set ls k || has_set rs k) → (b || has_set (ls ++ rs) k) ≡ ((b || has_set ls k) || has_set rs k)
    go true h = refl
    go false h = h

-- pieces of another key, or of none that is there

pub closed_has : (ps : List Piece) (k : Key) (n : ℕ) → is_open ps k ≡ false → has ps k n ≡ false
closed_has [] k n h = refl
closed_has (p ∷ ps) k n h = let q = or_parts (same_key p.key k) (is_open ps k) h in rw (q.0, closed_has ps k n q.1) refl

pub closed_without : (ps : List Piece) (k : Key) → is_open ps k ≡ false → without ps k ≡ ps
closed_without [] k h = refl
closed_without (p ∷ ps) k h = let q = or_parts (same_key p.key k) (is_open ps k) h in rw q.0 (ap (λ l. p ∷ l) (closed_without ps k q.1))

pub closed_count : (ps : List Piece) (k : Key) → is_open ps k ≡ false → count_of ps k ≡ 0
closed_count [] k h = refl
closed_count (p ∷ ps) k h = let q = or_parts (same_key p.key k) (is_open ps k) h in rw q.0 (closed_count ps k q.1)

pub other_closed : (j k : Key) (opened : ℕ) (ns : List ℕ) (us : List Units) → same_key j k ≡ false → is_open (pieces_with j opened ns us) k ≡ false
other_closed j k opened [] us h = refl
other_closed j k opened (n ∷ ns) [] h = refl
other_closed j k opened (n ∷ ns) (u ∷ us) h = rw h (other_closed j k opened ns us h)

pub others_closed : (ss : List SetValue) (k : Key) → has_set ss k ≡ false → is_open (all_pieces ss) k ≡ false
others_closed [] k h = refl
others_closed (s ∷ ss) k h =
    let q = or_parts (same_key s.key k) (has_set ss k) h in
    rw (open-append (pieces_in s) (all_pieces ss) k, other_closed s.key k s.opened s.sequences s.units q.0) (others_closed ss k q.1)

-- pieces of the set itself

pub own_has : (k : Key) (opened n : ℕ) (ns : List ℕ) (us : List Units) → length us ≡ length ns → has (pieces_with k opened ns us) k n ≡ is_in n ns
own_has k opened n [] us h = refl
own_has k opened n (m ∷ ms) [] h = absurd (omega arith)
own_has k opened n (m ∷ ms) (u ∷ us) h = rw (same_key_refl k, own_has k opened n ms us (omega arith)) refl

pub own_open : (k : Key) (opened : ℕ) (ns : List ℕ) (us : List Units) → length us ≡ length ns → 0 < length ns → is_open (pieces_with k opened ns us) k ≡ true
own_open k opened [] us h l = absurd (omega arith)
own_open k opened (m ∷ ms) [] h l = absurd (omega arith)
own_open k opened (m ∷ ms) (u ∷ us) h l = rw (same_key_refl k) refl

pub own_opened : (k : Key) (opened : ℕ) (ns : List ℕ) (us : List Units) → is_open (pieces_with k opened ns us) k ≡ true
    → opened_at (pieces_with k opened ns us) k ≡ opened
own_opened k opened [] us h = cc
own_opened k opened (m ∷ ms) [] h = cc
own_opened k opened (m ∷ ms) (u ∷ us) h =
    rw (same_key_refl k) (go (is_open (pieces_with k opened ms us) k) (own_opened k opened ms us))
  where
    go : (b : Bool) → (b ≡ true → opened_at (pieces_with k opened ms us) k ≡ opened)
        → cond (not b) opened (opened_at (pieces_with k opened ms us) k) ≡ opened
    go true h = h refl
    go false h = refl

pub own_without : (k : Key) (opened : ℕ) (ns : List ℕ) (us : List Units) → without (pieces_with k opened ns us) k ≡ []
own_without k opened [] us = refl
own_without k opened (n ∷ ns) [] = refl
own_without k opened (n ∷ ns) (u ∷ us) = rw (same_key_refl k) (own_without k opened ns us)

pub own_count : (k : Key) (opened : ℕ) (ns : List ℕ) (us : List Units) → length us ≡ length ns → count_of (pieces_with k opened ns us) k ≡ length ns
own_count k opened [] us h = refl
own_count k opened (n ∷ ns) [] h = absurd (omega arith)
own_count k opened (n ∷ ns) (u ∷ us) h = rw (same_key_refl k) (ap suc (own_count k opened ns us (omega arith)))

-- a set between others
module _ (ls : List SetValue) (s : SetValue) (rs : List SetValue) (before : has_set ls s.key ≡ false) (after : has_set rs s.key ≡ false)
    (as_many : length s.units ≡ length s.sequences) where
  split : all_pieces (ls ++ s ∷ rs) ≡ all_pieces ls ++ (pieces_in s ++ all_pieces rs)
  split = all-append ls (s ∷ rs)

  pub set_has : (n : ℕ) → has (all_pieces (ls ++ s ∷ rs)) s.key n ≡ is_in n s.sequences
  set_has n =
      rw (
        split,
        has-append (all_pieces ls) (pieces_in s ++ all_pieces rs) s.key n,
        has-append (pieces_in s) (all_pieces rs) s.key n,
        closed_has (all_pieces ls) s.key n (others_closed ls s.key before),
        closed_has (all_pieces rs) s.key n (others_closed rs s.key after),
        own_has s.key s.opened n s.sequences s.units as_many,
      ) (or_false (is_in n s.sequences))
    where
      or_false : (b : Bool) → (b || false) ≡ b
      or_false true = refl
      or_false false = refl

  pub set_count : count_of (all_pieces (ls ++ s ∷ rs)) s.key ≡ length s.sequences
  set_count =
      rw (
        split,
        count-append (all_pieces ls) (pieces_in s ++ all_pieces rs) s.key,
        count-append (pieces_in s) (all_pieces rs) s.key,
        closed_count (all_pieces ls) s.key (others_closed ls s.key before),
        closed_count (all_pieces rs) s.key (others_closed rs s.key after),
        own_count s.key s.opened s.sequences s.units as_many,
      ) (omega arith)

  pub set_without : without (all_pieces (ls ++ s ∷ rs)) s.key ≡ all_pieces (ls ++ rs)
  set_without =
      rw (
        split,
        without-append (all_pieces ls) (pieces_in s ++ all_pieces rs) s.key,
        without-append (pieces_in s) (all_pieces rs) s.key,
        closed_without (all_pieces ls) s.key (others_closed ls s.key before),
        closed_without (all_pieces rs) s.key (others_closed rs s.key after),
        own_without s.key s.opened s.sequences s.units,
      ) (sym (all-append ls rs))

  pub set_units : (n : ℕ) → is_in n s.sequences ≡ true → units_at (all_pieces (ls ++ s ∷ rs)) s.key n ≡ units_at (pieces_in s) s.key n
  set_units n h =
      rw (
        split,
        units-append (all_pieces ls) (pieces_in s ++ all_pieces rs) s.key n,
        units-append (pieces_in s) (all_pieces rs) s.key n,
        closed_has (all_pieces ls) s.key n (others_closed ls s.key before),
        own_has s.key s.opened n s.sequences s.units as_many,
        h,
      ) refl
