-- Open sets hold the same in the order in which they were opened.
use Rattle.std.proofs.Common.{◌≡◌, ℕ, suc, Bool, true, false, cond, ◌||◌, ltb, List, [], ◌∷◌, length, refl, sym, ap, ◌∙◌}
use Rattle.std.proofs.lemmas.Bool.{or_parts}
use Rattle.sms_join.specs.declared.key.Key.{Key}
use Rattle.sms_join.specs.Key.{same_key}
use Rattle.sms_join.specs.Piece.{Piece}
use Rattle.sms_join.specs.Joiner.Sets.{has, is_open, opened_at, units_at}
use Rattle.sms_join.specs.Joiner.Same.{IsSame}
use Rattle.sms_join.specs.OpenSets.{SetValue, AreOpen, all_pieces, pieces_in, has_set}
use Rattle.sms_join.specs.Inside.Turns.{put_in, arranged}
use Rattle.sms_join.proofs.SameKeys.{same_key_true}
use Rattle.sms_join.proofs.Same.{flip, opened_at-closed}
use Rattle.sms_join.proofs.SetPieces.{has-append, open-append, units-append, opened-append, closed_has, other_closed, others_closed}
use Rattle.sms_join.proofs.OneSet.{sets_count}
use Rattle.sms_join.proofs.Outcomes.{joiner_of}

-- the pieces of the set of a key
abbrev pub own : Key → List SetValue → List Piece
own k [] = []
own k (s ∷ ss) = cond (same_key s.key k) (pieces_in s) (own k ss)

or_none : (b : Bool) → (b || false) ≡ b
or_none true = refl
or_none false = refl

none_after : (s : SetValue) (ss : List SetValue) (k : Key) → same_key s.key k ≡ true → has_set ss s.key ≡ false → is_open (all_pieces ss) k ≡ false
none_after s ss k e o = others_closed ss k (ap (has_set ss) (sym (same_key_true s.key k e)) ∙ o)

own_open : (ss : List SetValue) (k : Key) → AreOpen ss → is_open (all_pieces ss) k ≡ is_open (own k ss) k
own_open [] k o = refl
own_open (s ∷ ss) k o = open-append (pieces_in s) (all_pieces ss) k ∙ go (same_key s.key k) refl (own_open ss k o.2)
  where
    go : (b : Bool) → same_key s.key k ≡ b → is_open (all_pieces ss) k ≡ is_open (own k ss) k
        → (is_open (pieces_in s) k || is_open (all_pieces ss) k) ≡ is_open (cond b (pieces_in s) (own k ss)) k
    go true e ih = rw (none_after s ss k e o.1) (or_none (is_open (pieces_in s) k))
    go false e ih = rw (other_closed s.key k s.opened s.sequences s.units e) ih

own_has : (ss : List SetValue) (k : Key) (n : ℕ) → AreOpen ss → has (all_pieces ss) k n ≡ has (own k ss) k n
own_has [] k n o = refl
own_has (s ∷ ss) k n o = has-append (pieces_in s) (all_pieces ss) k n ∙ go (same_key s.key k) refl (own_has ss k n o.2)
  where
    go : (b : Bool) → same_key s.key k ≡ b → has (all_pieces ss) k n ≡ has (own k ss) k n
        → (has (pieces_in s) k n || has (all_pieces ss) k n) ≡ has (cond b (pieces_in s) (own k ss)) k n
    go true e ih = rw (closed_has (all_pieces ss) k n (none_after s ss k e o.1)) (or_none (has (pieces_in s) k n))
    go false e ih = rw (closed_has (pieces_in s) k n (other_closed s.key k s.opened s.sequences s.units e)) ih

own_units : (ss : List SetValue) (k : Key) (n : ℕ) → AreOpen ss → has (all_pieces ss) k n ≡ true → units_at (all_pieces ss) k n ≡ units_at (own k ss) k n
own_units [] k n o h = refl
own_units (s ∷ ss) k n o h =
    units-append (pieces_in s) (all_pieces ss) k n ∙ go (same_key s.key k) refl (has (pieces_in s) k n) refl (sym (has-append (pieces_in s) (all_pieces ss) k n) ∙ h) (own_units ss k n o.2)
  where
    go : (b : Bool) → same_key s.key k ≡ b → (c : Bool) → has (pieces_in s) k n ≡ c → (has (pieces_in s) k n || has (all_pieces ss) k n) ≡ true
        → (has (all_pieces ss) k n ≡ true → units_at (all_pieces ss) k n ≡ units_at (own k ss) k n)
        → cond (has (pieces_in s) k n) (units_at (pieces_in s) k n) (units_at (all_pieces ss) k n) ≡ units_at (cond b (pieces_in s) (own k ss)) k n
    go true e true f t ih = rw f refl
    go true e false f t ih =
        let x : (false || false) ≡ true = ap (λ (b : Bool). b || false) (sym f) ∙ (ap (λ (b : Bool). has (pieces_in s) k n || b) (sym (closed_has (all_pieces ss) k n (none_after s ss k e o.1))) ∙ t) in
        cc
    go false e c f t ih =
        let none : has (pieces_in s) k n ≡ false = closed_has (pieces_in s) k n (other_closed s.key k s.opened s.sequences s.units e) in
        let x : has (all_pieces ss) k n ≡ true = ap (λ (b : Bool). b || has (all_pieces ss) k n) (sym none) ∙ t in
        rw none (ih x)

own_opened : (ss : List SetValue) (k : Key) → AreOpen ss → opened_at (all_pieces ss) k ≡ opened_at (own k ss) k
own_opened [] k o = refl
own_opened (s ∷ ss) k o = opened-append (pieces_in s) (all_pieces ss) k ∙ go (same_key s.key k) refl (is_open (all_pieces ss) k) refl (own_opened ss k o.2)
  where
    go : (b : Bool) → same_key s.key k ≡ b → (c : Bool) → is_open (all_pieces ss) k ≡ c → opened_at (all_pieces ss) k ≡ opened_at (own k ss) k
        → cond (is_open (all_pieces ss) k) (opened_at (all_pieces ss) k) (opened_at (pieces_in s) k) ≡ opened_at (cond b (pieces_in s) (own k ss)) k
    go true e c f ih = rw (none_after s ss k e o.1) refl
    go false e true f ih = rw f ih
    go false e false f ih =
        rw f (opened_at-closed (pieces_in s) k (other_closed s.key k s.opened s.sequences s.units e) ∙ (sym (opened_at-closed (all_pieces ss) k f) ∙ ih))

-- lists of open sets that have the same set of each key, and as many, hold the same
pub same_by_own : (xs ys : List SetValue) (ks : List Key) → AreOpen xs → AreOpen ys → ((k : Key) → own k xs ≡ own k ys) → length xs ≡ length ys
    → IsSame (joiner_of xs ks) (joiner_of ys ks)
same_by_own xs ys ks o p e l =
    record {
      pieces = λ k n. own_has xs k n o ∙ (ap (λ (ps : List Piece). has ps k n) (e k) ∙ sym (own_has ys k n p));
      units = λ k n h. own_units xs k n o h ∙ (ap (λ (ps : List Piece). units_at ps k n) (e k)
          ∙ sym (own_units ys k n p (own_has ys k n p ∙ (ap (λ (ps : List Piece). has ps k n) (sym (e k)) ∙ (sym (own_has xs k n o) ∙ h)))));
      opened = λ k. own_open xs k o ∙ (ap (λ (ps : List Piece). is_open ps k) (e k) ∙ sym (own_open ys k p));
      moments = λ k. own_opened xs k o ∙ (ap (λ (ps : List Piece). opened_at ps k) (e k) ∙ sym (own_opened ys k p));
      sets = sets_count xs o ∙ (l ∙ sym (sets_count ys p));
      finished = refl;
    }

-- ---- a set that is put in its place

or_exchanged : (a b c : Bool) → (a || (b || c)) ≡ (b || (a || c))
or_exchanged true true c = refl
or_exchanged true false c = refl
or_exchanged false true c = refl
or_exchanged false false c = refl

pub has_put : (s : SetValue) (ts : List SetValue) (k : Key) → has_set (put_in s ts) k ≡ has_set (s ∷ ts) k
has_put s [] k = refl
has_put s (t ∷ ts) k = go (ltb s.turn t.turn) (has_put s ts k)
  where
    go : (b : Bool) → has_set (put_in s ts) k ≡ has_set (s ∷ ts) k → has_set (cond b (s ∷ t ∷ ts) (t ∷ put_in s ts)) k ≡ has_set (s ∷ t ∷ ts) k
    go true ih = refl
    go false ih = ap (λ (b : Bool). same_key t.key k || b) ih ∙ or_exchanged (same_key t.key k) (same_key s.key k) (has_set ts k)

put_open : (s : SetValue) (ts : List SetValue) → AreOpen (s ∷ ts) → AreOpen (put_in s ts)
put_open s [] o = o
put_open s (t ∷ ts) o = go (ltb s.turn t.turn) (put_open s ts (o.0, q.1, o.2.2))
  where
    q : (same_key t.key s.key ≡ false) × (has_set ts s.key ≡ false)
    q = or_parts (same_key t.key s.key) (has_set ts s.key) o.1

    go : (b : Bool) → AreOpen (put_in s ts) → AreOpen (cond b (s ∷ t ∷ ts) (t ∷ put_in s ts))
    go true ih = o
    go false ih = (o.2.0, has_put s ts t.key ∙ rw (flip t.key s.key q.0, o.2.1) refl, ih)

put_own : (s : SetValue) (ts : List SetValue) (k : Key) → has_set ts s.key ≡ false → own k (put_in s ts) ≡ own k (s ∷ ts)
put_own s [] k o = refl
put_own s (t ∷ ts) k o = go (ltb s.turn t.turn) (put_own s ts k q.1)
  where
    q : (same_key t.key s.key ≡ false) × (has_set ts s.key ≡ false)
    q = or_parts (same_key t.key s.key) (has_set ts s.key) o

    choose : (a b : Bool) → same_key t.key k ≡ a → same_key s.key k ≡ b
        → cond a (pieces_in t) (cond b (pieces_in s) (own k ts)) ≡ cond b (pieces_in s) (cond a (pieces_in t) (own k ts))
    choose true true e f =
        let x : same_key t.key s.key ≡ true = ap (same_key t.key) (same_key_true s.key k f) ∙ e in
        let y : true ≡ false = sym x ∙ q.0 in
        cc
    choose true false e f = refl
    choose false true e f = refl
    choose false false e f = refl

    go : (b : Bool) → own k (put_in s ts) ≡ own k (s ∷ ts) → own k (cond b (s ∷ t ∷ ts) (t ∷ put_in s ts)) ≡ own k (s ∷ t ∷ ts)
    go true ih = refl
    go false ih = ap (cond (same_key t.key k) (pieces_in t)) ih ∙ choose (same_key t.key k) (same_key s.key k) refl refl

put_length : (s : SetValue) (ts : List SetValue) → length (put_in s ts) ≡ suc (length ts)
put_length s [] = refl
put_length s (t ∷ ts) = go (ltb s.turn t.turn) (put_length s ts)
  where
    go : (b : Bool) → length (put_in s ts) ≡ suc (length ts) → length (cond b (s ∷ t ∷ ts) (t ∷ put_in s ts)) ≡ suc (suc (length ts))
    go true ih = refl
    go false ih = ap suc ih

-- ---- all sets in their order

pub has_arranged : (ss : List SetValue) (k : Key) → has_set (arranged ss) k ≡ has_set ss k
has_arranged [] k = refl
has_arranged (s ∷ ss) k = has_put s (arranged ss) k ∙ ap (λ (b : Bool). same_key s.key k || b) (has_arranged ss k)

pub arranged_open : (ss : List SetValue) → AreOpen ss → AreOpen (arranged ss)
arranged_open [] o = tt
arranged_open (s ∷ ss) o = put_open s (arranged ss) (o.0, has_arranged ss s.key ∙ o.1, arranged_open ss o.2)

own_arranged : (ss : List SetValue) (k : Key) → AreOpen ss → own k (arranged ss) ≡ own k ss
own_arranged [] k o = refl
own_arranged (s ∷ ss) k o =
    put_own s (arranged ss) k (has_arranged ss s.key ∙ o.1)
    ∙ ap (cond (same_key s.key k) (pieces_in s)) (own_arranged ss k o.2)

pub arranged_length : (ss : List SetValue) → length (arranged ss) ≡ length ss
arranged_length [] = refl
arranged_length (s ∷ ss) = put_length s (arranged ss) ∙ ap suc (arranged_length ss)

pub same_arranged : (ss : List SetValue) (ks : List Key) → AreOpen ss → IsSame (joiner_of (arranged ss) ks) (joiner_of ss ks)
same_arranged ss ks o = same_by_own (arranged ss) ss ks (arranged_open ss o) o (λ k. own_arranged ss k o) (arranged_length ss)
