-- What a joiner says of a piece, by the set with its key.
use Rattle.std.proofs.Common.{◌≡◌, ℕ, suc, ◌+◌, ◌-◌, ◌<◌, ◌≤◌, Bool, true, false, cond, ◌&&◌, ◌||◌, eqb, List, [], ◌∷◌, ◌++◌, take, drop, length, get_or, refl, sym, ap, ◌∙◌, subst, arith}
use Rattle.std.proofs.lemmas.Bool.{eqb-true, or_parts, or_right}
use Rattle.std.proofs.lemmas.List.{append_assoc, append-nil, take_all, take-append-drop, length-take-le}
use Rattle.sms_join.specs.declared.key.Key.{Key}
use Rattle.sms_join.specs.declared.units.Units.{Units}
use Rattle.sms_join.specs.declared.units.Units.TheVariants.{Gsm}
use Rattle.sms_join.specs.Key.{same_key, maximum_of}
use Rattle.sms_join.specs.Piece.{Piece}
use Rattle.sms_join.specs.Joiner.Sets.{has, has_all, is_open, opened_at, open_sets, units_at, units_upto, without}
use Rattle.sms_join.proofs.Counts.{AreDistinct}
use Rattle.sms_join.specs.Joiner.Same.{IsSame}
use Rattle.sms_join.specs.OpenSets.{is_in, SetValue, Rises, IsSet, AreOpen, pieces_with, pieces_in, all_pieces, has_set, place_of, with_piece}
use Rattle.sms_join.proofs.SameKeys.{same_key_refl}
use Rattle.sms_join.proofs.Pieces.{units_upto_is}
use Rattle.sms_join.proofs.SetPieces.{has-append, open-append, opened-append, without-append, all-append, closed_has, closed_without, others_closed, own_has, own_open, own_opened, own_without, set_has, set_units}
use Rattle.sms_join.proofs.Rising.{rises_length, rises_above, not_below, place_within, rises_insert, length-insert}
use Rattle.sms_join.proofs.Moving.{sets_open, moved_same}

pieces-append : (k : Key) (opened : ℕ) (ns ms : List ℕ) (us vs : List Units) → length us ≡ length ns
    → pieces_with k opened (ns ++ ms) (us ++ vs) ≡ pieces_with k opened ns us ++ pieces_with k opened ms vs
pieces-append k opened [] ms [] vs h = refl
pieces-append k opened [] ms (u ∷ us) vs h = absurd (omega arith)
pieces-append k opened (n ∷ ns) ms [] vs h = absurd (omega arith)
pieces-append k opened (n ∷ ns) ms (u ∷ us) vs h =
    ap (λ l. record { key = k; maximum = maximum_of k; sequence = n; units = u; moment = opened } ∷ l) (pieces-append k opened ns ms us vs (omega arith))

-- as many sets are open as are listed
pub sets_count : (ss : List SetValue) → AreOpen ss → open_sets (all_pieces ss) ≡ length ss
sets_count [] h = refl
sets_count (s ∷ ss) h =
    sets_open (all_pieces (s ∷ ss)) s.key here ∙ (ap (λ l. suc (open_sets l)) gone ∙ ap suc (sets_count ss h.2))
  where
    own : is_open (pieces_in s) s.key ≡ true
    own = own_open s.key s.opened s.sequences s.units h.0.is_set.as_many h.0.some

    here : is_open (pieces_in s ++ all_pieces ss) s.key ≡ true
    here = open-append (pieces_in s) (all_pieces ss) s.key ∙ rw own refl

    gone : without (pieces_in s ++ all_pieces ss) s.key ≡ all_pieces ss
    gone =
        without-append (pieces_in s) (all_pieces ss) s.key
        ∙ rw (own_without s.key s.opened s.sequences s.units) (closed_without (all_pieces ss) s.key (others_closed ss s.key h.1))

-- numbers of pieces

numbered_closed : (ps : List Piece) (k : Key) (n : ℕ) → is_open ps k ≡ false → AreDistinct ps k n
numbered_closed [] k n h = tt
numbered_closed (p ∷ ps) k n h =
    let q = or_parts (same_key p.key k) (is_open ps k) h in
    (λ e. let f = q.0 in let z : true ≡ false = sym e ∙ f in absurd cc, numbered_closed ps k n q.1)

numbered_after : (xs ys : List Piece) (k : Key) (n : ℕ) → is_open xs k ≡ false → AreDistinct ys k n → AreDistinct (xs ++ ys) k n
numbered_after [] ys k n h g = g
numbered_after (x ∷ xs) ys k n h g =
    let q = or_parts (same_key x.key k) (is_open xs k) h in
    (λ e. let f = q.0 in let z : true ≡ false = sym e ∙ f in absurd cc, numbered_after xs ys k n q.1 g)

numbered_own : (k : Key) (opened low : ℕ) (ns : List ℕ) (us : List Units) (high : ℕ) (ys : List Piece) → Rises low ns high → length us ≡ length ns
    → is_open ys k ≡ false → AreDistinct (pieces_with k opened ns us ++ ys) k high
numbered_own k opened low [] us high ys r h o = numbered_closed ys k high o
numbered_own k opened low (n ∷ ns) [] high ys r h o = absurd (omega arith)
numbered_own k opened low (n ∷ ns) (u ∷ us) high ys r h o = (λ e. (first, last, none), numbered_own k opened n ns us high ys r.1 (omega arith) o)
  where
    first : 0 < n
    first = let a = r.0 in omega arith

    last : n ≤ high
    last = let a = rises_length n ns high r.1 in omega arith

    none : has (pieces_with k opened ns us ++ ys) k n ≡ false
    none =
        has-append (pieces_with k opened ns us) ys k n
        ∙ rw (own_has k opened n ns us (omega arith), not_below n ns high n r.1 (omega arith), closed_has ys k n o) refl

pub set_numbered : (ls : List SetValue) (s : SetValue) (rs : List SetValue) → has_set ls s.key ≡ false → has_set rs s.key ≡ false → IsSet s
    → AreDistinct (all_pieces (ls ++ s ∷ rs)) s.key (maximum_of s.key)
set_numbered ls s rs before after is =
    subst (λ l. AreDistinct l s.key (maximum_of s.key)) (sym (all-append ls (s ∷ rs)))
    (numbered_after (all_pieces ls) (pieces_in s ++ all_pieces rs) s.key (maximum_of s.key) (others_closed ls s.key before)
    (numbered_own s.key s.opened 0 s.sequences s.units (maximum_of s.key) (all_pieces rs) is.rising is.as_many (others_closed rs s.key after)))

pub none_numbered : (ss : List SetValue) (k : Key) (n : ℕ) → has_set ss k ≡ false → AreDistinct (all_pieces ss) k n
none_numbered ss k n h = numbered_closed (all_pieces ss) k n (others_closed ss k h)

-- the units of a whole set

full_units : (k : Key) (opened low : ℕ) (ns : List ℕ) (us : List Units) (high i : ℕ) → Rises low ns high → low + length ns ≡ high
    → length us ≡ length ns → is_in i ns ≡ true → units_at (pieces_with k opened ns us) k i ≡ get_or us (i - suc low) (Gsm [])
full_units k opened low [] us high i r e h t = cc
full_units k opened low (n ∷ ns) [] high i r e h t = absurd (omega arith)
full_units k opened low (n ∷ ns) (u ∷ us) high i r e h t =
    rw (same_key_refl k) (go (eqb n i) refl t (λ g. full_units k opened n ns us high i r.1 next (omega arith) g))
  where
    first : n ≡ suc low
    first = let a = rises_length n ns high r.1 in let b = r.0 in omega arith

    next : n + length ns ≡ high
    next = let a = first in omega arith

    go : (b : Bool) → eqb n i ≡ b → (b || is_in i ns) ≡ true
        → (is_in i ns ≡ true → units_at (pieces_with k opened ns us) k i ≡ get_or us (i - suc n) (Gsm []))
        → cond b u (units_at (pieces_with k opened ns us) k i) ≡ get_or (u ∷ us) (i - suc low) (Gsm [])
    go true f t ih =
        let g : n ≡ i = eqb-true n i f in
        let a = first in
        let z : i - suc low ≡ 0 = omega arith in
        rw z refl
    go false f t ih =
        let a = first in
        let b : n < i = rises_above n ns high i r.1 t in
        let z : i - suc low ≡ suc (i - suc n) = omega arith in
        rw z (ih t)

pub whole_units : (ls : List SetValue) (s : SetValue) (rs : List SetValue) → has_set ls s.key ≡ false → has_set rs s.key ≡ false → IsSet s
    → length s.sequences ≡ maximum_of s.key → has_all (all_pieces (ls ++ s ∷ rs)) s.key (maximum_of s.key) ≡ true
    → units_upto (all_pieces (ls ++ s ∷ rs)) s.key (maximum_of s.key) ≡ s.units
whole_units ls s rs before after is full all =
    units_upto_is (all_pieces (ls ++ s ∷ rs)) s.key s.units (maximum_of s.key) right (let a = is.as_many in omega arith) all
    ∙ take_all (maximum_of s.key) s.units (let a = is.as_many in omega arith)
  where
    right : (i : ℕ) → has (all_pieces (ls ++ s ∷ rs)) s.key i ≡ true → units_at (all_pieces (ls ++ s ∷ rs)) s.key i ≡ get_or s.units (i - 1) (Gsm [])
    right i h =
        let t : is_in i s.sequences ≡ true = sym (set_has ls s rs before after is.as_many i) ∙ h in
        let e : 0 + length s.sequences ≡ maximum_of s.key = omega arith in
        set_units ls s rs before after is.as_many i t
        ∙ full_units s.key s.opened 0 s.sequences s.units (maximum_of s.key) i is.rising e is.as_many t

older : (p : Piece) (ps : List Piece) (k : Key) → is_open ps k ≡ true → opened_at (p ∷ ps) k ≡ opened_at ps k
older p ps k h = rw h (go (same_key p.key k))
  where
    go : (b : Bool) → cond (b && false) p.moment (opened_at ps k) ≡ opened_at ps k
    go true = refl
    go false = refl

-- a set is open
pub open_of : (ls : List SetValue) (s : SetValue) (rs : List SetValue)
    → length s.units ≡ length s.sequences → 0 < length s.sequences → is_open (all_pieces (ls ++ s ∷ rs)) s.key ≡ true
open_of ls s rs as_many some =
    ap (λ l. is_open l s.key) (all-append ls (s ∷ rs))
    ∙ (open-append (all_pieces ls) (pieces_in s ++ all_pieces rs) s.key
    ∙ (ap (λ b. is_open (all_pieces ls) s.key || b) (open-append (pieces_in s) (all_pieces rs) s.key)
    ∙ rw (own_open s.key s.opened s.sequences s.units as_many some) (or_right (is_open (all_pieces ls) s.key) true refl)))

-- when a set was opened
pub opened_of : (ls : List SetValue) (s : SetValue) (rs : List SetValue) → has_set ls s.key ≡ false → has_set rs s.key ≡ false
    → length s.units ≡ length s.sequences → 0 < length s.sequences → opened_at (all_pieces (ls ++ s ∷ rs)) s.key ≡ s.opened
opened_of ls s rs before after as_many some =
    ap (λ l. opened_at l s.key) (all-append ls (s ∷ rs))
    ∙ (opened-append (all_pieces ls) (pieces_in s ++ all_pieces rs) s.key
    ∙ (rw (open-append (pieces_in s) (all_pieces rs) s.key, own) refl
    ∙ (opened-append (pieces_in s) (all_pieces rs) s.key
    ∙ (rw (others_closed rs s.key after) (own_opened s.key s.opened s.sequences s.units own)))))
  where
    own : is_open (pieces_in s) s.key ≡ true
    own = own_open s.key s.opened s.sequences s.units as_many some

-- one more piece of a set
module _ (ls : List SetValue) (s : SetValue) (rs : List SetValue) (before : has_set ls s.key ≡ false) (after : has_set rs s.key ≡ false)
    (o : IsSet s) (some : 0 < length s.sequences) (p : Piece) (key : p.key ≡ s.key) (new : is_in p.sequence s.sequences ≡ false) where
  place : ℕ
  place = place_of p.sequence s.sequences

  front : List Piece
  front = pieces_with s.key s.opened (take (place_of p.sequence s.sequences) s.sequences) (take (place_of p.sequence s.sequences) s.units)

  back : List Piece
  back = pieces_with s.key s.opened (drop (place_of p.sequence s.sequences) s.sequences) (drop (place_of p.sequence s.sequences) s.units)

  added : Piece
  added = record { key = s.key; maximum = maximum_of s.key; sequence = p.sequence; units = p.units; moment = s.opened }

  cut : length (take (place_of p.sequence s.sequences) s.units) ≡ length (take (place_of p.sequence s.sequences) s.sequences)
  cut =
      let a = place_within p.sequence s.sequences in
      let b = o.as_many in
      length-take-le (place_of p.sequence s.sequences) s.units (omega arith)
      ∙ sym (length-take-le (place_of p.sequence s.sequences) s.sequences a)

  parts : pieces_in s ≡ front ++ back
  unfolding front back
  parts =
      ap (λ ns. pieces_with s.key s.opened ns s.units) (sym (take-append-drop (place_of p.sequence s.sequences) s.sequences))
      ∙ (ap (λ us. pieces_with s.key s.opened (take (place_of p.sequence s.sequences) s.sequences ++ drop (place_of p.sequence s.sequences) s.sequences) us)
      (sym (take-append-drop (place_of p.sequence s.sequences) s.units))
      ∙ pieces-append s.key s.opened _ _ _ _ cut)

  parts_more : pieces_in (with_piece s p.sequence p.units) ≡ front ++ added ∷ back
  unfolding front back added
  parts_more = pieces-append s.key s.opened _ _ _ _ cut

  old_list : all_pieces (ls ++ s ∷ rs) ≡ (all_pieces ls ++ front) ++ (back ++ all_pieces rs)
  old_list =
      all-append ls (s ∷ rs)
      ∙ (ap (λ l. all_pieces ls ++ (l ++ all_pieces rs)) parts ∙ simp append_assoc)

  new_list : all_pieces (ls ++ with_piece s p.sequence p.units ∷ rs) ≡ (all_pieces ls ++ front) ++ added ∷ (back ++ all_pieces rs)
  new_list =
      all-append ls (with_piece s p.sequence p.units ∷ rs)
      ∙ (ap (λ l. all_pieces ls ++ (l ++ all_pieces rs)) parts_more ∙ simp append_assoc)

  set_opened : opened_at (all_pieces (ls ++ s ∷ rs)) s.key ≡ s.opened
  set_opened = opened_of ls s rs before after o.as_many some

  pub set_is_open : is_open (all_pieces (ls ++ s ∷ rs)) s.key ≡ true
  set_is_open = open_of ls s rs o.as_many some

  old_open : is_open ((all_pieces ls ++ front) ++ (back ++ all_pieces rs)) p.key ≡ true
  old_open = ap (λ l. is_open l p.key) (sym old_list) ∙ (ap (is_open (all_pieces (ls ++ s ∷ rs))) key ∙ set_is_open)

  old_opened : opened_at ((all_pieces ls ++ front) ++ (back ++ all_pieces rs)) p.key ≡ s.opened
  old_opened = ap (λ l. opened_at l p.key) (sym old_list) ∙ (ap (opened_at (all_pieces (ls ++ s ∷ rs))) key ∙ set_opened)

  old_none : has ((all_pieces ls ++ front) ++ (back ++ all_pieces rs)) p.key p.sequence ≡ false
  old_none =
      ap (λ l. has l p.key p.sequence) (sym old_list)
      ∙ (ap (λ k. has (all_pieces (ls ++ s ∷ rs)) k p.sequence) key ∙ (set_has ls s rs before after o.as_many p.sequence ∙ new))

  pub one_more : (finished : List Key)
      → IsSame (record { kept = all_pieces (ls ++ with_piece s p.sequence p.units ∷ rs); finished = finished })
      (record { kept = p ∷ all_pieces (ls ++ s ∷ rs); finished = finished })
  unfolding added
  one_more finished =
      rw (new_list, old_list) (moved_same p added (all_pieces ls ++ front) (back ++ all_pieces rs) finished (sym key) refl refl
      (sym (older p ((all_pieces ls ++ front) ++ (back ++ all_pieces rs)) p.key old_open ∙ old_opened)) old_none)

-- the first piece of a set
pub one_first : (ss : List SetValue) (p : Piece) (finished : List Key) (t : ℕ) → has_set ss p.key ≡ false
    → IsSame (record { kept = all_pieces (ss ++ record { key = p.key; opened = p.moment; turn = t; sequences = p.sequence ∷ []; units = p.units ∷ [] } ∷ []); finished = finished })
    (record { kept = p ∷ all_pieces ss; finished = finished })
one_first ss p finished t none =
    subst (λ l. IsSame (record { kept = l; finished = finished }) (record { kept = p ∷ all_pieces ss; finished = finished })) (sym new_list)
    (subst (λ l. IsSame (record { kept = all_pieces ss ++ added ∷ []; finished = finished }) (record { kept = p ∷ l; finished = finished })) (append-nil (all_pieces ss))
    (moved_same p added (all_pieces ss) [] finished refl refl refl moment (closed_has (all_pieces ss ++ []) p.key p.sequence closed)))
  where
    added : Piece
    added = record { key = p.key; maximum = maximum_of p.key; sequence = p.sequence; units = p.units; moment = p.moment }

    new_list : all_pieces (ss ++ record { key = p.key; opened = p.moment; turn = t; sequences = p.sequence ∷ []; units = p.units ∷ [] } ∷ []) ≡ all_pieces ss ++ added ∷ []
    new_list = all-append ss (record { key = p.key; opened = p.moment; turn = t; sequences = p.sequence ∷ []; units = p.units ∷ [] } ∷ [])

    closed : is_open (all_pieces ss ++ []) p.key ≡ false
    closed = ap (λ l. is_open l p.key) (append-nil (all_pieces ss)) ∙ others_closed ss p.key none

    moment : p.moment ≡ opened_at (p ∷ (all_pieces ss ++ [])) p.key
    moment = rw (closed, same_key_refl p.key) refl

-- a set with one more piece
pub with_piece_set : (s : SetValue) (n : ℕ) (u : Units) → IsSet s → 0 < n → n ≤ maximum_of s.key → is_in n s.sequences ≡ false
    → IsSet (with_piece s n u)
with_piece_set s n u o a b new =
    record {
      rising = rises_insert 0 s.sequences (maximum_of s.key) n o.rising a b new;
      as_many =
          let w = place_within n s.sequences in
          let m = o.as_many in
          length-insert s.units (place_of n s.sequences) u (omega arith)
          ∙ (ap suc m ∙ sym (length-insert s.sequences (place_of n s.sequences) n w));
    }

pub with_piece_length : (s : SetValue) (n : ℕ) (u : Units) → length (with_piece s n u).sequences ≡ suc (length s.sequences)
with_piece_length s n u = length-insert s.sequences (place_of n s.sequences) n (place_within n s.sequences)
