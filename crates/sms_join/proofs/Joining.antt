-- The law of arrivals in order.
use Rattle.std.proofs.Common.{◌≡◌, ◌≢◌, ℕ, zero, suc, Bool, true, false, cond, ◌||◌, eqb, List, [], ◌∷◌, ◌++◌, map, take, refl, sym, ap, ◌∙◌, subst, arith}
use Rattle.std.proofs.lemmas.Bool.{eqb-true, eq-eqb, and_parts, or_right, false_from_ne_true}
use Rattle.std.proofs.lemmas.List.{take-map, take-take}
use Rattle.sms_join.specs.declared.key.Key.{Key}
use Rattle.sms_join.specs.Piece.{Piece}
use Rattle.sms_join.specs.Joiner.Sets.{has, has_all, units_at, units_upto}
use Rattle.sms_join.specs.Joiner.{Joiner, Repeat, Kept, Finished, TooManyOpen, is_among, answer, answered, offered, decided, is_repeat, is_whole, has_room, new_joiner}
use Rattle.sms_join.specs.Joiner.Aging.{is_old}
use Rattle.sms_join.specs.Joiner.Acts.{Act, Brings, Ages}
use Rattle.sms_join.specs.Arrivals.Pieces.{finished_now}
use Rattle.sms_join.specs.Arrivals.{Arrival, Texts, has_piece, has_pieces, is_done, completed, open_pieces, is_listed, IsOf, AllOf, units_of, whole_text}
use Rattle.sms_join.specs.Arrivals.Joining.{is_clear, is_recent, HoldsOpen, Delivers, Whole, Nothing, JoinsOne, joined, counting, delivered, AllInOrder, JoinsInOrder}
use Rattle.sms_join.proofs.SameKeys.{same_key_refl}
use Rattle.sms_join.proofs.Arrived.{has_piece-of_all, is_done-other, is_done-repeat, open_pieces-same, is_among-listed}
use Rattle.sms_join.proofs.Aging.{all_remaining, ages_one}
use Rattle.sms_join.proofs.Held.{Around, held_same, held_units, held_without, not_remembered}

pub repeated : (open_max remembered : ℕ) (x : Texts) (past : List Arrival) (a : Arrival) (j : Joiner)
    → AllOf x past → IsOf x a → is_clear remembered x.size past past a ≡ true → is_recent remembered x.size past a ≡ true
    → HoldsOpen remembered x past j → has_piece past a.text a.piece.sequence ≡ true → answer open_max j a.piece ≡ Repeat
unfolding answer decided is_repeat is_recent
repeated open_max remembered x past a j o i clear recent v seen =
    rw (again (is_done x.size past a.text) refl) refl
  where
    again : (d : Bool) → is_done x.size past a.text ≡ d → is_repeat j a.piece ≡ true
    again true e =
        let l : (false || is_listed (take remembered (completed x.size past)) a.text) ≡ true = rw e at recent in
        let m : is_among (map x.key (take remembered (completed x.size past))) (x.key a.text) ≡ true =
        is_among-listed x.key (take remembered (completed x.size past)) a.text l in
        rw (v.finished, i.key, m) refl
    again false e =
        let r : Around remembered x past a = record { is_key = sym i.key; unfinished = e } in
        let m : has (open_pieces x.size past past) a.piece.key a.piece.sequence ≡ true =
        held_same remembered x past past a a.piece.sequence o clear r ∙ seen in
        let m' : has j.kept a.piece.key a.piece.sequence ≡ true = rw v.kept m in
        or_right (is_among j.finished a.piece.key) (has j.kept a.piece.key a.piece.sequence) m'

-- a new piece of a text that is not done
pub record New (open_max remembered : ℕ) (x : Texts) (past : List Arrival) (a : Arrival) (j : Joiner) : Type 0 where
  pub fresh : is_repeat j a.piece ≡ false
  pub whole : is_whole j a.piece ≡ is_done x.size (a ∷ past) a.text
  pub units : is_done x.size (a ∷ past) a.text ≡ true → units_upto (a.piece ∷ j.kept) a.piece.key a.piece.maximum ≡ whole_text x a.text

units_upto_are : (ps : List Piece) (k : Key) (x : Texts) (bs : List Arrival) (t n : ℕ)
    → ((i : ℕ) → has_piece bs t i ≡ true → units_at ps k i ≡ x.units t i)
    → has_pieces bs t n ≡ true → units_upto ps k n ≡ units_of x t n
units_upto_are ps k x bs t zero right h = refl
units_upto_are ps k x bs t (suc n) right h =
    let p = and_parts (has_piece bs t (suc n)) (has_pieces bs t n) h in
    rw (units_upto_are ps k x bs t n right p.1, right (suc n) p.0) refl

pub new_piece : (open_max remembered : ℕ) (x : Texts) (past : List Arrival) (a : Arrival) (j : Joiner)
    → AllOf x past → IsOf x a → is_clear remembered x.size past past a ≡ true
    → HoldsOpen remembered x past j → has_piece past a.text a.piece.sequence ≡ false → is_done x.size past a.text ≡ false
    → New open_max remembered x past a j
unfolding is_repeat is_whole
new_piece open_max remembered x past a j o i clear v seen n =
    record { fresh = fresh'; whole = whole'; units = units' }
  where
    r : Around remembered x past a
    r = record { is_key = sym i.key; unfinished = n }

    held : (m : ℕ) → has j.kept a.piece.key m ≡ has_piece past a.text m
    held m = rw v.kept (held_same remembered x past past a m o clear r)

    fresh' : is_repeat j a.piece ≡ false
    fresh' = rw (v.finished, not_remembered remembered x past a o clear n, held a.piece.sequence, seen) refl

    more : (m : ℕ) → has (a.piece ∷ j.kept) a.piece.key m ≡ has_piece (a ∷ past) a.text m
    more m = rw (same_key_refl a.piece.key, eq-eqb a.text a.text refl, held m) refl

    both : (m : ℕ) → has_all (a.piece ∷ j.kept) a.piece.key m ≡ has_pieces (a ∷ past) a.text m
    both zero = refl
    both (suc m) = rw (more (suc m), both m) refl

    whole' : is_whole j a.piece ≡ is_done x.size (a ∷ past) a.text
    whole' = ap (has_all (a.piece ∷ j.kept) a.piece.key) i.maximum ∙ both (x.size a.text)

    one : (m : ℕ) → has_piece (a ∷ past) a.text m ≡ true → units_at (a.piece ∷ j.kept) a.piece.key m ≡ x.units a.text m
    one m h = go (eqb a.piece.sequence m) refl h
      where
        go : (b : Bool) → eqb a.piece.sequence m ≡ b → has_piece (a ∷ past) a.text m ≡ true
            → units_at (a.piece ∷ j.kept) a.piece.key m ≡ x.units a.text m
        go true e h = rw (same_key_refl a.piece.key, e) (i.units ∙ ap (x.units a.text) (eqb-true _ _ e))
        go false e h =
            let h' : has_piece past a.text m ≡ true = rw (eq-eqb a.text a.text refl, e) at h in
            rw (same_key_refl a.piece.key, e, v.kept) (held_units remembered x past past a m o clear r h')

    units' : is_done x.size (a ∷ past) a.text ≡ true
        → units_upto (a.piece ∷ j.kept) a.piece.key a.piece.maximum ≡ whole_text x a.text
    units' d = ap (units_upto (a.piece ∷ j.kept) a.piece.key) i.maximum
        ∙ units_upto_are (a.piece ∷ j.kept) a.piece.key x (a ∷ past) a.text (x.size a.text) one d

-- one arrival
record Joins (open_max remembered : ℕ) (x : Texts) (past : List Arrival) (a : Arrival) (j : Joiner) : Type 0 where
  state : HoldsOpen remembered x (a ∷ past) (offered open_max remembered j a.piece)
  delivers : Delivers open_max x past a j

join_repeat : (open_max remembered : ℕ) (x : Texts) (past : List Arrival) (a : Arrival) (j : Joiner)
    → HoldsOpen remembered x past j → has_piece past a.text a.piece.sequence ≡ true → answer open_max j a.piece ≡ Repeat
    → Joins open_max remembered x past a j
unfolding offered answered
join_repeat open_max remembered x past a j v seen r =
    record {
      state = record {
        kept = rw (r, seen) (v.kept ∙ sym (open_pieces-same x.size (a ∷ past) past past (λ t. is_done-repeat x.size a past t seen)));
        finished = rw (r, list) v.finished;
      };
      delivers = Nothing (ap finished_now r) list;
    }
  where
    list : completed x.size (a ∷ past) ≡ completed x.size past
    list = rw (is_done-repeat x.size a past a.text seen) (go (is_done x.size past a.text))
      where
        go : (b : Bool) → cond b (completed x.size past) (cond b (a.text ∷ completed x.size past) (completed x.size past)) ≡ completed x.size past
        go true = refl
        go false = refl

take-again : {X : Type 0} (n : ℕ) (y : X) (ys : List X) → take n (y ∷ take n ys) ≡ take n (y ∷ ys)
take-again zero y ys = refl
take-again (suc n) y ys = ap (λ l. y ∷ l) (take-take n (suc n) ys (omega arith))

join_whole : (open_max remembered : ℕ) (x : Texts) (past : List Arrival) (a : Arrival) (j : Joiner)
    → AllOf x past → IsOf x a → is_clear remembered x.size past past a ≡ true
    → HoldsOpen remembered x past j → has_piece past a.text a.piece.sequence ≡ false → is_done x.size past a.text ≡ false
    → is_done x.size (a ∷ past) a.text ≡ true
    → Joins open_max remembered x past a j
unfolding offered answered answer decided
join_whole open_max remembered x past a j o i clear v seen n d =
    record {
      state = record {
        kept = rw (is_finished, seen, d, v.kept)
            (held_without remembered x past (a ∷ past) past a o clear (record { is_key = sym i.key; unfinished = n }) d
            (λ u g. is_done-other x.size a past u g));
        finished = rw (is_finished, list, v.finished, i.key) keys;
      };
      delivers = Whole is_finished list;
    }
  where
    p : New open_max remembered x past a j
    p = new_piece open_max remembered x past a j o i clear v seen n

    is_finished : answer open_max j a.piece ≡ Finished (whole_text x a.text)
    is_finished = rw (p.fresh, p.whole, d, p.units d) refl

    list : completed x.size (a ∷ past) ≡ a.text ∷ completed x.size past
    list = rw (n, d) refl

    keys : take remembered (x.key a.text ∷ map x.key (take remembered (completed x.size past)))
        ≡ map x.key (take remembered (a.text ∷ completed x.size past))
    keys = rw (← take-map x.key remembered (completed x.size past), take-again remembered (x.key a.text) (map x.key (completed x.size past)))
        (take-map x.key remembered (a.text ∷ completed x.size past))

join_kept : (open_max remembered : ℕ) (x : Texts) (past : List Arrival) (a : Arrival) (j : Joiner)
    → AllOf x past → IsOf x a → is_clear remembered x.size past past a ≡ true
    → HoldsOpen remembered x past j → has_piece past a.text a.piece.sequence ≡ false → is_done x.size past a.text ≡ false
    → is_done x.size (a ∷ past) a.text ≡ false → answer open_max j a.piece ≢ TooManyOpen
    → Joins open_max remembered x past a j
unfolding offered answered answer decided
join_kept open_max remembered x past a j o i clear v seen n d taken =
    record {
      state = record {
        kept = rw (is_kept, seen, d) (ap (λ l. a.piece ∷ l) (v.kept ∙ open_pieces-same x.size past (a ∷ past) past same));
        finished = rw (is_kept, list) v.finished;
      };
      delivers = Nothing (ap finished_now is_kept) list;
    }
  where
    p : New open_max remembered x past a j
    p = new_piece open_max remembered x past a j o i clear v seen n

    is_kept : answer open_max j a.piece ≡ Kept
    is_kept = rw (p.fresh, p.whole, d) (room (has_room open_max j a.piece) refl)
      where
        room : (b : Bool) → has_room open_max j a.piece ≡ b
            → decided false false b (units_upto (a.piece ∷ j.kept) a.piece.key a.piece.maximum) ≡ Kept
        room true e = refl
        room false e = absurd (taken (rw (p.fresh, p.whole, d, e) refl))

    list : completed x.size (a ∷ past) ≡ completed x.size past
    list = rw (n, d) refl

    same : (t : ℕ) → is_done x.size past t ≡ is_done x.size (a ∷ past) t
    same t = go (eqb a.text t) refl
      where
        go : (b : Bool) → eqb a.text t ≡ b → is_done x.size past t ≡ is_done x.size (a ∷ past) t
        go false e = sym (is_done-other x.size a past t e)
        go true e = subst (λ u. is_done x.size past u ≡ is_done x.size (a ∷ past) u) (eqb-true a.text t e) (n ∙ sym d)

join_one : (open_max remembered : ℕ) (x : Texts) (past : List Arrival) (a : Arrival) (j : Joiner)
    → AllOf x past → HoldsOpen remembered x past j → IsOf x a → is_clear remembered x.size past past a ≡ true
    → is_recent remembered x.size past a ≡ true → answer open_max j a.piece ≢ TooManyOpen
    → Joins open_max remembered x past a j
join_one open_max remembered x past a j o v i clear recent taken = go (has_piece past a.text a.piece.sequence) refl
  where
    last : has_piece past a.text a.piece.sequence ≡ false → (d : Bool) → is_done x.size (a ∷ past) a.text ≡ d
        → Joins open_max remembered x past a j
    last seen d e =
        let n : is_done x.size past a.text ≡ false = false_from_ne_true _ (λ t.
        let z = has_piece-of_all past a.text (x.size a.text) a.piece.sequence t i.from_one i.within in
        let q : true ≡ false = sym z ∙ seen in cc) in
        which n d e
      where
        which : is_done x.size past a.text ≡ false → (d : Bool) → is_done x.size (a ∷ past) a.text ≡ d
            → Joins open_max remembered x past a j
        which n true e = join_whole open_max remembered x past a j o i clear v seen n e
        which n false e = join_kept open_max remembered x past a j o i clear v seen n e taken

    go : (b : Bool) → has_piece past a.text a.piece.sequence ≡ b → Joins open_max remembered x past a j
    go true seen = join_repeat open_max remembered x past a j v seen (repeated open_max remembered x past a j o i clear recent v seen)
    go false seen = last seen (is_done x.size (a ∷ past) a.text) refl

pub joins_one : JoinsOne
joins_one open_max remembered x past a j o v i clear recent taken =
    let s = join_one open_max remembered x past a j o v i clear recent taken in
    (s.state, s.delivers)

all_of : (open_max remembered : ℕ) (x : Texts) (acts : List (Act Arrival)) → AllInOrder open_max remembered x acts
    → AllOf x (counting open_max remembered x.size acts)
all_of open_max remembered x [] h = h
all_of open_max remembered x (Brings a ∷ acts) h = (h.0.is_of, all_of open_max remembered x acts h.1)
all_of open_max remembered x (Ages now ∷ acts) h =
    all_remaining x (is_old now (joined open_max remembered acts).kept) (counting open_max remembered x.size acts) (counting open_max remembered x.size acts)
    (all_of open_max remembered x acts h)

delivers_more : (open_max : ℕ) (x : Texts) (past : List Arrival) (a : Arrival) (j : Joiner) → Delivers open_max x past a j
    → finished_now (answer open_max j a.piece) ++ map (whole_text x) (completed x.size past) ≡ map (whole_text x) (completed x.size (a ∷ past))
delivers_more open_max x past a j (Whole e list) = rw (e, list) refl
delivers_more open_max x past a j (Nothing e list) = rw (e, list) refl

pub joins_in_order : JoinsInOrder
unfolding new_joiner
joins_in_order open_max remembered x [] h = (record { kept = refl; finished = rw (take-nil remembered) refl }, refl)
  where
    take-nil : (n : ℕ) → take n (let l : List ℕ = [] in l) ≡ []
    take-nil zero = refl
    take-nil (suc n) = refl
joins_in_order open_max remembered x (Ages now ∷ acts) h =
    let ih = joins_in_order open_max remembered x acts h in
    let s = ages_one now remembered x (counting open_max remembered x.size acts) (joined open_max remembered acts) (all_of open_max remembered x acts h) ih.0 in
    (s.holds, ih.1 ∙ ap (map (whole_text x)) (sym s.completed))
joins_in_order open_max remembered x (Brings a ∷ acts) h = go (joins_in_order open_max remembered x acts h.1)
  where
    past : List Arrival
    past = counting open_max remembered x.size acts

    go : HoldsOpen remembered x past (joined open_max remembered acts)
        × (delivered open_max remembered acts ≡ map (whole_text x) (completed x.size past))
        → HoldsOpen remembered x (a ∷ past) (joined open_max remembered (Brings a ∷ acts))
        × (delivered open_max remembered (Brings a ∷ acts) ≡ map (whole_text x) (completed x.size (a ∷ past)))
    go ih =
        let s = join_one open_max remembered x past a (joined open_max remembered acts) (all_of open_max remembered x acts h.1)
        ih.0 h.0.is_of h.0.clear h.0.recent h.0.taken in
        (s.state, rw ih.1 (delivers_more open_max x past a (joined open_max remembered acts) s.delivers))
