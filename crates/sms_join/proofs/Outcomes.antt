-- What a joiner with these open sets answers, and holds then.
use Rattle.std.proofs.Common.{◌≡◌, ℕ, suc, ◌<◌, ◌≤◌, true, false, ◌||◌, eqb, ltb, List, [], ◌∷◌, ◌++◌, take, length, refl, sym, ap, ◌∙◌, subst, arith}
use Rattle.std.proofs.lemmas.Bool.{eqb-true, eq-eqb, or_parts, or_right, lt-ltb, le-ltb}
use Rattle.sms_join.specs.declared.key.Key.{Key}
use Rattle.sms_join.specs.declared.units.Units.{Units}
use Rattle.sms_join.specs.Key.{same_key, maximum_of}
use Rattle.sms_join.specs.Piece.{Piece}
use Rattle.sms_join.specs.Joiner.Sets.{has, has_all, is_open, units_upto, without}
use Rattle.sms_join.specs.Joiner.{Joiner, Repeat, Kept, Finished, TooManyOpen, is_among, is_repeat, is_whole, has_room, decided, answer, answered, offered}
use Rattle.sms_join.specs.Joiner.Counts.{count_of}
use Rattle.sms_join.specs.Joiner.Same.{IsSame}
use Rattle.sms_join.specs.OpenSets.{is_in, SetValue, IsOpen, AreOpen, all_pieces, has_set, with_piece}
use Rattle.sms_join.proofs.SameKeys.{same_key_refl}
use Rattle.sms_join.proofs.Sets.{has_all-same, units_upto-same}
use Rattle.sms_join.proofs.Counts.{AreDistinct, whole_if_many}
use Rattle.sms_join.proofs.Same.{flip}
use Rattle.sms_join.proofs.SetPieces.{closed_has, closed_count, closed_without, others_closed, has_set-append, set_has, set_count, set_without}
use Rattle.sms_join.proofs.OneSet.{sets_count, set_numbered, none_numbered, whole_units, one_more, set_is_open, one_first, with_piece_set, with_piece_length}

-- the joiner with these open sets and remembered keys
abbrev pub joiner_of : List SetValue → List Key → Joiner
joiner_of ss finished = record { kept = all_pieces ss; finished = finished }

-- the set of a key, between the others
pub record Between (ls : List SetValue) (s : SetValue) (rs : List SetValue) : Type 0 where
  pub open_set : IsOpen s
  pub before : has_set ls s.key ≡ false
  pub after : has_set rs s.key ≡ false

pub between : (ls : List SetValue) (s : SetValue) (rs : List SetValue) → AreOpen (ls ++ s ∷ rs) → Between ls s rs
between [] s rs h = record { open_set = h.0; before = refl; after = h.1 }
between (l ∷ ls) s rs h =
    let b = between ls s rs h.2 in
    let q = or_parts (has_set ls l.key) (same_key s.key l.key || has_set rs l.key) (sym (has_set-append ls (s ∷ rs) l.key) ∙ h.1) in
    let r = or_parts (same_key s.key l.key) (has_set rs l.key) q.1 in
    record { open_set = b.open_set; before = rw (flip s.key l.key r.0, b.before) refl; after = b.after }

pub are_open_without : (ls : List SetValue) (s : SetValue) (rs : List SetValue) → AreOpen (ls ++ s ∷ rs) → AreOpen (ls ++ rs)
are_open_without [] s rs h = h.2
are_open_without (l ∷ ls) s rs h =
    let q = or_parts (has_set ls l.key) (same_key s.key l.key || has_set rs l.key) (sym (has_set-append ls (s ∷ rs) l.key) ∙ h.1) in
    let r = or_parts (same_key s.key l.key) (has_set rs l.key) q.1 in
    (h.0, has_set-append ls rs l.key ∙ rw (q.0, r.1) refl, are_open_without ls s rs h.2)

pub are_open_with : (ls : List SetValue) (s t : SetValue) (rs : List SetValue) → t.key ≡ s.key → IsOpen t → AreOpen (ls ++ s ∷ rs) → AreOpen (ls ++ t ∷ rs)
are_open_with [] s t rs e o h = (o, ap (has_set rs) e ∙ h.1, h.2)
are_open_with (l ∷ ls) s t rs e o h = (
  h.0,
  has_set-append ls (t ∷ rs) l.key
      ∙ (ap (λ k. has_set ls l.key || (same_key k l.key || has_set rs l.key)) e ∙ (sym (has_set-append ls (s ∷ rs) l.key) ∙ h.1)),
  are_open_with ls s t rs e o h.2,
)

pub are_open_more : (ss : List SetValue) (s : SetValue) → AreOpen ss → IsOpen s → has_set ss s.key ≡ false → AreOpen (ss ++ s ∷ [])
are_open_more [] s h o n = (o, refl, tt)
are_open_more (t ∷ ss) s h o n =
    let q = or_parts (same_key t.key s.key) (has_set ss s.key) n in
    (h.0, has_set-append ss (s ∷ []) t.key ∙ rw (h.1, flip t.key s.key q.0) refl, are_open_more ss s h.2 o q.1)

-- from the tests to the answer

pub says_repeat : (open_max remembered : ℕ) (j : Joiner) (p : Piece) → is_repeat j p ≡ true
    → (answer open_max j p ≡ Repeat) × (offered open_max remembered j p ≡ j)
unfolding answer decided offered answered
says_repeat open_max remembered j p a = (rw a refl, rw a refl)

says_finished : (open_max remembered : ℕ) (j : Joiner) (p : Piece) (us : List Units) → is_repeat j p ≡ false → is_whole j p ≡ true
    → units_upto (p ∷ j.kept) p.key p.maximum ≡ us
    → (answer open_max j p ≡ Finished us)
    × (offered open_max remembered j p ≡ record { kept = without j.kept p.key; finished = take remembered (p.key ∷ j.finished) })
unfolding answer decided offered answered
says_finished open_max remembered j p us a b u = (rw (a, b, u) refl, rw (a, b) refl)

says_kept : (open_max remembered : ℕ) (j : Joiner) (p : Piece) → is_repeat j p ≡ false → is_whole j p ≡ false → has_room open_max j p ≡ true
    → (answer open_max j p ≡ Kept) × (offered open_max remembered j p ≡ record { kept = p ∷ j.kept; finished = j.finished })
unfolding answer decided offered answered
says_kept open_max remembered j p a b c = (rw (a, b, c) refl, rw (a, b, c) refl)

says_too_many : (open_max : ℕ) (j : Joiner) (p : Piece) → is_repeat j p ≡ false → is_whole j p ≡ false → has_room open_max j p ≡ false
    → answer open_max j p ≡ TooManyOpen
unfolding answer decided
says_too_many open_max j p a b c = rw (a, b, c) refl

-- a key that is remembered
pub remembered_repeats : (j : Joiner) (p : Piece) → is_among j.finished p.key ≡ true → is_repeat j p ≡ true
unfolding is_repeat
remembered_repeats j p h = rw h refl

-- a piece in place
pub record InPlace (p : Piece) : Type 0 where
  pub maximum : p.maximum ≡ maximum_of p.key
  pub from_one : 0 < p.sequence
  pub within : p.sequence ≤ maximum_of p.key

-- a set of its key is open
module _ (ls : List SetValue) (s : SetValue) (rs : List SetValue) (finished : List Key) (b : Between ls s rs) (p : Piece) (key : p.key ≡ s.key) where
  pub there_repeats : is_in p.sequence s.sequences ≡ true → is_repeat (joiner_of (ls ++ s ∷ rs) finished) p ≡ true
  unfolding is_repeat
  there_repeats h =
      or_right (is_among finished p.key) (has (all_pieces (ls ++ s ∷ rs)) p.key p.sequence)
      (ap (λ k. has (all_pieces (ls ++ s ∷ rs)) k p.sequence) key
      ∙ (set_has ls s rs b.before b.after b.open_set.is_set.as_many p.sequence ∙ h))

  no_repeat : is_among finished p.key ≡ false → is_in p.sequence s.sequences ≡ false → is_repeat (joiner_of (ls ++ s ∷ rs) finished) p ≡ false
  unfolding is_repeat
  no_repeat h new =
      let e : has (all_pieces (ls ++ s ∷ rs)) p.key p.sequence ≡ false =
      ap (λ k. has (all_pieces (ls ++ s ∷ rs)) k p.sequence) key
      ∙ (set_has ls s rs b.before b.after b.open_set.is_set.as_many p.sequence ∙ new) in
      rw (h, e) refl

  whole_if_full : InPlace p → is_repeat (joiner_of (ls ++ s ∷ rs) finished) p ≡ false
      → is_whole (joiner_of (ls ++ s ∷ rs) finished) p ≡ eqb (suc (length s.sequences)) (maximum_of s.key)
  whole_if_full i r =
      whole_if_many (joiner_of (ls ++ s ∷ rs) finished) p numbered i.from_one (let a = i.maximum in let c = i.within in omega arith) r
      ∙ (ap (λ n. eqb (suc (count_of (all_pieces (ls ++ s ∷ rs)) p.key)) n) (i.maximum ∙ ap maximum_of key)
      ∙ (ap (λ k. eqb (suc (count_of (all_pieces (ls ++ s ∷ rs)) k)) (maximum_of s.key)) key
      ∙ ap (λ n. eqb (suc n) (maximum_of s.key)) (set_count ls s rs b.before b.after b.open_set.is_set.as_many)))
    where
      numbered : AreDistinct (all_pieces (ls ++ s ∷ rs)) p.key p.maximum
      numbered =
          subst (λ n. AreDistinct (all_pieces (ls ++ s ∷ rs)) p.key n) (sym i.maximum)
          (subst (λ k. AreDistinct (all_pieces (ls ++ s ∷ rs)) k (maximum_of k)) (sym key) (set_numbered ls s rs b.before b.after b.open_set.is_set))

  pub keeps_more : (open_max remembered : ℕ) → InPlace p → is_among finished p.key ≡ false → is_in p.sequence s.sequences ≡ false
      → eqb (suc (length s.sequences)) (maximum_of s.key) ≡ false
      → (answer open_max (joiner_of (ls ++ s ∷ rs) finished) p ≡ Kept)
      × IsSame (joiner_of (ls ++ with_piece s p.sequence p.units ∷ rs) finished) (offered open_max remembered (joiner_of (ls ++ s ∷ rs) finished) p)
  unfolding has_room
  keeps_more open_max remembered i h new part =
      let r = no_repeat h new in
      let k = says_kept open_max remembered (joiner_of (ls ++ s ∷ rs) finished) p r (whole_if_full i r ∙ part) room in
      (k.0, subst (λ j. IsSame (joiner_of (ls ++ with_piece s p.sequence p.units ∷ rs) finished) j) (sym k.1) same)
    where
      same : IsSame (joiner_of (ls ++ with_piece s p.sequence p.units ∷ rs) finished) (record { kept = p ∷ all_pieces (ls ++ s ∷ rs); finished = finished })
      same = one_more ls s rs b.before b.after b.open_set.is_set b.open_set.some p key new finished

      room : has_room open_max (joiner_of (ls ++ s ∷ rs) finished) p ≡ true
      room = rw (ap (is_open (all_pieces (ls ++ s ∷ rs))) key ∙ set_is_open ls s rs b.before b.after b.open_set.is_set b.open_set.some p key new) refl

  pub finishes_set : (open_max remembered : ℕ) → InPlace p → is_among finished p.key ≡ false → is_in p.sequence s.sequences ≡ false
      → eqb (suc (length s.sequences)) (maximum_of s.key) ≡ true
      → (answer open_max (joiner_of (ls ++ s ∷ rs) finished) p ≡ Finished (with_piece s p.sequence p.units).units)
      × (offered open_max remembered (joiner_of (ls ++ s ∷ rs) finished) p ≡ joiner_of (ls ++ rs) (take remembered (s.key ∷ finished)))
  unfolding is_whole
  finishes_set open_max remembered i h new full =
      let r = no_repeat h new in
      let f = says_finished open_max remembered (joiner_of (ls ++ s ∷ rs) finished) p (with_piece s p.sequence p.units).units r (whole r) units in
      (f.0, f.1 ∙ rw (key, set_without ls s rs b.before b.after b.open_set.is_set.as_many) refl)
    where
      whole : is_repeat (joiner_of (ls ++ s ∷ rs) finished) p ≡ false → is_whole (joiner_of (ls ++ s ∷ rs) finished) p ≡ true
      whole r = whole_if_full i r ∙ full

      t : SetValue
      t = with_piece s p.sequence p.units

      same : IsSame (joiner_of (ls ++ with_piece s p.sequence p.units ∷ rs) finished) (record { kept = p ∷ all_pieces (ls ++ s ∷ rs); finished = finished })
      same = one_more ls s rs b.before b.after b.open_set.is_set b.open_set.some p key new finished

      all : has_all (all_pieces (ls ++ with_piece s p.sequence p.units ∷ rs)) s.key (maximum_of s.key) ≡ true
      all =
          has_all-same (all_pieces (ls ++ with_piece s p.sequence p.units ∷ rs)) (p ∷ all_pieces (ls ++ s ∷ rs)) s.key (maximum_of s.key) (λ n. same.pieces s.key n)
          ∙ (ap (λ k. has_all (p ∷ all_pieces (ls ++ s ∷ rs)) k (maximum_of s.key)) (sym key)
          ∙ (ap (λ n. has_all (p ∷ all_pieces (ls ++ s ∷ rs)) p.key n) (ap maximum_of (sym key) ∙ sym i.maximum) ∙ whole (no_repeat h new)))

      units : units_upto (p ∷ all_pieces (ls ++ s ∷ rs)) p.key p.maximum ≡ (with_piece s p.sequence p.units).units
      units =
          ap (units_upto (p ∷ all_pieces (ls ++ s ∷ rs)) p.key) (i.maximum ∙ ap maximum_of key)
          ∙ (ap (λ k. units_upto (p ∷ all_pieces (ls ++ s ∷ rs)) k (maximum_of s.key)) key
          ∙ (sym (units_upto-same (all_pieces (ls ++ with_piece s p.sequence p.units ∷ rs)) (p ∷ all_pieces (ls ++ s ∷ rs)) s.key (maximum_of s.key) (λ n. same.units s.key n) all)
          ∙ whole_units ls (with_piece s p.sequence p.units) rs b.before b.after
          (with_piece_set s p.sequence p.units b.open_set.is_set i.from_one (subst (λ k. p.sequence ≤ maximum_of k) key i.within) new)
          (with_piece_length s p.sequence p.units ∙ eqb-true _ _ full) all))

-- no set of its key is open
module _ (ss : List SetValue) (finished : List Key) (p : Piece) (i : InPlace p) (h : is_among finished p.key ≡ false) (none : has_set ss p.key ≡ false) where
  alone_new : is_repeat (joiner_of ss finished) p ≡ false
  unfolding is_repeat
  alone_new = let e = closed_has (all_pieces ss) p.key p.sequence (others_closed ss p.key none) in rw (h, e) refl

  alone_whole : is_whole (joiner_of ss finished) p ≡ eqb 1 (maximum_of p.key)
  alone_whole =
      whole_if_many (joiner_of ss finished) p (none_numbered ss p.key p.maximum none) i.from_one (let a = i.maximum in let c = i.within in omega arith) alone_new
      ∙ rw (closed_count (all_pieces ss) p.key (others_closed ss p.key none), i.maximum) refl

  pub finishes_alone : (open_max remembered : ℕ) → maximum_of p.key ≡ 1
      → (answer open_max (joiner_of ss finished) p ≡ Finished (p.units ∷ []))
      × (offered open_max remembered (joiner_of ss finished) p ≡ joiner_of ss (take remembered (p.key ∷ finished)))
  finishes_alone open_max remembered one =
      let f = says_finished open_max remembered (joiner_of ss finished) p (p.units ∷ []) alone_new (alone_whole ∙ rw one refl) units in
      (f.0, f.1 ∙ ap (λ l. record { kept = l; finished = take remembered (p.key ∷ finished) }) (closed_without (all_pieces ss) p.key (others_closed ss p.key none)))
    where
      units : units_upto (p ∷ all_pieces ss) p.key p.maximum ≡ p.units ∷ []
      units =
          let m : p.maximum ≡ 1 = i.maximum ∙ one in
          let a = i.from_one in
          let c = i.within in
          let e : p.sequence ≡ 1 = omega arith in
          ap (units_upto (p ∷ all_pieces ss) p.key) m ∙ rw (same_key_refl p.key, eq-eqb p.sequence 1 e) refl

  part : eqb 1 (maximum_of p.key) ≡ false → is_whole (joiner_of ss finished) p ≡ false
  part e = alone_whole ∙ e

  room_is : (open_max : ℕ) → AreOpen ss → has_room open_max (joiner_of ss finished) p ≡ ltb (length ss) open_max
  unfolding has_room
  room_is open_max o = rw (others_closed ss p.key none, sets_count ss o) refl

  pub opens_set : (open_max remembered t : ℕ) → AreOpen ss → eqb 1 (maximum_of p.key) ≡ false → length ss < open_max
      → (answer open_max (joiner_of ss finished) p ≡ Kept)
      × IsSame (joiner_of (ss ++ record { key = p.key; opened = p.moment; turn = t; sequences = p.sequence ∷ []; units = p.units ∷ [] } ∷ []) finished) (offered open_max remembered (joiner_of ss finished) p)
  opens_set open_max remembered t o e less =
      let k = says_kept open_max remembered (joiner_of ss finished) p alone_new (part e) (room_is open_max o ∙ lt-ltb _ _ less) in (
        k.0,
        subst (λ j. IsSame (joiner_of (ss ++ record { key = p.key; opened = p.moment; turn = t; sequences = p.sequence ∷ []; units = p.units ∷ [] } ∷ []) finished) j) (sym k.1)
            (one_first ss p finished t none),
      )

  pub too_many : (open_max : ℕ) → AreOpen ss → eqb 1 (maximum_of p.key) ≡ false → open_max ≤ length ss
      → answer open_max (joiner_of ss finished) p ≡ TooManyOpen
  too_many open_max o e more = says_too_many open_max (joiner_of ss finished) p alone_new (part e) (room_is open_max o ∙ le-ltb _ _ more)
