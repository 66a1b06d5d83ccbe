-- The pieces of units by where they end.
use Rattle.std.proofs.Common.{◌≡◌, ℕ, zero, suc, ◌+◌, ◌-◌, ◌<◌, ◌≤◌, List, [], ◌∷◌, ◌++◌, length, take, drop, get_or, map, Some, None, refl, sym, ap, ◌∙◌, arith}
use Rattle.std.specs.Prelude.{slice_get, slice_range}
use Rattle.std.proofs.lemmas.List.{take_all}
use Rattle.std.specs.List.{AllByRecursion, range_with_len}
use Rattle.sms_text.specs.Bits.{AreSeptets}
use Rattle.sms_join.specs.declared.units.Units.{Units}
use Rattle.sms_join.specs.declared.units.Units.TheVariants.{Gsm, Ucs2}
use Rattle.sms_join.specs.declared.segment.Segment.{Segment}
use Rattle.sms_join.specs.UnitsOfText.{numbers, alphabet_in, begins_pair}
use Rattle.sms_join.specs.Segments.{AreNumbered}
use Rattle.sms_join.specs.Inside.SegmentsAt.{RiseTo, part_of, pieces_at, segments_from, segments_at, start_at}
use Rattle.sms_join.proofs.CutPlaces.{PartedUpTo, IsEnd, end_after, one_piece_more, nothing_parted}

-- ---- the loop

pub rise-push : (start all end : ℕ) (ends : List ℕ) → RiseTo start ends all → all ≤ end → RiseTo start (ends ++ end ∷ []) end
rise-push start all end [] e le = (omega (arith, e, le), refl)
rise-push start all end (x ∷ ends) rise le = (rise.0, rise-push x all end ends rise.1 le)

pieces-push : (units : Units) (start all end : ℕ) (ends : List ℕ) → RiseTo start ends all → pieces_at units start (ends ++ end ∷ []) ≡ pieces_at units start ends ++ part_of units all end ∷ []
pieces-push units start all end [] e = ap (λ n. part_of units n end ∷ []) e
pieces-push units start all end (x ∷ ends) rise = ap (λ (l : List Units). part_of units start x ∷ l) (pieces-push units x all end ends rise.1)

-- so far, the pieces end there
pub record EndsUpTo (units : Units) (room start : ℕ) (ends : List ℕ) : Type 0 where
  pub parted : PartedUpTo units room start (pieces_at units 0 ends)
  pub rising : RiseTo 0 ends start

pub nothing_ends : (units : Units) (room : ℕ) → EndsUpTo units room 0 []
nothing_ends units room = record { parted = nothing_parted units room; rising = refl }

pub one_end_more : (units : Units) (room start end : ℕ) (ends : List ℕ) → start < length (numbers units) → 2 ≤ room → IsEnd (begins_pair (alphabet_in units)) (numbers units) room start end
    → EndsUpTo units room start ends → EndsUpTo units room end (ends ++ end ∷ [])
one_end_more units room start end ends inside wide is so_far =
    let after = end_after (begins_pair (alphabet_in units)) (numbers units) room start end inside wide is in
    record {
      parted = rw (pieces-push units 0 start end ends so_far.rising) (one_piece_more units room start end (pieces_at units 0 ends) (part_of units start end) inside wide is refl so_far.parted);
      rising = rise-push 0 start end ends so_far.rising (omega (arith, after.0));
    }

-- ---- one piece

pub whole_part : (units : Units) → part_of units 0 (length (numbers units)) ≡ units
whole_part (Gsm septets) = ap Gsm (take_all (length septets - 0) septets (omega arith))
whole_part (Ucs2 units) = ap Ucs2 (take_all (length units - 0) units (omega arith))

-- ---- the segments

pub length-pieces_at : (units : Units) (start : ℕ) (ends : List ℕ) → length (pieces_at units start ends) ≡ length ends
length-pieces_at units start [] = refl
length-pieces_at units start (end ∷ ends) = ap suc (length-pieces_at units end ends)

pub length-segments_from : (units : Units) (maximum sequence start : ℕ) (ends : List ℕ) → length (segments_from units maximum sequence start ends) ≡ length ends
length-segments_from units maximum sequence start [] = refl
length-segments_from units maximum sequence start (end ∷ ends) = ap suc (length-segments_from units maximum (sequence + 1) end ends)

units_from : (units : Units) (maximum sequence start : ℕ) (ends : List ℕ) → map (λ (s : Segment). s.units) (segments_from units maximum sequence start ends) ≡ pieces_at units start ends
units_from units maximum sequence start [] = refl
units_from units maximum sequence start (end ∷ ends) = ap (λ (l : List Units). part_of units start end ∷ l) (units_from units maximum (sequence + 1) end ends)

sequences_from : (units : Units) (maximum sequence start : ℕ) (ends : List ℕ) → map (λ (s : Segment). s.sequence) (segments_from units maximum sequence start ends) ≡ range_with_len sequence (length ends)
sequences_from units maximum sequence start [] = refl
sequences_from units maximum sequence start (end ∷ ends) = ap (λ (l : List ℕ). sequence ∷ l) (sequences_from units maximum (sequence + 1) end ends)

maximum_from : (units : Units) (all maximum sequence start : ℕ) (ends : List ℕ) → maximum ≡ all → AllByRecursion (λ (s : Segment). s.maximum ≡ all) (segments_from units maximum sequence start ends)
maximum_from units all maximum sequence start [] e = tt
maximum_from units all maximum sequence start (end ∷ ends) e = (e, maximum_from units all maximum (sequence + 1) end ends e)

pub are_numbered : (units : Units) (ends : List ℕ) → AreNumbered (pieces_at units 0 ends) (segments_at units ends)
are_numbered units ends =
    let many : length (pieces_at units 0 ends) ≡ length ends = length-pieces_at units 0 ends in
    record {
      units = units_from units (length ends) 1 0 ends;
      sequences = sequences_from units (length ends) 1 0 ends ∙ ap (range_with_len 1) (sym many);
      maximum = maximum_from units (length (pieces_at units 0 ends)) (length ends) 1 0 ends (sym many);
    }

-- ---- the segment of an index

segment_from : (units : Units) (maximum sequence start index : ℕ) (ends : List ℕ) → index < length ends
    → slice_get (segments_from units maximum sequence start ends) index ≡ Some (record { units = part_of units (start_at start ends index) (get_or ends index 0); maximum = maximum; sequence = sequence + index })
segment_from units maximum sequence start index [] inside = absurd (omega (arith, inside))
segment_from units maximum sequence start zero (end ∷ ends) inside =
    ap (λ (n : ℕ). Some (record { units = part_of units start end; maximum = maximum; sequence = n })) (omega arith)
segment_from units maximum sequence start (suc index) (end ∷ ends) inside =
    segment_from units maximum (sequence + 1) end index ends (omega (arith, inside))
    ∙ ap (λ (n : ℕ). Some (record { units = part_of units (start_at end ends index) (get_or ends index 0); maximum = maximum; sequence = n })) (omega arith)

pub segment_at : (units : Units) (index : ℕ) (ends : List ℕ) → index < length ends
    → slice_get (segments_at units ends) index ≡ Some (record { units = part_of units (start_at 0 ends index) (get_or ends index 0); maximum = length ends; sequence = index + 1 })
segment_at units index ends inside =
    segment_from units (length ends) 1 0 index ends inside
    ∙ ap (λ (n : ℕ). Some (record { units = part_of units (start_at 0 ends index) (get_or ends index 0); maximum = length ends; sequence = n })) (omega arith)

pub no_segment_at : (xs : List Segment) (index : ℕ) → length xs ≤ index → slice_get xs index ≡ None
no_segment_at [] index le = refl
no_segment_at (x ∷ xs) zero le = absurd (omega (arith, le))
no_segment_at (x ∷ xs) (suc index) le = no_segment_at xs index (omega (arith, le))

-- no end stands behind that of all
pub end_inside : (start all : ℕ) (ends : List ℕ) → RiseTo start ends all → start ≤ all
end_inside start all [] e = omega (arith, e)
end_inside start all (end ∷ ends) rise = omega (arith, rise.0, end_inside end all ends rise.1)

-- a piece lies in the units
pub piece_inside : (start all index : ℕ) (ends : List ℕ) → RiseTo start ends all → index < length ends → (start_at start ends index ≤ get_or ends index 0) × (get_or ends index 0 ≤ all)
piece_inside start all index [] rise inside = absurd (omega (arith, inside))
piece_inside start all zero (end ∷ ends) rise inside = (rise.0, end_inside end all ends rise.1)
piece_inside start all (suc index) (end ∷ ends) rise inside = piece_inside end all index ends rise.1 (omega (arith, inside))

-- where it starts: at the end of the one before it
start_after : (start index : ℕ) (ends : List ℕ) → suc index < length ends → get_or ends index 0 ≡ start_at start ends (suc index)
start_after start index [] inside = absurd (omega (arith, inside))
start_after start zero (end ∷ ends) inside = refl
start_after start (suc index) (end ∷ ends) inside = start_after end index ends (omega (arith, inside))

pub start_is_end : (index : ℕ) (ends : List ℕ) → 0 < index → index < length ends → get_or ends (index - 1) 0 ≡ start_at 0 ends index
start_is_end zero ends some inside = absurd (omega (arith, some))
start_is_end (suc index) ends some inside = ap (λ k. get_or ends k 0) (omega arith) ∙ start_after 0 index ends inside

-- ---- one segment after another

-- the first segments and the next one
pub take_next : (xs : List Segment) (n : ℕ) (x : Segment) → slice_get xs n ≡ Some x → take (n + 1) xs ≡ take n xs ++ x ∷ []
take_next xs n x e = let on : n + 1 ≡ suc n = omega arith in ap (λ (k : ℕ). take k xs) on ∙ go xs n e
  where
    go : (xs : List Segment) (n : ℕ) → slice_get xs n ≡ Some x → take (suc n) xs ≡ take n xs ++ x ∷ []
    go [] n e = absurd cc
    go (y ∷ xs) zero e = let same : y ≡ x = cc in ap (λ z. z ∷ []) same
    go (y ∷ xs) (suc n) e = ap (λ l. y ∷ l) (go xs n e)

pub all_taken : (xs : List Segment) (n : ℕ) → length xs ≤ n → take n xs ≡ xs
all_taken [] zero e = refl
all_taken [] (suc n) e = refl
all_taken (x ∷ xs) zero e = absurd (omega arith)
all_taken (x ∷ xs) (suc n) e = ap (λ l. x ∷ l) (all_taken xs n (omega (arith, e)))

pub is_there : (xs : List Segment) (n : ℕ) → n < length xs → slice_get xs n ≡ None → ⊥
is_there [] n lt e = absurd (omega arith)
is_there (x ∷ xs) zero lt e = absurd cc
is_there (x ∷ xs) (suc n) lt e = is_there xs n (omega (arith, lt)) e

-- ---- septets that are a part of septets

septets_take : (n : ℕ) (xs : List ℕ) → AreSeptets xs → AreSeptets (take n xs)
septets_take zero xs are = tt
septets_take (suc n) [] are = tt
septets_take (suc n) (x ∷ xs) are = (are.0, septets_take n xs are.1)

septets_drop : (n : ℕ) (xs : List ℕ) → AreSeptets xs → AreSeptets (drop n xs)
septets_drop zero xs are = are
septets_drop (suc n) [] are = tt
septets_drop (suc n) (x ∷ xs) are = septets_drop n xs are.1

pub septets_part : (start end : ℕ) (xs : List ℕ) → AreSeptets xs → AreSeptets (slice_range xs start end)
septets_part start end xs are = septets_take (end - start) (drop start xs) (septets_drop start xs are)
