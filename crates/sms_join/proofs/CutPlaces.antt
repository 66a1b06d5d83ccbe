-- The pieces of a text's units by their places: each takes as much as there is room for, and its last unit begins no pair.
use Rattle.std.proofs.Common.{◌≡◌, ℕ, zero, suc, ◌+◌, ◌-◌, ◌<◌, ◌≤◌, ◌⊎◌, inl, inr, Bool, true, false, cond, List, [], ◌∷◌, ◌++◌, length, take, drop, get_or, map, refl, sym, ap, subst, ◌∙◌, append_assoc, arith, length-append, length-drop}
use Rattle.std.proofs.lemmas.List.{append-nil, take_at, drop_at, drop_all, drop-drop, get_or-append-add, get_or-drop, map-append}
use Rattle.std.proofs.lemmas.Bool.{cases_lt}
use Rattle.std.specs.Prelude.{slice_range}
use Rattle.std.specs.List.{flat_map, AllByRecursion}
use Rattle.sms_join.specs.declared.units.Units.{Units}
use Rattle.sms_join.specs.UnitsOfText.{IsText, Alphabet, Default, Wide, alphabet_of, units_of_character, units_of_text, units_in, numbers, alphabet_in, begins_pair}
use Rattle.sms_join.specs.Cut.{IsParted}
use Rattle.sms_join.proofs.CutLaws.{Stops, Steps, front_of, no_units, units-cons, units-parts, cut_of_steps}
use Rattle.sms_join.proofs.GroupLaws.{IsGroup, Alone, Pair, short_groups, text_groups}

-- where a piece at the front of these units ends
pub data EndsAt (begins : ℕ → Bool) (room : ℕ) (units : List ℕ) (n : ℕ) : Type 0 where
  Last : length units ≤ room → n ≡ length units → EndsAt begins room units n
  Inside : room < length units → n ≡ cond (begins (get_or units (room - 1) 0)) (room - 1) room → EndsAt begins room units n

-- such pieces one after another
abbrev pub Pieces : (ℕ → Bool) → ℕ → List ℕ → List (List ℕ) → Type 0
Pieces begins room units [] = units ≡ []
Pieces begins room units (piece ∷ pieces) = (n : ℕ) × EndsAt begins room units n × (0 < length units) × (piece ≡ take n units) × Pieces begins room (drop n units) pieces

groups-parts : (begins : ℕ → Bool) (own : ℕ → List ℕ) (xs ys text : List ℕ) → xs ++ ys ≡ text → AllByRecursion (λ c. IsGroup begins (own c)) text → AllByRecursion (λ c. IsGroup begins (own c)) xs × AllByRecursion (λ c. IsGroup begins (own c)) ys
groups-parts begins own [] ys text e g = (tt, subst (λ l. AllByRecursion (λ c. IsGroup begins (own c)) l) (sym e) g)
groups-parts begins own (x ∷ xs) ys [] e g = absurd cc
groups-parts begins own (x ∷ xs) ys (c ∷ text) e g =
    let same : c ≡ x = cc in
    let r = groups-parts begins own xs ys text (cc) g.1 in
    ((subst (λ n. IsGroup begins (own n)) same g.0, r.0), r.1)

-- the last unit of whole characters begins no pair
last_closed : (begins : ℕ → Bool) (own : ℕ → List ℕ) (before more : List ℕ) (n : ℕ) → AllByRecursion (λ c. IsGroup begins (own c)) before → suc n ≡ length (flat_map own before) → begins (get_or (flat_map own before ++ more) n 0) ≡ false
last_closed begins own [] more n all e = absurd (omega (arith, e))
last_closed begins own (c ∷ before) more n all e = of_group (own c) n all.0 e (λ m f. last_closed begins own before more m all.1 f)
  where
    of_group : (l : List ℕ) (k : ℕ) → IsGroup begins l → suc k ≡ length (l ++ flat_map own before) → ((m : ℕ) → suc m ≡ length (flat_map own before) → begins (get_or (flat_map own before ++ more) m 0) ≡ false)
        → begins (get_or ((l ++ flat_map own before) ++ more) k 0) ≡ false
    of_group l zero (Alone u closed) f rest = closed
    of_group l (suc m) (Alone u closed) f rest = rest m (omega (arith, f))
    of_group l zero (Pair u v opens closed) f rest = absurd (omega (arith, f))
    of_group l (suc zero) (Pair u v opens closed) f rest = closed
    of_group l (suc (suc m)) (Pair u v opens closed) f rest = rest m (omega (arith, f))

full_room : (begins : ℕ → Bool) (own : ℕ → List ℕ) (room n : ℕ) (before more : List ℕ) → AllByRecursion (λ c. IsGroup begins (own c)) before → 2 ≤ room → length (flat_map own before) ≡ room
    → n ≡ cond (begins (get_or (flat_map own before ++ more) (room - 1) 0)) (room - 1) room → n ≡ length (flat_map own before)
full_room begins own room n before more g wide whole e =
    e ∙ ap (λ b. cond b (room - 1) room) (last_closed begins own before more (room - 1) g (omega (arith, whole))) ∙ sym whole

cut_pair : (begins : ℕ → Bool) (room n u : ℕ) (front more : List ℕ) → length front ≡ room - 1 → 1 ≤ room → begins u ≡ true → n ≡ cond (begins (get_or (front ++ u ∷ more) (room - 1) 0)) (room - 1) room → n ≡ length front
cut_pair begins room n u front more short wide opens e =
    let at : room - 1 ≡ length front + 0 = omega (arith, short) in
    let here : get_or (front ++ u ∷ more) (room - 1) 0 ≡ u = ap (λ k. get_or (front ++ u ∷ more) k 0) at ∙ get_or-append-add front (u ∷ more) 0 0 in
    e ∙ ap (λ x. cond (begins x) (room - 1) room) here ∙ ap (λ b. cond b (room - 1) room) opens ∙ sym short

-- that is where whole characters end that there is room for, and no other
ends_with : (begins : ℕ → Bool) (own : ℕ → List ℕ) (room n : ℕ) (before after : List ℕ) → AllByRecursion (λ c. IsGroup begins (own c)) before → AllByRecursion (λ c. IsGroup begins (own c)) after → 2 ≤ room
    → length (flat_map own before) ≤ room → Stops own room (length (flat_map own before)) after → EndsAt begins room (flat_map own before ++ flat_map own after) n → n ≡ length (flat_map own before)
ends_with begins own room n before [] g h wide fits stops (Last le e) = e ∙ ap length (append-nil (flat_map own before))
ends_with begins own room n before [] g h wide fits stops (Inside more e) = absurd (omega (arith, more, length-append (flat_map own before) [], fits))
ends_with begins own room n before (c ∷ after) g h wide fits stops (Last le e) = absurd (omega (arith, le, length-append (flat_map own before) (flat_map own (c ∷ after)), units-cons own c after))
ends_with begins own room n before (c ∷ after) g h wide fits stops (Inside more e) = of_group (own c) h.0 stops e
  where
    of_group : (l : List ℕ) → IsGroup begins l → room < length (flat_map own before) + length l → n ≡ cond (begins (get_or (flat_map own before ++ (l ++ flat_map own after)) (room - 1) 0)) (room - 1) room → n ≡ length (flat_map own before)
    of_group l (Alone u closed) over is = full_room begins own room n before (u ∷ flat_map own after) g wide (omega (arith, over, fits)) is
    of_group l (Pair u v opens closed) over is = of_length (cases_lt (length (flat_map own before)) room)
      where
        of_length : (length (flat_map own before) < room) ⊎ (room ≤ length (flat_map own before)) → n ≡ length (flat_map own before)
        of_length (inl less) = cut_pair begins room n u (flat_map own before) (v ∷ flat_map own after) (omega (arith, less, over)) (omega (arith, wide)) opens is
        of_length (inr whole) = full_room begins own room n before (u ∷ v ∷ flat_map own after) g wide (omega (arith, whole, fits)) is

-- a piece has a unit
ends_after : (begins : ℕ → Bool) (room n : ℕ) (units : List ℕ) → 2 ≤ room → 0 < length units → EndsAt begins room units n → 0 < n
ends_after begins room n units wide some (Last le e) = omega (arith, e, some)
ends_after begins room n units wide some (Inside more e) = go (begins (get_or units (room - 1) 0)) e
  where
    go : (b : Bool) → n ≡ cond b (room - 1) room → 0 < n
    go true is = omega (arith, is, wide)
    go false is = omega (arith, is, wide)

pub steps_of_pieces : (begins : ℕ → Bool) (own : ℕ → List ℕ) (room : ℕ) (pieces : List (List ℕ)) (text : List ℕ) → AllByRecursion (λ c. IsGroup begins (own c)) text → 2 ≤ room
    → Pieces begins room (flat_map own text) pieces → Steps own room text pieces
steps_of_pieces begins own room [] text g wide e = no_units own text (short_groups begins own text g) (ap length e)
steps_of_pieces begins own room (piece ∷ pieces) text g wide p =
    let f = front_of own room text in
    let groups = groups-parts begins own f.before f.after text f.parts g in
    let parts : flat_map own text ≡ flat_map own f.before ++ flat_map own f.after = units-parts own f.before f.after text f.parts in
    let ends : EndsAt begins room (flat_map own f.before ++ flat_map own f.after) p.0 = subst (λ l. EndsAt begins room l p.0) parts p.1 in
    let n : p.0 ≡ length (flat_map own f.before) = ends_with begins own room p.0 f.before f.after groups.0 groups.1 wide f.fits f.stops ends in
    let is : piece ≡ flat_map own f.before = p.3 ∙ ap (take p.0) parts ∙ take_at (flat_map own f.before) (flat_map own f.after) p.0 (sym n) in
    let follows : drop p.0 (flat_map own text) ≡ flat_map own f.after = ap (drop p.0) parts ∙ drop_at (flat_map own f.before) (flat_map own f.after) p.0 (sym n) in
    let as_long : length (flat_map own f.before) ≡ length piece = ap length (sym is) in (
      record {
        before = f.before;
        after = f.after;
        parts = f.parts;
        is = is;
        some = omega (arith, ends_after begins room p.0 (flat_map own text) wide p.2 p.1, n, as_long);
        fits = omega (arith, f.fits, as_long);
        stops = subst (λ k. Stops own room k f.after) as_long f.stops;
      },
      steps_of_pieces begins own room pieces f.after groups.1 wide (subst (λ l. Pieces begins room l pieces) follows p.4),
    )

-- ---- the loop

-- so far, the pieces are those up to this place
pub record PartedUpTo (units : Units) (room start : ℕ) (pieces : List Units) : Type 0 where
  pub inside : start ≤ length (numbers units)
  pub lists : List (List ℕ)
  pub same : pieces ≡ map (units_in (alphabet_in units)) lists
  pub goes_on : (rest : List (List ℕ)) → Pieces (begins_pair (alphabet_in units)) room (drop start (numbers units)) rest → Pieces (begins_pair (alphabet_in units)) room (numbers units) (lists ++ rest)

pub nothing_parted : (units : Units) (room : ℕ) → PartedUpTo units room 0 []
nothing_parted units room = record { inside = omega arith; lists = []; same = refl; goes_on = λ rest p. p }

-- the contract of where a piece ends, at these units
abbrev pub IsEnd : (ℕ → Bool) → List ℕ → ℕ → ℕ → ℕ → Type 0
IsEnd begins units room start end =
    (length units - start ≤ room → end ≡ length units)
    × (room < length units - start → end ≡ cond (begins (get_or units (start + room - 1) 0)) (start + room - 1) (start + room))

pub end_after : (begins : ℕ → Bool) (units : List ℕ) (room start end : ℕ) → start < length units → 2 ≤ room → IsEnd begins units room start end → (start < end) × (end ≤ length units)
end_after begins units room start end inside wide is = go (cases_lt room (length units - start))
  where
    by : (b : Bool) → room < length units - start → end ≡ cond b (start + room - 1) (start + room) → (start < end) × (end ≤ length units)
    by true more e = (omega (arith, e, wide, more), omega (arith, e, wide, more))
    by false more e = (omega (arith, e, wide, more), omega (arith, e, wide, more))

    go : (room < length units - start) ⊎ (length units - start ≤ room) → (start < end) × (end ≤ length units)
    go (inl more) = by (begins (get_or units (start + room - 1) 0)) more (is.1 more)
    go (inr le) = (omega (arith, is.0 le, inside), omega (arith, is.0 le))

ends_here : (begins : ℕ → Bool) (units : List ℕ) (room start end : ℕ) → start < length units → 2 ≤ room → IsEnd begins units room start end → EndsAt begins room (drop start units) (end - start)
ends_here begins units room start end inside wide is = go (cases_lt room (length units - start))
  where
    place : start + room - 1 ≡ start + (room - 1)
    place = omega (arith, wide)

    by : (b : Bool) → end ≡ cond b (start + room - 1) (start + room) → end - start ≡ cond b (room - 1) room
    by true e = omega (arith, e, wide)
    by false e = omega (arith, e)

    go : (room < length units - start) ⊎ (length units - start ≤ room) → EndsAt begins room (drop start units) (end - start)
    go (inl more) =
        let here : get_or units (start + room - 1) 0 ≡ get_or (drop start units) (room - 1) 0 = ap (λ k. get_or units k 0) place ∙ sym (get_or-drop start units (room - 1) 0) in
        Inside (omega (arith, more, length-drop start units)) (by (begins (get_or (drop start units) (room - 1) 0)) (is.1 more ∙ ap (λ x. cond (begins x) (start + room - 1) (start + room)) here))
    go (inr le) = Last (omega (arith, le, length-drop start units)) (omega (arith, is.0 le, length-drop start units))

pub one_piece_more : (units : Units) (room start end : ℕ) (pieces : List Units) (part : Units) → start < length (numbers units) → 2 ≤ room → IsEnd (begins_pair (alphabet_in units)) (numbers units) room start end
    → part ≡ units_in (alphabet_in units) (slice_range (numbers units) start end) → PartedUpTo units room start pieces → PartedUpTo units room end (pieces ++ part ∷ [])
one_piece_more units room start end pieces part inside wide is same p =
    let begins = begins_pair (alphabet_in units) in
    let ns : List ℕ = numbers units in
    let piece : List ℕ = slice_range ns start end in
    let follows = end_after begins ns room start end inside wide is in
    let place : start + (end - start) ≡ end = omega (arith, follows.0) in
    record {
      inside = follows.1;
      lists = p.lists ++ piece ∷ [];
      same = ap (λ l. l ++ part ∷ []) p.same ∙ ap (λ x. map (units_in (alphabet_in units)) p.lists ++ x ∷ []) same ∙ sym (map-append (units_in (alphabet_in units)) p.lists (piece ∷ []));
      goes_on = λ rest more.
          subst (λ l. Pieces begins room ns l) (sym (append_assoc p.lists (piece ∷ []) rest))
          (p.goes_on (piece ∷ rest) (
            end - start,
            ends_here begins ns room start end inside wide is,
            omega (arith, inside, length-drop start ns),
            refl,
            subst (λ l. Pieces begins room l rest) (sym (drop-drop (end - start) start ns ∙ ap (λ k. drop k ns) place)) more,
          ));
    }

pub alphabet-in : (a : Alphabet) (l : List ℕ) → alphabet_in (units_in a l) ≡ a
alphabet-in Default l = refl
alphabet-in Wide l = refl

pub numbers-in : (a : Alphabet) (l : List ℕ) → numbers (units_in a l) ≡ l
numbers-in Default l = refl
numbers-in Wide l = refl

pub all_parted : (units : Units) (room start : ℕ) (pieces : List Units) (text : List ℕ) → IsText text → 2 ≤ room → units ≡ units_of_text text → length (numbers units) ≤ start → PartedUpTo units room start pieces → IsParted room text pieces
all_parted units room start pieces text is wide e whole p =
    let own = units_of_character (alphabet_of text) in
    let alphabet : alphabet_in units ≡ alphabet_of text = ap alphabet_in e ∙ alphabet-in (alphabet_of text) (flat_map own text) in
    let ns : numbers units ≡ flat_map own text = ap numbers e ∙ numbers-in (alphabet_of text) (flat_map own text) in
    let all : Pieces (begins_pair (alphabet_in units)) room (numbers units) (p.lists ++ []) = p.goes_on [] (drop_all start (numbers units) whole) in
    let by_text : Pieces (begins_pair (alphabet_of text)) room (flat_map own text) p.lists =
    subst (λ a. Pieces (begins_pair a) room (flat_map own text) p.lists) alphabet (subst (λ l. Pieces (begins_pair (alphabet_in units)) room l p.lists) ns (subst (λ l. Pieces (begins_pair (alphabet_in units)) room (numbers units) l) (append-nil p.lists) all)) in
    let groups = text_groups text is in
    record {
      lists = p.lists;
      in_alphabet = p.same ∙ ap (λ a. map (units_in a) p.lists) alphabet;
      cut = cut_of_steps own room p.lists text (short_groups (begins_pair (alphabet_of text)) own text groups) (steps_of_pieces (begins_pair (alphabet_of text)) own room p.lists text groups wide by_text);
    }

-- as many pieces as counted are those up to this place
pub record CountedUpTo (units : Units) (room start count : ℕ) : Type 0 where
  pub pieces : List Units
  pub parted : PartedUpTo units room start pieces
  pub many : count ≡ length pieces
  pub few : count ≤ start

pub nothing_counted : (units : Units) (room : ℕ) → CountedUpTo units room 0 0
nothing_counted units room = record { pieces = []; parted = nothing_parted units room; many = refl; few = omega arith }

pub one_counted_more : (units : Units) (room start end count : ℕ) → start < length (numbers units) → 2 ≤ room → IsEnd (begins_pair (alphabet_in units)) (numbers units) room start end
    → CountedUpTo units room start count → CountedUpTo units room end (count + 1)
one_counted_more units room start end count inside wide is c =
    let part : Units = units_in (alphabet_in units) (slice_range (numbers units) start end) in
    let follows = end_after (begins_pair (alphabet_in units)) (numbers units) room start end inside wide is in
    record {
      pieces = c.pieces ++ part ∷ [];
      parted = one_piece_more units room start end c.pieces part inside wide is refl c.parted;
      many = omega (arith, c.many, length-append c.pieces (part ∷ []));
      few = omega (arith, c.few, follows.0);
    }

pub all_counted : (units : Units) (room start count : ℕ) (text : List ℕ) → IsText text → 2 ≤ room → units ≡ units_of_text text → length (numbers units) ≤ start → CountedUpTo units room start count
    → (pieces : List Units) × IsParted room text pieces × (count ≡ length pieces)
all_counted units room start count text is wide e whole c = (c.pieces, all_parted units room start c.pieces text is wide e whole c.parted, c.many)
