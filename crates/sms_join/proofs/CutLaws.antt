-- Each text has just one cut.
use Rattle.std.proofs.Common.{◌≡◌, ℕ, zero, suc, ◌+◌, ◌-◌, ◌<◌, ◌≤◌, ◌⊎◌, inl, inr, List, [], ◌∷◌, ◌++◌, length, refl, sym, ap, subst, ◌∙◌, append_assoc, arith, length-append}
use Rattle.std.proofs.lemmas.List.{append-nil, append_cancel_left}
use Rattle.std.proofs.lemmas.Grind.{flat_map-append}
use Rattle.std.proofs.lemmas.Bool.{cases_lt}
use Rattle.std.specs.List.{concat, flat_map, AllByRecursion}
use Rattle.sms_join.specs.Cut.{IsCutBy}

-- a character has one or two units
abbrev pub IsShort : (ℕ → List ℕ) → ℕ → Type 0
IsShort own c = (0 < length (own c)) × (length (own c) ≤ 2)

pub short-append : (own : ℕ → List ℕ) (xs ys text : List ℕ) → xs ++ ys ≡ text → AllByRecursion (IsShort own) text → AllByRecursion (IsShort own) xs × AllByRecursion (IsShort own) ys
short-append own [] ys text e s = (tt, subst (λ l. AllByRecursion (IsShort own) l) (sym e) s)
short-append own (x ∷ xs) ys [] e s = absurd cc
short-append own (x ∷ xs) ys (c ∷ text) e s =
    let r = short-append own xs ys text (cc) s.1 in
    let same : c ≡ x = cc in
    ((subst (λ n. IsShort own n) same s.0, r.0), r.1)

-- the units of a front are those before it and one character's more
pub units-cons : (own : ℕ → List ℕ) (c : ℕ) (text : List ℕ) → length (flat_map own (c ∷ text)) ≡ length (own c) + length (flat_map own text)
units-cons own c text = length-append (own c) (flat_map own text)

-- of two fronts of a text, the one with more units goes on after the other
pub further : (own : ℕ → List ℕ) (before after before2 after2 : List ℕ) → AllByRecursion (IsShort own) before → before ++ after ≡ before2 ++ after2 → length (flat_map own before) ≤ length (flat_map own before2)
    → (more : List ℕ) × (before2 ≡ before ++ more) × (after ≡ more ++ after2)
further own [] after before2 after2 s e h = (before2, refl, e)
further own (c ∷ b) after [] after2 s e h = absurd (omega (arith, units-cons own c b, s.0.0))
further own (c ∷ b) after (d ∷ b2) after2 s e h =
    let heads : c ≡ d = cc in
    let tails : b ++ after ≡ b2 ++ after2 = cc in
    let same : length (own c) ≡ length (own d) = ap (λ n. length (own n)) heads in
    let r = further own b after b2 after2 s.1 tails (omega (arith, units-cons own c b, units-cons own d b2, same)) in
    (r.0, (let m : b2 ≡ b ++ r.0 = r.1 in cc), r.2)

-- what may stand after a piece of as many units as given
abbrev pub Stops : (ℕ → List ℕ) → ℕ → ℕ → List ℕ → Type 0
Stops own room n [] = Unit {0}
Stops own room n (next ∷ after) = room < n + length (own next)

-- a piece at the front of a text
pub record Step (own : ℕ → List ℕ) (room : ℕ) (text piece : List ℕ) : Type 0 where
  pub before : List ℕ
  pub after : List ℕ
  pub parts : before ++ after ≡ text
  pub is : piece ≡ flat_map own before
  pub some : 0 < length piece
  pub fits : length piece ≤ room
  pub stops : Stops own room (length piece) after

-- the pieces stand one after another
abbrev pub Steps : (ℕ → List ℕ) → ℕ → List ℕ → List (List ℕ) → Type 0
Steps own room text [] = text ≡ []
Steps own room text (piece ∷ pieces) = (s : Step own room text piece) × Steps own room s.after pieces

-- ---- a cut is a list of such steps

pub units-parts : (own : ℕ → List ℕ) (before after text : List ℕ) → before ++ after ≡ text → flat_map own text ≡ flat_map own before ++ flat_map own after
units-parts own before after text e = ap (flat_map own) (sym e) ∙ flat_map-append own before after

rest_of_cut : (own : ℕ → List ℕ) (room : ℕ) (text : List ℕ) (piece : List ℕ) (pieces : List (List ℕ)) (before after : List ℕ) → AllByRecursion (IsShort own) text → before ++ after ≡ text → piece ≡ flat_map own before
    → IsCutBy own room text (piece ∷ pieces) → IsCutBy own room after pieces
rest_of_cut own room text piece pieces before after short parts is cut = record {
  joined = append_cancel_left piece (concat pieces) (flat_map own after) (cut.joined ∙ units-parts own before after text parts ∙ ap (λ l. l ++ flat_map own after) (sym is));
  none_empty = cut.none_empty.1;
  none_over_room = cut.none_over_room.1;
  at_characters = λ front back e.
      let b = cut.at_characters (piece ∷ front) back (ap (λ (l : List (List ℕ)). piece ∷ l) e) in
      let le : length (flat_map own before) ≤ length (flat_map own b.0) = omega (arith, length-append piece (concat front), ap length b.3, ap length is) in
      let m = further own before after b.0 b.1 (short-append own before after text parts short).0 (parts ∙ sym b.2) le in
      (m.0, b.1, sym m.2, append_cancel_left piece (concat front) (flat_map own m.0) (b.3 ∙ ap (flat_map own) m.1 ∙ flat_map-append own before m.0 ∙ ap (λ l. l ++ flat_map own m.0) (sym is)));
  full = λ front back last first others next e1 e2 e3.
      cut.full (piece ∷ front) back last (before ++ first) others next (ap (λ (l : List (List ℕ)). piece ∷ l) e1)
      (append_assoc before first (next ∷ others) ∙ ap (λ l. before ++ l) e2 ∙ parts)
      (ap (λ l. piece ++ l) e3 ∙ ap (λ l. l ++ flat_map own first) is ∙ sym (flat_map-append own before first));
}

pub steps_of : (own : ℕ → List ℕ) (room : ℕ) (pieces : List (List ℕ)) (text : List ℕ) → AllByRecursion (IsShort own) text → IsCutBy own room text pieces → Steps own room text pieces
steps_of own room [] [] short cut = refl
steps_of own room [] (c ∷ text) short cut = absurd (omega (arith, ap length cut.joined, units-cons own c text, short.0.0))
steps_of own room (piece ∷ pieces) text short cut =
    let a = cut.at_characters (piece ∷ []) pieces refl in
    let is : piece ≡ flat_map own a.0 = sym (append-nil piece) ∙ a.3 in (
      record {
        before = a.0;
        after = a.1;
        parts = a.2;
        is = is;
        some = cut.none_empty.0;
        fits = cut.none_over_room.0;
        stops = stops_at a.0 a.1 a.2 a.3;
      },
      steps_of own room pieces a.1 (short-append own a.0 a.1 text a.2 short).1 (rest_of_cut own room text piece pieces a.0 a.1 short a.2 is cut),
    )
  where
    stops_at : (before after : List ℕ) → before ++ after ≡ text → piece ++ [] ≡ flat_map own before → Stops own room (length piece) after
    stops_at before [] e is = tt
    stops_at before (next ∷ after) e is = cut.full [] pieces piece before after next refl e is

-- ---- such steps are a cut

steps-joined : (own : ℕ → List ℕ) (room : ℕ) (pieces : List (List ℕ)) (text : List ℕ) → Steps own room text pieces → concat pieces ≡ flat_map own text
steps-joined own room [] text e = ap (flat_map own) (sym e)
steps-joined own room (piece ∷ pieces) text s =
    ap (λ l. piece ++ l) (steps-joined own room pieces s.0.after s.1) ∙ ap (λ l. l ++ flat_map own s.0.after) s.0.is ∙ sym (units-parts own s.0.before s.0.after text s.0.parts)

steps-none_empty : (own : ℕ → List ℕ) (room : ℕ) (pieces : List (List ℕ)) (text : List ℕ) → Steps own room text pieces → AllByRecursion (λ piece. 0 < length piece) pieces
steps-none_empty own room [] text e = tt
steps-none_empty own room (piece ∷ pieces) text s = (s.0.some, steps-none_empty own room pieces s.0.after s.1)

steps-none_over : (own : ℕ → List ℕ) (room : ℕ) (pieces : List (List ℕ)) (text : List ℕ) → Steps own room text pieces → AllByRecursion (λ piece. length piece ≤ room) pieces
steps-none_over own room [] text e = tt
steps-none_over own room (piece ∷ pieces) text s = (s.0.fits, steps-none_over own room pieces s.0.after s.1)

steps-at_characters : (own : ℕ → List ℕ) (room : ℕ) (pieces front back : List (List ℕ)) (text : List ℕ) → Steps own room text pieces → front ++ back ≡ pieces
    → (before : List ℕ) × (after : List ℕ) × (before ++ after ≡ text) × (concat front ≡ flat_map own before)
steps-at_characters own room pieces [] back text s e = ([], text, refl, refl)
steps-at_characters own room [] (q ∷ front) back text s e = absurd cc
steps-at_characters own room (piece ∷ pieces) (q ∷ front) back text s e =
    let first : q ≡ piece = cc in
    let r = steps-at_characters own room pieces front back s.0.after s.1 (cc) in (
      s.0.before ++ r.0,
      r.1,
      append_assoc s.0.before r.0 r.1 ∙ ap (λ l. s.0.before ++ l) r.2 ∙ s.0.parts,
      ap (λ l. q ++ l) r.3 ∙ ap (λ l. l ++ flat_map own r.0) (first ∙ s.0.is) ∙ sym (flat_map-append own s.0.before r.0),
    )

-- no units, no characters
pub no_units : (own : ℕ → List ℕ) (text : List ℕ) → AllByRecursion (IsShort own) text → length (flat_map own text) ≡ 0 → text ≡ []
no_units own [] short e = refl
no_units own (c ∷ text) short e = absurd (omega (arith, units-cons own c text, short.0.0))

steps-full : (own : ℕ → List ℕ) (room : ℕ) (pieces front back : List (List ℕ)) (text piece before after : List ℕ) (next : ℕ) → AllByRecursion (IsShort own) text → Steps own room text pieces
    → front ++ piece ∷ back ≡ pieces → before ++ next ∷ after ≡ text → concat (front ++ piece ∷ []) ≡ flat_map own before → room < length piece + length (own next)
steps-full own room [] [] back text piece before after next short s e1 e2 e3 = absurd cc
steps-full own room [] (q ∷ front) back text piece before after next short s e1 e2 e3 = absurd cc
steps-full own room (p ∷ pieces) [] back text piece before after next short s e1 e2 e3 =
    let first : piece ≡ p = cc in
    let units : flat_map own s.0.before ≡ flat_map own before = sym s.0.is ∙ sym first ∙ sym (append-nil piece) ∙ e3 in
    let short_before = (short-append own s.0.before s.0.after text s.0.parts short).0 in
    let m = further own s.0.before s.0.after before (next ∷ after) short_before (s.0.parts ∙ sym e2) (omega (arith, ap length units)) in
    let short_more = (short-append own s.0.before m.0 before (sym m.1) (short-append own before (next ∷ after) text e2 short).0).1 in
    let none : m.0 ≡ [] = no_units own m.0 short_more (omega (arith, ap length units, ap (λ l. length (flat_map own l)) m.1, ap length (flat_map-append own s.0.before m.0), length-append (flat_map own s.0.before) (flat_map own m.0))) in
    let follows : s.0.after ≡ next ∷ after = m.2 ∙ ap (λ l. l ++ next ∷ after) none in
    let stops : Stops own room (length p) (next ∷ after) = subst (λ l. Stops own room (length p) l) follows s.0.stops in
    subst (λ l. room < length l + length (own next)) (sym first) stops
steps-full own room (p ∷ pieces) (q ∷ front) back text piece before after next short s e1 e2 e3 =
    let first : q ≡ p = cc in
    let shorts = short-append own s.0.before s.0.after text s.0.parts short in
    let units : flat_map own s.0.before ++ concat (front ++ piece ∷ []) ≡ flat_map own before = ap (λ l. l ++ concat (front ++ piece ∷ [])) (sym s.0.is ∙ sym first) ∙ e3 in
    let m = further own s.0.before s.0.after before (next ∷ after) shorts.0 (s.0.parts ∙ sym e2) (omega (arith, ap length units, length-append (flat_map own s.0.before) (concat (front ++ piece ∷ [])))) in
    steps-full own room pieces front back s.0.after piece m.0 after next shorts.1 s.1 (cc) (sym m.2)
    (append_cancel_left (flat_map own s.0.before) (concat (front ++ piece ∷ [])) (flat_map own m.0) (units ∙ ap (flat_map own) m.1 ∙ flat_map-append own s.0.before m.0))

pub cut_of_steps : (own : ℕ → List ℕ) (room : ℕ) (pieces : List (List ℕ)) (text : List ℕ) → AllByRecursion (IsShort own) text → Steps own room text pieces → IsCutBy own room text pieces
cut_of_steps own room pieces text short s = record {
  joined = steps-joined own room pieces text s;
  none_empty = steps-none_empty own room pieces text s;
  none_over_room = steps-none_over own room pieces text s;
  at_characters = λ front back e. steps-at_characters own room pieces front back text s e;
  full = λ front back piece before after next e1 e2 e3. steps-full own room pieces front back text piece before after next short s e1 e2 e3;
}

-- ---- there is at most one

-- a piece that has not fewer units than another ends where it ends
same_end : (own : ℕ → List ℕ) (room : ℕ) (text p q : List ℕ) → AllByRecursion (IsShort own) text → (s : Step own room text p) (t : Step own room text q) → length p ≤ length q → (t.before ≡ s.before) × (s.after ≡ t.after)
same_end own room text p q short s t le =
    let m = further own s.before s.after t.before t.after (short-append own s.before s.after text s.parts short).0 (s.parts ∙ sym t.parts) (omega (arith, ap length s.is, ap length t.is)) in
    go m.0 m.1 m.2
  where
    go : (more : List ℕ) → t.before ≡ s.before ++ more → s.after ≡ more ++ t.after → (t.before ≡ s.before) × (s.after ≡ t.after)
    go [] e1 e2 = (e1 ∙ append-nil s.before, e2)
    go (next ∷ more) e1 e2 =
        let stops : room < length p + length (own next) = subst (λ l. Stops own room (length p) l) e2 s.stops in
        absurd (omega (arith, t.fits, ap length t.is, ap length s.is, ap (λ l. length (flat_map own l)) e1, ap length (flat_map-append own s.before (next ∷ more)), length-append (flat_map own s.before) (flat_map own (next ∷ more)), units-cons own next more))

no_step : (own : ℕ → List ℕ) (room : ℕ) (text p : List ℕ) → text ≡ [] → Step own room text p → ⊥
no_step own room text p e s = go s.before s.after (s.parts ∙ e) s.is
  where
    go : (before after : List ℕ) → before ++ after ≡ [] → p ≡ flat_map own before → ⊥
    go [] after e is = omega (arith, s.some, ap length is)
    go (c ∷ before) after e is = cc

pub same_steps : (own : ℕ → List ℕ) (room : ℕ) (ps qs : List (List ℕ)) (text : List ℕ) → AllByRecursion (IsShort own) text → Steps own room text ps → Steps own room text qs → qs ≡ ps
same_steps own room [] [] text short s t = refl
same_steps own room [] (q ∷ qs) text short s t = absurd (no_step own room text q s t.0)
same_steps own room (p ∷ ps) [] text short s t = absurd (no_step own room text p t s.0)
same_steps own room (p ∷ ps) (q ∷ qs) text short s t =
    let e = same_ends (cases_lt (length p) (length q)) in
    let head : q ≡ p = t.0.is ∙ ap (flat_map own) e.0 ∙ sym s.0.is in
    let tail : qs ≡ ps = same_steps own room ps qs t.0.after (short-append own t.0.before t.0.after text t.0.parts short).1 (subst (λ l. Steps own room l ps) e.1 s.1) t.1 in
    cc
  where
    same_ends : (length p < length q) ⊎ (length q ≤ length p) → (t.0.before ≡ s.0.before) × (s.0.after ≡ t.0.after)
    same_ends (inl less) = same_end own room text p q short s.0 t.0 (omega (arith, less))
    same_ends (inr more) = let e = same_end own room text q p short t.0 s.0 more in (sym e.0, sym e.1)

-- ---- there is one

-- as much of a text as there is room for
pub record Front (own : ℕ → List ℕ) (room : ℕ) (text : List ℕ) : Type 0 where
  pub before : List ℕ
  pub after : List ℕ
  pub parts : before ++ after ≡ text
  pub fits : length (flat_map own before) ≤ room
  pub stops : Stops own room (length (flat_map own before)) after

more_room : (own : ℕ → List ℕ) (room more n : ℕ) (after : List ℕ) → more ≤ room → Stops own (room - more) n after → Stops own room (more + n) after
more_room own room more n [] le s = tt
more_room own room more n (next ∷ after) le s = omega arith

pub front_of : (own : ℕ → List ℕ) (room : ℕ) (text : List ℕ) → Front own room text
front_of own room [] = record { before = []; after = []; parts = refl; fits = omega arith; stops = tt }
front_of own room (c ∷ text) = go (cases_lt room (length (own c))) (λ le. front_of own (room - length (own c)) text)
  where
    go : (room < length (own c)) ⊎ (length (own c) ≤ room) → ((length (own c) ≤ room) → Front own (room - length (own c)) text) → Front own room (c ∷ text)
    go (inl less) rest = record { before = []; after = c ∷ text; parts = refl; fits = omega arith; stops = omega (arith, less) }
    go (inr le) rest =
        let r = rest le in
        record {
          before = c ∷ r.before;
          after = r.after;
          parts = ap (λ (l : List ℕ). c ∷ l) r.parts;
          fits = omega (arith, units-cons own c r.before, r.fits, le);
          stops = subst (λ n. Stops own room n r.after) (sym (units-cons own c r.before)) (more_room own room (length (own c)) (length (flat_map own r.before)) r.after le r.stops);
        }

pub steps_within : (own : ℕ → List ℕ) (room count : ℕ) (text : List ℕ) → 2 ≤ room → length text ≤ count → AllByRecursion (IsShort own) text → (pieces : List (List ℕ)) × Steps own room text pieces
steps_within own room count [] wide le short = ([], refl)
steps_within own room zero (c ∷ text) wide le short = absurd (omega arith)
steps_within own room (suc count) (c ∷ text) wide le short = go (front_of own room (c ∷ text)) (λ after fewer all. steps_within own room count after wide fewer all)
  where
    go : (f : Front own room (c ∷ text)) → ((after : List ℕ) → length after ≤ count → AllByRecursion (IsShort own) after → (pieces : List (List ℕ)) × Steps own room after pieces) → (pieces : List (List ℕ)) × Steps own room (c ∷ text) pieces
    go f rest = follows f.before f.after f.parts f.fits f.stops
      where
        follows : (before after : List ℕ) → before ++ after ≡ c ∷ text → length (flat_map own before) ≤ room → Stops own room (length (flat_map own before)) after → (pieces : List (List ℕ)) × Steps own room (c ∷ text) pieces
        follows [] after e fits stops =
            let stops_here : room < 0 + length (own c) = subst (λ l. Stops own room 0 l) e stops in
            absurd (omega (arith, short.0.1))
        follows (b ∷ before) after e fits stops =
            let shorts = short-append own (b ∷ before) after (c ∷ text) e short in
            let r = rest after (omega (arith, ap length e, length-append before after)) shorts.1 in
            (flat_map own (b ∷ before) ∷ r.0, (record { before = b ∷ before; after = after; parts = e; is = refl; some = omega (arith, units-cons own b before, shorts.0.0.0); fits = fits; stops = stops }, r.1))

pub steps_exist : (own : ℕ → List ℕ) (room : ℕ) (text : List ℕ) → 2 ≤ room → AllByRecursion (IsShort own) text → (pieces : List (List ℕ)) × Steps own room text pieces
steps_exist own room text wide short = steps_within own room (length text) text wide (omega arith) short
