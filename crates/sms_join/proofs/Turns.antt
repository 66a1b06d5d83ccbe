-- Open sets in the order in which they were opened.
use Rattle.std.proofs.Common.{◌≡◌, ℕ, zero, suc, ◌-◌, ◌<◌, ◌≤◌, inl, inr, Bool, true, false, cond, ◌||◌, eqb, List, [], ◌∷◌, ◌++◌, take, drop, length, slice_get, Some, refl, sym, ap, ◌∙◌, subst, arith}
use Rattle.std.proofs.Math.ListN.{set}
use Rattle.std.proofs.lemmas.Bool.{eqb-false, ne_eqb, or_parts}
use Rattle.std.proofs.lemmas.List.{append-nil, append_assoc}
use Rattle.std.proofs.lemmas.Option.{get_or_from_slice_get}
use Rattle.std.specs.List.{swap_remove, filter}
use Rattle.sms_join.specs.declared.units.Units.{Units}
use Rattle.sms_join.specs.OpenSets.{SetValue, with_piece}
use Rattle.sms_join.specs.Inside.Slots.{At}
use Rattle.sms_join.specs.Inside.Turns.{AreBefore, has_turn, AreApart, HaveTurns}
use Rattle.sms_join.proofs.Places.{split_at}
use Rattle.sms_join.proofs.Swapped.{Moves, last_moves}

-- ---- who was opened before

before_append : (t : ℕ) (xs ys : List SetValue) → AreBefore t xs → AreBefore t ys → AreBefore t (xs ++ ys)
before_append t [] ys a b = b
before_append t (x ∷ xs) ys a b = (a.0, before_append t xs ys a.1 b)

before_front : (t : ℕ) (xs ys : List SetValue) → AreBefore t (xs ++ ys) → AreBefore t xs
before_front t [] ys h = tt
before_front t (x ∷ xs) ys h = (h.0, before_front t xs ys h.1)

before_back : (t : ℕ) (xs ys : List SetValue) → AreBefore t (xs ++ ys) → AreBefore t ys
before_back t [] ys h = h
before_back t (x ∷ xs) ys h = before_back t xs ys h.1

before_later : (t u : ℕ) (xs : List SetValue) → t ≤ u → AreBefore t xs → AreBefore u xs
before_later t u [] l h = tt
before_later t u (x ∷ xs) l h = (let a = h.0 in omega arith, before_later t u xs l h.1)

-- who is apart

or_turned : (a b : Bool) → (a || b) ≡ false → (b || a) ≡ false
or_turned false false e = refl
or_turned true b e = cc
or_turned false true e = cc

has_append : (xs ys : List SetValue) (t : ℕ) → has_turn (xs ++ ys) t ≡ (has_turn xs t || has_turn ys t)
has_append [] ys t = refl
has_append (x ∷ xs) ys t = go (eqb x.turn t) (has_append xs ys t)
  where
    go : (b : Bool) → has_turn (xs ++ ys) t ≡ (has_turn xs t || has_turn ys t) → (b || has_turn (xs ++ ys) t) ≡ ((b || has_turn xs t) || has_turn ys t)
    go true h = refl
    go false h = h

none_before : (t : ℕ) (xs : List SetValue) → AreBefore t xs → has_turn xs t ≡ false
none_before t [] h = refl
none_before t (x ∷ xs) h = let a = h.0 in rw (ne_eqb x.turn t (λ e. omega arith), none_before t xs h.1) refl

-- a set that stands between others
pub record Between (xs : List SetValue) (s : SetValue) (ys : List SetValue) : Type 0 where
  pub front : has_turn xs s.turn ≡ false
  pub back : has_turn ys s.turn ≡ false
  pub rest : AreApart (xs ++ ys)

flip : (a b : ℕ) → eqb a b ≡ false → eqb b a ≡ false
flip a b e = ne_eqb b a (λ f. eqb-false a b e (sym f))

pub between : (xs : List SetValue) (s : SetValue) (ys : List SetValue) → AreApart (xs ++ s ∷ ys) → Between xs s ys
between [] s ys h = record { front = refl; back = h.0; rest = h.1 }
between (x ∷ xs) s ys h =
    let b = between xs s ys h.1 in
    let q = or_parts (has_turn xs x.turn) (has_turn (s ∷ ys) x.turn) (sym (has_append xs (s ∷ ys) x.turn) ∙ h.0) in
    let r = or_parts (eqb s.turn x.turn) (has_turn ys x.turn) q.1 in
    record {
      front = rw (flip s.turn x.turn r.0, b.front) refl;
      back = b.back;
      rest = (has_append xs ys x.turn ∙ rw (q.0, r.1) refl, b.rest);
    }

apart_with : (xs : List SetValue) (s : SetValue) (ys : List SetValue) → has_turn xs s.turn ≡ false → has_turn ys s.turn ≡ false → AreApart (xs ++ ys) → AreApart (xs ++ s ∷ ys)
apart_with [] s ys f b h = (b, h)
apart_with (x ∷ xs) s ys f b h =
    let p = or_parts (eqb x.turn s.turn) (has_turn xs s.turn) f in
    let q = or_parts (has_turn xs x.turn) (has_turn ys x.turn) (sym (has_append xs ys x.turn) ∙ h.0) in
    (has_append xs (s ∷ ys) x.turn ∙ rw (q.0, flip x.turn s.turn p.0, q.1) refl, apart_with xs s ys p.1 b h.1)

-- ---- changes of a list of sets

-- another set of the same number at a place
pub turns_set : (t : ℕ) (ss : List SetValue) (i : ℕ) (s v : SetValue) → slice_get ss i ≡ Some s → v.turn ≡ s.turn → HaveTurns t ss → HaveTurns t (set ss i v)
turns_set t ss i s v there e h = record { before = before ss i there h.before; apart = apart ss i there h.apart }
  where
    same : (x y : SetValue) → Some x ≡ Some y → x ≡ y
    same x y e = cc

    before : (xs : List SetValue) (j : ℕ) → slice_get xs j ≡ Some s → AreBefore t xs → AreBefore t (set xs j v)
    before [] j is b = tt
    before (x ∷ xs) zero is b = (subst (λ (n : ℕ). n < t) (ap (λ (y : SetValue). y.turn) (same x s is) ∙ sym e) b.0, b.1)
    before (x ∷ xs) (suc j) is b = (b.0, before xs j is b.1)

    has : (xs : List SetValue) (j n : ℕ) → slice_get xs j ≡ Some s → has_turn (set xs j v) n ≡ has_turn xs n
    has [] j n is = refl
    has (x ∷ xs) zero n is = ap (λ (m : ℕ). eqb m n || has_turn xs n) (e ∙ sym (ap (λ (y : SetValue). y.turn) (same x s is)))
    has (x ∷ xs) (suc j) n is = ap (λ (b : Bool). eqb x.turn n || b) (has xs j n is)

    apart : (xs : List SetValue) (j : ℕ) → slice_get xs j ≡ Some s → AreApart xs → AreApart (set xs j v)
    apart [] j is a = tt
    apart (x ∷ xs) zero is a = (ap (has_turn xs) (e ∙ sym (ap (λ (y : SetValue). y.turn) (same x s is))) ∙ a.0, a.1)
    apart (x ∷ xs) (suc j) is a = (has xs j x.turn is ∙ a.0, apart xs j is a.1)

-- one more
pub turns_more : (t : ℕ) (ss : List SetValue) (s : SetValue) → s.turn ≡ t → HaveTurns t ss → HaveTurns (suc t) (ss ++ s ∷ [])
turns_more t ss s e h =
    record {
      before = before_append (suc t) ss (s ∷ []) (before_later t (suc t) ss (omega arith) h.before) (omega arith, tt);
      apart =
          apart_with ss s [] (ap (has_turn ss) e ∙ none_before t ss h.before) refl
          (subst AreApart (sym (append-nil ss)) h.apart);
    }

-- one goes, whose place the last one takes
pub turns_gone : (t : ℕ) (ss : List SetValue) (i : ℕ) (s : SetValue) → slice_get ss i ≡ Some s → i < length ss → HaveTurns t ss → HaveTurns t (swap_remove ss i s)
turns_gone t ss i s there l h = elim (last_moves ss i (length ss - 1) s (omega arith) l) [
  | inl e ↦ subst (HaveTurns t) (sym e.1) (record {
    before = before_front t (take i ss) (s ∷ drop (suc i) ss) all.before;
    apart = subst AreApart (ap (λ r. take i ss ++ r) e.0 ∙ append-nil (take i ss)) (between (take i ss) s (drop (suc i) ss) all.apart).rest;
  })
  | inr m ↦ subst (HaveTurns t) (sym m.is) (moved m)
]
  where
    split : ss ≡ take i ss ++ s ∷ drop (suc i) ss
    split = split_at ss i s l ∙ ap (λ v. take i ss ++ v ∷ drop (suc i) ss) (get_or_from_slice_get ss i s s there)

    all : HaveTurns t (take i ss ++ s ∷ drop (suc i) ss)
    all = subst (HaveTurns t) split h

    moved : (m : Moves ss i (swap_remove ss i s)) → HaveTurns t (take i ss ++ m.last ∷ m.others)
    moved m =
        let b = before_back t (take i ss) (s ∷ drop (suc i) ss) all.before in
        let c : AreBefore t (m.others ++ m.last ∷ []) = subst (AreBefore t) m.after b.1 in
        let r : AreApart (take i ss ++ (m.others ++ m.last ∷ [])) = subst (λ r. AreApart (take i ss ++ r)) m.after (between (take i ss) s (drop (suc i) ss) all.apart).rest in
        let k = between (take i ss ++ m.others) m.last [] (subst AreApart (sym (append_assoc (take i ss) m.others (m.last ∷ []))) r) in
        let q = or_parts (has_turn (take i ss) m.last.turn) (has_turn m.others m.last.turn) (sym (has_append (take i ss) m.others m.last.turn) ∙ k.front) in
        record {
          before = before_append t (take i ss) (m.last ∷ m.others) (before_front t (take i ss) (s ∷ drop (suc i) ss) all.before) ((before_back t m.others (m.last ∷ []) c).0, before_front t m.others (m.last ∷ []) c);
          apart = apart_with (take i ss) m.last m.others q.0 q.1 (subst AreApart (append-nil (take i ss ++ m.others)) k.rest);
        }

-- some stay
pub turns_filtered : (t : ℕ) (p : SetValue → Bool) (ss : List SetValue) → HaveTurns t ss → HaveTurns t (filter p ss)
turns_filtered t p ss h = record { before = before ss h.before; apart = apart ss h.apart }
  where
    before : (xs : List SetValue) → AreBefore t xs → AreBefore t (filter p xs)
    before [] b = tt
    before (x ∷ xs) b = go (p x) (before xs b.1)
      where
        go : (c : Bool) → AreBefore t (filter p xs) → AreBefore t (cond c (x ∷ filter p xs) (filter p xs))
        go true r = (b.0, r)
        go false r = r

    fewer : (xs : List SetValue) (n : ℕ) → has_turn xs n ≡ false → has_turn (filter p xs) n ≡ false
    fewer [] n e = refl
    fewer (x ∷ xs) n e =
        let q = or_parts (eqb x.turn n) (has_turn xs n) e in
        go (p x) q.0 (fewer xs n q.1)
      where
        go : (c : Bool) → eqb x.turn n ≡ false → has_turn (filter p xs) n ≡ false → has_turn (cond c (x ∷ filter p xs) (filter p xs)) n ≡ false
        go true f r = rw (f, r) refl
        go false f r = r

    apart : (xs : List SetValue) → AreApart xs → AreApart (filter p xs)
    apart [] a = tt
    apart (x ∷ xs) a = go (p x) (apart xs a.1)
      where
        go : (c : Bool) → AreApart (filter p xs) → AreApart (cond c (x ∷ filter p xs) (filter p xs))
        go true r = (fewer xs x.turn a.0, r)
        go false r = r

-- what becomes of an open set

pub turns_put : (t : ℕ) (ss : List SetValue) (i : ℕ) (new : List SetValue) (n : ℕ) (u : Units) {own : SetValue} → slice_get ss i ≡ Some own
    → At ss i (λ s. new ≡ set ss i (with_piece s n u)) → HaveTurns t ss → HaveTurns t new
turns_put t ss i new n u {own} there put h = subst (HaveTurns t) (sym (put own there)) (turns_set t ss i own (with_piece own n u) there refl h)

pub turns_left : (t : ℕ) (ss : List SetValue) (i : ℕ) (new : List SetValue) {own : SetValue} → i < length ss → slice_get ss i ≡ Some own
    → At ss i (λ s. new ≡ swap_remove ss i s) → HaveTurns t ss → HaveTurns t new
turns_left t ss i new {own} l there gone h = subst (HaveTurns t) (sym (gone own there)) (turns_gone t ss i own there l h)

pub turns_opened : (t u : ℕ) (ss new : List SetValue) (s : SetValue) → u ≡ suc t → new ≡ ss ++ s ∷ [] → s.turn ≡ t → HaveTurns t ss → HaveTurns u new
turns_opened t u ss new s next is turn h =
    subst (λ n. HaveTurns n new) (sym next) (subst (HaveTurns (suc t)) (sym is) (turns_more t ss s turn h))
