-- Open sets of which the old ones are dropped.
use Rattle.std.proofs.Common.{◌≡◌, ℕ, ◌+◌, Bool, true, false, cond, not, ◌&&◌, leb, List, [], ◌∷◌, ◌++◌, refl, sym, ap, ◌∙◌, subst}
use Rattle.std.proofs.lemmas.Bool.{or_parts}
use Rattle.std.proofs.lemmas.List.{append_assoc}
use Rattle.std.specs.List.{filter}
use Rattle.sms_join.specs.declared.age.Age.{Age}
use Rattle.sms_join.specs.declared.key.Key.{Key}
use Rattle.sms_join.specs.declared.units.Units.{Units}
use Rattle.sms_join.specs.Key.{same_key, maximum_of}
use Rattle.sms_join.specs.Piece.{Piece}
use Rattle.sms_join.specs.Joiner.Sets.{opened_at}
use Rattle.sms_join.specs.Joiner.Aging.{is_old_after, young}
use Rattle.sms_join.specs.OpenSets.{SetValue, AreOpen, pieces_with, pieces_in, all_pieces, has_set}
use Rattle.sms_join.proofs.Outcomes.{between}
use Rattle.sms_join.proofs.OneSet.{open_of, opened_of}

-- the set may stay open
abbrev pub stays : Age → SetValue → Bool
stays age s = not (leb (s.opened + age.longest) age.now)

abbrev Agree : (Key → Bool) → Age → List SetValue → Type 0
Agree old age [] = Unit {0}
Agree old age (s ∷ ss) = (old s.key ≡ leb (s.opened + age.longest) age.now) × Agree old age ss

young_set : (old : Key → Bool) (k : Key) (opened : ℕ) (ns : List ℕ) (us : List Units) (rest : List Piece)
    → young old (pieces_with k opened ns us ++ rest) ≡ cond (old k) (young old rest) (pieces_with k opened ns us ++ young old rest)
young_set old k opened [] us rest = go (old k)
  where
    go : (b : Bool) → young old rest ≡ cond b (young old rest) (young old rest)
    go true = refl
    go false = refl
young_set old k opened (n ∷ ns) [] rest = go (old k)
  where
    go : (b : Bool) → young old rest ≡ cond b (young old rest) (young old rest)
    go true = refl
    go false = refl
young_set old k opened (n ∷ ns) (u ∷ us) rest = go (old k) (young_set old k opened ns us rest)
  where
    go : (b : Bool) → young old (pieces_with k opened ns us ++ rest) ≡ cond b (young old rest) (pieces_with k opened ns us ++ young old rest)
        → cond b (young old (pieces_with k opened ns us ++ rest)) (record { key = k; maximum = maximum_of k; sequence = n; units = u; moment = opened } ∷ young old (pieces_with k opened ns us ++ rest))
        ≡ cond b (young old rest) (record { key = k; maximum = maximum_of k; sequence = n; units = u; moment = opened } ∷ (pieces_with k opened ns us ++ young old rest))
    go true ih = ih
    go false ih = ap (λ l. record { key = k; maximum = maximum_of k; sequence = n; units = u; moment = opened } ∷ l) ih

young_sets : (old : Key → Bool) (age : Age) (ss : List SetValue) → Agree old age ss → young old (all_pieces ss) ≡ all_pieces (filter (stays age) ss)
young_sets old age [] h = refl
young_sets old age (s ∷ ss) h =
    young_set old s.key s.opened s.sequences s.units (all_pieces ss) ∙ (ap (λ b. cond b (young old (all_pieces ss)) (pieces_in s ++ young old (all_pieces ss))) h.0
    ∙ go (leb (s.opened + age.longest) age.now) (young_sets old age ss h.1))
  where
    go : (b : Bool) → young old (all_pieces ss) ≡ all_pieces (filter (stays age) ss)
        → cond b (young old (all_pieces ss)) (pieces_in s ++ young old (all_pieces ss))
        ≡ all_pieces (cond (not b) (s ∷ filter (stays age) ss) (filter (stays age) ss))
    go true ih = ih
    go false ih = ap (λ l. pieces_in s ++ l) ih

agree : (age : Age) (ls ss : List SetValue) → AreOpen (ls ++ ss) → Agree (is_old_after age.longest age.now (all_pieces (ls ++ ss))) age ss
agree age ls [] o = tt
agree age ls (s ∷ ss) o = (
  (let b = between ls s ss o in
      ap (λ v. v && leb (opened_at (all_pieces (ls ++ s ∷ ss)) s.key + age.longest) age.now) (open_of ls s ss b.open_set.is_set.as_many b.open_set.some)
      ∙ ap (λ n. leb (n + age.longest) age.now) (opened_of ls s ss b.before b.after b.open_set.is_set.as_many b.open_set.some)),
  subst (λ l. Agree (is_old_after age.longest age.now (all_pieces l)) age ss) same (agree age (ls ++ s ∷ []) ss (subst AreOpen (sym same) o)),
)
  where
    same : (ls ++ s ∷ []) ++ ss ≡ ls ++ s ∷ ss
    same = append_assoc ls (s ∷ []) ss

-- what is kept are the pieces of the sets that may stay open
pub sets_age : (age : Age) (ss : List SetValue) → AreOpen ss → all_pieces (filter (stays age) ss) ≡ young (is_old_after age.longest age.now (all_pieces ss)) (all_pieces ss)
sets_age age ss o = sym (young_sets (is_old_after age.longest age.now (all_pieces ss)) age ss (agree age [] ss o))

has_fewer : (t : SetValue → Bool) (ss : List SetValue) (k : Key) → has_set ss k ≡ false → has_set (filter t ss) k ≡ false
has_fewer t [] k h = refl
has_fewer t (s ∷ ss) k h =
    let q = or_parts (same_key s.key k) (has_set ss k) h in
    go (t s) q.0 (has_fewer t ss k q.1)
  where
    go : (b : Bool) → same_key s.key k ≡ false → has_set (filter t ss) k ≡ false → has_set (cond b (s ∷ filter t ss) (filter t ss)) k ≡ false
    go true e ih = rw (e, ih) refl
    go false e ih = ih

pub still_open : (t : SetValue → Bool) (ss : List SetValue) → AreOpen ss → AreOpen (filter t ss)
still_open t [] o = tt
still_open t (s ∷ ss) o = go (t s) (still_open t ss o.2)
  where
    go : (b : Bool) → AreOpen (filter t ss) → AreOpen (cond b (s ∷ filter t ss) (filter t ss))
    go true ih = (o.0, has_fewer t ss s.key o.1, ih)
    go false ih = ih
