-- Joiners that hold the same answer alike, whatever the order in which they keep their pieces.
use Rattle.std.proofs.Common.{◌≡◌, ℕ, suc, Bool, true, false, cond, ◌&&◌, ◌||◌, eqb, List, [], ◌∷◌, take, refl, sym, ap, ◌∙◌, subst, arith}
use Rattle.std.proofs.lemmas.Bool.{or_parts, false_from_ne_true}
use Rattle.sms_join.specs.declared.key.Key.{Key}
use Rattle.sms_join.specs.Key.{same_key}
use Rattle.sms_join.specs.Piece.{Piece}
use Rattle.sms_join.specs.Joiner.Sets.{has, has_all, units_at, units_upto, is_open, opened_at, open_sets, without}
use Rattle.sms_join.specs.Joiner.{Joiner, Answer, Repeat, Kept, Finished, TooManyOpen, answer, answered, offered, decided, is_repeat, is_whole, has_room}
use Rattle.sms_join.specs.Joiner.Same.{IsSame, AnswersAlike}
use Rattle.sms_join.specs.Inside.Slots.{key_eq}
use Rattle.sms_join.proofs.SameKeys.{same_key_refl, same_key_true, key_eq_is}
use Rattle.sms_join.proofs.Sets.{has-without, has-without_same, units_at-without, has_all-same, units_upto-same}

-- holding the same

pub same_refl : (j : Joiner) → IsSame j j
same_refl j = record { pieces = λ k n. refl; units = λ k n t. refl; opened = λ k. refl; moments = λ k. refl; sets = refl; finished = refl }

pub same_trans : (i j k : Joiner) → IsSame i j → IsSame j k → IsSame i k
same_trans i j k g h =
    record {
      pieces = λ l n. g.pieces l n ∙ h.pieces l n;
      units = λ l n t. g.units l n t ∙ h.units l n (sym (g.pieces l n) ∙ t);
      opened = λ l. g.opened l ∙ h.opened l;
      moments = λ l. g.moments l ∙ h.moments l;
      sets = g.sets ∙ h.sets;
      finished = g.finished ∙ h.finished;
    }

-- dropping a set

pub open-without : (ps : List Piece) (k l : Key) → same_key k l ≡ false → is_open (without ps k) l ≡ is_open ps l
open-without [] k l h = refl
open-without (p ∷ ps) k l h = go (same_key p.key k) refl (open-without ps k l h)
  where
    go : (b : Bool) → same_key p.key k ≡ b → is_open (without ps k) l ≡ is_open ps l
        → is_open (cond b (without ps k) (p ∷ without ps k)) l ≡ is_open (p ∷ ps) l
    go false e ih = rw ih refl
    go true e ih =
        let f : same_key p.key l ≡ false = rw (same_key_true p.key k e) h in
        rw (f, ih) refl

pub open-without_same : (ps : List Piece) (k : Key) → is_open (without ps k) k ≡ false
open-without_same [] k = refl
open-without_same (p ∷ ps) k = go (same_key p.key k) refl (open-without_same ps k)
  where
    go : (b : Bool) → same_key p.key k ≡ b → is_open (without ps k) k ≡ false
        → is_open (cond b (without ps k) (p ∷ without ps k)) k ≡ false
    go true e ih = ih
    go false e ih = rw (e, ih) refl

pub opened_at-closed : (ps : List Piece) (k : Key) → is_open ps k ≡ false → opened_at ps k ≡ 0
opened_at-closed [] k h = refl
opened_at-closed (p ∷ ps) k h =
    let q = or_parts (same_key p.key k) (is_open ps k) h in
    rw q.0 (opened_at-closed ps k q.1)

opened_at-without : (ps : List Piece) (k l : Key) → same_key k l ≡ false → opened_at (without ps k) l ≡ opened_at ps l
opened_at-without [] k l h = refl
opened_at-without (p ∷ ps) k l h = go (same_key p.key k) refl (opened_at-without ps k l h)
  where
    go : (b : Bool) → same_key p.key k ≡ b → opened_at (without ps k) l ≡ opened_at ps l
        → opened_at (cond b (without ps k) (p ∷ without ps k)) l ≡ opened_at (p ∷ ps) l
    go false e ih = rw (open-without ps k l h, ih) refl
    go true e ih =
        let f : same_key p.key l ≡ false = rw (same_key_true p.key k e) h in
        rw (f, ih) refl

pub flip : (k l : Key) → same_key k l ≡ false → same_key l k ≡ false
flip k l h = false_from_ne_true _ (λ t.
    let e : same_key k l ≡ true = subst (λ m. same_key k m ≡ true) (sym (same_key_true l k t)) (same_key_refl k) in
    let q : true ≡ false = sym e ∙ h in cc)

same_turned : (k l : Key) → same_key k l ≡ same_key l k
same_turned k l = go (same_key k l) refl
  where
    go : (b : Bool) → same_key k l ≡ b → b ≡ same_key l k
    go false e = sym (flip k l e)
    go true e = sym (subst (λ (m : Key). same_key m k ≡ true) (same_key_true k l e) (same_key_refl k))

-- what `==` answers for keys, in either order
pub key_turned : (k l : Key) → key_eq k l ≡ same_key l k
key_turned k l = key_eq_is k l ∙ same_turned k l

pub sets-without : (ps : List Piece) (k : Key) → open_sets ps ≡ cond (is_open ps k) (suc (open_sets (without ps k))) (open_sets (without ps k))
sets-without [] k = refl
sets-without (p ∷ ps) k = go (same_key p.key k) refl (sets-without ps k)
  where
    go : (b : Bool) → same_key p.key k ≡ b
        → open_sets ps ≡ cond (is_open ps k) (suc (open_sets (without ps k))) (open_sets (without ps k))
        → open_sets (p ∷ ps) ≡ cond (b || is_open ps k) (suc (open_sets (cond b (without ps k) (p ∷ without ps k)))) (open_sets (cond b (without ps k) (p ∷ without ps k)))
    go true e ih = rw (same_key_true p.key k e) (which (is_open ps k) ih)
      where
        which : (c : Bool) → open_sets ps ≡ cond c (suc (open_sets (without ps k))) (open_sets (without ps k))
            → cond c (open_sets ps) (suc (open_sets ps)) ≡ suc (open_sets (without ps k))
        which true h = h
        which false h = ap suc h
    go false e ih = rw (open-without ps k p.key (flip p.key k e)) (which (is_open ps p.key) (is_open ps k) ih)
      where
        which : (c d : Bool) → open_sets ps ≡ cond d (suc (open_sets (without ps k))) (open_sets (without ps k))
            → cond c (open_sets ps) (suc (open_sets ps))
            ≡ cond d (suc (cond c (open_sets (without ps k)) (suc (open_sets (without ps k))))) (cond c (open_sets (without ps k)) (suc (open_sets (without ps k))))
        which true d h = h
        which false true h = ap suc h
        which false false h = ap suc h

sets_same : (ps qs : List Piece) (k : Key) → ((l : Key) → is_open ps l ≡ is_open qs l) → open_sets ps ≡ open_sets qs
    → open_sets (without ps k) ≡ open_sets (without qs k)
sets_same ps qs k o s = go (is_open ps k) refl (sets-without ps k) (sets-without qs k)
  where
    go : (b : Bool) → is_open ps k ≡ b → open_sets ps ≡ cond (is_open ps k) (suc (open_sets (without ps k))) (open_sets (without ps k))
        → open_sets qs ≡ cond (is_open qs k) (suc (open_sets (without qs k))) (open_sets (without qs k))
        → open_sets (without ps k) ≡ open_sets (without qs k)
    go b e f g =
        let f' : open_sets ps ≡ cond b (suc (open_sets (without ps k))) (open_sets (without ps k)) = rw e at f in
        let g' : open_sets qs ≡ cond b (suc (open_sets (without qs k))) (open_sets (without qs k)) = rw (sym (o k) ∙ e) at g in
        which b f' g'
      where
        which : (b : Bool) → open_sets ps ≡ cond b (suc (open_sets (without ps k))) (open_sets (without ps k))
            → open_sets qs ≡ cond b (suc (open_sets (without qs k))) (open_sets (without qs k))
            → open_sets (without ps k) ≡ open_sets (without qs k)
        which true f g = let h : suc (open_sets (without ps k)) ≡ suc (open_sets (without qs k)) = sym f ∙ (s ∙ g) in omega arith
        which false f g = sym f ∙ (s ∙ g)

module _ (i j : Joiner) (o : Piece) (h : IsSame i j) where
  more_pieces : (k : Key) (n : ℕ) → has (o ∷ i.kept) k n ≡ has (o ∷ j.kept) k n
  more_pieces k n = ap (λ b. (same_key o.key k && eqb o.sequence n) || b) (h.pieces k n)

  more_units : (k : Key) (n : ℕ) → has (o ∷ i.kept) k n ≡ true → units_at (o ∷ i.kept) k n ≡ units_at (o ∷ j.kept) k n
  more_units k n t = go (same_key o.key k && eqb o.sequence n) t
    where
      go : (b : Bool) → (b || has i.kept k n) ≡ true → cond b o.units (units_at i.kept k n) ≡ cond b o.units (units_at j.kept k n)
      go true t = refl
      go false t = h.units k n t

  kept_same : IsSame (record { kept = o ∷ i.kept; finished = i.finished }) (record { kept = o ∷ j.kept; finished = j.finished })
  kept_same =
      record {
        pieces = more_pieces;
        units = more_units;
        opened = λ k. ap (λ b. same_key o.key k || b) (h.opened k);
        moments = λ k. rw (h.opened k, h.moments k) refl;
        sets = rw (h.opened o.key, h.sets) refl;
        finished = h.finished;
      }

  finished_same : (remembered : ℕ) → IsSame (record { kept = without i.kept o.key; finished = take remembered (o.key ∷ i.finished) })
      (record { kept = without j.kept o.key; finished = take remembered (o.key ∷ j.finished) })
  finished_same remembered =
      record {
        pieces = λ k n. pieces' k n (same_key o.key k) refl;
        units = λ k n t. units' k n (same_key o.key k) refl t;
        opened = λ k. opened' k (same_key o.key k) refl;
        moments = λ k. moments' k (same_key o.key k) refl;
        sets = sets_same i.kept j.kept o.key h.opened h.sets;
        finished = ap (λ l. take remembered (o.key ∷ l)) h.finished;
      }
    where
      pieces' : (k : Key) (n : ℕ) (b : Bool) → same_key o.key k ≡ b → has (without i.kept o.key) k n ≡ has (without j.kept o.key) k n
      pieces' k n false e = has-without i.kept o.key k n e ∙ (h.pieces k n ∙ sym (has-without j.kept o.key k n e))
      pieces' k n true e =
          subst (λ l. has (without i.kept o.key) l n ≡ has (without j.kept o.key) l n) (same_key_true _ _ e)
          (has-without_same i.kept o.key n ∙ sym (has-without_same j.kept o.key n))

      units' : (k : Key) (n : ℕ) (b : Bool) → same_key o.key k ≡ b → has (without i.kept o.key) k n ≡ true
          → units_at (without i.kept o.key) k n ≡ units_at (without j.kept o.key) k n
      units' k n false e t =
          units_at-without i.kept o.key k n e
          ∙ (h.units k n (sym (has-without i.kept o.key k n e) ∙ t) ∙ sym (units_at-without j.kept o.key k n e))
      units' k n true e t =
          let z = subst (λ l. has (without i.kept o.key) l n ≡ false) (same_key_true _ _ e) (has-without_same i.kept o.key n) in
          let q : true ≡ false = sym t ∙ z in cc

      opened' : (k : Key) (b : Bool) → same_key o.key k ≡ b → is_open (without i.kept o.key) k ≡ is_open (without j.kept o.key) k
      opened' k false e = open-without i.kept o.key k e ∙ (h.opened k ∙ sym (open-without j.kept o.key k e))
      opened' k true e =
          subst (λ l. is_open (without i.kept o.key) l ≡ is_open (without j.kept o.key) l) (same_key_true _ _ e)
          (open-without_same i.kept o.key ∙ sym (open-without_same j.kept o.key))

      moments' : (k : Key) (b : Bool) → same_key o.key k ≡ b → opened_at (without i.kept o.key) k ≡ opened_at (without j.kept o.key) k
      moments' k false e = opened_at-without i.kept o.key k e ∙ (h.moments k ∙ sym (opened_at-without j.kept o.key k e))
      moments' k true e =
          subst (λ l. opened_at (without i.kept o.key) l ≡ opened_at (without j.kept o.key) l) (same_key_true _ _ e)
          (opened_at-closed (without i.kept o.key) o.key (open-without_same i.kept o.key)
          ∙ sym (opened_at-closed (without j.kept o.key) o.key (open-without_same j.kept o.key)))

  answers_same : (open_max : ℕ) → answer open_max i o ≡ answer open_max j o
  unfolding answer decided is_repeat is_whole has_room
  answers_same open_max =
      rw (h.finished, h.pieces o.key o.sequence, has_all-same (o ∷ i.kept) (o ∷ j.kept) o.key o.maximum (more_pieces o.key), h.opened o.key, h.sets)
      (go (is_repeat j o) (has_all (o ∷ j.kept) o.key o.maximum) refl (has_room open_max j o))
    where
      go : (p w : Bool) → has_all (o ∷ j.kept) o.key o.maximum ≡ w → (r : Bool)
          → decided p w r (units_upto (o ∷ i.kept) o.key o.maximum) ≡ decided p w r (units_upto (o ∷ j.kept) o.key o.maximum)
      go true w e r = refl
      go false true e r =
          ap Finished (units_upto-same (o ∷ i.kept) (o ∷ j.kept) o.key o.maximum (more_units o.key) (has_all-same (o ∷ i.kept) (o ∷ j.kept) o.key o.maximum (more_pieces o.key) ∙ e))
      go false false e true = refl
      go false false e false = refl

  answered_same : (remembered : ℕ) (g : Answer) → IsSame (answered remembered i o g) (answered remembered j o g)
  unfolding answered
  answered_same remembered Repeat = h
  answered_same remembered Kept = kept_same
  answered_same remembered (Finished us) = finished_same remembered
  answered_same remembered TooManyOpen = h

pub answers_alike : AnswersAlike
unfolding offered
answers_alike open_max remembered i j o h = (
  answers_same i j o h open_max,
  subst (λ g. IsSame (answered remembered i o (answer open_max i o)) (answered remembered j o g)) (answers_same i j o h open_max)
      (answered_same i j o h remembered (answer open_max i o)),
)
