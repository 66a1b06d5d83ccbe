-- A piece may stand anywhere among the others.
use Rattle.std.proofs.Common.{◌≡◌, ℕ, suc, Bool, true, false, cond, not, ◌&&◌, ◌||◌, eqb, List, ◌∷◌, ◌++◌, refl, sym, ap, ◌∙◌}
use Rattle.std.proofs.lemmas.Bool.{eqb-true, and_parts, or_parts}
use Rattle.sms_join.specs.declared.key.Key.{Key}
use Rattle.sms_join.specs.Key.{same_key}
use Rattle.sms_join.specs.Piece.{Piece}
use Rattle.sms_join.specs.Joiner.Sets.{has, is_open, opened_at, open_sets, units_at, without}
use Rattle.sms_join.specs.Joiner.Same.{IsSame}
use Rattle.sms_join.proofs.SameKeys.{same_key_refl, same_key_true}
use Rattle.sms_join.proofs.Same.{sets-without}
use Rattle.sms_join.proofs.SetPieces.{has-append, open-append, units-append, opened-append, without-append}

pub sets_open : (ps : List Piece) (k : Key) → is_open ps k ≡ true → open_sets ps ≡ suc (open_sets (without ps k))
sets_open ps k h = let e = sets-without ps k in rw h at e

-- q is p but for its moment, which is that of the set
module _ (p q : Piece) (xs ys : List Piece) (finished : List Key) (key : q.key ≡ p.key) (sequence : q.sequence ≡ p.sequence) (units : q.units ≡ p.units)
    (moment : q.moment ≡ opened_at (p ∷ (xs ++ ys)) p.key) (new : has (xs ++ ys) p.key p.sequence ≡ false) where
  same_place : (k : Key) (n : ℕ) → (same_key q.key k && eqb q.sequence n) ≡ (same_key p.key k && eqb p.sequence n)
  same_place k n = rw (key, sequence) refl

  or_swap : (a b c l : Bool) → l ≡ (a || c) → (a || (b || c)) ≡ (b || l)
  or_swap true true c l e = refl
  or_swap true false c l e = sym e
  or_swap false true c l e = refl
  or_swap false false c l e = sym e

  same_pieces : (k : Key) (n : ℕ) → has (xs ++ q ∷ ys) k n ≡ has (p ∷ (xs ++ ys)) k n
  same_pieces k n =
      has-append xs (q ∷ ys) k n
      ∙ (ap (λ b. has xs k n || (b || has ys k n)) (same_place k n)
      ∙ or_swap (has xs k n) (same_key p.key k && eqb p.sequence n) (has ys k n) (has (xs ++ ys) k n) (has-append xs ys k n))

  same_opened : (k : Key) → is_open (xs ++ q ∷ ys) k ≡ is_open (p ∷ (xs ++ ys)) k
  same_opened k =
      open-append xs (q ∷ ys) k
      ∙ (ap (λ j. is_open xs k || (same_key j k || is_open ys k)) key
      ∙ or_swap (is_open xs k) (same_key p.key k) (is_open ys k) (is_open (xs ++ ys) k) (open-append xs ys k))

  same_units : (k : Key) (n : ℕ) → units_at (xs ++ q ∷ ys) k n ≡ units_at (p ∷ (xs ++ ys)) k n
  same_units k n =
      units-append xs (q ∷ ys) k n
      ∙ (ap (λ b. cond (has xs k n) (units_at xs k n) (cond b q.units (units_at ys k n))) (same_place k n)
      ∙ (go (has xs k n) refl (same_key p.key k && eqb p.sequence n) refl
      ∙ ap (λ u. cond (same_key p.key k && eqb p.sequence n) p.units u) (sym (units-append xs ys k n))))
    where
      none_before : (k : Key) (n : ℕ) → (same_key p.key k && eqb p.sequence n) ≡ true → has xs k n ≡ false
      none_before k n e =
          let t = and_parts (same_key p.key k) (eqb p.sequence n) e in
          let a : p.key ≡ k = same_key_true p.key k t.0 in
          let b : p.sequence ≡ n = eqb-true p.sequence n t.1 in
          let f : (has xs p.key p.sequence || has ys p.key p.sequence) ≡ false = sym (has-append xs ys p.key p.sequence) ∙ new in
          let g : has xs p.key p.sequence ≡ false = (or_parts (has xs p.key p.sequence) (has ys p.key p.sequence) f).0 in
          ap (λ l. has xs l n) (sym a) ∙ (ap (has xs p.key) (sym b) ∙ g)

      go : (a : Bool) → has xs k n ≡ a → (b : Bool) → (same_key p.key k && eqb p.sequence n) ≡ b
          → cond a (units_at xs k n) (cond b q.units (units_at ys k n)) ≡ cond b p.units (cond a (units_at xs k n) (units_at ys k n))
      go a e false f = refl
      go false e true f = units
      go true e true f = let z = none_before k n f in let y : true ≡ false = sym e ∙ z in cc

  same_moments : (k : Key) → opened_at (xs ++ q ∷ ys) k ≡ opened_at (p ∷ (xs ++ ys)) k
  same_moments k =
      opened-append xs (q ∷ ys) k
      ∙ (ap (λ j. cond (same_key j k || is_open ys k) (cond (same_key j k && not (is_open ys k)) q.moment (opened_at ys k)) (opened_at xs k)) key
      ∙ go (same_key p.key k) refl (is_open ys k) refl)
    where
      go : (b : Bool) → same_key p.key k ≡ b → (c : Bool) → is_open ys k ≡ c
          → cond (b || c) (cond (b && not c) q.moment (opened_at ys k)) (opened_at xs k)
          ≡ cond (b && not (is_open (xs ++ ys) k)) p.moment (opened_at (xs ++ ys) k)
      go false e c f = ap (λ v. cond v (opened_at ys k) (opened_at xs k)) (sym f) ∙ sym (opened-append xs ys k)
      go true e true f =
          let a : is_open (xs ++ ys) k ≡ true = open-append xs ys k ∙ (ap (λ v. is_open xs k || v) f ∙ or_true (is_open xs k)) in
          let b : opened_at (xs ++ ys) k ≡ opened_at ys k = opened-append xs ys k ∙ ap (λ v. cond v (opened_at ys k) (opened_at xs k)) f in
          sym (ap (λ v. cond (not v) p.moment (opened_at (xs ++ ys) k)) a ∙ b)
        where
          or_true : (b : Bool) → (b || true) ≡ true
          or_true true = refl
          or_true false = refl
      go true e false f =
          let s : p.key ≡ k = same_key_true p.key k e in
          let m : q.moment ≡ opened_at (p ∷ (xs ++ ys)) k = moment ∙ ap (opened_at (p ∷ (xs ++ ys))) s in
          m ∙ ap (λ v. cond (v && not (is_open (xs ++ ys) k)) p.moment (opened_at (xs ++ ys) k)) e

  same_sets : open_sets (xs ++ q ∷ ys) ≡ open_sets (p ∷ (xs ++ ys))
  same_sets =
      sets_open (xs ++ q ∷ ys) p.key (same_opened p.key ∙ here)
      ∙ (ap (λ l. suc (open_sets l)) (left ∙ sym right) ∙ sym (sets_open (p ∷ (xs ++ ys)) p.key here))
    where
      here : is_open (p ∷ (xs ++ ys)) p.key ≡ true
      here = rw (same_key_refl p.key) refl

      left : without (xs ++ q ∷ ys) p.key ≡ without xs p.key ++ without ys p.key
      left =
          without-append xs (q ∷ ys) p.key
          ∙ ap (λ b. without xs p.key ++ cond b (without ys p.key) (q ∷ without ys p.key))
          (ap (λ j. same_key j p.key) key ∙ same_key_refl p.key)

      right : without (p ∷ (xs ++ ys)) p.key ≡ without xs p.key ++ without ys p.key
      right =
          ap (λ b. cond b (without (xs ++ ys) p.key) (p ∷ without (xs ++ ys) p.key)) (same_key_refl p.key)
          ∙ without-append xs ys p.key

  pub moved_same : IsSame (record { kept = xs ++ q ∷ ys; finished = finished }) (record { kept = p ∷ (xs ++ ys); finished = finished })
  moved_same =
      record {
        pieces = same_pieces;
        units = λ k n t. same_units k n;
        opened = same_opened;
        moments = same_moments;
        sets = same_sets;
        finished = refl;
      }
