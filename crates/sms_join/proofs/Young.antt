-- What an aging leaves of the sets.
use Rattle.std.proofs.Common.{◌≡◌, ℕ, zero, suc, ◌+◌, ◌≤◌, Bool, true, false, cond, not, ◌&&◌, ◌||◌, eqb, leb, ltb, List, [], ◌∷◌, length, refl, sym, ap, ◌∙◌, subst, arith}
use Rattle.std.proofs.lemmas.Bool.{false_from_ne_true, ltb-true}
use Rattle.sms_join.specs.declared.key.Key.{Key}
use Rattle.sms_join.specs.Key.{same_key}
use Rattle.sms_join.specs.Piece.{Piece}
use Rattle.sms_join.specs.Joiner.Sets.{has, units_at, units_upto, is_open, opened_at, open_sets, without}
use Rattle.sms_join.specs.Joiner.{Joiner, is_repeat, is_whole, has_room, decided, answer, answered, offered}
use Rattle.sms_join.specs.Joiner.Same.{IsSame}
use Rattle.sms_join.specs.Joiner.Aging.{is_old, young, aged, AgesAlike, SetsStayFew}
use Rattle.sms_join.proofs.SameKeys.{same_key_refl, same_key_true}
use Rattle.sms_join.proofs.Same.{open-without, open-without_same, opened_at-closed, sets-without}

-- a set that is dropped is another one than a set that is not
apart : (old : Key → Bool) (k l : Key) → old k ≡ true → old l ≡ false → same_key k l ≡ false
apart old k l a b = false_from_ne_true _ (λ t.
    let z : old l ≡ true = subst (λ m. old m ≡ true) (same_key_true k l t) a in
    let q : true ≡ false = sym z ∙ b in cc)

apart_back : (old : Key → Bool) (k l : Key) → old k ≡ false → old l ≡ true → same_key k l ≡ false
apart_back old k l a b = false_from_ne_true _ (λ t.
    let z : old l ≡ false = subst (λ m. old m ≡ false) (same_key_true k l t) a in
    let q : true ≡ false = sym b ∙ z in cc)

module _ (old : Key → Bool) (k : Key) where
  pub has-young : (ps : List Piece) (n : ℕ) → old k ≡ false → has (young old ps) k n ≡ has ps k n
  has-young [] n h = refl
  has-young (p ∷ ps) n h = go (old p.key) refl (has-young ps n h)
    where
      go : (b : Bool) → old p.key ≡ b → has (young old ps) k n ≡ has ps k n
          → has (cond b (young old ps) (p ∷ young old ps)) k n ≡ ((same_key p.key k && eqb p.sequence n) || has ps k n)
      go false e ih = ap (λ b. (same_key p.key k && eqb p.sequence n) || b) ih
      go true e ih = rw (apart old p.key k e h) ih

  pub has-gone : (ps : List Piece) (n : ℕ) → old k ≡ true → has (young old ps) k n ≡ false
  has-gone [] n h = refl
  has-gone (p ∷ ps) n h = go (old p.key) refl (has-gone ps n h)
    where
      go : (b : Bool) → old p.key ≡ b → has (young old ps) k n ≡ false → has (cond b (young old ps) (p ∷ young old ps)) k n ≡ false
      go true e ih = ih
      go false e ih = rw (apart_back old p.key k e h, ih) refl

  pub units_at-young : (ps : List Piece) (n : ℕ) → old k ≡ false → units_at (young old ps) k n ≡ units_at ps k n
  units_at-young [] n h = refl
  units_at-young (p ∷ ps) n h = go (old p.key) refl (units_at-young ps n h)
    where
      go : (b : Bool) → old p.key ≡ b → units_at (young old ps) k n ≡ units_at ps k n
          → units_at (cond b (young old ps) (p ∷ young old ps)) k n ≡ cond (same_key p.key k && eqb p.sequence n) p.units (units_at ps k n)
      go false e ih = ap (cond (same_key p.key k && eqb p.sequence n) p.units) ih
      go true e ih = rw (apart old p.key k e h) ih

  pub open-young : (ps : List Piece) → old k ≡ false → is_open (young old ps) k ≡ is_open ps k
  open-young [] h = refl
  open-young (p ∷ ps) h = go (old p.key) refl (open-young ps h)
    where
      go : (b : Bool) → old p.key ≡ b → is_open (young old ps) k ≡ is_open ps k
          → is_open (cond b (young old ps) (p ∷ young old ps)) k ≡ (same_key p.key k || is_open ps k)
      go false e ih = ap (λ b. same_key p.key k || b) ih
      go true e ih = rw (apart old p.key k e h) ih

  pub open-gone : (ps : List Piece) → old k ≡ true → is_open (young old ps) k ≡ false
  open-gone [] h = refl
  open-gone (p ∷ ps) h = go (old p.key) refl (open-gone ps h)
    where
      go : (b : Bool) → old p.key ≡ b → is_open (young old ps) k ≡ false → is_open (cond b (young old ps) (p ∷ young old ps)) k ≡ false
      go true e ih = ih
      go false e ih = rw (apart_back old p.key k e h, ih) refl

  pub opened_at-young : (ps : List Piece) → old k ≡ false → opened_at (young old ps) k ≡ opened_at ps k
  opened_at-young [] h = refl
  opened_at-young (p ∷ ps) h = go (old p.key) refl (opened_at-young ps h)
    where
      go : (b : Bool) → old p.key ≡ b → opened_at (young old ps) k ≡ opened_at ps k
          → opened_at (cond b (young old ps) (p ∷ young old ps)) k ≡ cond (same_key p.key k && not (is_open ps k)) p.moment (opened_at ps k)
      go false e ih = rw (open-young ps h, ih) refl
      go true e ih = rw (apart old p.key k e h) ih

-- ---- how many sets are open

length-without : (ps : List Piece) (k : Key) → length (without ps k) ≤ length ps
length-without [] k = omega arith
length-without (p ∷ ps) k = go (same_key p.key k) (length-without ps k)
  where
    go : (b : Bool) → length (without ps k) ≤ length ps → length (cond b (without ps k) (p ∷ without ps k)) ≤ suc (length ps)
    go true ih = omega arith
    go false ih = omega arith

open-without_both : (ps qs : List Piece) (k l : Key) → is_open ps l ≡ is_open qs l → is_open (without ps k) l ≡ is_open (without qs k) l
open-without_both ps qs k l e = go (same_key k l) refl
  where
    go : (b : Bool) → same_key k l ≡ b → is_open (without ps k) l ≡ is_open (without qs k) l
    go false d = open-without ps k l d ∙ (e ∙ sym (open-without qs k l d))
    go true d =
        subst (λ m. is_open (without ps k) m ≡ is_open (without qs k) m) (same_key_true k l d)
        (open-without_same ps k ∙ sym (open-without_same qs k))

none_open : (qs : List Piece) → ((k : Key) → false ≡ is_open qs k) → 0 ≡ open_sets qs
none_open [] h = refl
none_open (q ∷ qs) h =
    let e : is_open (q ∷ qs) q.key ≡ true = rw (same_key_refl q.key) refl in
    let z : false ≡ true = h q.key ∙ e in cc

-- where the same sets are open, as many are
sets_alike : (n : ℕ) (ps qs : List Piece) → length ps ≤ n → ((k : Key) → is_open ps k ≡ is_open qs k) → open_sets ps ≡ open_sets qs
sets_alike n [] qs le h = none_open qs h
sets_alike zero (p ∷ ps) qs le h = absurd (omega arith)
sets_alike (suc n) (p ∷ ps) qs le h =
    let here : is_open (p ∷ ps) p.key ≡ true = rw (same_key_refl p.key) refl in
    let there : is_open qs p.key ≡ true = sym (h p.key) ∙ here in
    let shorter = length-without ps p.key in
    let rest : without (p ∷ ps) p.key ≡ without ps p.key = rw (same_key_refl p.key) refl in
    let ih : open_sets (without ps p.key) ≡ open_sets (without qs p.key) =
    sets_alike n (without ps p.key) (without qs p.key) (omega arith)
    (λ k. ap (λ l. is_open l k) (sym rest) ∙ open-without_both (p ∷ ps) qs p.key k (h k)) in
    let one : open_sets (p ∷ ps) ≡ suc (open_sets (without ps p.key)) =
    sets-without (p ∷ ps) p.key ∙ (ap (λ b. cond b (suc (open_sets (without (p ∷ ps) p.key))) (open_sets (without (p ∷ ps) p.key))) here
    ∙ ap (λ l. suc (open_sets l)) rest) in
    let other : open_sets qs ≡ suc (open_sets (without qs p.key)) =
    sets-without qs p.key ∙ ap (λ b. cond b (suc (open_sets (without qs p.key))) (open_sets (without qs p.key))) there in
    one ∙ (ap suc ih ∙ sym other)

without_fewer : (ps : List Piece) (k : Key) → open_sets (without ps k) ≤ open_sets ps
without_fewer ps k = go (is_open ps k) (sets-without ps k)
  where
    go : (b : Bool) → open_sets ps ≡ cond b (suc (open_sets (without ps k))) (open_sets (without ps k)) → open_sets (without ps k) ≤ open_sets ps
    go true e = omega arith
    go false e = omega arith

young_fewer : (old : Key → Bool) (ps : List Piece) → open_sets (young old ps) ≤ open_sets ps
young_fewer old [] = omega arith
young_fewer old (p ∷ ps) = go (old p.key) refl (is_open ps p.key) refl (young_fewer old ps)
  where
    go : (b : Bool) → old p.key ≡ b → (c : Bool) → is_open ps p.key ≡ c → open_sets (young old ps) ≤ open_sets ps
        → open_sets (cond b (young old ps) (p ∷ young old ps)) ≤ cond c (open_sets ps) (suc (open_sets ps))
    go true e true f ih = ih
    go true e false f ih = omega arith
    go false e true f ih = let y = open-young old p.key ps e ∙ f in rw y ih
    go false e false f ih = let y = open-young old p.key ps e ∙ f in rw y (omega arith)

offer_few : (open_max remembered : ℕ) (j : Joiner) (p : Piece) → open_sets j.kept ≤ open_max → open_sets (offered open_max remembered j p).kept ≤ open_max
unfolding offered answer answered decided has_room
offer_few open_max remembered j p few =
    go (is_repeat j p) (is_whole j p) (is_open j.kept p.key) refl (ltb (open_sets j.kept) open_max) refl
  where
    fewer : open_sets (without j.kept p.key) ≤ open_sets j.kept
    fewer = without_fewer j.kept p.key

    go : (a b : Bool) → (c : Bool) → is_open j.kept p.key ≡ c → (d : Bool) → ltb (open_sets j.kept) open_max ≡ d
        → open_sets (answered remembered j p (decided a b (c || d) (units_upto (p ∷ j.kept) p.key p.maximum))).kept ≤ open_max
    go true b c x d y = few
    go false true c x d y = let f = fewer in omega arith
    go false false true x d y = rw x few
    go false false false x true y = let l = ltb-true (open_sets j.kept) open_max y in rw x (omega arith)
    go false false false x false y = few

pub sets_stay_few : SetsStayFew
unfolding aged
sets_stay_few = (offer_few, (λ now j. young_fewer (is_old now j.kept) j.kept))

-- ---- joiners that hold the same

module _ (now : ℕ) (i j : Joiner) (h : IsSame i j) where
  old_same : (k : Key) → is_old now i.kept k ≡ is_old now j.kept k
  old_same k =
      ap (λ b. b && leb (opened_at i.kept k + 604800) now) (h.opened k)
      ∙ ap (λ n. is_open j.kept k && leb (n + 604800) now) (h.moments k)

  pieces_same : (k : Key) (n : ℕ) → has (young (is_old now i.kept) i.kept) k n ≡ has (young (is_old now j.kept) j.kept) k n
  pieces_same k n = go (is_old now i.kept k) refl
    where
      go : (b : Bool) → is_old now i.kept k ≡ b → has (young (is_old now i.kept) i.kept) k n ≡ has (young (is_old now j.kept) j.kept) k n
      go false e = has-young (is_old now i.kept) k i.kept n e ∙ (h.pieces k n ∙ sym (has-young (is_old now j.kept) k j.kept n (sym (old_same k) ∙ e)))
      go true e = has-gone (is_old now i.kept) k i.kept n e ∙ sym (has-gone (is_old now j.kept) k j.kept n (sym (old_same k) ∙ e))

  units_same : (k : Key) (n : ℕ) → has (young (is_old now i.kept) i.kept) k n ≡ true
      → units_at (young (is_old now i.kept) i.kept) k n ≡ units_at (young (is_old now j.kept) j.kept) k n
  units_same k n t = go (is_old now i.kept k) refl
    where
      go : (b : Bool) → is_old now i.kept k ≡ b → units_at (young (is_old now i.kept) i.kept) k n ≡ units_at (young (is_old now j.kept) j.kept) k n
      go false e =
          units_at-young (is_old now i.kept) k i.kept n e
          ∙ (h.units k n (sym (has-young (is_old now i.kept) k i.kept n e) ∙ t) ∙ sym (units_at-young (is_old now j.kept) k j.kept n (sym (old_same k) ∙ e)))
      go true e = let z = has-gone (is_old now i.kept) k i.kept n e in let q : true ≡ false = sym t ∙ z in cc

  opened_same : (k : Key) → is_open (young (is_old now i.kept) i.kept) k ≡ is_open (young (is_old now j.kept) j.kept) k
  opened_same k = go (is_old now i.kept k) refl
    where
      go : (b : Bool) → is_old now i.kept k ≡ b → is_open (young (is_old now i.kept) i.kept) k ≡ is_open (young (is_old now j.kept) j.kept) k
      go false e = open-young (is_old now i.kept) k i.kept e ∙ (h.opened k ∙ sym (open-young (is_old now j.kept) k j.kept (sym (old_same k) ∙ e)))
      go true e = open-gone (is_old now i.kept) k i.kept e ∙ sym (open-gone (is_old now j.kept) k j.kept (sym (old_same k) ∙ e))

  moments_same : (k : Key) → opened_at (young (is_old now i.kept) i.kept) k ≡ opened_at (young (is_old now j.kept) j.kept) k
  moments_same k = go (is_old now i.kept k) refl
    where
      go : (b : Bool) → is_old now i.kept k ≡ b → opened_at (young (is_old now i.kept) i.kept) k ≡ opened_at (young (is_old now j.kept) j.kept) k
      go false e = opened_at-young (is_old now i.kept) k i.kept e ∙ (h.moments k ∙ sym (opened_at-young (is_old now j.kept) k j.kept (sym (old_same k) ∙ e)))
      go true e =
          opened_at-closed (young (is_old now i.kept) i.kept) k (open-gone (is_old now i.kept) k i.kept e)
          ∙ sym (opened_at-closed (young (is_old now j.kept) j.kept) k (open-gone (is_old now j.kept) k j.kept (sym (old_same k) ∙ e)))

  aged_same : IsSame (aged now i) (aged now j)
  unfolding aged
  aged_same =
      record {
        pieces = pieces_same;
        units = units_same;
        opened = opened_same;
        moments = moments_same;
        sets = sets_alike (length (young (is_old now i.kept) i.kept)) (young (is_old now i.kept) i.kept) (young (is_old now j.kept) j.kept) (omega arith) opened_same;
        finished = h.finished;
      }

pub ages_alike : AgesAlike
ages_alike now i j h = aged_same now i j h
