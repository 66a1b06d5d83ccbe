-- What a joiner holds under the key of an open text: just the pieces of that text.
use Rattle.std.proofs.Common.{◌≡◌, ℕ, Bool, true, false, cond, not, ◌&&◌, ◌||◌, eqb, List, [], ◌∷◌, map, take, refl, sym, ap, ◌∙◌, subst}
use Rattle.std.proofs.lemmas.Bool.{eqb-true, eq-eqb, eqb-false, ne_eqb, and_parts, or_right, false_from_ne_true}
use Rattle.sms_join.specs.declared.key.Key.{Key}
use Rattle.sms_join.specs.Key.{same_key}
use Rattle.sms_join.specs.Joiner.Sets.{has, units_at, without}
use Rattle.sms_join.specs.Joiner.{is_among}
use Rattle.sms_join.specs.Arrivals.{Arrival, has_text, Texts, AllOf, has_piece, is_done, completed, open_pieces, is_listed}
use Rattle.sms_join.specs.Arrivals.Joining.{is_clear}
use Rattle.sms_join.proofs.SameKeys.{same_key_refl, same_key_true}
use Rattle.sms_join.proofs.Arrived.{or_absorbs, listed_done, listed-of_take}

-- what the premise says of each text with the key of a
pub record Clear (remembered : ℕ) (size : ℕ → ℕ) (all : List Arrival) (t : ℕ) : Type 0 where
  pub done : is_done size all t ≡ true
  pub unlisted : is_listed (take remembered (completed size all)) t ≡ false

clear_here : (remembered : ℕ) (size : ℕ → ℕ) (all : List Arrival) (b : Arrival) (bs : List Arrival) (a : Arrival)
    → is_clear remembered size all (b ∷ bs) a ≡ true → same_key b.piece.key a.piece.key ≡ true → eqb b.text a.text ≡ false
    → Clear remembered size all b.text
clear_here remembered size all b bs a h k n =
    let p = and_parts (not (same_key b.piece.key a.piece.key)
    || (eqb b.text a.text
    || (is_done size all b.text && not (is_listed (take remembered (completed size all)) b.text)))) (is_clear remembered size all bs a) h in
    let q : (is_done size all b.text && not (is_listed (take remembered (completed size all)) b.text)) ≡ true = rw (k, n) at p.0 in
    let r = and_parts (is_done size all b.text) (not (is_listed (take remembered (completed size all)) b.text)) q in
    record { done = r.0; unlisted = from_not (is_listed (take remembered (completed size all)) b.text) r.1 }
  where
    from_not : (x : Bool) → not x ≡ true → x ≡ false
    from_not true h = sym h
    from_not false h = refl

clear_later : (remembered : ℕ) (size : ℕ → ℕ) (all : List Arrival) (b : Arrival) (bs : List Arrival) (a : Arrival)
    → is_clear remembered size all (b ∷ bs) a ≡ true → is_clear remembered size all bs a ≡ true
clear_later remembered size all b bs a h =
    (and_parts (not (same_key b.piece.key a.piece.key)
    || (eqb b.text a.text
    || (is_done size all b.text && not (is_listed (take remembered (completed size all)) b.text)))) (is_clear remembered size all bs a) h).1

pub clear_text : (remembered : ℕ) (x : Texts) (all bs : List Arrival) (a : Arrival) (t : ℕ) → AllOf x bs
    → is_clear remembered x.size all bs a ≡ true → has_text bs t ≡ true → x.key t ≡ a.piece.key → eqb t a.text ≡ false
    → Clear remembered x.size all t
clear_text remembered x all [] a t o h f k n = cc
clear_text remembered x all (b ∷ bs) a t o h f k n = go (eqb b.text t) refl f (clear_text remembered x all bs a t o.1 (clear_later remembered x.size all b bs a h))
  where
    go : (c : Bool) → eqb b.text t ≡ c → (c || has_text bs t) ≡ true
        → (has_text bs t ≡ true → x.key t ≡ a.piece.key → eqb t a.text ≡ false → Clear remembered x.size all t)
        → Clear remembered x.size all t
    go false e f ih = ih f k n
    go true e f ih =
        let same : b.text ≡ t = eqb-true b.text t e in
        let key : b.piece.key ≡ a.piece.key = o.0.key ∙ (ap x.key same ∙ k) in
        let keys : same_key b.piece.key a.piece.key ≡ true = rw key (same_key_refl a.piece.key) in
        let differ : eqb b.text a.text ≡ false = rw same n in
        subst (Clear remembered x.size all) same (clear_here remembered x.size all b bs a h keys differ)

-- the pieces of the text t are just those that the joiner holds under its key
pub record Around (remembered : ℕ) (x : Texts) (all : List Arrival) (a : Arrival) : Type 0 where
  pub is_key : x.key a.text ≡ a.piece.key
  pub unfinished : is_done x.size all a.text ≡ false

pub held_same : (remembered : ℕ) (x : Texts) (all bs : List Arrival) (a : Arrival) (n : ℕ) → AllOf x bs
    → is_clear remembered x.size all bs a ≡ true → Around remembered x all a
    → has (open_pieces x.size all bs) a.piece.key n ≡ has_piece bs a.text n
held_same remembered x all [] a n o h r = refl
held_same remembered x all (b ∷ bs) a n o h r =
    go (has_piece bs b.text b.piece.sequence) refl (is_done x.size all b.text) refl (eqb b.text a.text) refl
    (held_same remembered x all bs a n o.1 (clear_later remembered x.size all b bs a h) r)
  where
    go : (p : Bool) → has_piece bs b.text b.piece.sequence ≡ p → (d : Bool) → is_done x.size all b.text ≡ d
        → (c : Bool) → eqb b.text a.text ≡ c
        → has (open_pieces x.size all bs) a.piece.key n ≡ has_piece bs a.text n
        → has (cond (p || d) (open_pieces x.size all bs) (b.piece ∷ open_pieces x.size all bs)) a.piece.key n
        ≡ ((c && eqb b.piece.sequence n) || has_piece bs a.text n)
    -- a repeated piece
    go true e d f false g ih = ih
    go true e d f true g ih =
        ih ∙ sym (or_absorbs (eqb b.piece.sequence n) (has_piece bs a.text n)
        (λ q. ap (has_piece bs a.text) (sym (eqb-true _ _ q))
        ∙ (ap (λ u. has_piece bs u b.piece.sequence) (sym (eqb-true _ _ g)) ∙ e)))
    -- a piece of a text that is done
    go false e true f false g ih = ih
    go false e true f true g ih =
        let same : b.text ≡ a.text = eqb-true _ _ g in
        let z : is_done x.size all b.text ≡ false = rw same r.unfinished in
        cc
    -- a piece that is held
    go false e false f true g ih =
        let same : b.text ≡ a.text = eqb-true _ _ g in
        let key : b.piece.key ≡ a.piece.key = o.0.key ∙ (ap x.key same ∙ r.is_key) in
        let keys : same_key b.piece.key a.piece.key ≡ true = rw key (same_key_refl a.piece.key) in
        rw (keys, ih) refl
    go false e false f false g ih = which (same_key b.piece.key a.piece.key) refl
      where
        which : (s : Bool) → same_key b.piece.key a.piece.key ≡ s
            → ((s && eqb b.piece.sequence n) || has (open_pieces x.size all bs) a.piece.key n) ≡ has_piece bs a.text n
        which false s = ih
        which true s = let c = clear_here remembered x.size all b bs a h s g in let z = c.done in cc

pub held_units : (remembered : ℕ) (x : Texts) (all bs : List Arrival) (a : Arrival) (n : ℕ) → AllOf x bs
    → is_clear remembered x.size all bs a ≡ true → Around remembered x all a
    → has_piece bs a.text n ≡ true → units_at (open_pieces x.size all bs) a.piece.key n ≡ x.units a.text n
held_units remembered x all [] a n o h r t = cc
held_units remembered x all (b ∷ bs) a n o h r t =
    go (has_piece bs b.text b.piece.sequence) refl (is_done x.size all b.text) refl (eqb b.text a.text) refl t
    (held_units remembered x all bs a n o.1 (clear_later remembered x.size all b bs a h) r)
  where
    go : (p : Bool) → has_piece bs b.text b.piece.sequence ≡ p → (d : Bool) → is_done x.size all b.text ≡ d
        → (c : Bool) → eqb b.text a.text ≡ c
        → ((c && eqb b.piece.sequence n) || has_piece bs a.text n) ≡ true
        → (has_piece bs a.text n ≡ true → units_at (open_pieces x.size all bs) a.piece.key n ≡ x.units a.text n)
        → units_at (cond (p || d) (open_pieces x.size all bs) (b.piece ∷ open_pieces x.size all bs)) a.piece.key n
        ≡ x.units a.text n
    go true e d f false g t ih = ih t
    go true e d f true g t ih =
        ih (sym (or_absorbs (eqb b.piece.sequence n) (has_piece bs a.text n)
        (λ q. ap (has_piece bs a.text) (sym (eqb-true _ _ q))
        ∙ (ap (λ u. has_piece bs u b.piece.sequence) (sym (eqb-true _ _ g)) ∙ e))) ∙ t)
    go false e true f false g t ih = ih t
    go false e true f true g t ih =
        let same : b.text ≡ a.text = eqb-true _ _ g in
        let z : is_done x.size all b.text ≡ false = rw same r.unfinished in
        cc
    go false e false f true g t ih = which (eqb b.piece.sequence n) refl t
      where
        same : b.text ≡ a.text
        same = eqb-true _ _ g

        key : b.piece.key ≡ a.piece.key
        key = o.0.key ∙ (ap x.key same ∙ r.is_key)

        keys : same_key b.piece.key a.piece.key ≡ true
        keys = rw key (same_key_refl a.piece.key)

        which : (s : Bool) → eqb b.piece.sequence n ≡ s → (s || has_piece bs a.text n) ≡ true
            → units_at (b.piece ∷ open_pieces x.size all bs) a.piece.key n ≡ x.units a.text n
        which true s t = rw (keys, s) (o.0.units ∙ (ap (λ u. x.units u b.piece.sequence) same ∙ ap (x.units a.text) (eqb-true _ _ s)))
        which false s t = rw (keys, s) (ih t)
    go false e false f false g t ih = which (same_key b.piece.key a.piece.key) refl
      where
        which : (s : Bool) → same_key b.piece.key a.piece.key ≡ s
            → cond (s && eqb b.piece.sequence n) b.piece.units (units_at (open_pieces x.size all bs) a.piece.key n) ≡ x.units a.text n
        which false s = ih t
        which true s = let c = clear_here remembered x.size all b bs a h s g in let z = c.done in cc

-- when the text is done, its pieces go and the others stay
pub held_without : (remembered : ℕ) (x : Texts) (all all' bs : List Arrival) (a : Arrival) → AllOf x bs
    → is_clear remembered x.size all bs a ≡ true → Around remembered x all a
    → is_done x.size all' a.text ≡ true
    → ((u : ℕ) → eqb a.text u ≡ false → is_done x.size all' u ≡ is_done x.size all u)
    → without (open_pieces x.size all bs) a.piece.key ≡ open_pieces x.size all' bs
held_without remembered x all all' [] a o h r d s = refl
held_without remembered x all all' (b ∷ bs) a o h r d s =
    go (has_piece bs b.text b.piece.sequence) refl (is_done x.size all b.text) refl (eqb b.text a.text) refl
    (held_without remembered x all all' bs a o.1 (clear_later remembered x.size all b bs a h) r d s)
  where
    go : (p : Bool) → has_piece bs b.text b.piece.sequence ≡ p → (d' : Bool) → is_done x.size all b.text ≡ d'
        → (c : Bool) → eqb b.text a.text ≡ c
        → without (open_pieces x.size all bs) a.piece.key ≡ open_pieces x.size all' bs
        → without (cond (p || d') (open_pieces x.size all bs) (b.piece ∷ open_pieces x.size all bs)) a.piece.key
        ≡ cond (p || is_done x.size all' b.text) (open_pieces x.size all' bs) (b.piece ∷ open_pieces x.size all' bs)
    go true e d' f c g ih = ih
    go false e d' f true g ih = which d' f
      where
        same : b.text ≡ a.text
        same = eqb-true _ _ g

        now : is_done x.size all' b.text ≡ true
        now = rw same d

        key : b.piece.key ≡ a.piece.key
        key = o.0.key ∙ (ap x.key same ∙ r.is_key)

        keys : same_key b.piece.key a.piece.key ≡ true
        keys = rw key (same_key_refl a.piece.key)

        which : (v : Bool) → is_done x.size all b.text ≡ v
            → without (cond v (open_pieces x.size all bs) (b.piece ∷ open_pieces x.size all bs)) a.piece.key
            ≡ cond (is_done x.size all' b.text) (open_pieces x.size all' bs) (b.piece ∷ open_pieces x.size all' bs)
        which true f = rw now ih
        which false f = rw (now, keys) ih
    go false e true f false g ih = rw (s b.text (other g) ∙ f) ih
      where
        other : eqb b.text a.text ≡ false → eqb a.text b.text ≡ false
        other g = ne_eqb a.text b.text (λ e. eqb-false _ _ g (sym e))
    go false e false f false g ih = rw (s b.text (other g) ∙ f) (which (same_key b.piece.key a.piece.key) refl)
      where
        other : eqb b.text a.text ≡ false → eqb a.text b.text ≡ false
        other g = ne_eqb a.text b.text (λ e. eqb-false _ _ g (sym e))

        which : (v : Bool) → same_key b.piece.key a.piece.key ≡ v
            → cond v (without (open_pieces x.size all bs) a.piece.key) (b.piece ∷ without (open_pieces x.size all bs) a.piece.key)
            ≡ b.piece ∷ open_pieces x.size all' bs
        which false v = ap (λ l. b.piece ∷ l) ih
        which true v = let c = clear_here remembered x.size all b bs a h v g in let z = c.done in cc

not_among : (key : ℕ → Key) (k : Key) (us : List ℕ) → ((u : ℕ) → is_listed us u ≡ true → same_key (key u) k ≡ false)
    → is_among (map key us) k ≡ false
not_among key k [] h = refl
not_among key k (u ∷ us) h =
    let e : same_key (key u) k ≡ false = h u (rw (eq-eqb u u refl) refl) in
    rw (e, not_among key k us (λ v l. h v (or_right (eqb u v) (is_listed us v) l))) refl

-- a text that is not done is not remembered either
pub not_remembered : (remembered : ℕ) (x : Texts) (past : List Arrival) (a : Arrival) → AllOf x past
    → is_clear remembered x.size past past a ≡ true → is_done x.size past a.text ≡ false
    → is_among (map x.key (take remembered (completed x.size past))) a.piece.key ≡ false
not_remembered remembered x past a o h n =
    not_among x.key a.piece.key (take remembered (completed x.size past)) (λ u l. false_from_ne_true _ (λ s. no u l (same_key_true _ _ s)))
  where
    no : (u : ℕ) → is_listed (take remembered (completed x.size past)) u ≡ true → x.key u ≡ a.piece.key → ⊥
    no u l k =
        let p = listed_done x.size past u (listed-of_take remembered (completed x.size past) u l) in
        let d : eqb u a.text ≡ false = false_from_ne_true (eqb u a.text) (λ e.
        let s : u ≡ a.text = eqb-true u a.text e in
        let z : is_done x.size past u ≡ false = rw s n in
        let y = p.0 in
        let q : true ≡ false = sym y ∙ z in cc) in
        let c = clear_text remembered x past past a u o h p.1 k d in
        let y = c.unlisted in
        let q : true ≡ false = sym l ∙ y in cc
