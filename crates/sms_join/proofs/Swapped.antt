-- The sets may stand in any order: the last takes the place of one that goes.
use Rattle.std.proofs.Common.{◌≡◌, ℕ, zero, suc, ◌-◌, ◌<◌, ◌⊎◌, inl, inr, Bool, true, false, cond, ◌||◌, List, [], ◌∷◌, ◌++◌, take, drop, length, get_or, refl, sym, ap, ◌∙◌, subst, arith, length-append}
use Rattle.std.proofs.Math.ListN.{set}
use Rattle.std.proofs.lemmas.List.{append-nil, drop_all}
use Rattle.std.specs.List.{remove, swap_remove}
use Rattle.sms_join.specs.declared.key.Key.{Key}
use Rattle.sms_join.specs.Key.{same_key}
use Rattle.sms_join.specs.Piece.{Piece}
use Rattle.sms_join.specs.Joiner.Sets.{has, is_open, opened_at, open_sets, units_at}
use Rattle.sms_join.specs.Joiner.Same.{IsSame}
use Rattle.sms_join.specs.OpenSets.{SetValue, AreOpen, all_pieces, pieces_in, has_set}
use Rattle.sms_join.proofs.SameKeys.{same_key_true}
use Rattle.sms_join.proofs.Same.{opened_at-closed, same_refl}
use Rattle.sms_join.proofs.SetPieces.{has-append, open-append, units-append, opened-append, all-append, has_set-append, closed_has, other_closed, others_closed}
use Rattle.sms_join.proofs.OneSet.{sets_count}
use Rattle.sms_join.proofs.Outcomes.{joiner_of, between, are_open_without}
use Rattle.sms_join.proofs.Places.{split_at}

or_turned : (a b : Bool) → (a || b) ≡ (b || a)
or_turned true true = refl
or_turned true false = refl
or_turned false true = refl
or_turned false false = refl

-- two blocks of pieces that have no key in common, in either order
module _ (xs ys zs : List Piece) (apart : (k : Key) → (is_open ys k ≡ false) ⊎ (is_open zs k ≡ false)) where
  apart_has : (k : Key) (n : ℕ) → (has ys k n ≡ false) ⊎ (has zs k n ≡ false)
  apart_has k n = elim (apart k) [
    | inl h ↦ inl (closed_has ys k n h)
    | inr h ↦ inr (closed_has zs k n h)
  ]

  turned_pieces : (k : Key) (n : ℕ) → has (xs ++ (ys ++ zs)) k n ≡ has (xs ++ (zs ++ ys)) k n
  turned_pieces k n =
      has-append xs (ys ++ zs) k n
      ∙ (ap (λ b. has xs k n || b) (has-append ys zs k n ∙ (or_turned (has ys k n) (has zs k n) ∙ sym (has-append zs ys k n)))
      ∙ sym (has-append xs (zs ++ ys) k n))

  turned_opened : (k : Key) → is_open (ys ++ zs) k ≡ is_open (zs ++ ys) k
  turned_opened k = open-append ys zs k ∙ (or_turned (is_open ys k) (is_open zs k) ∙ sym (open-append zs ys k))

  turned_units : (k : Key) (n : ℕ) → has (xs ++ (ys ++ zs)) k n ≡ true → units_at (xs ++ (ys ++ zs)) k n ≡ units_at (xs ++ (zs ++ ys)) k n
  turned_units k n t =
      units-append xs (ys ++ zs) k n
      ∙ (ap (λ u. cond (has xs k n) (units_at xs k n) u) (units-append ys zs k n)
      ∙ (go (has xs k n) (has ys k n) (has zs k n) (apart_has k n) (sym (has-append xs (ys ++ zs) k n ∙ ap (λ b. has xs k n || b) (has-append ys zs k n)) ∙ t)
      ∙ (ap (λ u. cond (has xs k n) (units_at xs k n) u) (sym (units-append zs ys k n)) ∙ sym (units-append xs (zs ++ ys) k n))))
    where
      go : (a b c : Bool) → (b ≡ false) ⊎ (c ≡ false) → (a || (b || c)) ≡ true
          → cond a (units_at xs k n) (cond b (units_at ys k n) (units_at zs k n)) ≡ cond a (units_at xs k n) (cond c (units_at zs k n) (units_at ys k n))
      go true b c e t = refl
      go false true false e t = refl
      go false false true e t = refl
      go false false false e t = cc
      go false true true (inl e) t = cc
      go false true true (inr e) t = cc

  turned_moments : (k : Key) → opened_at (ys ++ zs) k ≡ opened_at (zs ++ ys) k
  turned_moments k = opened-append ys zs k ∙ (go (is_open ys k) refl (is_open zs k) refl (apart k) ∙ sym (opened-append zs ys k))
    where
      go : (b : Bool) → is_open ys k ≡ b → (c : Bool) → is_open zs k ≡ c → (b ≡ false) ⊎ (c ≡ false)
          → cond c (opened_at zs k) (opened_at ys k) ≡ cond b (opened_at ys k) (opened_at zs k)
      go true e false f a = refl
      go false e true f a = refl
      go false e false f a = opened_at-closed ys k e ∙ sym (opened_at-closed zs k f)
      go true e true f (inl a) = cc
      go true e true f (inr a) = cc

  turned_same : (finished : List Key) → open_sets (xs ++ (ys ++ zs)) ≡ open_sets (xs ++ (zs ++ ys))
      → IsSame (record { kept = xs ++ (ys ++ zs); finished = finished }) (record { kept = xs ++ (zs ++ ys); finished = finished })
  turned_same finished count =
      record {
        pieces = turned_pieces;
        units = turned_units;
        opened = λ k. open-append xs (ys ++ zs) k ∙ (ap (λ b. is_open xs k || b) (turned_opened k) ∙ sym (open-append xs (zs ++ ys) k));
        moments = λ k.
            opened-append xs (ys ++ zs) k
            ∙ (ap (λ b. cond b (opened_at (ys ++ zs) k) (opened_at xs k)) (turned_opened k)
            ∙ (ap (λ m. cond (is_open (zs ++ ys) k) m (opened_at xs k)) (turned_moments k) ∙ sym (opened-append xs (zs ++ ys) k)));
        sets = count;
        finished = refl;
      }

-- the last set stands ahead of others
turned_open : (ls ys : List SetValue) (t : SetValue) → AreOpen (ls ++ (ys ++ t ∷ [])) → AreOpen (ls ++ t ∷ ys)
turned_open [] ys t h =
    let b = between ys t [] h in
    (b.open_set, b.before, subst AreOpen (append-nil ys) (are_open_without ys t [] h))
turned_open (l ∷ ls) ys t h = (h.0, other, turned_open ls ys t h.2)
  where
    turn : (a b c : Bool) → (a || (b || c)) ≡ (a || (c || (b || false)))
    turn true b c = refl
    turn false true true = refl
    turn false true false = refl
    turn false false true = refl
    turn false false false = refl

    other : has_set (ls ++ t ∷ ys) l.key ≡ false
    other =
        has_set-append ls (t ∷ ys) l.key
        ∙ (turn (has_set ls l.key) (same_key t.key l.key) (has_set ys l.key)
        ∙ (ap (λ b. has_set ls l.key || b) (sym (has_set-append ys (t ∷ []) l.key))
        ∙ (sym (has_set-append ls (ys ++ t ∷ []) l.key) ∙ h.1)))

turned_sets : (ls ys : List SetValue) (t : SetValue) (ks : List Key) → AreOpen (ls ++ (ys ++ t ∷ []))
    → IsSame (joiner_of (ls ++ t ∷ ys) ks) (joiner_of (ls ++ (ys ++ t ∷ [])) ks)
turned_sets ls ys t ks h =
    subst (λ (l : List Piece). IsSame (record { kept = l; finished = ks }) (joiner_of (ls ++ (ys ++ t ∷ [])) ks)) (sym left)
    (subst (λ (l : List Piece). IsSame (record { kept = all_pieces ls ++ (pieces_in t ++ all_pieces ys); finished = ks }) (record { kept = l; finished = ks })) (sym right)
    (turned_same (all_pieces ls) (pieces_in t) (all_pieces ys) apart ks count))
  where
    ahead : AreOpen (ls ++ t ∷ ys)
    ahead = turned_open ls ys t h

    left : all_pieces (ls ++ t ∷ ys) ≡ all_pieces ls ++ (pieces_in t ++ all_pieces ys)
    left = all-append ls (t ∷ ys)

    right : all_pieces (ls ++ (ys ++ t ∷ [])) ≡ all_pieces ls ++ (all_pieces ys ++ pieces_in t)
    right =
        all-append ls (ys ++ t ∷ [])
        ∙ ap (λ l. all_pieces ls ++ l) (all-append ys (t ∷ []) ∙ ap (λ l. all_pieces ys ++ l) (append-nil (pieces_in t)))

    as_long : length (ls ++ t ∷ ys) ≡ length (ls ++ (ys ++ t ∷ []))
    as_long = omega (arith, length-append ls (t ∷ ys), length-append ls (ys ++ t ∷ []), length-append ys (t ∷ []))

    count : open_sets (all_pieces ls ++ (pieces_in t ++ all_pieces ys)) ≡ open_sets (all_pieces ls ++ (all_pieces ys ++ pieces_in t))
    count =
        ap open_sets (sym left)
        ∙ (sets_count (ls ++ t ∷ ys) ahead ∙ (as_long ∙ (sym (sets_count (ls ++ (ys ++ t ∷ [])) h) ∙ ap open_sets right)))

    apart : (k : Key) → (is_open (pieces_in t) k ≡ false) ⊎ (is_open (all_pieces ys) k ≡ false)
    apart k = go (same_key t.key k) refl
      where
        go : (b : Bool) → same_key t.key k ≡ b → (is_open (pieces_in t) k ≡ false) ⊎ (is_open (all_pieces ys) k ≡ false)
        go false e = inl (other_closed t.key k t.opened t.sequences t.units e)
        go true e = inr (others_closed ys k (ap (has_set ys) (sym (same_key_true t.key k e)) ∙ (between ls t ys ahead).after))

-- the last of those after an index stands there
pub record Moves (ss : List SetValue) (i : ℕ) (ts : List SetValue) : Type 0 where
  pub last : SetValue
  pub others : List SetValue
  pub after : drop (suc i) ss ≡ others ++ last ∷ []
  pub is : ts ≡ take i ss ++ last ∷ others

pub last_moves : (ss : List SetValue) (i n : ℕ) (d : SetValue) → suc n ≡ length ss → i < length ss
    → ((drop (suc i) ss ≡ []) × (take n (set ss i (get_or ss n d)) ≡ take i ss)) ⊎ Moves ss i (take n (set ss i (get_or ss n d)))
last_moves [] i n d e l = absurd (omega arith)
last_moves (x ∷ []) zero zero d e l = inl (refl, refl)
last_moves (x ∷ []) zero (suc n) d e l = absurd (omega arith)
last_moves (x ∷ y ∷ ys) zero zero d e l = absurd (omega arith)
last_moves (x ∷ y ∷ ys) zero (suc n) d e l =
    inr (record {
      last = get_or (y ∷ ys) n d;
      others = take n (y ∷ ys);
      after = split_at (y ∷ ys) n d (omega arith) ∙ ap (λ r. take n (y ∷ ys) ++ get_or (y ∷ ys) n d ∷ r) (drop_all (suc n) (y ∷ ys) (omega arith));
      is = refl;
    })
last_moves (x ∷ xs) (suc i) zero d e l = absurd (omega arith)
last_moves (x ∷ xs) (suc i) (suc n) d e l = elim (last_moves xs i n d (omega arith) (omega arith)) [
  | inl h ↦ inl (h.0, ap (λ r. x ∷ r) h.1)
  | inr m ↦ inr (record { last = m.last; others = m.others; after = m.after; is = ap (λ r. x ∷ r) m.is })
]

-- what is left, as if the others had kept their order
pub record Left (ss : List SetValue) (i : ℕ) (ks : List Key) (ts : List SetValue) : Type 0 where
  pub are_open : AreOpen ts
  pub same : IsSame (joiner_of ts ks) (joiner_of (remove ss i) ks)

pub swapped : (ss : List SetValue) (i : ℕ) (d : SetValue) (ks : List Key) → i < length ss → AreOpen (remove ss i) → Left ss i ks (swap_remove ss i d)
swapped ss i d ks l o = elim (last_moves ss i (length ss - 1) d (omega arith) l) [
  | inl h ↦
      let e : remove ss i ≡ swap_remove ss i d = ap (λ r. take i ss ++ r) h.0 ∙ (append-nil (take i ss) ∙ sym h.1) in
      subst (Left ss i ks) e (record { are_open = o; same = same_refl (joiner_of (remove ss i) ks) })
  | inr m ↦
      let e : remove ss i ≡ take i ss ++ (m.others ++ m.last ∷ []) = ap (λ r. take i ss ++ r) m.after in
      let h : AreOpen (take i ss ++ (m.others ++ m.last ∷ [])) = subst AreOpen e o in
      subst (Left ss i ks) (sym m.is) (record {
        are_open = turned_open (take i ss) m.others m.last h;
        same =
            subst (λ (r : List SetValue). IsSame (joiner_of (take i ss ++ m.last ∷ m.others) ks) (joiner_of r ks)) (sym e)
            (turned_sets (take i ss) m.others m.last ks h);
      })
]
