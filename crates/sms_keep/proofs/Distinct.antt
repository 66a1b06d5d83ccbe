-- Keys of a joiner are saved apart.
use Rattle.std.proofs.Common.{◌≡◌, ℕ, ◌<◌, ◌⊎◌, inl, inr, Bool, true, false, ◌||◌, List, [], ◌∷◌, ◌++◌, map, length, refl, sym, ap, subst, ◌∙◌, arith}
use Rattle.std.proofs.lemmas.Bool.{false_from_ne_true}
use Rattle.std.proofs.lemmas.List.{map-append}
use Rattle.std.specs.List.{AllByRecursion}
use Rattle.std.specs.Str.{bytes_eq}
use Rattle.sms_join.specs.declared.key.Key.{Key}
use Rattle.sms_join.specs.declared.units.Units.{Units}
use Rattle.sms_join.specs.Key.{same_key}
use Rattle.sms_join.specs.Piece.{Piece}
use Rattle.sms_join.specs.Joiner.{is_among as is_remembered}
use Rattle.sms_join.specs.Joiner.Sets.{is_open}
use Rattle.sms_join.specs.OpenSets.{SetValue, AreOpen, has_set, pieces_in, pieces_with, all_pieces}
use Rattle.sms_join.specs.Gateway.Distinct.{NoneTwice, AreDistinct}
use Rattle.sms_join.specs.Gateway.Value.{GatewayValue}
use Rattle.sms_saved.specs.declared.state.Key.{Key as SavedKey}
use Rattle.sms_saved.specs.declared.state.Remembered.{Remembered as SavedFinishing}
use Rattle.sms_saved.specs.Fits.{is_among, AreApart, KeyFits, set_keys, remembered_keys}
use Rattle.sms_saved.specs.Spelling.{key}
use Rattle.sms_keep.specs.Saved.{saved_key, saved_set, saved_finishings}
use Rattle.sms_keep.specs.Inside.Saving.{KeyIsSound}
use Rattle.sms_keep.proofs.SameKeys.{bytes_true, bytes_refl, same_key_refl}
use Rattle.sms_keep.proofs.Apart.{among_right}
use Rattle.sms_keep.proofs.OneSaved.{one_key}

-- ---- lists of octets

-- none stands twice
abbrev pub Distinct : List (List ℕ) → Type 0
Distinct [] = Unit {0}
Distinct (x ∷ xs) = (is_among xs x ≡ false) × Distinct xs

-- none is in both
abbrev pub AreDisjoint : List (List ℕ) → List (List ℕ) → Type 0
AreDisjoint xs ys = (t : List ℕ) → is_among xs t ≡ true → is_among ys t ≡ true → ⊥

among_parts : (xs ys : List (List ℕ)) (t : List ℕ) → is_among (xs ++ ys) t ≡ true → (is_among xs t ≡ true) ⊎ (is_among ys t ≡ true)
among_parts [] ys t h = inr h
among_parts (x ∷ xs) ys t h = by (bytes_eq t x) (is_among xs t) (is_among (xs ++ ys) t) h (among_parts xs ys t) where
  by : (a b c : Bool) → (a || c) ≡ true → (c ≡ true → (b ≡ true) ⊎ (is_among ys t ≡ true)) → ((a || b) ≡ true) ⊎ (is_among ys t ≡ true)
  by true b c h f = inl refl
  by false b c h f = f h

among_one : (x t : List ℕ) → is_among (x ∷ []) t ≡ true → x ≡ t
among_one x t h = by (bytes_eq t x) refl h where
  by : (b : Bool) → bytes_eq t x ≡ b → (b || false) ≡ true → x ≡ t
  by true e h = sym (bytes_true t x e)
  by false e h = absurd cc

among_first : (x : List ℕ) (xs : List (List ℕ)) → is_among (x ∷ xs) x ≡ true
among_first x xs = ap (λ (b : Bool). b || is_among xs x) (bytes_refl x)

pub apart_from : (before texts : List (List ℕ)) → Distinct texts → AreDisjoint before texts → AreApart before texts
apart_from before [] d n = tt
apart_from before (x ∷ texts) d n = (
  false_from_ne_true _ (λ h. n x h (among_first x texts)),
  apart_from (before ++ x ∷ []) texts d.1 (λ t h k. by t k (among_parts before (x ∷ []) t h)),
) where
  by : (t : List ℕ) → is_among texts t ≡ true → (is_among before t ≡ true) ⊎ (is_among (x ∷ []) t ≡ true) → ⊥
  by t k (inl h) = n t h (among_right (x ∷ []) texts t k)
  by t k (inr h) =
      let same : x ≡ t = among_one x t h in
      let there : is_among texts x ≡ true = ap (is_among texts) same ∙ k in
      let none : is_among texts x ≡ false = d.0 in
      absurd cc

distinct_both : (xs ys : List (List ℕ)) → Distinct xs → Distinct ys → AreDisjoint xs ys → Distinct (xs ++ ys)
distinct_both [] ys a b n = b
distinct_both (x ∷ xs) ys a b n = (
  false_from_ne_true _ (λ h. by (among_parts xs ys x h)),
  distinct_both xs ys a.1 b (λ t h k. n t (among_right (x ∷ []) xs t h) k),
) where
  by : (is_among xs x ≡ true) ⊎ (is_among ys x ≡ true) → ⊥
  by (inl h) = let none : is_among xs x ≡ false = a.0 in absurd cc
  by (inr h) = n x (among_first x xs) h

-- ---- keys

-- keys that have the same octets are the same
abbrev pub HaveOwnOctets : Type 0
HaveOwnOctets = (a b : SavedKey) (x y : List ℕ) → KeyFits a → KeyFits b → key a ++ x ≡ key b ++ y → (a ≡ b) × (x ≡ y)

one_of_octets : HaveOwnOctets → (k l : Key) → KeyIsSound k → KeyIsSound l → bytes_eq (key (saved_key l)) (key (saved_key k)) ≡ true → k ≡ l
one_of_octets law k l a b h =
    one_key k l a.spelled b.spelled
    (law (saved_key k) (saved_key l) [] [] a.fits b.fits (ap (λ (o : List ℕ). o ++ []) (sym (bytes_true (key (saved_key l)) (key (saved_key k)) h)))).0

same_of_octets : HaveOwnOctets → (k l : Key) → KeyIsSound k → KeyIsSound l → bytes_eq (key (saved_key l)) (key (saved_key k)) ≡ true → same_key k l ≡ true
same_of_octets law k l a b h = ap (same_key k) (sym (one_of_octets law k l a b h)) ∙ same_key_refl k

or_both : (a b c d : Bool) → (a ≡ true → c ≡ true) → (b ≡ true → d ≡ true) → (a || b) ≡ true → (c || d) ≡ true
or_both true b true d f g h = refl
or_both true b false d f g h = absurd (let e : false ≡ true = f refl in cc)
or_both false b true d f g h = refl
or_both false b false d f g h = g h

among_has : HaveOwnOctets → (ss : List SetValue) (k : Key) → AllByRecursion (λ s. KeyIsSound s.key) ss → KeyIsSound k
    → is_among (set_keys (map saved_set ss)) (key (saved_key k)) ≡ true → has_set ss k ≡ true
among_has law [] k all own h = absurd cc
among_has law (s ∷ ss) k all own h =
    or_both (bytes_eq (key (saved_key k)) (key (saved_key s.key))) (is_among (set_keys (map saved_set ss)) (key (saved_key k))) (same_key s.key k) (has_set ss k)
    (same_of_octets law s.key k all.0 own) (among_has law ss k all.1 own) h

sets_distinct : HaveOwnOctets → (ss : List SetValue) → AllByRecursion (λ s. KeyIsSound s.key) ss → AreOpen ss → Distinct (set_keys (map saved_set ss))
sets_distinct law [] all are = tt
sets_distinct law (s ∷ ss) all are = (
  false_from_ne_true _ (λ h.
      let there : has_set ss s.key ≡ true = among_has law ss s.key all.1 all.0 h in
      let none : has_set ss s.key ≡ false = are.1 in
      absurd cc),
  sets_distinct law ss all.1 are.2,
)

keys_more : (ks : List Key) (ms : List ℕ) (k : Key) (m : ℕ) → remembered_keys (saved_finishings (k ∷ ks) (m ∷ ms)) ≡ remembered_keys (saved_finishings ks ms) ++ key (saved_key k) ∷ []
keys_more ks ms k m = map-append (λ (q : SavedFinishing). key q.key) (saved_finishings ks ms) (record { key = saved_key k; moment = m } ∷ [])

pub among_finished : HaveOwnOctets → (ks : List Key) (ms : List ℕ) (k : Key) → AllByRecursion KeyIsSound ks → KeyIsSound k
    → is_among (remembered_keys (saved_finishings ks ms)) (key (saved_key k)) ≡ true → is_remembered ks k ≡ true
among_finished law [] ms k all own h = absurd cc
among_finished law (x ∷ ks) [] k all own h = absurd cc
among_finished law (x ∷ ks) (m ∷ ms) k all own h =
    by (among_finished law ks ms k all.1 own)
    (among_parts (remembered_keys (saved_finishings ks ms)) (key (saved_key x) ∷ []) (key (saved_key k)) (sym (ap (λ (l : List (List ℕ)). is_among l (key (saved_key k))) (keys_more ks ms x m)) ∙ h))
  where
    right : (a b : Bool) → b ≡ true → (a || b) ≡ true
    right true b e = refl
    right false b e = e

    by : (is_among (remembered_keys (saved_finishings ks ms)) (key (saved_key k)) ≡ true → is_remembered ks k ≡ true)
        → (is_among (remembered_keys (saved_finishings ks ms)) (key (saved_key k)) ≡ true) ⊎ (is_among (key (saved_key x) ∷ []) (key (saved_key k)) ≡ true) → is_remembered (x ∷ ks) k ≡ true
    by rest (inl h) = right (same_key x k) (is_remembered ks k) (rest h)
    by rest (inr h) =
        let e : bytes_eq (key (saved_key k)) (key (saved_key x)) ≡ true = ap (λ o. bytes_eq o (key (saved_key x))) (sym (among_one (key (saved_key x)) (key (saved_key k)) h)) ∙ bytes_refl (key (saved_key x)) in
        ap (λ (b : Bool). b || is_remembered ks k) (same_of_octets law x k all.0 own e)

pub finished_distinct : HaveOwnOctets → (ks : List Key) (ms : List ℕ) → AllByRecursion KeyIsSound ks → NoneTwice ks → Distinct (remembered_keys (saved_finishings ks ms))
finished_distinct law [] ms all once = tt
finished_distinct law (k ∷ ks) [] all once = tt
finished_distinct law (k ∷ ks) (m ∷ ms) all once =
    subst Distinct (sym (keys_more ks ms k m))
    (distinct_both (remembered_keys (saved_finishings ks ms)) (key (saved_key k) ∷ []) (finished_distinct law ks ms all.1 once.1) (refl, tt)
    (λ t h j.
    let same : key (saved_key k) ≡ t = among_one (key (saved_key k)) t j in
    let there : is_remembered ks k ≡ true = among_finished law ks ms k all.1 all.0 (ap (is_among (remembered_keys (saved_finishings ks ms))) same ∙ h) in
    let none : is_remembered ks k ≡ false = once.0 in
    absurd cc))

-- ---- a set is open by its pieces

open_left : (ps qs : List Piece) (k : Key) → is_open qs k ≡ true → is_open (ps ++ qs) k ≡ true
open_left [] qs k h = h
open_left (p ∷ ps) qs k h = by (same_key p.key k) (is_open (ps ++ qs) k) (open_left ps qs k h) where
  by : (a b : Bool) → b ≡ true → (a || b) ≡ true
  by true b e = refl
  by false b e = e

open_here : (k : Key) (opened : ℕ) (ns : List ℕ) (us : List Units) (more : List Piece) → length us ≡ length ns → 0 < length ns → is_open (pieces_with k opened ns us ++ more) k ≡ true
open_here k opened [] us more e l = absurd (omega (arith, l))
open_here k opened (n ∷ ns) [] more e l = absurd (omega (arith, e))
open_here k opened (n ∷ ns) (u ∷ us) more e l = ap (λ (b : Bool). b || is_open (pieces_with k opened ns us ++ more) k) (same_key_refl k)

-- the key of octets among those of the sets
record IsSetKey (ss : List SetValue) (t : List ℕ) : Type 0 where
  own : Key
  sound : KeyIsSound own
  octets : key (saved_key own) ≡ t
  open_there : is_open (all_pieces ss) own ≡ true

set_key_of : (ss : List SetValue) (t : List ℕ) → AllByRecursion (λ s. KeyIsSound s.key) ss → AreOpen ss → is_among (set_keys (map saved_set ss)) t ≡ true → IsSetKey ss t
set_key_of [] t all are h = absurd cc
set_key_of (s ∷ ss) t all are h = by (bytes_eq t (key (saved_key s.key))) refl (set_key_of ss t all.1 are.2) where
  by : (b : Bool) → bytes_eq t (key (saved_key s.key)) ≡ b → (is_among (set_keys (map saved_set ss)) t ≡ true → IsSetKey ss t) → IsSetKey (s ∷ ss) t
  by true e rest =
      record {
        own = s.key;
        sound = all.0;
        octets = sym (bytes_true t (key (saved_key s.key)) e);
        open_there = open_here s.key s.opened s.sequences s.units (all_pieces ss) are.0.is_set.as_many are.0.some;
      }
  by false e rest =
      let more = rest (sym (ap (λ (b : Bool). b || is_among (set_keys (map saved_set ss)) t) e) ∙ h) in
      record { own = more.own; sound = more.sound; octets = more.octets; open_there = open_left (pieces_in s) (all_pieces ss) more.own more.open_there }

-- no key twice
pub joiner_apart : HaveOwnOctets → (g : GatewayValue) → AllByRecursion (λ s. KeyIsSound s.key) g.told → AllByRecursion KeyIsSound g.holds.finished → AreOpen g.told
    → all_pieces g.told ≡ g.holds.kept → AreDistinct g.holds
    → AreApart [] (set_keys (map saved_set g.told) ++ remembered_keys (saved_finishings g.holds.finished g.finishings))
joiner_apart law g sets keys are pieces distinct =
    let S : List (List ℕ) = set_keys (map saved_set g.told) in
    let R : List (List ℕ) = remembered_keys (saved_finishings g.holds.finished g.finishings) in
    apart_from [] (S ++ R)
    (distinct_both S R (sets_distinct law g.told sets are) (finished_distinct law g.holds.finished g.finishings keys distinct.once)
    (λ t h j.
    let own = set_key_of g.told t sets are h in
    let there : is_remembered g.holds.finished own.own ≡ true = among_finished law g.holds.finished g.finishings own.own keys own.sound (ap (is_among R) own.octets ∙ j) in
    let none : is_remembered g.holds.finished own.own ≡ false = distinct.closed own.own (ap (λ ps. is_open ps own.own) (sym pieces) ∙ own.open_there) in
    absurd cc))
    (λ t h j. absurd cc)
