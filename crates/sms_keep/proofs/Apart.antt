-- Keys that stand once among a state's are not yet among a joiner's.
use Rattle.std.proofs.Common.{◌≡◌, ℕ, Bool, true, false, ◌||◌, List, [], ◌∷◌, ◌++◌, map, length, refl, sym, ap, subst, ◌∙◌, append_assoc, arith}
use Rattle.std.proofs.lemmas.Bool.{false_from_ne_true}
use Rattle.std.proofs.lemmas.List.{append-nil, map-append}
use Rattle.std.specs.Str.{bytes_eq}
use Rattle.sms_join.specs.declared.key.Key.{Key}
use Rattle.sms_join.specs.Key.{same_key}
use Rattle.sms_join.specs.Joiner.{is_among as is_remembered}
use Rattle.sms_join.specs.OpenSets.{SetValue, has_set}
use Rattle.sms_saved.specs.declared.state.Remembered.{Remembered as SavedFinishing}
use Rattle.sms_saved.specs.Fits.{is_among, AreApart, set_keys, remembered_keys}
use Rattle.sms_saved.specs.Spelling.{key}
use Rattle.sms_saved.specs.Value.{SetValue as SavedSet}
use Rattle.sms_keep.specs.Saved.{saved_key, saved_set, saved_finishings}
use Rattle.sms_keep.specs.Held.{unnumbered}
use Rattle.sms_keep.proofs.SameKeys.{bytes_true, bytes_refl, same_key_true}

-- ---- lists of octets

pub among_left : (xs ys : List (List ℕ)) (t : List ℕ) → is_among xs t ≡ true → is_among (xs ++ ys) t ≡ true
among_left [] ys t h = absurd cc
among_left (x ∷ xs) ys t h = left_of (bytes_eq t x) (is_among xs t) (is_among (xs ++ ys) t) (among_left xs ys t) h where
  left_of : (a b c : Bool) → (b ≡ true → c ≡ true) → (a || b) ≡ true → (a || c) ≡ true
  left_of true b c f e = refl
  left_of false b c f e = f e

pub among_right : (xs ys : List (List ℕ)) (t : List ℕ) → is_among ys t ≡ true → is_among (xs ++ ys) t ≡ true
among_right [] ys t h = h
among_right (x ∷ xs) ys t h = right_of (bytes_eq t x) (is_among (xs ++ ys) t) (among_right xs ys t h) where
  right_of : (a b : Bool) → b ≡ true → (a || b) ≡ true
  right_of true b e = refl
  right_of false b e = e

among_last : (xs : List (List ℕ)) (t : List ℕ) → is_among (xs ++ t ∷ []) t ≡ true
among_last xs t = among_right xs (t ∷ []) t (ap (λ (b : Bool). b || false) (bytes_refl t))

-- a list that stands once is not among those before it
pub apart_here : (before front : List (List ℕ)) (own : List ℕ) (rest : List (List ℕ)) → AreApart before (front ++ own ∷ rest) → is_among (before ++ front) own ≡ false
apart_here before [] own rest h = subst (λ (l : List (List ℕ)). is_among l own ≡ false) (sym (append-nil before)) h.0
apart_here before (f ∷ front) own rest h =
    subst (λ (l : List (List ℕ)). is_among l own ≡ false) (append_assoc before (f ∷ []) front)
    (apart_here (before ++ f ∷ []) front own rest h.1)

-- nor among those after it
none_after : (before texts : List (List ℕ)) (t : List ℕ) → is_among before t ≡ true → AreApart before texts → is_among texts t ≡ true → ⊥
none_after before [] t h a k = absurd cc
none_after before (x ∷ texts) t h a k =
    by (bytes_eq t x) refl (none_after (before ++ x ∷ []) texts t (among_left before (x ∷ []) t h) a.1)
  where
    by : (b : Bool) → bytes_eq t x ≡ b → (is_among texts t ≡ true → ⊥) → ⊥
    by true e rest =
        let same : t ≡ x = bytes_true t x e in
        let there : is_among before x ≡ true = ap (is_among before) (sym same) ∙ h in
        let not : is_among before x ≡ false = a.0 in
        absurd cc
    by false e rest = rest (sym (ap (λ (b : Bool). b || is_among texts t) e) ∙ k)

pub apart_after : (before front : List (List ℕ)) (own : List ℕ) (rest : List (List ℕ)) → AreApart before (front ++ own ∷ rest) → is_among rest own ≡ true → ⊥
apart_after before [] own rest h k = none_after (before ++ own ∷ []) rest own (among_last before own) h.1 k
apart_after before (f ∷ front) own rest h k = apart_after (before ++ f ∷ []) front own rest h.1 k

-- ---- keys of a joiner

pub has_among : (ss : List SetValue) (k : Key) → has_set ss k ≡ true → is_among (set_keys (map saved_set ss)) (key (saved_key k)) ≡ true
has_among [] k h = absurd cc
has_among (s ∷ ss) k h = by (same_key s.key k) refl (has_among ss k) where
  by : (b : Bool) → same_key s.key k ≡ b → (has_set ss k ≡ true → is_among (set_keys (map saved_set ss)) (key (saved_key k)) ≡ true) → is_among (set_keys (map saved_set (s ∷ ss))) (key (saved_key k)) ≡ true
  by true e rest =
      let same : bytes_eq (key (saved_key k)) (key (saved_key s.key)) ≡ true = ap (λ (l : Key). bytes_eq (key (saved_key l)) (key (saved_key s.key))) (sym (same_key_true s.key k e)) ∙ bytes_refl (key (saved_key s.key)) in
      ap (λ (b : Bool). b || is_among (set_keys (map saved_set ss)) (key (saved_key k))) same
  by false e rest =
      among_right (key (saved_key s.key) ∷ []) (set_keys (map saved_set ss)) (key (saved_key k))
      (rest (sym (ap (λ (b : Bool). b || has_set ss k) e) ∙ h))

keys_more : (rs : List SavedFinishing) (r : SavedFinishing) → remembered_keys (rs ++ r ∷ []) ≡ remembered_keys rs ++ key r.key ∷ []
keys_more rs r = map-append (λ (q : SavedFinishing). key q.key) rs (r ∷ [])

pub finished_among : (ks : List Key) (ms : List ℕ) (k : Key) → length ms ≡ length ks → is_remembered ks k ≡ true → is_among (remembered_keys (saved_finishings ks ms)) (key (saved_key k)) ≡ true
finished_among [] ms k l h = absurd cc
finished_among (x ∷ ks) [] k l h = absurd (omega (arith, l))
finished_among (x ∷ ks) (m ∷ ms) k l h =
    ap (λ (t : List (List ℕ)). is_among t (key (saved_key k))) (keys_more (saved_finishings ks ms) (record { key = saved_key x; moment = m }))
    ∙ by (same_key x k) refl (finished_among ks ms k (omega (arith, l)))
  where
    by : (b : Bool) → same_key x k ≡ b → (is_remembered ks k ≡ true → is_among (remembered_keys (saved_finishings ks ms)) (key (saved_key k)) ≡ true)
        → is_among (remembered_keys (saved_finishings ks ms) ++ key (saved_key x) ∷ []) (key (saved_key k)) ≡ true
    by true e rest =
        ap (λ (q : Key). is_among (remembered_keys (saved_finishings ks ms) ++ key (saved_key x) ∷ []) (key (saved_key q))) (sym (same_key_true x k e))
        ∙ among_last (remembered_keys (saved_finishings ks ms)) (key (saved_key x))
    by false e rest =
        among_left (remembered_keys (saved_finishings ks ms)) (key (saved_key x) ∷ []) (key (saved_key k))
        (rest (sym (ap (λ (b : Bool). b || is_remembered ks k) e) ∙ h))

-- ---- a set that is put back, and a key that is remembered

numbers_apart : (sets : List SavedSet) → map (λ (s : SavedSet). key s.key) (map unnumbered sets) ≡ set_keys sets
numbers_apart [] = refl
numbers_apart (s ∷ sets) = ap (λ (l : List (List ℕ)). key s.key ∷ l) (numbers_apart sets)

told_apart : (told : List SetValue) → map (λ (s : SavedSet). key s.key) (map (λ (t : SetValue). unnumbered (saved_set t)) told) ≡ set_keys (map saved_set told)
told_apart [] = refl
told_apart (t ∷ told) = ap (λ (l : List (List ℕ)). key (saved_key t.key) ∷ l) (told_apart told)

-- the keys of all sets: of those put back, and of those that are left
pub keys_of_line : (told : List SetValue) (rest all : List SavedSet)
    → map (λ (t : SetValue). unnumbered (saved_set t)) told ++ map unnumbered rest ≡ map unnumbered all
    → set_keys all ≡ set_keys (map saved_set told) ++ set_keys rest
keys_of_line told rest all line =
    let f : SavedSet → List ℕ = λ s. key s.key in
    sym (numbers_apart all)
    ∙ (ap (map f) (sym line)
    ∙ (map-append f (map (λ (t : SetValue). unnumbered (saved_set t)) told) (map unnumbered rest)
    ∙ (ap (λ (l : List (List ℕ)). l ++ map f (map unnumbered rest)) (told_apart told)
    ∙ ap (λ (l : List (List ℕ)). set_keys (map saved_set told) ++ l) (numbers_apart rest))))

line_apart : (told : List SetValue) (own : SavedSet) (rest all : List SavedSet) (more : List (List ℕ))
    → map (λ (t : SetValue). unnumbered (saved_set t)) told ++ map unnumbered (own ∷ rest) ≡ map unnumbered all
    → AreApart [] (set_keys all ++ more)
    → AreApart [] (set_keys (map saved_set told) ++ key own.key ∷ (set_keys rest ++ more))
line_apart told own rest all more line apart =
    subst (AreApart [])
    (ap (λ (l : List (List ℕ)). l ++ more) (keys_of_line told (own ∷ rest) all line)
    ∙ append_assoc (set_keys (map saved_set told)) (key own.key ∷ set_keys rest) more)
    apart

pub set_is_closed : (told : List SetValue) (own : SavedSet) (rest all : List SavedSet) (more : List (List ℕ)) (k : Key)
    → map (λ (t : SetValue). unnumbered (saved_set t)) told ++ map unnumbered (own ∷ rest) ≡ map unnumbered all
    → AreApart [] (set_keys all ++ more)
    → saved_key k ≡ own.key → has_set told k ≡ false
set_is_closed told own rest all more k line apart e =
    let none = apart_here [] (set_keys (map saved_set told)) (key own.key) (set_keys rest ++ more) (line_apart told own rest all more line apart) in
    false_from_ne_true _ (λ h.
    let some : is_among (set_keys (map saved_set told)) (key own.key) ≡ true = ap (λ q. is_among (set_keys (map saved_set told)) (key q)) (sym e) ∙ has_among told k h in
    absurd cc)

pub set_is_fresh : (all before : List SavedSet) (own : SavedSet) (after : List SavedSet) (ks : List Key) (ms : List ℕ) (k : Key)
    → all ≡ before ++ own ∷ after → length ms ≡ length ks
    → AreApart [] (set_keys all ++ remembered_keys (saved_finishings ks ms))
    → saved_key k ≡ own.key → is_remembered ks k ≡ true → ⊥
set_is_fresh all before own after ks ms k parts l apart e h =
    let M : List (List ℕ) = remembered_keys (saved_finishings ks ms) in
    let line : set_keys all ++ M ≡ set_keys before ++ key own.key ∷ (set_keys after ++ M) =
    ap (λ (ss : List SavedSet). set_keys ss ++ M) parts
    ∙ ap (λ (l : List (List ℕ)). l ++ M) (map-append (λ (s : SavedSet). key s.key) before (own ∷ after))
    ∙ append_assoc (set_keys before) (key own.key ∷ set_keys after) M in
    apart_after [] (set_keys before) (key own.key) (set_keys after ++ M) (subst (AreApart []) line apart)
    (among_right (set_keys after) M (key own.key) (ap (λ q. is_among M (key q)) (sym e) ∙ finished_among ks ms k l h))

-- the first of two lists stand apart where both do
pub apart_front : (before xs ys : List (List ℕ)) → AreApart before (xs ++ ys) → AreApart before xs
apart_front before [] ys both = tt
apart_front before (x ∷ xs) ys both = (both.0, apart_front (before ++ x ∷ []) xs ys both.1)

pub key_is_fresh : (sets : List SavedSet) (keys front : List SavedFinishing) (own : SavedFinishing) (rest : List SavedFinishing) (ks : List Key) (ms : List ℕ) (k : Key)
    → keys ≡ front ++ own ∷ rest → saved_finishings ks ms ≡ front → length ms ≡ length ks
    → AreApart [] (set_keys sets ++ remembered_keys keys)
    → saved_key k ≡ own.key → is_remembered ks k ≡ false
key_is_fresh sets keys front own rest ks ms k parts is l apart e =
    let f : SavedFinishing → List ℕ = λ r. key r.key in
    let F : List (List ℕ) = remembered_keys front in
    let line : set_keys sets ++ remembered_keys keys ≡ (set_keys sets ++ F) ++ key own.key ∷ remembered_keys rest =
    ap (λ (l : List (List ℕ)). set_keys sets ++ l) (ap (map f) parts ∙ map-append f front (own ∷ rest))
    ∙ sym (append_assoc (set_keys sets) F (key own.key ∷ remembered_keys rest)) in
    let none : is_among (set_keys sets ++ F) (key own.key) ≡ false = apart_here [] (set_keys sets ++ F) (key own.key) (remembered_keys rest) (subst (AreApart []) line apart) in
    false_from_ne_true _ (λ h.
    let some : is_among (set_keys sets ++ F) (key own.key) ≡ true =
    among_right (set_keys sets) F (key own.key)
    (ap (λ q. is_among F (key q)) (sym e)
    ∙ (ap (λ (rs : List SavedFinishing). is_among (remembered_keys rs) (key (saved_key k))) (sym is) ∙ finished_among ks ms k l h)) in
    absurd cc)
