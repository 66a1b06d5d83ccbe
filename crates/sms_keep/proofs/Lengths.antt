-- How many octets the parts of a state take.
use Rattle.std.proofs.Common.{◌≡◌, ℕ, suc, ◌+◌, ◌*◌, ◌<◌, ◌≤◌, Bool, true, false, List, [], ◌∷◌, ◌++◌, map, length, take, drop, get_or, Option, Some, refl, sym, ap, ◌∙◌, arith, length-append, take-append-drop}
use Rattle.std.proofs.lemmas.List.{drop_more, take_all, take_more, get_or-map}
use Rattle.std.proofs.lemmas.List.Concat.{flat_map-append}
use Rattle.std.specs.List.{flat_map, AllByRecursion}
use Rattle.sms_saved.specs.declared.state.Limits.{Limits}
use Rattle.sms_saved.specs.declared.state.Key.{Key}
use Rattle.sms_saved.specs.declared.state.Remembered.{Remembered}
use Rattle.sms_saved.specs.Spelling.{two, eight, flag, optional, limits, place, key, set, remembered, front, counted, body, digest, spelling, head}
use Rattle.sms_saved.specs.Value.{SetValue, StateValue}
use Rattle.sms_keep.specs.Restored.{place_of_set, place_of_key}

pub eight_len : (n : ℕ) → length (eight n) ≡ 8
unfolding eight
eight_len n = refl

pub two_len : (n : ℕ) → length (two n) ≡ 2
unfolding two
two_len n = refl

pub wide_len : (ns : List ℕ) → length (flat_map two ns) ≡ 2 * length ns
wide_len [] = refl
wide_len (n ∷ ns) = omega (arith, length-append (two n) (flat_map two ns), two_len n, wide_len ns)

-- ---- an element of a list

pub list_split : {X : Type 0} (xs : List X) (i : ℕ) (x : X) → i < length xs → x ≡ get_or xs i x → xs ≡ take i xs ++ x ∷ drop (i + 1) xs
list_split xs i x l is =
    sym (take-append-drop i xs) ∙ ap (λ ys. take i xs ++ ys) (drop_more xs i x l ∙ ap (λ y. y ∷ drop (i + 1) xs) (sym is))

pub list_more : {X : Type 0} (xs : List X) (i : ℕ) (x : X) → i < length xs → x ≡ get_or xs i x → take (i + 1) xs ≡ take i xs ++ x ∷ []
list_more xs i x l is = take_more xs i x l ∙ ap (λ y. take i xs ++ y ∷ []) (sym is)

pub map_at : {X Y : Type 0} (f : X → Y) (xs : List X) (i : ℕ) (x : X) → i < length xs → x ≡ get_or xs i x → f x ≡ get_or (map f xs) i (f x)
map_at f xs i x l is = ap f is ∙ sym (get_or-map f xs i x (f x) l)

-- ---- sums

-- those before an element, and it
pub len_more : {X : Type 0} (f : X → List ℕ) (xs : List X) (i : ℕ) (x : X) → i < length xs → x ≡ get_or xs i x
    → length (flat_map f (take (i + 1) xs)) ≡ length (flat_map f (take i xs)) + length (f x)
len_more f xs i x l is =
    let e = ap (λ ys. length (flat_map f ys)) (list_more xs i x l is) in
    let p = ap (λ (ns : List ℕ). length ns) (flat_map-append f (take i xs) (x ∷ [])) in
    let q = length-append (flat_map f (take i xs)) (f x ++ []) in
    let r = length-append (f x) [] in
    omega (arith, e, p, q, r)

-- a front takes no more than the whole
pub len_front : {X : Type 0} (f : X → List ℕ) (xs : List X) (i : ℕ) → length (flat_map f (take i xs)) ≤ length (flat_map f xs)
len_front f xs i =
    let e = ap (λ ys. length (flat_map f ys)) (take-append-drop i xs) in
    let p = ap (λ (ns : List ℕ). length ns) (flat_map-append f (take i xs) (drop i xs)) in
    let q = length-append (flat_map f (take i xs)) (flat_map f (drop i xs)) in
    omega (arith, e, p, q)

-- ---- the whole

flag_len : (p : Bool) → length (flag p) ≡ 1
flag_len true = refl
flag_len false = refl

limits_parts : (l : Limits) (p : Bool) (age : Option ℕ) → length (eight l.sets ++ eight l.keys ++ eight l.age_of_sets ++ optional eight age ++ flag p) ≡ 25 + length (optional eight age)
limits_parts l p age =
    let f = flag_len p in
    let a = length-append (eight l.sets) (eight l.keys) in
    let b = length-append (eight l.sets ++ eight l.keys) (eight l.age_of_sets) in
    let c = length-append (eight l.sets ++ eight l.keys ++ eight l.age_of_sets) (optional eight age) in
    let d = length-append (eight l.sets ++ eight l.keys ++ eight l.age_of_sets ++ optional eight age) (flag p) in
    omega (arith, a, b, c, d, f, eight_len l.sets, eight_len l.keys, eight_len l.age_of_sets)

limits_len : (l : Limits) → length (limits l) ≡ 25 + length (optional eight l.age_of_keys)
limits_len l = limits_parts l l.passes_singles l.age_of_keys

pub age_len : (age : Option ℕ) (n : ℕ) → age ≡ Some n → length (optional eight age) ≡ 9
age_len age n e = ap (λ (a : Option ℕ). length (optional eight a)) e ∙ ap suc (eight_len n)

pub front_len : (l : Limits) (taken next : ℕ) → length (front l taken next) ≡ 50 + length (optional eight l.age_of_keys)
front_len l taken next =
    let a = length-append head (limits l) in
    let b = length-append (head ++ limits l) (eight taken) in
    let c = length-append (head ++ limits l ++ eight taken) (eight next) in
    omega (arith, a, b, c, limits_len l, eight_len taken, eight_len next)

pub set_place : (s : StateValue) (before : List SetValue) → place_of_set s before ≡ length (front s.limits s.taken s.next) + 8 + length (flat_map set before)
set_place s before =
    let F : List ℕ = front s.limits s.taken s.next in
    let a = length-append F (eight (length s.sets)) in
    let b = length-append (F ++ eight (length s.sets)) (flat_map set before) in
    omega (arith, a, b, eight_len (length s.sets))

pub key_place : (s : StateValue) (before : List Remembered)
    → place_of_key s before ≡ length (front s.limits s.taken s.next) + 8 + length (flat_map set s.sets) + 8 + length (flat_map remembered before)
key_place s before =
    let F : List ℕ = front s.limits s.taken s.next in
    let S : List ℕ = counted set s.sets in
    let a = length-append F S in
    let b = length-append (F ++ S) (eight (length s.keys)) in
    let c = length-append (F ++ S ++ eight (length s.keys)) (flat_map remembered before) in
    let d = length-append (eight (length s.sets)) (flat_map set s.sets) in
    omega (arith, a, b, c, d, eight_len (length s.sets), eight_len (length s.keys))

pub state_len : (s : StateValue)
    → length (front s.limits s.taken s.next) + 8 + length (flat_map set s.sets) + 8 + length (flat_map remembered s.keys) ≤ length (spelling s)
unfolding body
state_len s =
    let F : List ℕ = front s.limits s.taken s.next in
    let S : List ℕ = counted set s.sets in
    let K : List ℕ = counted remembered s.keys in
    let a = length-append F S in
    let b = length-append (F ++ S) K in
    let c = length-append (F ++ S ++ K) (digest (F ++ S ++ K)) in
    let d = length-append (eight (length s.sets)) (flat_map set s.sets) in
    let e = length-append (eight (length s.keys)) (flat_map remembered s.keys) in
    omega (arith, a, b, c, d, e, eight_len (length s.sets), eight_len (length s.keys))

-- ---- parts

pub key_parts : (k : Key) (o r m : List ℕ) → length (o ++ r ++ m) ≡ length o + length r + length m
key_parts k o r m = omega (arith, length-append o r, length-append (o ++ r) m)

pub set_len : (s : SetValue) → length (set s) ≡ length (key s.key) + 16 + length (flat_map place s.places)
set_len s =
    let a = length-append (key s.key) (eight s.moment) in
    let b = length-append (key s.key ++ eight s.moment) (eight s.opening) in
    let c = length-append (key s.key ++ eight s.moment ++ eight s.opening) (flat_map place s.places) in
    omega (arith, a, b, c, eight_len s.moment, eight_len s.opening)

pub remembered_len : (r : Remembered) → length (remembered r) ≡ length (key r.key) + 8
remembered_len r = omega (arith, length-append (key r.key) (eight r.moment), eight_len r.moment)

-- ---- loops

-- one more of a list
pub loop_len : {Y : Type 0} (g : Y → List ℕ) (ys : List Y) (i : ℕ) (y : Y) (total more limit : ℕ) → i < length ys → y ≡ get_or ys i y
    → total ≡ more + length (flat_map g (take i ys)) → more + length (flat_map g ys) < limit
    → (total + length (g y) ≡ more + length (flat_map g (take (i + 1) ys))) × (total + length (g y) < limit) × (length (g y) < limit)
loop_len g ys i y total more limit l is was fits =
    let one = len_more g ys i y l is in
    let few = len_front g ys (i + 1) in
    (omega (arith, one, was), omega (arith, one, was, few, fits), omega (arith, one, few, fits))

pub flat_maps : {X Y : Type 0} (f : X → List ℕ) (v : Y → X) (ys : List Y) → flat_map f (map v ys) ≡ flat_map (λ y. f (v y)) ys
flat_maps f v [] = refl
flat_maps f v (y ∷ ys) = ap (λ (l : List ℕ). f (v y) ++ l) (flat_maps f v ys)

pub loop_ends : {X Y : Type 0} (f : X → List ℕ) (v : Y → X) (ys : List Y) (i total more : ℕ) → length ys ≤ i
    → total ≡ more + length (flat_map (λ y. f (v y)) (take i ys)) → total ≡ more + length (flat_map f (map v ys))
loop_ends f v ys i total more l was =
    let e = ap (λ zs. length (flat_map (λ y. f (v y)) zs)) (take_all i ys l) in
    let s = ap (λ (ns : List ℕ). length ns) (flat_maps f v ys) in
    omega (arith, e, s, was)

pub all_below : (xs : List ℕ) (limit : ℕ) → ((k : ℕ) → get_or xs k 0 < limit) → AllByRecursion (λ n. n < limit) xs
all_below [] limit h = tt
all_below (x ∷ xs) limit h = (h 0, all_below xs limit (λ k. h (suc k)))
