-- What is written place by place, set by set, key by key.
use Rattle.std.proofs.Common.{◌≡◌, ℕ, zero, suc, ◌+◌, ◌-◌, ◌<◌, ◌≤◌, List, [], ◌∷◌, ◌++◌, drop, length, map, slice_get, Some, option_map, refl, sym, ap, subst, ◌∙◌, length-append, arith}
use Rattle.std.proofs.lemmas.List.{append_assoc, flat_map_more}
use Rattle.std.specs.List.{flat_map, AllByRecursion}
use Rattle.sms_join.specs.declared.key.Key.{Key}
use Rattle.sms_join.specs.OpenSets.{SetValue, units_for}
use Rattle.sms_join.specs.Gateway.Value.{GatewayValue}
use Rattle.sms_saved.specs.declared.state.Limits.{Limits}
use Rattle.sms_saved.specs.declared.state.Remembered.{Remembered}
use Rattle.sms_saved.specs.Spelling.{set, remembered, eight, counted, front, body}
use Rattle.sms_keep.specs.Saved.{saved, saved_limits, saved_set, saved_units, saved_key, places_from, next_opening, saved_finishings}

-- one more of a list
pub one_more : {X : Type 0} (f : X → List ℕ) (w v all : List ℕ) (x : X) (xs : List X) → v ≡ w ++ f x → w ++ flat_map f (x ∷ xs) ≡ all → v ++ flat_map f xs ≡ all
one_more f w v all x xs e h = ap (λ (l : List ℕ). l ++ flat_map f xs) e ∙ (append_assoc w (f x) (flat_map f xs) ∙ h)

-- ---- places

pub next_place : (s : SetValue) (b m : ℕ) → b < m → places_from (b + 1) (m - b) s ≡ option_map saved_units (units_for (b + 1) s.sequences s.units) ∷ places_from (b + 1 + 1) (m - (b + 1)) s
next_place s b m l =
    let e : m - b ≡ suc (m - (b + 1)) = omega (arith, l) in
    let n : suc (b + 1) ≡ b + 1 + 1 = omega arith in
    ap (λ (k : ℕ). places_from (b + 1) k s) e
    ∙ ap (λ (k : ℕ). option_map saved_units (units_for (b + 1) s.sequences s.units) ∷ places_from k (m - (b + 1)) s) n

pub no_place : (s : SetValue) (b m n : ℕ) → m ≤ b → places_from n (m - b) s ≡ []
no_place s b m n l = let e : m - b ≡ 0 = omega (arith, l) in ap (λ (k : ℕ). places_from n k s) e

-- ---- the next opening

-- the number after those that are left
abbrev pub after : ℕ → List SetValue → ℕ
after n [] = n
after n (s ∷ ss) = after (s.turn + 1) ss

after_some : (n : ℕ) (s : SetValue) (ss : List SetValue) → after n (s ∷ ss) ≡ next_opening (s ∷ ss)
after_some n s [] = refl
after_some n s (t ∷ ss) = after_some (s.turn + 1) t ss

pub after_all : (ss : List SetValue) → after 0 ss ≡ next_opening ss
after_all [] = refl
after_all (s ∷ ss) = after_some 0 s ss

-- ---- keys

pub drop_next : {X : Type 0} (xs : List X) (i : ℕ) (x : X) → slice_get xs i ≡ Some x → drop i xs ≡ x ∷ drop (suc i) xs
drop_next [] i x e = absurd cc
drop_next (y ∷ xs) zero x e = let h : y ≡ x = cc in ap (λ z. z ∷ xs) h
drop_next (y ∷ xs) (suc i) x e = drop_next xs i x e

pub drop_all : {X : Type 0} (xs : List X) (i : ℕ) → length xs ≤ i → drop i xs ≡ []
drop_all [] zero l = refl
drop_all [] (suc i) l = refl
drop_all (x ∷ xs) zero l = absurd (omega (arith, l))
drop_all (x ∷ xs) (suc i) l = drop_all xs i (omega (arith, l))

-- what holds of those from this index on
pub key_sound : {X : Type 0} (P : X → Type 0) (xs : List X) (i j k : ℕ) (x : X) → slice_get xs i ≡ Some x → suc i ≡ j → i ≡ k
    → P x → AllByRecursion P (drop j xs) → AllByRecursion P (drop k xs)
key_sound P xs i j k x e f g one others =
    subst (λ n. AllByRecursion P (drop n xs)) g
    (subst (AllByRecursion P) (sym (drop_next xs i x e)) (one, subst (λ n. AllByRecursion P (drop n xs)) (sym f) others))

-- those from this index on are written
abbrev pub written_from : List Key → List ℕ → ℕ → List ℕ
written_from ks ms i = flat_map remembered (saved_finishings (drop i ks) (drop i ms))

pub one_key : (ks : List Key) (ms : List ℕ) (i : ℕ) (k : Key) (m : ℕ) → slice_get ks i ≡ Some k → slice_get ms i ≡ Some m
    → written_from ks ms i ≡ written_from ks ms (suc i) ++ remembered (record { key = saved_key k; moment = m })
one_key ks ms i k m e f =
    ap (λ (l : List Key). flat_map remembered (saved_finishings l (drop i ms))) (drop_next ks i k e)
    ∙ (ap (λ (l : List ℕ). flat_map remembered (saved_finishings (k ∷ drop (suc i) ks) l)) (drop_next ms i m f)
    ∙ sym (flat_map_more remembered [] (saved_finishings (drop (suc i) ks) (drop (suc i) ms)) (record { key = saved_key k; moment = m })))

pub no_key : (ks : List Key) (ms : List ℕ) (i : ℕ) → length ks ≤ i → written_from ks ms i ≡ []
no_key ks ms i l = ap (λ (xs : List Key). flat_map remembered (saved_finishings xs (drop i ms))) (drop_all ks i l)

pub as_many_keys : (ks : List Key) (ms : List ℕ) → length ms ≡ length ks → length (saved_finishings ks ms) ≡ length ks
as_many_keys [] ms e = refl
as_many_keys (k ∷ ks) [] e = absurd (omega (arith, e))
as_many_keys (k ∷ ks) (m ∷ ms) e =
    let h = as_many_keys ks ms (omega (arith, e)) in
    let l = length-append (saved_finishings ks ms) (record { key = saved_key k; moment = m } ∷ []) in
    omega (arith, h, l)

-- a key more is written
pub key_written : (ks : List Key) (ms : List ℕ) (count done : ℕ) (w x y : List ℕ) (r : Remembered) (k : Key) (m : ℕ)
    → done < count → slice_get ks (count - 1 - done) ≡ Some k → slice_get ms (count - 1 - done) ≡ Some m → r ≡ record { key = saved_key k; moment = m }
    → y ≡ x ++ remembered r → x ≡ w ++ written_from ks ms (count - done) → y ≡ w ++ written_from ks ms (count - (done + 1))
key_written ks ms count done w x y r k m l e f is more h =
    let i : suc (count - 1 - done) ≡ count - done = omega (arith, l) in
    let j : count - 1 - done ≡ count - (done + 1) = omega (arith, l) in
    more
    ∙ (ap (λ (v : List ℕ). v ++ remembered r) h
    ∙ (append_assoc w (written_from ks ms (count - done)) (remembered r)
    ∙ ap (λ (v : List ℕ). w ++ v) (ap (λ (n : ℕ). written_from ks ms n ++ remembered r) (sym i)
    ∙ (ap (λ (q : Remembered). written_from ks ms (suc (count - 1 - done)) ++ remembered q) is
    ∙ (sym (one_key ks ms (count - 1 - done) k m e f) ∙ ap (written_from ks ms) j)))))

-- all are
pub keys_written : (ks : List Key) (ms : List ℕ) (count done : ℕ) (w x : List ℕ) → count ≤ done → count ≡ length ks → length ms ≡ length ks
    → x ≡ (w ++ eight count) ++ written_from ks ms (count - done) → x ≡ w ++ counted remembered (saved_finishings ks ms)
keys_written ks ms count done w x l many same h =
    let none : count - done ≡ 0 = omega (arith, l) in
    h
    ∙ (ap (λ (n : ℕ). (w ++ eight count) ++ written_from ks ms n) none
    ∙ (append_assoc w (eight count) (flat_map remembered (saved_finishings ks ms))
    ∙ ap (λ (n : ℕ). w ++ (eight n ++ flat_map remembered (saved_finishings ks ms))) (many ∙ sym (as_many_keys ks ms same))))

-- ---- all

many_sets : (ss : List SetValue) → length (map saved_set ss) ≡ length ss
many_sets [] = refl
many_sets (s ∷ ss) = ap suc (many_sets ss)

pub body_written : (g : GatewayValue) (taken : ℕ) (l : Limits) (next count : ℕ) (w a b : List ℕ) → l ≡ saved_limits g.limits → next ≡ next_opening g.told → count ≡ length g.told
    → w ≡ front l taken next ++ eight count → a ≡ w ++ flat_map set (map saved_set g.told)
    → b ≡ a ++ counted remembered (saved_finishings g.holds.finished g.finishings) → b ≡ body (saved g taken)
unfolding body
body_written g taken l next count w a b same turn many first second third =
    let F : List ℕ = front (saved_limits g.limits) taken (next_opening g.told) in
    let S : List ℕ = flat_map set (map saved_set g.told) in
    let K : List ℕ = counted remembered (saved_finishings g.holds.finished g.finishings) in
    let E : List ℕ = eight (length (map saved_set g.told)) in
    let begins : w ≡ F ++ E =
    first ∙ (ap (λ (l : Limits). front l taken next ++ eight count) same
    ∙ (ap (λ (n : ℕ). front (saved_limits g.limits) taken n ++ eight count) turn
    ∙ ap (λ (n : ℕ). F ++ eight n) (many ∙ sym (many_sets g.told)))) in
    third ∙ ap (λ (v : List ℕ). v ++ K) (second ∙ (ap (λ (v : List ℕ). v ++ S) begins ∙ append_assoc F E S))
