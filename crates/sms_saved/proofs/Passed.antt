-- Sets and keys that pass are those whose numbers rise and whose keys are apart.
use Rattle.std.proofs.Common.{◌≡◌, ℕ, ◌+◌, ◌<◌, ◌≤◌, Bool, true, false, ◌&&◌, cond, ltb, leb, List, [], ◌∷◌, ◌++◌, Option, Some, None, refl, sym, ap, subst, ◌∙◌, append_assoc}
use Rattle.std.proofs.lemmas.Bool.{ltb-true, lt-ltb, leb-true, le-leb}
use Rattle.std.proofs.lemmas.List.{append-nil, map_push}
use Rattle.sms_saved.specs.declared.fault.StateFault.{StateFault}
use Rattle.sms_saved.specs.declared.fault.StateFault.TheVariants.{OutOfOrder, Repeated}
use Rattle.sms_saved.specs.declared.state.Remembered.{Remembered}
use Rattle.sms_saved.specs.Value.{SetValue}
use Rattle.sms_saved.specs.Fits.{AreRising, AreApart, is_among, set_keys, remembered_keys}
use Rattle.sms_saved.specs.Spelling.{key}
use Rattle.sms_saved.specs.Reading.Lists.{above, first_of, judge_opening, judge_text, judge_set, judge_key}
use Rattle.sms_saved.proofs.Judged.{ArePassed}

pub above_push : (low : ℕ) (sets : List SetValue) (s : SetValue) → above low (sets ++ s ∷ []) ≡ s.opening + 1
above_push low [] s = refl
above_push low (t ∷ sets) s = above_push (t.opening + 1) sets s

first_none : (a b : Option StateFault) → first_of a b ≡ None → (a ≡ None) × (b ≡ None)
first_none None b e = (refl, e)
first_none (Some why) b e = absurd cc

pub text_passed : (texts : List (List ℕ)) (text : List ℕ) → judge_text texts text ≡ None → is_among texts text ≡ false
unfolding judge_text
text_passed texts text e = by_case (is_among texts text) e
  where
    by_case : (b : Bool) → cond b (Some Repeated) None ≡ None → b ≡ false
    by_case true e = absurd cc
    by_case false e = refl

text_passes : (texts : List (List ℕ)) (text : List ℕ) → is_among texts text ≡ false → judge_text texts text ≡ None
unfolding judge_text
text_passes texts text e = rw e refl

opening_passed : (low next n : ℕ) → judge_opening low next n ≡ None → (low ≤ n) × (n < next)
unfolding judge_opening
opening_passed low next n e = let p = by_case (leb low n) (ltb n next) e in (leb-true low n p.0, ltb-true n next p.1)
  where
    by_case : (a b : Bool) → cond (a && b) None (Some OutOfOrder) ≡ None → (a ≡ true) × (b ≡ true)
    by_case true true e = (refl, refl)
    by_case true false e = absurd cc
    by_case false b e = absurd cc

opening_passes : (low next n : ℕ) → low ≤ n → n < next → judge_opening low next n ≡ None
unfolding judge_opening
opening_passes low next n le lt = rw (le-leb low n le, lt-ltb n next lt) refl

-- ---- sets

pub sets_passed : (next : ℕ) (before sets : List SetValue) → ArePassed (judge_set next) before sets → AreRising (above 0 before) next sets × AreApart (set_keys before) (set_keys sets)
sets_passed next before [] h = (tt, tt)
sets_passed next before (s ∷ sets) h =
    let p = first_none (judge_opening (above 0 before) next s.opening) (judge_text (set_keys before) (key s.key)) h.0 in
    let o = opening_passed (above 0 before) next s.opening p.0 in
    let others = sets_passed next (before ++ s ∷ []) sets h.1 in
    ((o.0, o.1, subst (λ (n : ℕ). AreRising n next sets) (above_push 0 before s) others.0), (text_passed (set_keys before) (key s.key) p.1, subst (λ (l : List (List ℕ)). AreApart l (set_keys sets)) (map_push _ before s) others.1))

pub sets_pass : (next : ℕ) (before sets : List SetValue) → AreRising (above 0 before) next sets → AreApart (set_keys before) (set_keys sets) → ArePassed (judge_set next) before sets
sets_pass next before [] rise apart = tt
sets_pass next before (s ∷ sets) rise apart =
    let one : judge_opening (above 0 before) next s.opening ≡ None = opening_passes (above 0 before) next s.opening rise.0 rise.1 in
    let two : judge_text (set_keys before) (key s.key) ≡ None = text_passes (set_keys before) (key s.key) apart.0 in
    (ap (λ (o : Option StateFault). first_of o (judge_text (set_keys before) (key s.key))) one ∙ two, sets_pass next (before ++ s ∷ []) sets (subst (λ (n : ℕ). AreRising n next sets) (sym (above_push 0 before s)) rise.2) (subst (λ (l : List (List ℕ)). AreApart l (set_keys sets)) (sym (map_push _ before s)) apart.1))

-- ---- remembered keys

-- one more key stands at the end of all before
pub key_push : (of_sets : List (List ℕ)) (before : List Remembered) (r : Remembered) → of_sets ++ remembered_keys (before ++ r ∷ []) ≡ of_sets ++ remembered_keys before ++ key r.key ∷ []
key_push of_sets before r = ap (λ (l : List (List ℕ)). of_sets ++ l) (map_push _ before r) ∙ sym (append_assoc of_sets (remembered_keys before) (key r.key ∷ []))

pub keys_passed : (of_sets : List (List ℕ)) (before keys : List Remembered) → ArePassed (judge_key of_sets) before keys → AreApart (of_sets ++ remembered_keys before) (remembered_keys keys)
keys_passed of_sets before [] h = tt
keys_passed of_sets before (r ∷ keys) h =
    (text_passed (of_sets ++ remembered_keys before) (key r.key) h.0, subst (λ (l : List (List ℕ)). AreApart l (remembered_keys keys)) (key_push of_sets before r) (keys_passed of_sets (before ++ r ∷ []) keys h.1))

pub keys_pass : (of_sets : List (List ℕ)) (before keys : List Remembered) → AreApart (of_sets ++ remembered_keys before) (remembered_keys keys) → ArePassed (judge_key of_sets) before keys
keys_pass of_sets before [] apart = tt
keys_pass of_sets before (r ∷ keys) apart =
    (text_passes (of_sets ++ remembered_keys before) (key r.key) apart.0, keys_pass of_sets (before ++ r ∷ []) keys (subst (λ (l : List (List ℕ)). AreApart l (remembered_keys keys)) (sym (key_push of_sets before r)) apart.1))

-- ---- both

pub apart_joined : (before xs ys : List (List ℕ)) → AreApart before xs → AreApart (before ++ xs) ys → AreApart before (xs ++ ys)
apart_joined before [] ys one two = subst (λ (l : List (List ℕ)). AreApart l ys) (append-nil before) two
apart_joined before (x ∷ xs) ys one two = (one.0, apart_joined (before ++ x ∷ []) xs ys one.1 (subst (λ (l : List (List ℕ)). AreApart l ys) (sym (append_assoc before (x ∷ []) xs)) two))

pub apart_first : (before xs ys : List (List ℕ)) → AreApart before (xs ++ ys) → AreApart before xs
apart_first before [] ys both = tt
apart_first before (x ∷ xs) ys both = (both.0, apart_first (before ++ x ∷ []) xs ys both.1)

pub apart_second : (before xs ys : List (List ℕ)) → AreApart before (xs ++ ys) → AreApart (before ++ xs) ys
apart_second before [] ys both = subst (λ (l : List (List ℕ)). AreApart l ys) (sym (append-nil before)) both
apart_second before (x ∷ xs) ys both = subst (λ (l : List (List ℕ)). AreApart l ys) (append_assoc before (x ∷ []) xs) (apart_second (before ++ x ∷ []) xs ys both.1)
