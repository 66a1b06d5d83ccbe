-- Where septets end whole: no escape at the end waits for a code.
use Rattle.std.proofs.Common.{◌≡◌, ℕ, zero, suc, ◌<◌, Bool, true, false, not, cond, List, [], ◌∷◌, ◌++◌, length, take, drop, get_or, refl, sym, ap, ◌∙◌, arith}
use Rattle.std.specs.Prelude.{◌==◌, ◌&&◌}
use Rattle.std.proofs.lemmas.List.{take-append-drop}
use Rattle.sms_text.specs.Tables.{escape}
use Rattle.sms_language.specs.TextUnder.{ends_whole}
use Rattle.sms_national.specs.Inside.Escapes.{stand_apart}

pub both : (a b : Bool) → (a && b) ≡ true → (a ≡ true) × (b ≡ true)
both true true e = (refl, refl)
both true false e = absurd cc
both false b e = absurd cc

not_true : (b : Bool) → not b ≡ true → b ≡ false
not_true true e = absurd cc
not_true false e = refl

-- ---- escapes that stand apart

pub apart_behind : (code : ℕ) (others : List ℕ) → stand_apart (code ∷ others) ≡ true → stand_apart others ≡ true
apart_behind code [] h = refl
apart_behind code (next ∷ others) h = (both (not ((code == escape) && (next == escape))) (stand_apart (next ∷ others)) h).1

pub apart_next : (code next : ℕ) (others : List ℕ) → (code == escape) ≡ true → stand_apart (code ∷ next ∷ others) ≡ true → (next == escape) ≡ false
apart_next code next others e h =
    let first : not ((code == escape) && (next == escape)) ≡ true = (both (not ((code == escape) && (next == escape))) (stand_apart (next ∷ others)) h).0 in
    not_true (next == escape) (ap (λ (b : Bool). not (b && (next == escape))) (sym e) ∙ first)

pub apart_drop : (n : ℕ) (septets : List ℕ) → stand_apart septets ≡ true → stand_apart (drop n septets) ≡ true
apart_drop zero septets h = h
apart_drop (suc n) [] h = refl
apart_drop (suc n) (code ∷ others) h = apart_drop n others (apart_behind code others h)

not_before : (a b : Bool) → not (a && b) ≡ true → b ≡ true → a ≡ false
not_before true true h e = absurd cc
not_before true false h e = absurd cc
not_before false b h e = refl

-- before an escape stands none
pub apart_before : (septets : List ℕ) (n : ℕ) → stand_apart septets ≡ true → suc n < length septets → (get_or septets (suc n) 0 == escape) ≡ true → (get_or septets n 0 == escape) ≡ false
apart_before [] n h lt e = absurd (omega (arith, lt))
apart_before (code ∷ []) n h lt e = absurd (omega (arith, lt))
apart_before (code ∷ next ∷ others) zero h lt e =
    not_before (code == escape) (next == escape) (both (not ((code == escape) && (next == escape))) (stand_apart (next ∷ others)) h).0 e
apart_before (code ∷ next ∷ others) (suc n) h lt e = apart_before (next ∷ others) n (apart_behind code (next ∷ others) h) (omega (arith, lt)) e

-- ---- what stands behind septets that end whole

after_plain : (code : ℕ) (back : List ℕ) → (code == escape) ≡ false → ends_whole (code ∷ back) ≡ ends_whole back
unfolding ends_whole
after_plain code [] e = ap not e
after_plain code (next ∷ others) e = ap (λ (b : Bool). cond b (ends_whole others) (ends_whole (next ∷ others))) e

pub whole_after : (front back : List ℕ) → ends_whole front ≡ true → ends_whole (front ++ back) ≡ ends_whole back
unfolding ends_whole
whole_after [] back w = refl
whole_after (code ∷ []) back w = after_plain code back (not_true (code == escape) w)
whole_after (code ∷ next ∷ others) back w = go (code == escape) refl w (whole_after others back) (whole_after (next ∷ others) back)
  where
    go : (b : Bool) → (code == escape) ≡ b → cond b (ends_whole others) (ends_whole (next ∷ others)) ≡ true
        → (ends_whole others ≡ true → ends_whole (others ++ back) ≡ ends_whole back)
        → (ends_whole (next ∷ others) ≡ true → ends_whole (next ∷ (others ++ back)) ≡ ends_whole back)
        → cond (code == escape) (ends_whole (others ++ back)) (ends_whole (next ∷ (others ++ back))) ≡ ends_whole back
    go true e h after more = ap (λ (b : Bool). cond b (ends_whole (others ++ back)) (ends_whole (next ∷ (others ++ back)))) e ∙ after h
    go false e h after more = ap (λ (b : Bool). cond b (ends_whole (others ++ back)) (ends_whole (next ∷ (others ++ back)))) e ∙ more h

pub whole_drop : (n : ℕ) (septets : List ℕ) → ends_whole (take n septets) ≡ true → ends_whole septets ≡ true → ends_whole (drop n septets) ≡ true
whole_drop n septets front all = sym (whole_after (take n septets) (drop n septets) front) ∙ ap ends_whole (take-append-drop n septets) ∙ all

pub one_whole : (code : ℕ) → ends_whole (code ∷ []) ≡ not (code == escape)
unfolding ends_whole
one_whole code = refl

-- a front ends whole just where its last septet is no escape
pub whole_front : (septets : List ℕ) (n : ℕ) → stand_apart septets ≡ true → n < length septets → ends_whole (take (suc n) septets) ≡ not (get_or septets n 0 == escape)
unfolding ends_whole
whole_front [] n h lt = absurd (omega (arith, lt))
whole_front (code ∷ []) zero h lt = refl
whole_front (code ∷ []) (suc n) h lt = absurd (omega (arith, lt))
whole_front (code ∷ next ∷ others) zero h lt = refl
whole_front (code ∷ next ∷ others) (suc n) h lt =
    go (code == escape) refl n (omega (arith, lt)) (λ (m : ℕ) (l : m < length others). whole_front others m (apart_behind next others (apart_behind code (next ∷ others) h)) l)
    (whole_front (next ∷ others) n (apart_behind code (next ∷ others) h) (omega (arith, lt)))
  where
    go : (b : Bool) → (code == escape) ≡ b → (n : ℕ) → n < suc (length others)
        → ((m : ℕ) → m < length others → ends_whole (take (suc m) others) ≡ not (get_or others m 0 == escape))
        → ends_whole (next ∷ take n others) ≡ not (get_or (next ∷ others) n 0 == escape)
        → cond (code == escape) (ends_whole (take n others)) (ends_whole (next ∷ take n others)) ≡ not (get_or (next ∷ others) n 0 == escape)
    go true e zero lt after more = ap (λ (b : Bool). cond b (ends_whole (take 0 others)) (ends_whole (next ∷ take 0 others))) e ∙ ap not (sym (apart_next code next others e h))
    go true e (suc m) lt after more = ap (λ (b : Bool). cond b (ends_whole (take (suc m) others)) (ends_whole (next ∷ take (suc m) others))) e ∙ after m (omega (arith, lt))
    go false e n lt after more = ap (λ (b : Bool). cond b (ends_whole (take n others)) (ends_whole (next ∷ take n others))) e ∙ more
