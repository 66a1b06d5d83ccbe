-- The sets that are dropped, told one after another.
use Rattle.std.proofs.Common.{◌≡◌, ℕ, zero, suc, ◌+◌, ◌<◌, ◌≤◌, Bool, true, false, cond, List, [], ◌∷◌, ◌++◌, length, take, drop, refl, ap, sym, subst, ◌∙◌, arith}
use Rattle.std.specs.Prelude.{Option, None, Some, unwrap_or}
use Rattle.std.specs.List.{filter, flat_map}
use Rattle.std.proofs.lemmas.List.{take-append-drop, take_all}
use Rattle.sms_page.specs.Page.{PageValue, Puts}
use Rattle.sms_join.specs.OpenSets.{SetValue}
use Rattle.sms_join.specs.OpenSets.Told.{AreAbove, AreUnder, AreWalked, RiseInTurn, first_from, first_of}
use Rattle.sms_told.proofs.Composed.{Puts-same}
use Rattle.sms_told.proofs.Walked.{told_one, told_all}

module _ (test : SetValue → Bool) where
  above_kept : (n : ℕ) (xs : List SetValue) → AreAbove n xs → AreAbove n (filter test xs)
  above_kept n [] above = above
  above_kept n (x ∷ xs) above = go (test x) (above_kept n xs above.1)
    where
      go : (b : Bool) → AreAbove n (filter test xs) → AreAbove n (cond b (x ∷ filter test xs) (filter test xs))
      go true rest = (above.0, rest)
      go false rest = rest

  -- those of sets that rise, rise
  pub rise_kept : (xs : List SetValue) → RiseInTurn xs → RiseInTurn (filter test xs)
  rise_kept [] rise = rise
  rise_kept (x ∷ xs) rise = go (test x) (rise_kept xs rise.1)
    where
      go : (b : Bool) → RiseInTurn (filter test xs) → RiseInTurn (cond b (x ∷ filter test xs) (filter test xs))
      go true rest = (above_kept x.turn xs rise.0, rest)
      go false rest = rest

  pub under_kept : (n : ℕ) (xs : List SetValue) → AreUnder n xs → AreUnder n (filter test xs)
  under_kept n [] under = under
  under_kept n (x ∷ xs) under = go (test x) (under_kept n xs under.1)
    where
      go : (b : Bool) → AreUnder n (filter test xs) → AreUnder n (cond b (x ∷ filter test xs) (filter test xs))
      go true rest = (under.0, rest)
      go false rest = rest

  pub fewer : (xs : List SetValue) → length (filter test xs) ≤ length xs
  fewer [] = omega arith
  fewer (x ∷ xs) = go (test x) (fewer xs)
    where
      go : (b : Bool) → length (filter test xs) ≤ length xs → length (cond b (x ∷ filter test xs) (filter test xs)) ≤ suc (length xs)
      go true few = omega (arith, few)
      go false few = omega (arith, few)

head_is : (count : ℕ) (xs : List SetValue) (s : SetValue) → first_of (drop count xs) ≡ Some s → drop count xs ≡ s ∷ drop (suc count) xs
head_is zero [] s is = absurd cc
head_is zero (x ∷ xs) s is = ap (λ (o : Option SetValue). unwrap_or o x ∷ xs) is
head_is (suc count) [] s is = absurd cc
head_is (suc count) (x ∷ xs) s is = head_is count xs s is

-- the first that is left is under the limit
pub under_left : (n count : ℕ) (xs : List SetValue) (s : SetValue) → AreUnder n xs → first_of (drop count xs) ≡ Some s → s.turn < n
under_left n zero [] s under is = absurd cc
under_left n zero (x ∷ xs) s under is = subst (λ (y : SetValue). y.turn < n) (ap (λ (o : Option SetValue). unwrap_or o x) is) under.0
under_left n (suc count) [] s under is = absurd cc
under_left n (suc count) (x ∷ xs) s under is = under_left n count xs s under.1 is

-- the next one
pub next_left : (count : ℕ) (xs : List SetValue) (s : SetValue) → AreWalked → RiseInTurn xs → first_of (drop count xs) ≡ Some s
    → first_from (suc s.turn) xs ≡ first_of (drop (suc count) xs)
next_left count xs s walked rise is =
    (walked xs rise).1 (take count xs) (drop (suc count) xs) s
    (sym (take-append-drop count xs) ∙ ap (λ (l : List SetValue). take count xs ++ l) (head_is count xs s is))

none_is : (xs : List SetValue) → first_of xs ≡ None → xs ≡ []
none_is [] is = refl
none_is (x ∷ xs) is = absurd cc

-- one more is told
pub old_more : (text : SetValue → List ℕ) (xs : List SetValue) (s : SetValue) (count : ℕ) (a b d : PageValue)
    → first_of (drop count xs) ≡ Some s → Puts a b (flat_map text (take count xs)) → Puts b d (text s) → Puts a d (flat_map text (take (suc count) xs))
old_more text xs s count a b d is told new =
    told_one text xs (drop count xs) (drop (suc count) xs) s count a b d (head_is count xs s is) refl told new

-- none is left
pub old_all : (text : SetValue → List ℕ) (xs : List SetValue) (count : ℕ) (a b : PageValue)
    → first_of (drop count xs) ≡ None → Puts a b (flat_map text (take count xs)) → Puts a b (flat_map text xs)
old_all text xs count a b is told = told_all text xs (drop count xs) count a b (none_is (drop count xs) is) refl told

-- as many are told as there are
pub old_most : (text : SetValue → List ℕ) (xs : List SetValue) (count : ℕ) (a b : PageValue)
    → length xs ≤ count → Puts a b (flat_map text (take count xs)) → Puts a b (flat_map text xs)
old_most text xs count a b few told = Puts-same (ap (flat_map text) (take_all count xs few)) told
