-- The best of choices, and one choice more.
use Rattle.std.proofs.Common.{◌≡◌, ℕ, zero, suc, ◌+◌, ◌<◌, ◌≤◌, ◌⊎◌, inl, inr, List, [], ◌∷◌, ◌++◌, length, take, get_or, map, Option, Some, None, refl, sym, ap, subst, ◌∙◌, arith, append_assoc}
use Rattle.std.proofs.lemmas.Bool.{cases_lt}
use Rattle.std.specs.List.{AllByRecursion}
use Rattle.sms_language.specs.SeptetsUnder.{septets_under}
use Rattle.sms_language.specs.declared.tables.Tables.{Tables}
use Rattle.sms_tpdu.specs.declared.user_data.concat.Width.{Width}
use Rattle.sms_national.specs.Cut.{IsCutUnder, HasOneCut}
use Rattle.sms_national.specs.Segments.{Cut}
use Rattle.sms_national.specs.Choice.{Choice, Under, Takes, TakesUnder, IsFirstFewest}
use Rattle.sms_national.specs.Inside.Best.{IsBest, IsFewer}

pub all_join : (P : Choice → Type 0) (xs ys : List Choice) → AllByRecursion P xs → AllByRecursion P ys → AllByRecursion P (xs ++ ys)
all_join P [] ys a b = b
all_join P (x ∷ xs) ys a b = (a.0, all_join P xs ys a.1 b)

pub all_weaker : (P Q : Choice → Type 0) (xs : List Choice) → ((x : Choice) → P x → Q x) → AllByRecursion P xs → AllByRecursion Q xs
all_weaker P Q [] w a = tt
all_weaker P Q (x ∷ xs) w a = (w x a.0, all_weaker P Q xs w a.1)

-- it takes more than this, or no fewer
abbrev pub TakesMore : Width → List ℕ → ℕ → Choice → Type 0
TakesMore width text count choice = (more : ℕ) → Takes width text choice more → count < more

abbrev pub TakesNoFewer : Width → List ℕ → ℕ → Choice → Type 0
TakesNoFewer width text count choice = (more : ℕ) → Takes width text choice more → count ≤ more

-- the choice stays the first
pub stays_first : (width : Width) (text : List ℕ) (all : List Choice) (choice next : Choice) (count : ℕ) → TakesNoFewer width text count next → IsFirstFewest width text all choice count → IsFirstFewest width text (all ++ next ∷ []) choice count
stays_first width text all choice next count no_fewer h = record {
  takes = h.takes;
  front = h.front;
  back = h.back ++ next ∷ [];
  parts = ap (λ (l : List Choice). l ++ next ∷ []) h.parts ∙ append_assoc h.front (choice ∷ h.back) (next ∷ []);
  before = h.before;
  after = all_join (TakesNoFewer width text count) h.back (next ∷ []) h.after (no_fewer, tt);
}

-- the next one takes fewer than each before
pub comes_first : (width : Width) (text : List ℕ) (all : List Choice) (next : Choice) (count : ℕ) → AllByRecursion (TakesMore width text count) all → Takes width text next count → IsFirstFewest width text (all ++ next ∷ []) next count
comes_first width text all next count more takes = record { takes = takes; front = all; back = []; parts = refl; before = more; after = tt }

-- where a first one takes as many as counted alone, each takes more than fewer
pub all_more : (width : Width) (text : List ℕ) (all : List Choice) (choice : Choice) (count fewer : ℕ) → fewer < count → TakesNoFewer width text count choice → IsFirstFewest width text all choice count → AllByRecursion (TakesMore width text fewer) all
all_more width text all choice count fewer lt itself h =
    subst (λ (l : List Choice). AllByRecursion (TakesMore width text fewer) l) (sym h.parts)
    (all_join (TakesMore width text fewer) h.front (choice ∷ h.back)
    (all_weaker (TakesMore width text count) (TakesMore width text fewer) h.front (λ x m more takes. omega (arith, m more takes, lt)) h.before)
    ((λ more takes. omega (arith, itself more takes, lt)), all_weaker (TakesNoFewer width text count) (TakesMore width text fewer) h.back (λ x m more takes. omega (arith, m more takes, lt)) h.after))

-- under tables a text takes one number of segments
pub as_counted : (one : HasOneCut) (width : Width) (text : List ℕ) (tables : Tables) (pieces : List (List ℕ)) (more : ℕ) → IsCutUnder width tables text pieces → TakesUnder width text tables more → more ≡ length pieces
as_counted one width text tables pieces more cut takes = takes.many ∙ ap (λ (l : List (List ℕ)). length l) (one width tables text pieces takes.pieces cut takes.cut)

pub no_fewer_itself : (one : HasOneCut) (width : Width) (text : List ℕ) (tables : Tables) (pieces : List (List ℕ)) (count : ℕ) → count ≤ length pieces → IsCutUnder width tables text pieces → TakesNoFewer width text count (Under tables)
no_fewer_itself one width text tables pieces count le cut more takes = omega (arith, as_counted one width text tables pieces more cut takes, le)

differ : (l : List ℕ) → Some l ≡ None → ⊥
differ l e = cc

-- a text without septets under tables takes no segments so
pub no_cut : (width : Width) (text : List ℕ) (tables : Tables) → septets_under tables text ≡ None → (more : ℕ) → TakesUnder width text tables more → 255 < more
no_cut width text tables none more takes = absurd (differ takes.cut.0 (sym takes.cut.1 ∙ none))

pub too_many_under : (one : HasOneCut) (width : Width) (text : List ℕ) (tables : Tables) (pieces : List (List ℕ)) → IsCutUnder width tables text pieces → 255 < length pieces → (more : ℕ) → TakesUnder width text tables more → 255 < more
too_many_under one width text tables pieces cut over more takes = omega (arith, as_counted one width text tables pieces more cut takes, over)

-- ---- one choice more

-- a choice that takes too many, or can't be
pub best_stays : (width : Width) (text : List ℕ) (all : List Choice) (next : Choice) (best : Option Cut) → ((more : ℕ) → Takes width text next more → 255 < more) → IsBest width text all best → IsBest width text (all ++ next ∷ []) best
best_stays width text all next None over h = all_join (TakesMore width text 255) all (next ∷ []) h (over, tt)
best_stays width text all next (Some cut) over h =
    (h.0, h.1, stays_first width text all (Under cut.tables) next (length cut.pieces) (λ more takes. omega (arith, over more takes, h.3)) h.2, h.3)

abbrev pub IsNext : Width → List ℕ → Cut → Type 0
IsNext width text cut = (cut.width ≡ width) × IsCutUnder width cut.tables text cut.pieces × (length cut.pieces ≤ 255)

new_best : (width : Width) (text : List ℕ) (all : List Choice) (cut : Cut) → IsNext width text cut → AllByRecursion (TakesMore width text (length cut.pieces)) all → IsBest width text (all ++ Under cut.tables ∷ []) (Some cut)
new_best width text all cut next more =
    (next.0, next.1, comes_first width text all (Under cut.tables) (length cut.pieces) more (record { pieces = cut.pieces; cut = next.1; many = refl }), next.2)

pub fewer_is_best : (one : HasOneCut) (width : Width) (text : List ℕ) (all : List Choice) (best : Option Cut) (cut chosen : Cut) → IsNext width text cut → IsFewer best cut chosen → IsBest width text all best → IsBest width text (all ++ Under cut.tables ∷ []) (Some chosen)
fewer_is_best one width text all None cut chosen next fewer h =
    subst (λ (x : Cut). IsBest width text (all ++ Under cut.tables ∷ []) (Some x)) (sym fewer)
    (new_best width text all cut next (all_weaker (TakesMore width text 255) (TakesMore width text (length cut.pieces)) all (λ x m more takes. omega (arith, m more takes, next.2)) h))
fewer_is_best one width text all (Some best) cut chosen next fewer h = go (cases_lt (length cut.pieces) (length best.pieces))
  where
    go : (length cut.pieces < length best.pieces) ⊎ (length best.pieces ≤ length cut.pieces) → IsBest width text (all ++ Under cut.tables ∷ []) (Some chosen)
    go (inl lt) =
        subst (λ (x : Cut). IsBest width text (all ++ Under cut.tables ∷ []) (Some x)) (sym (fewer.1 lt))
        (new_best width text all cut next (all_more width text all (Under best.tables) (length best.pieces) (length cut.pieces) lt (no_fewer_itself one width text best.tables best.pieces (length best.pieces) (omega arith) h.1) h.2))
    go (inr le) =
        subst (λ (x : Cut). IsBest width text (all ++ Under cut.tables ∷ []) (Some x)) (sym (fewer.0 le))
        (h.0, h.1, stays_first width text all (Under best.tables) (Under cut.tables) (length best.pieces) (no_fewer_itself one width text cut.tables cut.pieces (length best.pieces) le next.1) h.2, h.3)

-- ---- the choices that were tried

next_tried : (order : List Tables) (index : ℕ) (d : Tables) → index < length order → map Under (take (suc index) order) ≡ map Under (take index order) ++ Under (get_or order index d) ∷ []
next_tried [] index d lt = absurd (omega (arith, lt))
next_tried (x ∷ order) zero d lt = refl
next_tried (x ∷ order) (suc index) d lt = ap (λ (l : List Choice). Under x ∷ l) (next_tried order index d (omega (arith, lt)))

pub one_tried_more : (order : List Tables) (index : ℕ) (d : Tables) → index < length order → map Under (take index order) ++ Under (get_or order index d) ∷ [] ≡ map Under (take (index + 1) order)
one_tried_more order index d lt = sym (ap (λ (n : ℕ). map Under (take n order)) (let e : index + 1 ≡ suc index = omega arith in e) ∙ next_tried order index d lt)
