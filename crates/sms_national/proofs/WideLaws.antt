-- The best of choices, and UCS-2.
use Rattle.std.proofs.Common.{◌≡◌, ◌≢◌, ℕ, suc, ◌<◌, ◌≤◌, ◌⊎◌, inl, inr, true, List, [], ◌∷◌, ◌++◌, length, map, Option, Some, None, refl, sym, ap, subst, ◌∙◌, arith}
use Rattle.std.specs.Prelude.{All, Result, Err, IfOk}
use Rattle.std.proofs.lemmas.Bool.{cases_lt}
use Rattle.std.specs.List.{AllByRecursion}
use Rattle.std.proofs.Math.Utf8.{scalar, scalars}
use Rattle.sms_tpdu.specs.declared.user_data.concat.Width.{Width}
use Rattle.sms_join.specs.declared.cut.SplitFault.{SplitFault}
use Rattle.sms_join.specs.declared.cut.SplitFault.TheVariants.{TooManySegments}
use Rattle.sms_join.specs.declared.segment.Segment.{Segment}
use Rattle.sms_join.specs.declared.units.Units.{Units}
use Rattle.sms_join.specs.UnitsOfText.{IsText, alphabet_of}
use Rattle.sms_join.specs.UnitsOfText as units
use Rattle.sms_join.specs.Cut.{IsCut}
use Rattle.sms_join.specs.Cut as join
use Rattle.sms_join.specs.Segments.{AreSegments}
use Rattle.sms_join.specs.Segments.User.{IsSendable}
use Rattle.sms_national.specs.Cut.{HasOneCut}
use Rattle.sms_national.specs.Segments.{Cut}
use Rattle.sms_national.specs.declared.choice.LanguageSegments.{LanguageSegments}
use Rattle.sms_national.specs.declared.choice.LanguageSegments.TheVariants.{Ucs2}
use Rattle.sms_national.specs.Choice.{Choice, Under, Wide, TakesWide, TakeTooMany, AreFewest}
use Rattle.sms_national.specs.Inside.Best.{IsBest, IsFewerWide, AreBestOf}
use Rattle.sms_national.proofs.Whole.{both}
use Rattle.sms_national.proofs.BestLaws.{all_join, all_weaker, TakesMore, stays_first, comes_first, all_more, no_fewer_itself}

pub text_is : (text : List ℕ) → scalars text ≡ true → IsText text
text_is [] e = tt
text_is (c ∷ text) e = let h = both (scalar c) (scalars text) e in (h.0, text_is text h.1)

-- ---- UCS-2 takes too many, or is no choice

abbrev pub WideOver : Width → List ℕ → Type 0
WideOver width text = (more : ℕ) → TakesWide width text more → 255 < more

pub no_choice : (width : Width) (text : List ℕ) → alphabet_of text ≢ units.Wide → WideOver width text
no_choice width text has more takes = absurd (has takes.lacks)

-- as many as its one cut has
wide_counted : (one : join.HasOneCut) (width : Width) (text : List ℕ) (pieces : List Units) (more : ℕ) → IsText text → IsCut width text pieces → TakesWide width text more → more ≡ length pieces
wide_counted one width text pieces more is cut takes =
    let all = one width text is in
    takes.many ∙ ap (λ (l : List Units). length l) (all.2 takes.pieces takes.cut ∙ sym (all.2 pieces cut))

pub too_many : (one : join.HasOneCut) (width : Width) (text : List ℕ) (pieces : List Units) → IsText text → IsCut width text pieces → 255 < length pieces → WideOver width text
too_many one width text pieces is cut over more takes = omega (arith, wide_counted one width text pieces more is cut takes, over)

abbrev pub Settles : Width → List ℕ → Option Cut → LanguageSegments → Type 0
Settles width text best made = (all : List Choice) → IsBest width text all best → AreFewest width text (all ++ Wide ∷ []) made

pub over_fewest : (width : Width) (text : List ℕ) (best : Option Cut) (result : Result LanguageSegments SplitFault) → WideOver width text → AreBestOf best result → IfOk result (Settles width text best)
over_fewest width text None result over is = subst (λ (r : Result LanguageSegments SplitFault). IfOk r (Settles width text None)) (sym is) tt
over_fewest width text (Some cut) result over is =
    subst (λ (r : Result LanguageSegments SplitFault). IfOk r (Settles width text (Some cut))) (sym is)
    (λ all h. (h.0, h.1, stays_first width text all (Under cut.tables) Wide (length cut.pieces) (λ more takes. omega (arith, over more takes, h.3)) h.2))

pub over_too_many : (width : Width) (text : List ℕ) (all : List Choice) (best : Option Cut) (result : Result LanguageSegments SplitFault) → WideOver width text → AreBestOf best result → result ≡ Err TooManySegments → IsBest width text all best
    → TakeTooMany width text (all ++ Wide ∷ [])
over_too_many width text all None result over is e h = all_join (TakesMore width text 255) all (Wide ∷ []) h (over, tt)
over_too_many width text all (Some cut) result over is e h = absurd cc

-- ---- it takes at most 255

-- what is known of its segments
pub record AreWide (width : Width) (text : List ℕ) (segments : List Segment) : Type 0 where
  pub lacks : alphabet_of text ≡ units.Wide
  pub is_text : IsText text
  pub are : AreSegments width text segments
  pub sendable : All (IsSendable width) segments
  pub few : length segments ≤ 255

length-units : (segments : List Segment) → length (map (λ (s : Segment). s.units) segments) ≡ length segments
length-units [] = refl
length-units (s ∷ segments) = ap suc (length-units segments)

takes_wide : (width : Width) (text : List ℕ) (segments : List Segment) → AreWide width text segments → TakesWide width text (length segments)
takes_wide width text segments h = record {
  lacks = h.lacks;
  pieces = h.are.0;
  cut = h.are.1;
  many = sym (length-units segments) ∙ ap (λ (l : List Units). length l) h.are.2.units;
}

wide_is : (width : Width) (text : List ℕ) (all : List Choice) (segments : List Segment) → AreWide width text segments → AllByRecursion (TakesMore width text (length segments)) all → AreFewest width text (all ++ Wide ∷ []) (Ucs2 segments)
wide_is width text all segments h more = (h.are, h.sendable, comes_first width text all Wide (length segments) more (takes_wide width text segments h))

pub wide_fewest : (under_one : HasOneCut) (one : join.HasOneCut) (width : Width) (text : List ℕ) (all : List Choice) (best : Option Cut) (segments : List Segment) (chosen : LanguageSegments) → AreWide width text segments → IsFewerWide best segments chosen → IsBest width text all best
    → AreFewest width text (all ++ Wide ∷ []) chosen
unfolding takes_wide
wide_fewest under_one one width text all None segments chosen wide fewer h =
    subst (λ (x : LanguageSegments). AreFewest width text (all ++ Wide ∷ []) x) (sym fewer)
    (wide_is width text all segments wide (all_weaker (TakesMore width text 255) (TakesMore width text (length segments)) all (λ x m more takes. omega (arith, m more takes, wide.few)) h))
wide_fewest under_one one width text all (Some best) segments chosen wide fewer h = go (cases_lt (length segments) (length best.pieces))
  where
    counted : (more : ℕ) → TakesWide width text more → more ≡ length segments
    counted more takes = wide_counted one width text wide.are.0 more wide.is_text wide.are.1 takes ∙ sym (takes_wide width text segments wide).many

    go : (length segments < length best.pieces) ⊎ (length best.pieces ≤ length segments) → AreFewest width text (all ++ Wide ∷ []) chosen
    go (inl lt) =
        subst (λ (x : LanguageSegments). AreFewest width text (all ++ Wide ∷ []) x) (sym (fewer.1 lt))
        (wide_is width text all segments wide (all_more width text all (Under best.tables) (length best.pieces) (length segments) lt (no_fewer_itself under_one width text best.tables best.pieces (length best.pieces) (omega arith) h.1) h.2))
    go (inr le) =
        subst (λ (x : LanguageSegments). AreFewest width text (all ++ Wide ∷ []) x) (sym (fewer.0 le))
        (h.0, h.1, stays_first width text all (Under best.tables) Wide (length best.pieces) (λ more takes. omega (arith, counted more takes, le)) h.2)
