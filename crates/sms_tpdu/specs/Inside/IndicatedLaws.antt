-- A reader may pass this by: lemmas, for the proofs of this crate and of those above it.
--
-- The parts of a report after their indicator, or none, are a lawful field, and what is written is
-- read back.
use Rattle.std.proofs.Common.{◌≡◌, inl, inr, ℕ, ◌||◌, Bool, true, false, cond, List, [], ◌∷◌, ◌++◌, Option, Some, None, is_some, refl, ap, subst, ◌∙◌}
use Rattle.sms_text.specs.Octets.{IsOctets}
use Rattle.sms_field.specs.Field.{HasReading, IsLawful}
use Rattle.sms_field.specs.Inside.ChainLaws.{chain_lawful}
use Rattle.sms_field.specs.Inside.ChainReading.{chained}
use Rattle.sms_tpdu.specs.Inside.IfMoreLaws.{if_more_lawful}
use Rattle.sms_tpdu.specs.Report.ParameterIndicator.{indicator, indicator_octet}
use Rattle.sms_tpdu.specs.Inside.ParameterIndicatorLaws.{indicator_self, indicator_lawful, indicator_is, indicator_again}
use Rattle.sms_tpdu.specs.Report.AnnouncedParts.{Parts, indicator_of, AreParts, parts_octets}
use Rattle.sms_tpdu.specs.Inside.AnnouncedPartsLaws.{parts_lawful, parts_again, parts_are_octets}
use Rattle.sms_tpdu.specs.Report.Indicated.{indicated_parts, no_parts, optional_parts, is_any, optional_parts_octets, MayFollowParts}
use Rattle.sms_tpdu.specs.declared.report.parts.ReportData.{ReportData}
use Rattle.sms_tpdu.specs.declared.fault.UnitFault.TheVariants.{Short}

indicated_lawful : IsLawful Short indicated_parts
unfolding indicated_parts
indicated_lawful = chain_lawful _ _ Short indicator_self indicator_lawful (λ there _ _ _. parts_lawful there)

no_indicator : ¬ HasReading indicated_parts []
unfolding indicated_parts indicator
no_indicator r =
    let first = r.read.of_first in
    let parts : [] ≡ ((first.front ++ first.back) ++ r.read.back) ++ r.rest = r.parts ∙ ap (λ (l : List ℕ). l ++ r.rest) (r.read.parts ∙ ap (λ (l : List ℕ). l ++ r.read.back) first.parts) in
    let some : [] ≡ ((first.choice ∷ [] ++ first.back) ++ r.read.back) ++ r.rest = subst (λ (l : List ℕ). [] ≡ ((l ++ first.back) ++ r.read.back) ++ r.rest) first.of_first parts in
    cc

pub optional_parts_lawful : IsLawful Short optional_parts
optional_parts_lawful = if_more_lawful Short no_parts indicated_parts no_indicator indicated_lawful

-- ---- what is written

indicated_again : (those : Parts) (rest : List ℕ) → AreParts those → indicated_parts.reads those (indicator_octet (indicator_of those) ∷ parts_octets those) rest
unfolding indicated_parts
indicated_again those rest fits =
    let there = indicator_of those in
    chained _ _ there those (indicator_octet there ∷ []) _ rest (indicator_again there _) (parts_again those rest fits)

are_none : (pid dcs : Option ℕ) (user : Option ReportData) → (is_some pid || is_some dcs || is_some user) ≡ false → (let those : Parts = record { pid = pid; dcs = dcs; user = user } in those) ≡ no_parts
are_none None None None e = refl
are_none (Some pid) dcs user e = absurd cc
are_none None (Some dcs) user e = absurd cc
are_none None None (Some user) e = absurd cc

pub optional_parts_again : (those : Parts) (rest : List ℕ) → AreParts those → MayFollowParts those rest → optional_parts.reads those (optional_parts_octets those) rest
optional_parts_again those rest fits follows = go (is_any (indicator_of those)) refl
  where
    go : (b : Bool) → is_any (indicator_of those) ≡ b → optional_parts.reads those (cond b (indicator_octet (indicator_of those) ∷ parts_octets those) []) rest
    go true is = inr (indicated_again those rest fits)
    go false is = inl (are_none those.pid those.dcs those.user is, refl, follows is)

pub optional_parts_are_octets : (those : Parts) → AreParts those → IsOctets (optional_parts_octets those)
optional_parts_are_octets those fits = go (is_any (indicator_of those))
  where
    go : (b : Bool) → IsOctets (cond b (indicator_octet (indicator_of those) ∷ parts_octets those) [])
    go true = ((indicator_is (indicator_of those)).small, parts_are_octets those fits)
    go false = tt
