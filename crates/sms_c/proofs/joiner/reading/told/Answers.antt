use Rattle.std.proofs.Common.{◌≡◌, true, false, ap, sym, ◌∙◌, arith, rules}
use Rattle.sms_c.specs.Offers.{has_text}
use Rattle.sms_c.proofs.joiner.reading.told.Goals as goal

pub returns-in_err-view-clause-no_text : goal.returns-in_err-view-clause-no_text
returns-in_err-view-clause-no_text c =
    (λ eight. absurd (search (rules, arith)), λ none. absurd (c.in_err-view.ensures.exact none.value none.used none.read))

pub returns-clause-no_text : goal.returns-clause-no_text
returns-clause-no_text c = (
  λ eight. absurd (omega (arith, eight)),
  λ none.
      let same : c.in_ok-view.view ≡ none.value = c.in_ok-view.ensures.exact none.value none.used none.read in
      let there : has_text c.in_ok-view.view ≡ true = search rules in
      let both : true ≡ false = sym there ∙ (ap has_text same ∙ none.none) in absurd cc,
)

pub returns-in_err-view-clause-exact : goal.returns-in_err-view-clause-exact
returns-in_err-view-clause-exact c = λ value used read. absurd (c.in_err-view.ensures.exact value used read)

pub returns-then-not-is_text-clause-exact : goal.returns-then-not-is_text-clause-exact
returns-then-not-is_text-clause-exact c =
    λ value used read.
    let same : c.in_ok-view.view ≡ value = c.in_ok-view.ensures.exact value used read in
    let none : has_text c.in_ok-view.view ≡ false = search rules in sym (ap has_text same) ∙ none

pub returns-clause-exact : goal.returns-clause-exact
returns-clause-exact c = λ value used read. c.in_ok-view.ensures.exact value used read
