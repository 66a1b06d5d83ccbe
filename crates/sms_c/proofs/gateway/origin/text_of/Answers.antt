use Rattle.std.proofs.Common.{◌≡◌, Some, None, refl, sym, ap, ◌∙◌, arith, rules}
use Rattle.sms_field.specs.Address.Text.{address_text}
use Rattle.sms_join.specs.Key.{origin_of}
use Rattle.sms_c.proofs.OpenOnes.{none_from, first_there, another_first}
use Rattle.sms_c.proofs.gateway.origin.text_of.Goals as goal

pub returns-in_default-clause-not_there : goal.returns-in_default-clause-not_there
returns-in_default-clause-not_there c = (λ eight. none_from c.args.opening c.args.inside.now.gateway.told (search rules), λ none. refl)

pub returns-then-turn-opening-clause-not_there : goal.returns-then-turn-opening-clause-not_there
returns-then-turn-opening-clause-not_there c = (
  λ eight. another_first c.args.opening c.args.inside.now.gateway.told c.in-Some.set c.open_from.ensures.rise (sym c.in-Some.ensures.first) (λ own. c.if-turn-opening.true (c.turn.ensures ∙ own)),
  λ none. refl,
)

pub returns-in_err-to_text-clause-not_there : goal.returns-in_err-to_text-clause-not_there
returns-in_err-to_text-clause-not_there c =
    let there = first_there c.args.opening c.args.inside.now.gateway.told c.in-Some.set (sym c.in-Some.ensures.first) (sym c.turn.ensures ∙ c.if-turn-opening.false) in
    (λ eight. absurd (search (rules, arith)), λ none. let both : None ≡ Some c.in-Some.set = sym none ∙ there in absurd cc)

pub returns-clause-text : goal.returns-clause-text
returns-clause-text c = (
  c.in-Some.set,
  first_there c.args.opening c.args.inside.now.gateway.told c.in-Some.set (sym c.in-Some.ensures.first) (sym c.turn.ensures ∙ c.if-turn-opening.false),
  c.in_ok-to_text.ensures ∙ ap address_text (c.origin.ensures ∙ ap origin_of c.key.ensures),
)

pub returns-clause-not_there : goal.returns-clause-not_there
returns-clause-not_there c =
    let there = first_there c.args.opening c.args.inside.now.gateway.told c.in-Some.set (sym c.in-Some.ensures.first) (sym c.turn.ensures ∙ c.if-turn-opening.false) in
    (λ eight. absurd (omega (arith, eight)), λ none. let both : None ≡ Some c.in-Some.set = sym none ∙ there in absurd cc)
