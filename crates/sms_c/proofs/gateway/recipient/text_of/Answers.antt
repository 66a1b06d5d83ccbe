use Rattle.std.proofs.Common.{◌≡◌, Some, None, refl, sym, ap, ◌∙◌, arith, rules}
use Rattle.sms_join.specs.Key.{recipient_of}
use Rattle.sms_c.proofs.GatewayOffering.{no_recipient, recipient_in_set}
use Rattle.sms_c.proofs.OpenOnes.{none_from, first_there, another_first}
use Rattle.sms_c.proofs.gateway.recipient.text_of.Goals as goal

pub returns-in_default-clause-not_there : goal.returns-in_default-clause-not_there
returns-in_default-clause-not_there c =
    (λ eight. no_recipient c.args.opening c.args.inside.now.gateway.told (none_from c.args.opening c.args.inside.now.gateway.told (search rules)), λ none. refl)

pub returns-then-turn-opening-clause-not_there : goal.returns-then-turn-opening-clause-not_there
returns-then-turn-opening-clause-not_there c = (
  λ eight. no_recipient c.args.opening c.args.inside.now.gateway.told (another_first c.args.opening c.args.inside.now.gateway.told c.in-Some.set c.open_from.ensures.rise (sym c.in-Some.ensures.first) (λ own. c.if-turn-opening.true (c.turn.ensures ∙ own))),
  λ none. refl,
)

pub returns-in_default-recipient-clause-not_there :
    goal.returns-in_default-recipient-clause-not_there
returns-in_default-recipient-clause-not_there c =
    let there = first_there c.args.opening c.args.inside.now.gateway.told c.in-Some.set (sym c.in-Some.ensures.first) (sym c.turn.ensures ∙ c.if-turn-opening.false) in
    (λ eight. recipient_in_set c.args.opening c.args.inside.now.gateway.told c.in-Some.set there ∙ ap recipient_of (sym c.key.ensures) ∙ sym c.in_default-recipient.ensures, λ none. refl)

pub returns-in_err-to_text-clause-not_there : goal.returns-in_err-to_text-clause-not_there
returns-in_err-to_text-clause-not_there c =
    let there = first_there c.args.opening c.args.inside.now.gateway.told c.in-Some.set (sym c.in-Some.ensures.first) (sym c.turn.ensures ∙ c.if-turn-opening.false) in
    let is = recipient_in_set c.args.opening c.args.inside.now.gateway.told c.in-Some.set there ∙ ap recipient_of (sym c.key.ensures) ∙ sym c.in-Some-recipient.ensures in
    (λ eight. absurd (search (rules, arith)), λ none. let both : None ≡ Some c.in-Some-recipient.recipient.now = sym none ∙ is in absurd cc)

pub returns-clause-text : goal.returns-clause-text
returns-clause-text c =
    let there = first_there c.args.opening c.args.inside.now.gateway.told c.in-Some.set (sym c.in-Some.ensures.first) (sym c.turn.ensures ∙ c.if-turn-opening.false) in
    let is = recipient_in_set c.args.opening c.args.inside.now.gateway.told c.in-Some.set there ∙ ap recipient_of (sym c.key.ensures) ∙ sym c.in-Some-recipient.ensures in
    (c.in-Some-recipient.recipient.now, is, c.in_ok-to_text.ensures)

pub returns-clause-not_there : goal.returns-clause-not_there
returns-clause-not_there c =
    let there = first_there c.args.opening c.args.inside.now.gateway.told c.in-Some.set (sym c.in-Some.ensures.first) (sym c.turn.ensures ∙ c.if-turn-opening.false) in
    let is = recipient_in_set c.args.opening c.args.inside.now.gateway.told c.in-Some.set there ∙ ap recipient_of (sym c.key.ensures) ∙ sym c.in-Some-recipient.ensures in
    (λ eight. absurd (omega (arith, eight)), λ none. let both : None ≡ Some c.in-Some-recipient.recipient.now = sym none ∙ is in absurd cc)
