-- The numbers, the recipient and the origin are compared in turn.
use Rattle.std.proofs.Common.{◌∙◌, sym, ap}
use Rattle.std.specs.Prelude.{option_copied}
use Rattle.sms_field.specs.Address.Value.{AddressValue}
use Rattle.sms_field.specs.Address.Same.{same_address}
use Rattle.sms_join.proofs.SameKeys.{other_numbers, other_recipient, by_origin}
use Rattle.sms_join.proofs.key.Key.is_of.Goals as goal

pub returns-then-not-has_numbers : goal.returns-then-not-has_numbers
returns-then-not-has_numbers c =
    other_numbers c.args.self.now (option_copied c.args.to) c.args.origin.now c.args.stamp c.args.concat (sym c.has_numbers.ensures ∙ c.if-not-has_numbers.true)

pub returns-then-is_to : goal.returns-then-is_to
returns-then-is_to c =
    c.is_same.ensures
    ∙ (ap (λ (a : AddressValue). same_address a c.args.origin.now) c.origin.ensures
    ∙ by_origin c.args.self.now (option_copied c.args.to) c.args.origin.now c.args.stamp c.args.concat (sym c.has_numbers.ensures ∙ c.if-not-has_numbers.false) (sym c.is_to.ensures ∙ c.if-is_to.true))

pub returns-else-is_to : goal.returns-else-is_to
returns-else-is_to c =
    c.if-is_to.false
    ∙ other_recipient c.args.self.now (option_copied c.args.to) c.args.origin.now c.args.stamp c.args.concat (sym c.has_numbers.ensures ∙ c.if-not-has_numbers.false) (sym c.is_to.ensures ∙ c.if-is_to.false)
