use Rattle.std.proofs.Common.{Bool, ap, ◌∙◌, List}
use Rattle.std.specs.Prelude.{position}
use Rattle.sms_field.specs.Address.Value.{AddressValue}
use Rattle.sms_message.specs.Address.{phone_at}
use Rattle.sms_centre.specs.Centre.Value.{HoldingsValue, addresses}
use Rattle.sms_centre.proofs.SameAddresses.{same_test, either_way}
use Rattle.sms_centre.proofs.centre.holdings.Holdings.find.Goals as goal

pub returns : goal.returns
returns c =
    c.get_index_of.ensures.index
    ∙ (ap (λ (p : AddressValue → Bool). position p c.self.inside.phones.keys) (same_test c.args.target.now ∙ either_way c.args.target.now)
    ∙ ap (λ (l : List AddressValue). phone_at l c.args.target.now) (c.self.invariant.1 ∙ ap (λ (v : HoldingsValue). addresses v.lines) c.self.view_is))
