use Rattle.std.proofs.Common.{◌≡◌, ap, ◌∙◌}
use Rattle.sms_told.specs.Parties.{address_object, party_octets}
use Rattle.sms_field.specs.Address.Value.{AddressValue}
use Rattle.sms_told.proofs.Composed.{Writes-then, Writes-same}
use Rattle.sms_told.proofs.party.put_party_object.Goals as goal

pub returns : goal.returns
returns c =
    let own : c.address.inside.type_of_number ≡ c.args.party.now.kind = ap (λ (a : AddressValue). a.kind) (c.address.view_is ∙ c.party.view_is) in
    let plan : c.address.inside.plan ≡ c.args.party.now.plan = ap (λ (a : AddressValue). a.plan) (c.address.view_is ∙ c.party.view_is) in
    let text = c.as_str.ensures ∙ c.party.invariant ∙ ap party_octets c.party.view_is in
    let kind = c.from.ensures ∙ own in
    let number = c.from-2.ensures ∙ plan in
    Writes-same (λ i. address_object (text i) (kind i) (number i))
    (Writes-then _ _ (Writes-then _ _ (Writes-then _ _ (Writes-then _ _ c.open.ensures c.text_named.ensures) c.number_named.ensures) c.number_named-2.ensures) c.close.ensures)
