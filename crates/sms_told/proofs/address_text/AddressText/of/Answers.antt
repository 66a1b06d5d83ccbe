use Rattle.std.proofs.Common.{ap, ◌∙◌, ◌++◌, ℕ, List}
use Rattle.std.specs.String.{string_bytes}
use Rattle.std.proofs.lemmas.Str.{IsUtf8-string_bytes}
use Rattle.sms_text.specs.TextOfSeptets.{text_of_septets}
use Rattle.sms_field.specs.Address.Value.{AddressValue}
use Rattle.sms_field.specs.Address.DigitText.{text_of_digits}
use Rattle.sms_field.specs.Address.Text.{prefix}
use Rattle.sms_told.proofs.AddressTexts.{digits_told, name_told}
use Rattle.sms_told.proofs.address_text.AddressText.of.Goals as goal

pub returns-in-Digits-clause-text : goal.returns-in-Digits-clause-text
returns-in-Digits-clause-text c =
    let kind = c.address.inside.type_of_number in
    digits_told c.args.address.now kind c.address.inside.symbols c.in-Digits.digits c.of.result
    (ap (λ (a : AddressValue). a.kind) c.address.view_is) (ap (λ (a : AddressValue). a.symbols) c.address.view_is) c.in-Digits.is c.of.ensures.ascii
    (c.of.ensures.text ∙ ap (λ (ds : List ℕ). prefix kind ++ text_of_digits ds) c.as_slice.ensures.value)

pub returns-in_ok-text_of_gsm-in-Name-clause-text : goal.returns-in_ok-text_of_gsm-in-Name-clause-text
returns-in_ok-text_of_gsm-in-Name-clause-text c =
    let text = c.in_ok-text_of_gsm-in-Name.field-0 in
    name_told c.args.address.now c.address.inside.symbols c.in-Name.name (string_bytes text)
    (ap (λ (a : AddressValue). a.symbols) c.address.view_is) c.in-Name.is (IsUtf8-string_bytes text)
    (c.in_ok-text_of_gsm-in-Name.ensures ∙ ap text_of_septets c.as_slice-in-Name.ensures.value)
