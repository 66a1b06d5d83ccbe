use Rattle.std.proofs.Common.{refl}
use Rattle.std.specs.String.{string_bytes}
use Rattle.std.proofs.lemmas.Str.{IsUtf8-string_bytes}
use Rattle.sms_field.specs.declared.symbols.Symbols.TheVariants.{Digits, Name}
use Rattle.sms_told.proofs.AddressTexts.{digits_told, name_told}
use Rattle.sms_told.proofs.address_text.AddressText.seen.Goals as goal

pub returns-in-Digits-clause-text : goal.returns-in-Digits-clause-text
returns-in-Digits-clause-text c =
    digits_told c.args.address.now c.type_of_number.result (Digits c.in-Digits.digits) c.in-Digits.digits c.seen-telephone.result
    c.type_of_number.ensures c.in-Digits.ensures refl c.seen-telephone.ensures.ascii c.seen-telephone.ensures.text

pub returns-in_ok-name_seen-in-Name-clause-text : goal.returns-in_ok-name_seen-in-Name-clause-text
returns-in_ok-name_seen-in-Name-clause-text c =
    let text = c.in_ok-name_seen-in-Name.field-0 in
    name_told c.args.address.now (Name c.in-Name.name) c.in-Name.name (string_bytes text)
    c.in-Name.ensures refl (IsUtf8-string_bytes text) c.in_ok-name_seen-in-Name.ensures
