-- The texts of addresses in UTF-8.
use Rattle.std.proofs.Common.{◌≡◌, ℕ, List, ◌++◌, ap, sym, ◌∙◌}
use Rattle.std.specs.Str.{IsAscii, IsUtf8, chars, encode_utf8_all}
use Rattle.std.proofs.lemmas.Str.{encodes-IsAscii, encodes-chars}
use Rattle.sms_text.specs.TextOfSeptets.{text_of_septets}
use Rattle.sms_field.specs.Address.Value.{AddressValue}
use Rattle.sms_field.specs.Address.DigitText.{text_of_digits}
use Rattle.sms_field.specs.Address.Text.{address_text, prefix, symbols_text}
use Rattle.sms_field.specs.declared.symbols.Symbols.{Symbols}
use Rattle.sms_field.specs.declared.symbols.Symbols.TheVariants.{Digits, Name}
use Rattle.sms_told.specs.Parties.{party_octets}

pub digits_told : (a : AddressValue) (kind : ℕ) (symbols : Symbols) (digits text : List ℕ)
    → kind ≡ a.kind → symbols ≡ a.symbols → symbols ≡ Digits digits → IsAscii text → text ≡ prefix kind ++ text_of_digits digits → text ≡ party_octets a
unfolding address_text
digits_told a kind symbols digits text k s is ascii e =
    let own = sym is ∙ s in
    sym (encodes-IsAscii text ascii) ∙ ap encode_utf8_all (e ∙ (λ i. symbols_text (k i) (own i)))

pub name_told : (a : AddressValue) (symbols : Symbols) (name text : List ℕ)
    → symbols ≡ a.symbols → symbols ≡ Name name → IsUtf8 text → chars text ≡ text_of_septets name → text ≡ party_octets a
unfolding address_text
name_told a symbols name text s is utf8 e =
    let own = sym is ∙ s in
    sym (encodes-chars text utf8) ∙ ap encode_utf8_all (e ∙ (λ i. symbols_text a.kind (own i)))
