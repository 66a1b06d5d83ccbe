-- Addresses as they are told.
use Rattle.std.specs.Prelude.{ℕ, List, [], ◌∷◌, codes, decimal}
use Rattle.std.specs.Str.{encode_utf8_all}
use Rattle.std.specs.String.{string_bytes}
use Rattle.sms_field.specs.Address.Value.{AddressValue}
use Rattle.sms_field.specs.Address.Text.{address_text}
use Rattle.sms_page.specs.Escapes.{escaped, line}
use Rattle.sms_page.specs.Object.{Token, json_string, object, end_object, name, value}
use Rattle.sms_told.specs.declared.address_text.AddressText.{AddressText}
use Rattle.sms_told.specs.declared.address_text.AddressText.TheVariants.{Telephone, Name}

-- what a text of an address has, in UTF-8
abbrev pub octets_in : AddressText → List ℕ
octets_in (Telephone octets) = octets
octets_in (Name text) = string_bytes text

-- the text of an address in UTF-8
abbrev pub party_octets : AddressValue → List ℕ
party_octets address = encode_utf8_all (address_text address)

-- in a line
abbrev pub party_line : AddressValue → List ℕ
party_line address = escaped line (party_octets address)

-- in JSON: a text, a type of number and a plan
abbrev pub address_object : List ℕ → ℕ → ℕ → List Token
address_object text kind plan =
    object
    ∷ name (codes "text") ∷ value (json_string text)
    ∷ name (codes "type") ∷ value (decimal kind)
    ∷ name (codes "plan") ∷ value (decimal plan)
    ∷ end_object ∷ []

abbrev pub party_object : AddressValue → List Token
party_object address = address_object (party_octets address) address.kind address.plan
