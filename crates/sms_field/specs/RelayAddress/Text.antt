-- The text of a relay address: its digits as 3GPP TS 23.040, 9.1.2.3 has them, an international
-- telephone number after +.
use Rattle.std.specs.Prelude.{ℕ, List, [], ◌∷◌, ◌++◌, Result, Ok, Err, ◌==◌, if◌then◌else◌}
use Rattle.sms_field.specs.Address.DigitText.{text_of_digits, digits_of_text}
use Rattle.sms_field.specs.Address.Text.{plus, prefix, few_digits}
use Rattle.sms_field.specs.RelayAddress.Value.{RelayAddressValue}
use Rattle.sms_field.specs.declared.fault.AddressFault.{AddressFault}

unfoldable pub relay_address_text : RelayAddressValue → List ℕ
relay_address_text a = prefix a.kind ++ text_of_digits a.digits

-- digits of this type of number, in plan 1, that of telephone numbers
abbrev pub relay_telephone_of : ℕ → Result (List ℕ) AddressFault
    → Result RelayAddressValue AddressFault
relay_telephone_of kind (Ok digits) = Ok (record { kind = kind; plan = 1; digits = digits })
relay_telephone_of kind (Err why) = Err why

-- the address that a text says: after + an international telephone number, 1, else one of unknown
-- type, 0
unfoldable pub relay_address_of_text : List ℕ → Result RelayAddressValue AddressFault
relay_address_of_text [] = relay_telephone_of 0 (few_digits (digits_of_text []))
relay_address_of_text (c ∷ text) =
    if c == plus
    then relay_telephone_of 1 (few_digits (digits_of_text text))
    else relay_telephone_of 0 (few_digits (digits_of_text (c ∷ text)))
