-- The text of an address. Its digits are shown as 3GPP TS 23.040, 9.1.2.3 has them, an
-- international telephone number (9.1.2.5) after +; a name is its own text.
use Rattle.std.specs.Prelude.{◌≡◌, ◌≢◌, ℕ, List, [], ◌∷◌, ◌++◌, length, Option, Some, None, Result, Ok, Err, ◌==◌, nat_le, if◌then◌else◌}
use Rattle.sms_text.specs.SeptetsOfText.{septets_of_text}
use Rattle.sms_text.specs.TextOfSeptets.{text_of_septets}
use Rattle.sms_field.specs.Address.Value.{AddressValue, alphanumeric}
use Rattle.sms_field.specs.Address.DigitText.{text_of_digits, digits_of_text}
use Rattle.sms_field.specs.declared.symbols.Symbols.{Symbols}
use Rattle.sms_field.specs.declared.symbols.Symbols.TheVariants.{Digits, Name}
use Rattle.sms_field.specs.declared.digits.TheConstants.{DIGITS_MAX}
use Rattle.sms_field.specs.declared.name.TheConstants.{NAME_MAX}
use Rattle.sms_field.specs.declared.fault.AddressFault.{AddressFault}
use Rattle.sms_field.specs.declared.fault.AddressFault.TheVariants.{BadDigit, AddressTooLong}

-- the character +
abbrev pub plus : ℕ
plus = 43

-- what stands before the digits of a number of this type: + where it is 1, international
abbrev pub prefix : ℕ → List ℕ
prefix kind = if kind == 1 then plus ∷ [] else []

abbrev pub symbols_text : ℕ → Symbols → List ℕ
symbols_text kind (Digits digits) = prefix kind ++ text_of_digits digits
symbols_text kind (Name septets) = text_of_septets septets

unfoldable pub address_text : AddressValue → List ℕ
address_text address = symbols_text address.kind address.symbols

-- up to 20 digits, and each character one
abbrev pub few_digits : Option (List ℕ) → Result (List ℕ) AddressFault
few_digits None = Err BadDigit
few_digits (Some digits) =
    if nat_le (length digits) DIGITS_MAX then Ok digits else Err AddressTooLong

-- digits of this type of number, in plan 1, that of telephone numbers
abbrev pub telephone : ℕ → List ℕ → AddressValue
telephone kind digits = record { kind = kind; plan = 1; symbols = Digits digits }

abbrev pub telephone_of : ℕ → Result (List ℕ) AddressFault → Result AddressValue AddressFault
telephone_of kind (Ok digits) = Ok (telephone kind digits)
telephone_of kind (Err why) = Err why

-- a name of up to 11 septets, in plan 0 (unknown)
abbrev pub name_of : Option (List ℕ) → Result AddressValue AddressFault
name_of None = Err BadDigit
name_of (Some septets) =
    if nat_le (length septets) NAME_MAX
    then Ok (record { kind = alphanumeric; plan = 0; symbols = Name septets })
    else Err AddressTooLong

-- a telephone number of unknown type, 0; a text with another character than digits is a name
abbrev pub telephone_or_name : Result (List ℕ) AddressFault → Result AddressValue AddressFault
    → Result AddressValue AddressFault
telephone_or_name (Ok digits) named = Ok (telephone 0 digits)
telephone_or_name (Err BadDigit) named = named
telephone_or_name (Err why) named = Err why

abbrev pub without_plus : List ℕ → Result AddressValue AddressFault
without_plus text =
    telephone_or_name (few_digits (digits_of_text text)) (name_of (septets_of_text text))

-- a text that is no number: it does not begin with +, and not each of its characters is a digit
abbrev pub IsNoNumber : List ℕ → Type 0
IsNoNumber text = ((rest : List ℕ) → text ≢ plus ∷ rest) × (digits_of_text text ≡ None)

-- the address that a text says: after + an international telephone number, 1, else one of unknown
-- type or a name
unfoldable pub address_of_text : List ℕ → Result AddressValue AddressFault
address_of_text [] = without_plus []
address_of_text (c ∷ text) =
    if c == plus then telephone_of 1 (few_digits (digits_of_text text)) else without_plus (c ∷ text)
