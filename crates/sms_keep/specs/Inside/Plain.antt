-- A reader may pass this by: contracts of private functions, and proofs, alone cite it.
--
-- When octets that are read as an address are those that it is written as: none follow them, and
-- all that mean nothing are as they are written (3GPP TS 23.040, 9.1.2.3 and 9.1.2.5).
use Rattle.std.specs.Prelude.{ℕ, ◌+◌, ◌-◌, ◌*◌, ◌/◌, ◌%◌, ◌^◌, Bool, true, false, ◌&&◌, ◌||◌, ◌==◌, List, [], ◌∷◌, length, nat_le, slice_index}
use Rattle.sms_field.specs.Address.Value.{alphanumeric}

-- after an odd last digit the high half is 15
abbrev pub is_filled : ℕ → List ℕ → Bool
is_filled count symbols = (count % 2 == 0) || nat_le 240 (slice_index symbols (count / 2))

-- after so many septets all bits of the last octet are 0
abbrev pub is_clear : ℕ → List ℕ → Bool
is_clear septets symbols =
    (septets % 8 == 0) || (slice_index symbols (7 * septets / 8) / 2 ^ (8 - septets % 8) == 0)

-- there are no more semi-octets than the septets that lie in them whole need
abbrev pub are_needed : ℕ → ℕ → Bool
are_needed count septets = count == (7 * septets + 3) / 4

-- of a name or of digits, as many semi-octets as are counted
abbrev pub are_plain : Bool → ℕ → List ℕ → Bool
are_plain true count symbols =
    are_needed count (4 * count / 7) && is_clear (4 * count / 7) symbols
are_plain false count symbols = is_filled count symbols

-- bit 7 of Type-of-Address is 1
abbrev pub is_plain : List ℕ → Bool
is_plain [] = false
is_plain (count ∷ []) = false
is_plain (count ∷ address_type ∷ symbols) =
    (length symbols == (count + 1) / 2)
    && (nat_le 128 address_type
    && are_plain (address_type / 16 % 8 == alphanumeric) count symbols)
