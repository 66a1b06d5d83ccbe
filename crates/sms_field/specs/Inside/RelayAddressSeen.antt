-- A reader may pass this by: contracts of private functions, and proofs, alone cite it.
--
-- An address of the relay layer seen in its octets (3GPP TS 24.011, 8.2.5.1 and 8.2.5.2).
use Rattle.std.specs.Prelude.{◌≡◌, ℕ, ◌+◌, ◌-◌, ◌*◌, ◌/◌, ◌%◌, List, [], ◌∷◌, length, slice_index, nat_lt, if◌then◌else◌}
use Rattle.sms_field.specs.Inside.AddressSeen.{digits_in}
use Rattle.sms_field.specs.RelayAddress.Value.{RelayAddressValue, HasRelaySpelling}

-- the digits in the last octet
abbrev pub last_digits_in : ℕ → List ℕ
last_digits_in octet =
    if nat_lt (octet / 16) 15 then octet % 16 ∷ octet / 16 ∷ [] else octet % 16 ∷ []

-- two digits an octet, one fewer where the high half of the last octet is 15
abbrev pub relay_count : List ℕ → ℕ
relay_count octets =
    if nat_lt (slice_index octets (length octets - 1) / 16) 15
    then 2 * length octets
    else 2 * length octets - 1

abbrev pub relay_digits_in : List ℕ → List ℕ
relay_digits_in octets = digits_in (relay_count octets) octets

-- the address of a type of number, a plan, and as many digits as are counted
abbrev pub relay_address_in : ℕ → ℕ → ℕ → List ℕ → RelayAddressValue
relay_address_in kind plan count octets =
    record { kind = kind; plan = plan; digits = digits_in count octets }

pub record IsRelayAddressIn (kind plan count : ℕ) (octets : List ℕ) : Type 0 where
  pub whole : length octets ≡ (count + 1) / 2
  pub spelled : HasRelaySpelling (relay_address_in kind plan count octets)
