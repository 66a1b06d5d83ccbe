-- The addresses that texts say.
use Rattle.std.specs.Prelude.{◌≡◌, ℕ, List, Result, Ok, Err}
use Rattle.sms_field.specs.Address.Value.{AddressValue}
use Rattle.sms_field.specs.RelayAddress.{relay_address_octets}
use Rattle.sms_field.specs.RelayAddress.Text.{relay_address_of_text}
use Rattle.sms_field.specs.RelayAddress.Value.{RelayAddressValue}
use Rattle.sms_field.specs.declared.fault.AddressFault.{AddressFault}
use Rattle.sms_encode.specs.declared.addresses.NoAddress.{NoAddress}
use Rattle.sms_encode.specs.declared.addresses.NoAddress.TheVariants.{Bad, Memory}

-- The text says no address, unless memory ran out.
abbrev pub Refuses : NoAddress → Result AddressValue AddressFault → Type 0
Refuses (Bad spot) said = (why : AddressFault) × (said ≡ Err why)
Refuses Memory said = Unit {0}

-- These are the octets of the address of a service centre that the text says.
abbrev pub AreCentreOctets : (text octets : List ℕ) → Type 0
AreCentreOctets text octets =
    (centre : RelayAddressValue) × (relay_address_of_text text ≡ Ok centre)
    × (octets ≡ relay_address_octets centre)
