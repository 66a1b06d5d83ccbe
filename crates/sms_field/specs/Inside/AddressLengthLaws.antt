-- A reader may pass this by: lemmas, for the proofs of this crate and of those above it.
--
-- How many octets an address takes.
use Rattle.std.proofs.Common.{◌≡◌, ℕ, ◌+◌, ◌/◌, ◌≤◌, List, [], ◌∷◌, length, Option, Some, None, refl, arith}
use Rattle.sms_field.specs.declared.symbols.Symbols.{Symbols}
use Rattle.sms_field.specs.declared.symbols.Symbols.TheVariants.{Digits, Name}
use Rattle.sms_field.specs.Address.DigitOctets.{digit_octets}
use Rattle.sms_field.specs.Address.Value.{AddressValue, HasSpelling, AreSymbolsOf}
use Rattle.sms_field.specs.Address.{symbols_octets, address_octets}
use Rattle.sms_field.specs.Inside.NameSpelling.{length-name_octets}
use Rattle.sms_field.specs.RelayAddress.Value.{RelayAddressValue, HasRelaySpelling, HasOptionalSpelling}
use Rattle.sms_field.specs.RelayAddress.{relay_address_octets, optional_address_octets}

pub length-digit_octets : (values : List ℕ) → length (digit_octets values) ≡ (length values + 1) / 2
unfolding digit_octets
length-digit_octets [] = refl
length-digit_octets (digit ∷ []) = refl
length-digit_octets (low ∷ high ∷ others) = let h = length-digit_octets others in omega arith

symbols_few : (kind : ℕ) (symbols : Symbols) → AreSymbolsOf kind symbols → length (symbols_octets symbols) ≤ 10
symbols_few kind (Digits values) fits = omega (arith, fits.1.few, length-digit_octets values)
symbols_few kind (Name septets) fits = omega (arith, fits.1.few, length-name_octets septets)

pub address_few : (a : AddressValue) → HasSpelling a → length (address_octets a) ≤ 12
unfolding address_octets
address_few a fits = let h = symbols_few a.kind a.symbols fits.symbols in omega arith

relay_few : (a : RelayAddressValue) → HasRelaySpelling a → length (relay_address_octets a) ≤ 12
unfolding relay_address_octets
relay_few a fits = omega (arith, fits.digits.few, length-digit_octets a.digits)

pub relay_address_few : (a : Option RelayAddressValue) → HasOptionalSpelling a → length (optional_address_octets a) ≤ 12
relay_address_few None fits = omega arith
relay_address_few (Some a) fits = relay_few a fits
