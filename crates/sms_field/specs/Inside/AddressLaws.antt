-- A reader may pass this by: lemmas, for the proofs of this crate and of those above it.
--
-- An address is a lawful field.
use Rattle.std.proofs.Common.{◌≡◌, ℕ, ◌+◌, ◌*◌, ◌/◌, ◌%◌, Bool, true, false, leb, Err, refl, lit<}
use Rattle.std.specs.Prelude.{◌==◌}
use Rattle.sms_text.specs.Bits.{unpacked}
use Rattle.sms_field.specs.Field.{IsLawful, IsSelfContained, up_to}
use Rattle.sms_field.specs.declared.fault.FieldFault.{FieldFault}
use Rattle.sms_field.specs.declared.fault.FieldFault.TheVariants.{Short}
use Rattle.sms_field.specs.Address.Faults.{too_long}
use Rattle.sms_field.specs.declared.symbols.Symbols.{Symbols}
use Rattle.sms_field.specs.declared.symbols.Symbols.TheVariants.{Digits, Name}
use Rattle.sms_field.specs.Address.Value.{AddressValue, alphanumeric}
use Rattle.sms_field.specs.Address.NameOctets.{name}
use Rattle.sms_field.specs.Address.{symbols_by, address}
use Rattle.sms_field.specs.Inside.DigitLaws.{digits_self, digits_lawful}
use Rattle.sms_field.specs.Inside.ChainLaws.{chain_lawful, chain_self_contained}
use Rattle.sms_field.specs.Inside.SingleLaws.{always_self, always_lawful, octet_self, octet_lawful, octet_by_self, octet_by_lawful, octets_of_self, octets_of_lawful, apart_else}

name_self : (count : ℕ) → IsSelfContained (name count)
unfolding name
name_self count = chain_self_contained _ _ (octets_of_self Short ((count + 1) / 2)) (λ octets. always_self FieldFault (unpacked 0 (4 * count / 7) octets))

name_lawful : (count : ℕ) → IsLawful Short (name count)
unfolding name
name_lawful count = chain_lawful _ _ Short (octets_of_self Short ((count + 1) / 2)) (octets_of_lawful Short ((count + 1) / 2)) (λ octets _ _ _. always_lawful Short (unpacked 0 (4 * count / 7) octets))

symbols_self : (named : Bool) (count : ℕ) → IsSelfContained (symbols_by named count)
unfolding symbols_by
symbols_self true count = chain_self_contained _ _ (name_self count) (λ septets. always_self FieldFault (Name septets))
symbols_self false count = chain_self_contained _ _ (digits_self count) (λ values. always_self FieldFault (Digits values))

symbols_lawful : (named : Bool) (count : ℕ) → IsLawful Short (symbols_by named count)
unfolding symbols_by
symbols_lawful true count = chain_lawful _ _ Short (name_self count) (name_lawful count) (λ septets _ _ _. always_lawful Short (Name septets))
symbols_lawful false count = chain_lawful _ _ Short (digits_self count) (digits_lawful count) (λ values _ _ _. always_lawful Short (Digits values))

count_apart : (o : ℕ) → up_to 20 too_long o ≡ Err Short → ⊥
count_apart o = apart_else Short (leb o 20) o too_long (λ e. cc)

abbrev with_kind : ℕ → Symbols → AddressValue
with_kind kind symbols = record { kind = kind / 16 % 8; plan = kind % 16; symbols = symbols }

pub address_self : IsSelfContained address
unfolding address
address_self =
    chain_self_contained _ _ (octet_by_self Short (up_to 20 too_long))
    (λ count. chain_self_contained _ _ (octet_self Short)
    (λ kind. chain_self_contained _ _ (symbols_self (kind / 16 % 8 == alphanumeric) count)
    (λ symbols. always_self FieldFault (with_kind kind symbols))))

pub address_lawful : IsLawful Short address
unfolding address
address_lawful =
    chain_lawful _ _ Short (octet_by_self Short (up_to 20 too_long)) (octet_by_lawful Short (up_to 20 too_long) (0, lit< tt, 0, refl) count_apart)
    (λ count _ _ _. chain_lawful _ _ Short (octet_self Short) (octet_lawful Short)
    (λ kind _ _ _. chain_lawful _ _ Short (symbols_self (kind / 16 % 8 == alphanumeric) count) (symbols_lawful (kind / 16 % 8 == alphanumeric) count)
    (λ symbols _ _ _. always_lawful Short (with_kind kind symbols))))
