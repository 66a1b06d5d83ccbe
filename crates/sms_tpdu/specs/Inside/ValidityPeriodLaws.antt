-- A reader may pass this by: lemmas, for the proofs of this crate and of those above it.
--
-- A validity period is a lawful field, and what is written is read back.
use Rattle.std.proofs.Common.{ℕ, List, [], ◌∷◌, refl}
use Rattle.sms_text.specs.Octets.{IsOctets}
use Rattle.sms_field.specs.Field.{IsLawful, IsSelfContained}
use Rattle.sms_field.specs.Inside.ChainReading.{ended}
use Rattle.sms_field.specs.Inside.ChainLaws.{chain_lawful, chain_self_contained}
use Rattle.sms_field.specs.Inside.SingleLaws.{always_self, always_lawful, octet_self, octet_lawful, octets_of_self, octets_of_lawful}
use Rattle.sms_field.specs.declared.validity.Validity.{Validity}
use Rattle.sms_field.specs.declared.validity.Validity.TheVariants as period
use Rattle.sms_tpdu.specs.Submit.ValidityPeriod.{validity, format_of, validity_octets, IsInRange}
use Rattle.sms_tpdu.specs.declared.fault.UnitFault.{UnitFault}
use Rattle.sms_tpdu.specs.declared.fault.UnitFault.TheVariants.{Short}
use Rattle.sms_tpdu.specs.declared.submit.validity.ValidityFormat.{ValidityFormat}
use Rattle.sms_tpdu.specs.declared.submit.validity.ValidityFormat.TheVariants.{Absent, Relative, Enhanced, Absolute}

pub validity_self : (format : ValidityFormat) → IsSelfContained (validity format)
unfolding validity
validity_self Absent = always_self UnitFault _
validity_self Relative = chain_self_contained _ _ (octet_self Short) (λ value. always_self UnitFault _)
validity_self Enhanced = chain_self_contained _ _ (octets_of_self Short 7) (λ values. always_self UnitFault _)
validity_self Absolute = chain_self_contained _ _ (octets_of_self Short 7) (λ end. always_self UnitFault _)

pub validity_lawful : (format : ValidityFormat) → IsLawful Short (validity format)
unfolding validity
validity_lawful Absent = always_lawful Short _
validity_lawful Relative = chain_lawful _ _ Short (octet_self Short) (octet_lawful Short) (λ value _ _ _. always_lawful Short _)
validity_lawful Enhanced = chain_lawful _ _ Short (octets_of_self Short 7) (octets_of_lawful Short 7) (λ values _ _ _. always_lawful Short _)
validity_lawful Absolute = chain_lawful _ _ Short (octets_of_self Short 7) (octets_of_lawful Short 7) (λ end _ _ _. always_lawful Short _)

pub validity_again : (v : Validity) (rest : List ℕ) → IsInRange v → (validity (format_of v)).reads v (validity_octets v) rest
unfolding validity
validity_again period.Absent rest fits = (refl, refl)
validity_again (period.Relative value) rest fits = ended _ _ value (period.Relative value) (value ∷ []) rest refl (refl, refl)
validity_again (period.Enhanced values) rest fits = ended _ _ values (period.Enhanced values) values rest (refl, fits.0) (refl, refl)
validity_again (period.Absolute end) rest fits = ended _ _ end (period.Absolute end) end rest (refl, fits.0) (refl, refl)

pub validity_are_octets : (v : Validity) → IsInRange v → IsOctets (validity_octets v)
validity_are_octets period.Absent fits = tt
validity_are_octets (period.Relative value) fits = (fits, tt)
validity_are_octets (period.Enhanced values) fits = fits.1
validity_are_octets (period.Absolute end) fits = fits.1
