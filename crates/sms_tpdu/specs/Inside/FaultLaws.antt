-- A reader may pass this by: lemmas, for the proofs of this crate and of those above it.
--
-- Only a short field is a short unit.
use Rattle.std.proofs.Common.{◌≡◌, refl}
use Rattle.sms_field.specs.declared.fault.AddressFault.TheVariants as addresses
use Rattle.sms_field.specs.declared.fault.FieldFault.{FieldFault}
use Rattle.sms_field.specs.declared.fault.FieldFault.TheVariants as fields
use Rattle.sms_tpdu.specs.Fault.{unit_fault}

pub fault_apart : (why : FieldFault) → unit_fault fields.Short ≡ unit_fault why → fields.Short ≡ why
fault_apart fields.Short e = refl
fault_apart (fields.Address addresses.AddressTooLong) e = absurd cc
fault_apart (fields.Address addresses.BadDigit) e = absurd cc
