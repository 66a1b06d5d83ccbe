-- A reader may pass this by: lemmas, for the proofs of this crate and of those above it.
--
-- Only what is short is a short record.
use Rattle.std.proofs.Common.{◌≡◌, refl}
use Rattle.sms_field.specs.declared.fault.FieldFault.{FieldFault}
use Rattle.sms_field.specs.declared.fault.FieldFault.TheVariants as fields
use Rattle.sms_tpdu.specs.declared.fault.UnitFault.{UnitFault}
use Rattle.sms_tpdu.specs.declared.fault.UnitFault.TheVariants as units
use Rattle.sms_card.specs.Fault.{centre_fault, record_fault}

pub centre_apart : (why : FieldFault) → centre_fault fields.Short ≡ centre_fault why → fields.Short ≡ why
centre_apart fields.Short e = refl
centre_apart (fields.Address why) e = absurd cc

pub record_apart : (why : UnitFault) → record_fault units.Short ≡ record_fault why → units.Short ≡ why
record_apart units.Short e = refl
record_apart units.WrongType e = absurd cc
record_apart units.AddressTooLong e = absurd cc
record_apart units.BadDigit e = absurd cc
record_apart units.DataTooLong e = absurd cc
record_apart units.HeaderTooLong e = absurd cc
