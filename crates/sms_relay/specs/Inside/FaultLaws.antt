-- A reader may pass this by: lemmas, for the proofs of this crate and of those above it.
--
-- Only a short field is a short message.
use Rattle.std.proofs.Common.{◌≡◌, refl}
use Rattle.sms_field.specs.declared.fault.FieldFault.{FieldFault}
use Rattle.sms_field.specs.declared.fault.FieldFault.TheVariants as fields
use Rattle.sms_relay.specs.Fault.{relay_fault}

pub fault_apart : (why : FieldFault) → relay_fault fields.Short ≡ relay_fault why → fields.Short ≡ why
fault_apart fields.Short e = refl
fault_apart (fields.Address why) e = absurd cc
