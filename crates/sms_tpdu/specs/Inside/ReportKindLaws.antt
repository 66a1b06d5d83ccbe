-- A reader may pass this by: lemmas, for the proofs of this crate and of those above it.
--
-- The parts that stand in some reports are lawful fields, and what is written is read back.
use Rattle.std.proofs.Common.{refl}
use Rattle.sms_field.specs.Inside.SingleLaws.{always_self, always_lawful, octet_self, octet_lawful, octets_of_self, octets_of_lawful}
use Rattle.sms_tpdu.specs.Report.Kind.{no_part, failure_cause, centre_stamp, AreKindPartLaws}
use Rattle.sms_tpdu.specs.declared.fault.UnitFault.{UnitFault}
use Rattle.sms_tpdu.specs.declared.fault.UnitFault.TheVariants.{Short}

pub no_part_laws : AreKindPartLaws no_part
no_part_laws = record { alone = always_self UnitFault tt; lawful = always_lawful Short tt; octets = λ v is. tt; again = λ v rest is. (refl, refl) }

pub failure_cause_laws : AreKindPartLaws failure_cause
failure_cause_laws = record { alone = octet_self Short; lawful = octet_lawful Short; octets = λ v is. (is, tt); again = λ v rest is. refl }

pub centre_stamp_laws : AreKindPartLaws centre_stamp
centre_stamp_laws = record { alone = octets_of_self Short 7; lawful = octets_of_lawful Short 7; octets = λ v is. is.1; again = λ v rest is. (refl, is.0) }
