-- A fault of the centre's address, and one of a unit, in a record.
use Rattle.sms_field.specs.declared.fault.FieldFault.{FieldFault}
use Rattle.sms_field.specs.declared.fault.FieldFault.TheVariants as fields
use Rattle.sms_tpdu.specs.declared.fault.UnitFault.{UnitFault}
use Rattle.sms_tpdu.specs.declared.fault.UnitFault.TheVariants as units
use Rattle.sms_card.specs.declared.fault.RecordFault.{RecordFault}
use Rattle.sms_card.specs.declared.fault.RecordFault.TheVariants.{Short, Centre, Unit as OfUnit}

abbrev pub centre_fault : FieldFault → RecordFault
centre_fault fields.Short = Short
centre_fault (fields.Address why) = Centre why

abbrev pub record_fault : UnitFault → RecordFault
record_fault units.Short = Short
record_fault units.WrongType = OfUnit units.WrongType
record_fault units.AddressTooLong = OfUnit units.AddressTooLong
record_fault units.BadDigit = OfUnit units.BadDigit
record_fault units.DataTooLong = OfUnit units.DataTooLong
record_fault units.HeaderTooLong = OfUnit units.HeaderTooLong
