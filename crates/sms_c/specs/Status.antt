-- The numbers that C sees.
use Rattle.std.specs.Prelude.{◌≡◌, ℕ, Result, Ok, Err}
use Rattle.sms_field.specs.declared.refusal.Fault.{Fault}
use Rattle.sms_field.specs.declared.fault.TextFault.{TextFault}
use Rattle.sms_field.specs.declared.fault.TextFault.TheVariants as text
use Rattle.sms_join.specs.declared.cut.SplitFault.{SplitFault}
use Rattle.sms_join.specs.declared.cut.SplitFault.TheVariants as split
use Rattle.sms_tpdu.specs.declared.fault.UnitFault.{UnitFault}
use Rattle.sms_tpdu.specs.declared.fault.UnitFault.TheVariants as unit
use Rattle.sms_tpdu.specs.declared.user_data.data_fault.DataFault.{DataFault}
use Rattle.sms_tpdu.specs.declared.user_data.data_fault.DataFault.TheVariants as single
use Rattle.sms_relay.specs.declared.fault.RelayFault.{RelayFault}
use Rattle.sms_relay.specs.declared.fault.RelayFault.TheVariants as relay
use Rattle.sms_card.specs.declared.fault.RecordFault.{RecordFault}
use Rattle.sms_card.specs.declared.fault.RecordFault.TheVariants as card
use Rattle.sms_saved.specs.declared.fault.StateFault.{StateFault}
use Rattle.sms_saved.specs.declared.fault.StateFault.TheVariants as state
use Rattle.sms_keep.specs.declared.fault.Fault.{Fault as HeldFaultAt}
use Rattle.sms_keep.specs.declared.fault.HeldFault.{HeldFault}
use Rattle.sms_keep.specs.declared.fault.HeldFault.TheVariants as held
use Rattle.sms_c.specs.declared.status.Failure.{Failure}
use Rattle.sms_c.specs.declared.status.Failure.TheVariants as why
use Rattle.sms_c.specs.declared.status.Refused.{Refused}

abbrev pub status_of : Failure → ℕ
status_of why.Refused = 1
status_of why.Memory = 2
status_of why.NoRoom = 3
status_of why.NotUtf8 = 4
status_of why.BadAddress = 5
status_of why.TooLong = 6
status_of why.OutOfRange = 7
status_of why.NotThere = 8
status_of why.TooManyOpen = 9
status_of why.Closed = 10
status_of why.Changed = 11

abbrev pub status_in : {A : Type 0} → Result A Failure → ℕ
status_in (Ok _) = 0
status_in (Err failure) = status_of failure

-- another reason than that an answer has no room
abbrev pub IsNotRoom : Failure → Type 0
IsNotRoom failure = failure ≡ why.NoRoom → ⊥

-- ---- what a call answers where one that it makes fails

abbrev pub of_text : TextFault → Failure
of_text text.Memory = why.Memory
of_text (text.Address _) = why.BadAddress

abbrev pub of_split : SplitFault → Failure
of_split split.Memory = why.Memory
of_split split.TooManySegments = why.TooLong

-- ---- why octets are refused

abbrev pub unit_reason : UnitFault → ℕ
unit_reason unit.Short = 1
unit_reason unit.WrongType = 2
unit_reason unit.AddressTooLong = 3
unit_reason unit.BadDigit = 4
unit_reason unit.DataTooLong = 5
unit_reason unit.HeaderTooLong = 6

abbrev pub relay_reason : RelayFault → ℕ
relay_reason relay.Short = 1
relay_reason relay.DataTooLong = 5
relay_reason relay.NotSms = 7
relay_reason relay.BadTransaction = 8
relay_reason relay.UnknownType = 9
relay_reason relay.BadAddress = 10
relay_reason relay.BadCause = 11

abbrev pub data_reason : DataFault → ℕ
data_reason single.Short = 1
data_reason single.DataTooLong = 5
data_reason single.HeaderTooLong = 6
data_reason single.BadSeptet = 12

abbrev pub record_reason : RecordFault → ℕ
record_reason card.Short = 1
record_reason card.BadStatus = 13
record_reason (card.Centre _) = 10
record_reason (card.Unit why) = unit_reason why
record_reason card.NotPadding = 14
record_reason card.OtherLength = 15

abbrev pub state_reason : StateFault → ℕ
state_reason state.Short = 1
state_reason state.LongAddress = 3
state_reason state.NotSeptet = 12
state_reason state.NotAState = 16
state_reason (state.Newer _) = 17
state_reason state.Flag = 18
state_reason state.OtherLimits = 19
state_reason state.TooMany = 20
state_reason state.NotOpen = 21
state_reason state.OutOfOrder = 22
state_reason state.Repeated = 23
state_reason state.Trailing = 24
state_reason state.Checksum = 25

abbrev pub held_reason : HeldFault → ℕ
held_reason (held.State why) = state_reason why
held_reason held.Address = 26
held_reason held.Moments = 27

-- what C is told of a fault
abbrev pub data_refused : Fault DataFault → Refused
data_refused fault = record { place = fault.place; reason = data_reason fault.why }

abbrev pub unit_refused : Fault UnitFault → Refused
unit_refused fault = record { place = fault.place; reason = unit_reason fault.why }

abbrev pub relay_refused : Fault RelayFault → Refused
relay_refused fault = record { place = fault.place; reason = relay_reason fault.why }

abbrev pub record_refused : Fault RecordFault → Refused
record_refused fault = record { place = fault.place; reason = record_reason fault.why }

abbrev pub held_refused : HeldFaultAt → Refused
held_refused fault = record { place = fault.place; reason = held_reason fault.why }
