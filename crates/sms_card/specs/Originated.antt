-- What the phone wrote, in a record: an SMS-SUBMIT or an SMS-COMMAND, and FF to the end (3GPP TS
-- 51.011, 10.5.3; TS 23.040, 9.2.3.1).
pub mod Seen
use Rattle.std.specs.Prelude.{ℕ, Bool, true, false, List, Result, Ok, Err}
use Rattle.sms_field.specs.Bit.{bit}
use Rattle.sms_field.specs.Field.{Field, map_reason}
use Rattle.sms_tpdu.specs.Command.{command, SpellsCommand}
use Rattle.sms_tpdu.specs.Submit.{submit, SpellsSubmit}
use Rattle.sms_tpdu.specs.declared.fault.UnitFault.TheVariants.{WrongType}
use Rattle.sms_card.specs.ByFirst.{by_first}
use Rattle.sms_card.specs.Fault.{record_fault}
use Rattle.sms_card.specs.Padding.{padded}
use Rattle.sms_card.specs.declared.fault.RecordFault.{RecordFault}
use Rattle.sms_card.specs.declared.fault.RecordFault.TheVariants.{Short, Unit as OfUnit}
use Rattle.sms_card.specs.declared.originated.OriginatedKind.{OriginatedKind}
use Rattle.sms_card.specs.declared.originated.OriginatedKind.TheVariants as kind
use Rattle.sms_card.specs.declared.originated.OriginatedUnit.{OriginatedUnit}
use Rattle.sms_card.specs.declared.originated.OriginatedUnit.TheVariants as originated

-- TP-MTI, by bits 1 and 0
abbrev pub originated_by : Bool → Bool → Result OriginatedKind RecordFault
originated_by false true = Ok kind.Submit
originated_by true false = Ok kind.Command
originated_by false false = Err (OfUnit WrongType)
originated_by true true = Err (OfUnit WrongType)

abbrev pub originated_kind : ℕ → Result OriginatedKind RecordFault
originated_kind octet = originated_by (bit 1 octet) (bit 0 octet)

unfoldable pub originated_as : OriginatedKind → Field OriginatedUnit RecordFault
originated_as kind.Submit = padded originated.Submit (map_reason record_fault submit)
originated_as kind.Command = padded originated.Command (map_reason record_fault command)

abbrev pub originated_unit : Field OriginatedUnit RecordFault
originated_unit = by_first Short originated_kind originated_as

-- how it is written
abbrev pub SpellsOriginated : OriginatedUnit → List ℕ → Type 0
SpellsOriginated (originated.Submit s) octets = SpellsSubmit s octets
SpellsOriginated (originated.Command c) octets = SpellsCommand c octets
