-- What follows of records from their definitions.
use Rattle.std.specs.Prelude.{List, ℕ}
use Rattle.sms_card.specs.Stored.{SpellsRecord, IsTooLong}
use Rattle.sms_card.specs.Stored.Reading.{IsRecordIn}
use Rattle.sms_card.specs.declared.stored.Record.{Record}

-- what is written is read as the record, and so is what is read and written again
abbrev pub WrittenIsRead : Type 0
WrittenIsRead = (r : Record) (octets : List ℕ) → SpellsRecord r octets → IsRecordIn octets r

-- a record that is too long is written in no octets
abbrev pub TooLongIsUnwritten : Type 0
TooLongIsUnwritten = (r : Record) (octets : List ℕ) → IsTooLong r → ¬ SpellsRecord r octets
