-- What a reader of records answers: all the octets are one record, of at most 176 octets.
use Rattle.std.specs.Prelude.{◌≡◌, ◌≤◌, ◌<◌, ℕ, List, length, take}
use Rattle.sms_field.specs.Field.{CanContinue, IsFault}
use Rattle.sms_field.specs.Reading.{Reads}
use Rattle.sms_field.specs.Reading.WholeAnswer.{IsFaultOf}
use Rattle.sms_field.specs.declared.refusal.Fault.{Fault}
use Rattle.sms_card.specs.Stored.{card_record}
use Rattle.sms_card.specs.declared.fault.RecordFault.{RecordFault}
use Rattle.sms_card.specs.declared.fault.RecordFault.TheVariants.{Short, OtherLength}
use Rattle.sms_card.specs.declared.stored.Record.{Record}
use Rattle.sms_card.specs.declared.stored.TheConstants.{RECORD_LENGTH}

-- all the octets are read as the record
pub record IsRecordIn (input : List ℕ) (r : Record) : Type 0 where
  pub few : length input ≤ RECORD_LENGTH
  pub read : Reads card_record r input (length input)

-- the octet after the last one of a record
abbrev pub octet_too_many : Fault RecordFault
octet_too_many = record { place = RECORD_LENGTH; why = OtherLength }

-- of more octets than a record has: the first octet at fault, if it is one of those that a record
-- has, and else the one after them
pub record IsLongFault (front : List ℕ) (fault : Fault RecordFault) : Type 0 where
  pub sound : CanContinue card_record front → fault ≡ octet_too_many
  pub faulty : ¬ CanContinue card_record front
      → IsFault card_record 0 front fault.place fault.why

-- refused as the field says; of too many octets those that a record has are looked at
pub record IsRecordFault (input : List ℕ) (fault : Fault RecordFault) : Type 0 where
  pub few : length input ≤ RECORD_LENGTH → IsFaultOf card_record Short input fault
  pub many : RECORD_LENGTH < length input → IsLongFault (take RECORD_LENGTH input) fault
