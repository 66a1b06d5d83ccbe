-- What is offered to a joiner: one piece of a message (3GPP TS 23.040, 9.2.3.24.1 and 9.2.3.24.8).
use Rattle.std.specs.Prelude.{ℕ, List, Option, None, Some}
use Rattle.sms_field.specs.Address.Value.{AddressValue}
use Rattle.sms_tpdu.specs.declared.user_data.concat.Concat.{Concat}
use Rattle.sms_join.specs.declared.key.Key.{Key}
use Rattle.sms_join.specs.declared.key.Key.TheVariants.{Single, Segmented, SingleTo, SegmentedTo}
use Rattle.sms_join.specs.declared.units.Units.{Units}

-- A piece has the key of its set, the number of pieces of the set, its own place among them from 1
-- on, its units, and the moment at which it was offered.
pub record Piece : Type 0 where
  pub key : Key
  pub maximum : ℕ
  pub sequence : ℕ
  pub units : Units
  pub moment : ℕ

-- A message without a concatenation is known by origin and time stamp, a segment by origin, width,
-- reference and maximum.
abbrev pub key_of : AddressValue → List ℕ → Option Concat → Key
key_of origin stamp None = Single origin stamp
key_of origin stamp (Some c) = Segmented origin c.width c.reference c.maximum

-- The same of a message for a recipient, who then is known too; without one it is the same key.
abbrev pub key_to : Option AddressValue → AddressValue → List ℕ → Option Concat → Key
key_to None origin stamp concat = key_of origin stamp concat
key_to (Some recipient) origin stamp None = SingleTo recipient origin stamp
key_to (Some recipient) origin stamp (Some c) =
    SegmentedTo recipient origin c.width c.reference c.maximum

-- A message without a concatenation is piece 1 of 1.
abbrev pub sequence_of : Option Concat → ℕ
sequence_of None = 1
sequence_of (Some c) = c.sequence

abbrev pub size_of : Option Concat → ℕ
size_of None = 1
size_of (Some c) = c.maximum

abbrev pub piece_of : ℕ → AddressValue → List ℕ → Option Concat → Units → Piece
piece_of now origin stamp concat units =
    record {
      key = key_of origin stamp concat;
      maximum = size_of concat;
      sequence = sequence_of concat;
      units = units;
      moment = now;
    }

-- The same of a message for a recipient; without one it is the same piece.
abbrev pub piece_to : ℕ → Option AddressValue → AddressValue → List ℕ → Option Concat → Units
    → Piece
piece_to now recipient origin stamp concat units =
    record {
      key = key_to recipient origin stamp concat;
      maximum = size_of concat;
      sequence = sequence_of concat;
      units = units;
      moment = now;
    }
