-- A reader may pass this by: contracts of private functions, and proofs, alone cite it.
--
-- What is remembered, wherever it lies.
use Rattle.sms_join.specs.Inside.LastKeys.{LastKeysValue}
use Rattle.sms_join.specs.declared.last_keys.Remembered.{Remembered}
use Rattle.sms_join.specs.declared.last_keys.Remembered.TheVariants.{Few, Many}

abbrev pub last_keys : Remembered → LastKeysValue
last_keys (Few row) = row
last_keys (Many ring) = record { limit = ring.limit; keys = ring.keys }
