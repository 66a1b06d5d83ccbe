-- Keys.
use Rattle.std.specs.Prelude.{ℕ, zero, suc, Bool, List, [], ◌∷◌, length, Ok, nat_le}
use Rattle.std.specs.Int.{w16}
use Rattle.sms_saved.specs.declared.fault.StateFault.TheVariants.{Short, Flag, LongAddress}
use Rattle.sms_saved.specs.declared.state.Message.{Message}
use Rattle.sms_saved.specs.declared.state.Message.TheVariants.{Single, Segmented}
use Rattle.sms_saved.specs.declared.address.TheConstants.{ADDRESS_MAX}
use Rattle.sms_saved.specs.declared.state.Width.{Width}
use Rattle.sms_saved.specs.declared.state.Width.TheVariants.{Eight, Sixteen}
use Rattle.sms_saved.specs.declared.state.Key.{Key}
use Rattle.sms_saved.specs.Reading.Fields.{◌>>=◌, Read, stops, tested_at, octet_at, number_at, octets_at, string_at, optional_at}

abbrev pub is_address : List ℕ → Bool
is_address octets = nat_le (length octets) ADDRESS_MAX

abbrev pub address_at : List ℕ → Read (List ℕ)
address_at = tested_at is_address LongAddress (string_at octet_at)

unfoldable pub segmented_at : Width → List ℕ → Read Message
segmented_at width bytes = do
  reference ← number_at w16 bytes
  maximum ← octet_at reference.1
  Ok (Segmented width reference.0 maximum.0, maximum.1)

unfoldable pub message_at : List ℕ → Read Message
message_at [] = stops [] Short
message_at (zero ∷ rest) = do
  stamp ← octets_at 7 rest
  Ok (Single stamp.0, stamp.1)
message_at (suc zero ∷ rest) = segmented_at Eight rest
message_at (suc (suc zero) ∷ rest) = segmented_at Sixteen rest
message_at (suc (suc (suc b)) ∷ rest) = stops (suc (suc (suc b)) ∷ rest) Flag

unfoldable pub key_at : List ℕ → Read Key
key_at bytes = do
  origin ← address_at bytes
  recipient ← optional_at address_at origin.1
  message ← message_at recipient.1
  Ok (record { origin = origin.0; recipient = recipient.0; message = message.0 }, message.1)
