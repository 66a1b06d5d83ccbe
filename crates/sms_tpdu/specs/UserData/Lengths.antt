-- The user data length, TP-UDL (3GPP TS 23.040, 9.2.3.16): it counts septets under the 7-bit
-- alphabet, else octets.
use Rattle.std.specs.Prelude.{ℕ, ◌+◌, ◌-◌, ◌*◌, ◌/◌}
use Rattle.sms_field.specs.declared.coding.Alphabet.{Alphabet}
use Rattle.sms_field.specs.declared.coding.Alphabet.TheVariants.{Gsm7}
use Rattle.sms_tpdu.specs.declared.user_data.lengths.TheConstants.{OCTETS_MAX, SEPTETS_MAX}

abbrev pub greatest_length : Alphabet → ℕ
greatest_length Gsm7 = SEPTETS_MAX
greatest_length _ = OCTETS_MAX

-- how many octets hold the septets, or octets, that TP-UDL counts
abbrev pub octets_of_length : Alphabet → ℕ → ℕ
octets_of_length Gsm7 count = (7 * count + 7) / 8
octets_of_length _ count = count

-- how much of TP-UDL the octets of a header take: up to the next septet, or one by one
abbrev pub length_of_header : Alphabet → ℕ → ℕ
length_of_header Gsm7 octets = (8 * octets + 6) / 7
length_of_header _ octets = octets

-- the bits between the octets of a header and the next septet
abbrev pub fill_bits : ℕ → ℕ
fill_bits octets = 7 * length_of_header Gsm7 octets - 8 * octets
