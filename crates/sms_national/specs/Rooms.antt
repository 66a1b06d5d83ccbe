-- How many septets stand after the elements of a header (3GPP TS 23.040, 9.2.3.24).
use Rattle.std.specs.Prelude.{ℕ, zero, suc, ◌+◌, ◌-◌, length}
use Rattle.std.specs.List.{flat_map}
use Rattle.sms_field.specs.declared.coding.Alphabet.TheVariants.{Gsm7}
use Rattle.sms_language.specs.declared.tables.Tables.{Tables}
use Rattle.sms_tpdu.specs.declared.user_data.concat.Width.{Width}
use Rattle.sms_tpdu.specs.declared.user_data.concat.Width.TheVariants.{Eight, Sixteen}
use Rattle.sms_tpdu.specs.declared.user_data.lengths.TheConstants.{SEPTETS_MAX}
use Rattle.sms_tpdu.specs.UserData.Elements.{element_octets}
use Rattle.sms_tpdu.specs.UserData.Lengths.{length_of_header}
use Rattle.sms_national.specs.Header.{table_elements}

-- elements of so many octets stand after a length octet, and take whole septets; no elements, no
-- header
abbrev pub room_after : ℕ → ℕ
room_after zero = SEPTETS_MAX
room_after (suc octets) = SEPTETS_MAX - length_of_header Gsm7 (suc octets + 1)

-- the octets of the elements that tell tables: three each
abbrev pub table_octets : Tables → ℕ
table_octets tables = length (flat_map element_octets (table_elements tables))

-- those of the element that tells a place
abbrev pub place_octets : Width → ℕ
place_octets Eight = 5
place_octets Sixteen = 6

-- how many septets a message has room for
abbrev pub room_alone : Tables → ℕ
room_alone tables = room_after (table_octets tables)

-- how many septets a segment has room for beside its place
abbrev pub room_beside : Width → Tables → ℕ
room_beside width tables = room_after (place_octets width + table_octets tables)
