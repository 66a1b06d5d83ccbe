-- The alphabet of a data coding scheme (3GPP TS 23.038, 4). That bit 5 of the general groups
-- decides before bits 3 and 2 is a choice of this profile.
use Rattle.std.specs.Prelude.{ℕ, ◌/◌, ◌%◌, ◌==◌, nat_lt, if◌then◌else◌}
use Rattle.sms_field.specs.Bit.{bit}
use Rattle.sms_field.specs.declared.coding.Alphabet.{Alphabet}
use Rattle.sms_field.specs.declared.coding.Alphabet.TheVariants.{Gsm7, EightBit, Ucs2, Compressed}

-- general data coding, 00 to 7F: bit 5 is compression, bits 3 and 2 the alphabet
abbrev pub general : ℕ → Alphabet
general dcs =
    if bit 5 dcs then Compressed
    else (if dcs / 4 % 4 == 1 then EightBit
    else (if dcs / 4 % 4 == 2 then Ucs2 else Gsm7))

-- 80 to DF are the default alphabet, E0 to EF UCS-2, and in F0 to FF bit 2 says which
unfoldable pub alphabet_at : ℕ → Alphabet
alphabet_at dcs =
    if nat_lt dcs 128 then general dcs
    else (if nat_lt dcs 224 then Gsm7
    else (if nat_lt dcs 240 then Ucs2
    else (if bit 2 dcs then EightBit else Gsm7)))
