-- The first octet of a CP message: protocol discriminator and transaction identifier (3GPP TS
-- 24.011, 8.1.2). Bits are numbered from 0.
use Rattle.std.specs.Prelude.{◌≡◌, ℕ, ◌+◌, ◌*◌, ◌/◌, ◌%◌, ◌<◌, ◌==◌, List, [], ◌∷◌, Result, Ok, Err, if◌then◌else◌}
use Rattle.sms_field.specs.Bit.{bit}
use Rattle.sms_field.specs.Bit.{weight}
use Rattle.sms_relay.specs.declared.transaction.Transaction.{Transaction}
use Rattle.sms_relay.specs.declared.fault.RelayFault.{RelayFault}
use Rattle.sms_relay.specs.declared.fault.RelayFault.TheVariants.{NotSms, BadTransaction}

-- the low half is 9, the protocol of short messages; bit 7 is the TI flag, bits 6 to 4 are the TI
-- value, of which 7 is reserved
abbrev pub transaction : ℕ → Result Transaction RelayFault
transaction octet =
    if octet % 16 == 9
    then (if octet / 16 % 8 == 7
    then Err BadTransaction
    else Ok (record { flag = bit 7 octet; value = octet / 16 % 8 }))
    else Err NotSms

-- as it is written
abbrev pub transaction_octet : Transaction → ℕ
transaction_octet t = weight 7 t.flag + 16 * t.value + 9

-- what has a spelling
abbrev pub IsTransaction : Transaction → Type 0
IsTransaction t = t.value < 7

-- how a transaction is written
abbrev pub SpellsTransaction : Transaction → List ℕ → Type 0
SpellsTransaction t octets = IsTransaction t × (octets ≡ transaction_octet t ∷ [])
