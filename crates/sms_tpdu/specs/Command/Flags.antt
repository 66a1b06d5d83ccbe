-- The first octet of an SMS-COMMAND (3GPP TS 23.040, 9.2.2.4).
use Rattle.std.specs.Prelude.{ℕ, ◌+◌, ◌||◌, not, true, Result, Ok, Err, if◌then◌else◌}
use Rattle.sms_field.specs.Bit.{bit, weight}
use Rattle.sms_tpdu.specs.declared.command.flags.CommandFlags.{CommandFlags}
use Rattle.sms_tpdu.specs.declared.fault.UnitFault.{UnitFault}
use Rattle.sms_tpdu.specs.declared.fault.UnitFault.TheVariants.{WrongType}

-- bits 1 and 0 TP-MTI, which is 10; bit 5 TP-SRR; bit 6 TP-UDHI; the others are free
abbrev pub command_flags : ℕ → Result CommandFlags UnitFault
command_flags octet =
    if bit 0 octet || not (bit 1 octet) then Err WrongType
    else Ok (record { report = bit 5 octet; header = bit 6 octet })

-- as it is written: the free bits are 0
abbrev pub command_octet : CommandFlags → ℕ
command_octet flags = weight 1 true + weight 5 flags.report + weight 6 flags.header
