-- The second octet of a CP message: its type (3GPP TS 24.011, 8.1.3).
use Rattle.std.specs.Prelude.{ℕ, ◌==◌, Result, Ok, Err, if◌then◌else◌}
use Rattle.sms_relay.specs.declared.cp_kind.CpKind.{CpKind}
use Rattle.sms_relay.specs.declared.cp_kind.CpKind.TheVariants.{Data, Ack, Error}
use Rattle.sms_relay.specs.declared.fault.RelayFault.{RelayFault}
use Rattle.sms_relay.specs.declared.fault.RelayFault.TheVariants.{UnknownType}

-- 01 is CP-DATA, 04 CP-ACK, 10 hexadecimal CP-ERROR
abbrev pub cp_kind : ℕ → Result CpKind RelayFault
cp_kind octet =
    if octet == 1 then Ok Data
    else (if octet == 4 then Ok Ack
    else (if octet == 16 then Ok Error
    else Err UnknownType))

abbrev pub kind_octet : CpKind → ℕ
kind_octet Data = 1
kind_octet Ack = 4
kind_octet Error = 16
