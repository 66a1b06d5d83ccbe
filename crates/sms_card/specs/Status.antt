-- The status of a record, its first octet (3GPP TS 51.011, 10.5.3; TS 31.102, 4.2.25).
use Rattle.std.specs.Prelude.{ℕ, ◌==◌, Result, Ok, Err, if◌then◌else◌}
use Rattle.sms_field.specs.Bit.{bit}
use Rattle.sms_card.specs.declared.status.ReportState.{ReportState}
use Rattle.sms_card.specs.declared.status.ReportState.TheVariants as report
use Rattle.sms_card.specs.declared.status.Status.{Status}
use Rattle.sms_card.specs.declared.status.Status.TheVariants.{Free, Read, Unread, ToBeSent, Sent}
use Rattle.sms_card.specs.declared.fault.RecordFault.{RecordFault}
use Rattle.sms_card.specs.declared.fault.RecordFault.TheVariants.{BadStatus}

-- used space: bits 2 and 1 say whose message it is, and where it was sent bits 4 and 3 what became
-- of its status report; all other bits are 0
abbrev pub used_status : ℕ → Result Status RecordFault
used_status octet =
    if octet == 1 then Ok Read
    else (if octet == 3 then Ok Unread
    else (if octet == 7 then Ok ToBeSent
    else (if octet == 5 then Ok (Sent report.NotAsked)
    else (if octet == 13 then Ok (Sent report.Awaited)
    else (if octet == 21 then Ok (Sent report.Received)
    else (if octet == 29 then Ok (Sent report.Stored)
    else Err BadStatus))))))

-- bit 0 is 0 where the space is free
abbrev pub status_of : ℕ → Result Status RecordFault
status_of octet = if bit 0 octet then used_status octet else Ok Free

-- as it is written
abbrev pub status_octet : Status → ℕ
status_octet Free = 0
status_octet Read = 1
status_octet Unread = 3
status_octet ToBeSent = 7
status_octet (Sent report.NotAsked) = 5
status_octet (Sent report.Awaited) = 13
status_octet (Sent report.Received) = 21
status_octet (Sent report.Stored) = 29
