-- Why no packet is written: the first fault of those that an envelope, an address and a unit may have.
use Rattle.std.specs.Prelude.{◌≡◌, ℕ, ◌==◌, nat_le, if◌then◌else◌, List, length, Option, Some, None, Result, Ok, Err}
use Rattle.std.specs.Str.{chars, is_utf8}
use Rattle.sms_field.specs.RelayAddress.Text.{relay_address_of_text}
use Rattle.sms_field.specs.RelayAddress.Value.{RelayAddressValue}
use Rattle.sms_field.specs.declared.fault.AddressFault.{AddressFault}
use Rattle.sms_c.specs.Fitting.{IsAnswered}
use Rattle.sms_c.specs.Status.{status_of}
use Rattle.sms_c.specs.declared.status.Failure.{Failure}
use Rattle.sms_c.specs.declared.status.Failure.TheVariants.{NotUtf8, BadAddress, TooLong, OutOfRange}
use Rattle.sms_c.specs.declared.wrapping.Envelope.{Envelope}

-- the number of the fault where there is one; else an answer is handed out, or lacks room, or
-- memory ran out
abbrev pub IsTold : ℕ → Option Failure → Type 0
IsTold status None = IsAnswered status
IsTold status (Some why) = status ≡ status_of why

-- the first of two
abbrev pub first : Option Failure → Option Failure → Option Failure
first None next = next
first (Some why) next = Some why

-- at most so much
abbrev pub up_to : ℕ → ℕ → Failure → Option Failure
up_to most number why = if nat_le number most then None else Some why

-- TI value is 0 to 6, and TI flag 0 or 1
abbrev pub transaction_fault : Envelope → Option Failure
transaction_fault envelope =
    first (up_to 6 envelope.value OutOfRange) (up_to 1 envelope.flag OutOfRange)

-- the side too is 0 or 1
abbrev pub envelope_fault : Envelope → Option Failure
envelope_fault envelope =
    first (transaction_fault envelope) (up_to 1 envelope.side OutOfRange)

abbrev pub told_address : Result RelayAddressValue AddressFault → Option Failure
told_address (Ok _) = None
told_address (Err _) = Some BadAddress

-- no text is no address
abbrev pub centre_fault : List ℕ → Option Failure
centre_fault text =
    if length text == 0 then None
    else (if is_utf8 text then told_address (relay_address_of_text (chars text)) else Some NotUtf8)

-- RP-User data have at most 233 octets (3GPP TS 24.011, 8.2.5.3)
abbrev pub unit_fault : List ℕ → Option Failure
unit_fault unit = up_to 233 (length unit) TooLong

abbrev pub data_fault : Envelope → List ℕ → List ℕ → Option Failure
data_fault envelope address unit =
    first (envelope_fault envelope) (first (centre_fault address) (unit_fault unit))

abbrev pub ack_fault : Envelope → List ℕ → Option Failure
ack_fault envelope unit = first (envelope_fault envelope) (unit_fault unit)

-- the cause value of RP-Cause is 0 to 127 (8.2.5.4)
abbrev pub error_fault : Envelope → ℕ → List ℕ → Option Failure
error_fault envelope cause unit = first (up_to 127 cause OutOfRange) (ack_fault envelope unit)
