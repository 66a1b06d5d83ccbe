-- The first octet of an SMS-SUBMIT (3GPP TS 23.040, 9.2.2.2).
use Rattle.std.specs.Prelude.{ℕ, ◌+◌, ◌||◌, not, true, Result, Ok, Err, if◌then◌else◌}
use Rattle.sms_field.specs.Bit.{bit, weight}
use Rattle.sms_tpdu.specs.Submit.ValidityPeriod.{validity_format, format_bits}
use Rattle.sms_tpdu.specs.declared.submit.flags.SubmitFlags.{SubmitFlags}
use Rattle.sms_tpdu.specs.declared.fault.UnitFault.{UnitFault}
use Rattle.sms_tpdu.specs.declared.fault.UnitFault.TheVariants.{WrongType}

-- bits 1 and 0 TP-MTI, which is 01; bit 2 TP-RD; bits 4 and 3 TP-VPF; bit 5 TP-SRR; bit 6 TP-UDHI;
-- bit 7 TP-RP
abbrev pub submit_flags : ℕ → Result SubmitFlags UnitFault
submit_flags octet =
    if bit 1 octet || not (bit 0 octet) then Err WrongType
    else Ok (record {
      reject = bit 2 octet;
      format = validity_format (bit 4 octet) (bit 3 octet);
      report = bit 5 octet;
      header = bit 6 octet;
      reply = bit 7 octet;
    })

-- as it is written
abbrev pub submit_octet : SubmitFlags → ℕ
submit_octet flags =
    weight 0 true + weight 2 flags.reject
    + weight 3 (format_bits flags.format).1 + weight 4 (format_bits flags.format).0
    + weight 5 flags.report + weight 6 flags.header + weight 7 flags.reply
