-- The first octet of an SMS-DELIVER (3GPP TS 23.040, 9.2.2.1).
use Rattle.std.specs.Prelude.{ℕ, ◌+◌, ◌||◌, not, Result, Ok, Err, if◌then◌else◌}
use Rattle.sms_field.specs.Bit.{bit, weight}
use Rattle.sms_tpdu.specs.declared.deliver.flags.DeliverFlags.{DeliverFlags}
use Rattle.sms_tpdu.specs.declared.fault.UnitFault.{UnitFault}
use Rattle.sms_tpdu.specs.declared.fault.UnitFault.TheVariants.{WrongType}

-- bits 1 and 0 TP-MTI, which is 00; bit 2 TP-MMS, 0 where more messages wait; bit 3 TP-LP; bit 5
-- TP-SRI; bit 6 TP-UDHI; bit 7 TP-RP; bit 4 is free
abbrev pub deliver_flags : ℕ → Result DeliverFlags UnitFault
deliver_flags octet =
    if bit 0 octet || bit 1 octet then Err WrongType
    else Ok (record {
      more = not (bit 2 octet);
      looped = bit 3 octet;
      report = bit 5 octet;
      header = bit 6 octet;
      reply = bit 7 octet;
    })

-- as it is written: the free bit is 0
abbrev pub deliver_octet : DeliverFlags → ℕ
deliver_octet flags =
    weight 2 (not flags.more) + weight 3 flags.looped
    + weight 5 flags.report + weight 6 flags.header + weight 7 flags.reply
