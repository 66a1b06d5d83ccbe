use Rattle.std.proofs.Common.{arith, subst}
use Rattle.sms_field.specs.Inside.OctetLists.{octets_are}
use Rattle.sms_field.specs.Reading.{IsRefused}
use Rattle.sms_field.specs.declared.refusal.Refusal.TheVariants.{At}
use Rattle.sms_tpdu.specs.Deliver.{deliver}
use Rattle.sms_tpdu.specs.declared.fault.UnitFault.{UnitFault}
use Rattle.sms_tpdu.specs.declared.fault.UnitFault.TheVariants.{Short}
use Rattle.sms_tpdu.specs.Inside.RefusalLaws.{deliver_tells}
use Rattle.sms_message.proofs.reading.delivery_in.Goals as goal

pub returns-in-WrongType-clause-read : goal.returns-in-WrongType-clause-read
returns-in-WrongType-clause-read c =
    deliver_tells.other c.args.octets.now c.in-Err-At.field-0-0
    (subst (λ (w : UnitFault). IsRefused deliver Short c.args.octets.now (At c.in-Err-At.field-0-0 w)) c.in-WrongType.is (rw c.in-Err-At.field-0-is at c.in-Err-At.ensures.refused))

pub returns-in_default : goal.returns-in_default
returns-in_default c =
    record {
      read = deliver_tells.bad c.args.octets.now c.in-Err-At.field-0-0 c.in-Err-At.why (octets_are c.args.octets.now (λ i. omega (arith, c.type_inv.octets i)))
          c.in_default.not-WrongType (rw c.in-Err-At.field-0-is at c.in-Err-At.ensures.refused);
      err = tt;
    }
