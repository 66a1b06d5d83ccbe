use Rattle.std.proofs.Common.{arith}
use Rattle.sms_field.specs.Inside.OctetLists.{octets_are}
use Rattle.sms_field.specs.Inside.ReadableLaws.{unread}
use Rattle.sms_message.proofs.reading.read_if.Goals as goal

pub returns-in-Err-At-clause-read : goal.returns-in-Err-At-clause-read
returns-in-Err-At-clause-read g c =
    unread g.U.Unit.field g.U.Why.Reason.short c.args.octets.now c.in-Err-At.field-0-0 c.in-Err-At.field-0-1
    (octets_are c.args.octets.now (λ i. omega (arith, c.type_inv.octets i)))
    (rw c.in-Err-At.field-0-is at c.in-Err-At.ensures.refused)
