use Rattle.std.proofs.Common.{arith}
use Rattle.sms_field.specs.Inside.OctetLists.{octets_are}
use Rattle.sms_keep.proofs.plain.is_plain.Goals as goal

pub returns-in_default-clause-octets : goal.returns-in_default-clause-octets
returns-in_default-clause-octets c = octets_are c.args.octets.now (λ i. omega (arith, c.type_inv.octets i))
