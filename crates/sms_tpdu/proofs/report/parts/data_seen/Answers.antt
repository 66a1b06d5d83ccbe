use Rattle.std.proofs.Common.{arith}
use Rattle.sms_field.specs.Inside.OctetLists.{octets_are}
use Rattle.sms_tpdu.proofs.report.parts.data_seen.Goals as goal

pub returns-clause-fits : goal.returns-clause-fits
returns-clause-fits c = record { small = omega arith; counted = c.requires.counted; few = c.requires.few; octets = octets_are c.args.octets.now (λ i. omega (arith, c.type_inv.octets i)) }
