use Rattle.std.proofs.Common.{arith}
use Rattle.sms_keep.proofs.Lengths.{all_below}
use Rattle.sms_keep.proofs.sets.wide_view.Goals as goal

pub returns-clause-each : goal.returns-clause-each
returns-clause-each c = all_below c.args.units.now 65536 (λ k. omega (arith, c.type_inv.units k))
