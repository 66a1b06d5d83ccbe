-- There have been fewer openings than there are numbers.
use Rattle.std.proofs.Common.{arith}
use Rattle.sms_join.proofs.Under.{under_arranged}
use Rattle.sms_join.proofs.open_sets.OpenSets.have_numbers.Goals as goal

pub returns : goal.returns
returns c =
    let few = c.openings-turns.type_inv in
    under_arranged 18446744073709551615 c.openings-turns.result c.args.self.now (omega (arith, few)) c.openings-turns.ensures
