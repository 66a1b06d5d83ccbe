use Rattle.std.proofs.Common.{rules}
use Rattle.sms_join.proofs.units.Units.piece_end.Goals as goal

pub returns-else-begins_pair-clause-other : goal.returns-else-begins_pair-clause-other
returns-else-begins_pair-clause-other c = search rules
