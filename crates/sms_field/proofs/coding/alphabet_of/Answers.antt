use Rattle.std.proofs.Common.{rules}
use Rattle.sms_field.specs.Coding.{alphabet_at}
use Rattle.sms_field.proofs.coding.alphabet_of.Goals as goal

pub returns-in_default : goal.returns-in_default
unfolding alphabet_at
returns-in_default c = search rules

pub returns-in_default-eq1 : goal.returns-in_default-eq1
unfolding alphabet_at
returns-in_default-eq1 c = search rules

pub returns-in_default-eq2 : goal.returns-in_default-eq2
unfolding alphabet_at
returns-in_default-eq2 c = search rules
