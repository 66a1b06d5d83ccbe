use Rattle.std.proofs.Common.{rules}
use Rattle.sms_field.proofs.validity.Validity.ends.Goals as goal

pub returns-in-Absolute-clause-is : goal.returns-in-Absolute-clause-is
returns-in-Absolute-clause-is c = search rules

pub returns-in-Absolute-clause-value : goal.returns-in-Absolute-clause-value
returns-in-Absolute-clause-value c = search rules
