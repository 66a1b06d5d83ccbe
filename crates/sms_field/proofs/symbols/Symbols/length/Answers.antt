use Rattle.std.proofs.Common.{rules}
use Rattle.sms_field.proofs.symbols.Symbols.length.Goals as goal

pub returns-in-Name : goal.returns-in-Name
returns-in-Name c = search rules
