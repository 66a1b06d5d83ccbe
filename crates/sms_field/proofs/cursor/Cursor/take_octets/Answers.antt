use Rattle.std.proofs.Common.{rules}
use Rattle.sms_field.proofs.cursor.Cursor.take_octets.Goals as goal

pub returns-then-self-count-clause-read : goal.returns-then-self-count-clause-read
returns-then-self-count-clause-read c = search rules
