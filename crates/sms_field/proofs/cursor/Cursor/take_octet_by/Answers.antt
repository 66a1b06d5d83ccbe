use Rattle.std.proofs.Common.{rules}
use Rattle.sms_field.proofs.cursor.Cursor.take_octet_by.Goals as goal

pub returns-in-Err : goal.returns-in-Err
returns-in-Err c = search rules
