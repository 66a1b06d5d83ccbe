use Rattle.std.proofs.Common.{◌∙◌}
use Rattle.sms_text.proofs.CodeTables.{euro_is, escaped_none, escaped_some}
use Rattle.sms_text.proofs.tables.extension_code.Goals as goal

pub returns-then-point-ge128 : goal.returns-then-point-ge128
returns-then-point-ge128 c = c.code_in.ensures ∙ euro_is c.args.c c.if-point-ge128.true

pub returns-then-code : goal.returns-then-code
returns-then-code c = escaped_none c.args.c c.if-point-ge128.false c.if-code.true

pub returns-else-code : goal.returns-else-code
returns-else-code c = escaped_some c.args.c c.if-point-ge128.false c.if-code.false
