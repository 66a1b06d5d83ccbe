use Rattle.std.proofs.Common.{◌∙◌}
use Rattle.sms_text.proofs.CodeTables.{greek_is, none_beyond, coded_none, coded_some}
use Rattle.sms_text.proofs.tables.main_code.Goals as goal

pub returns-then-point-gt-GREATEST : goal.returns-then-point-gt-GREATEST
returns-then-point-gt-GREATEST c = none_beyond c.args.c c.if-point-gt-GREATEST.true

pub returns-then-point-ge256 : goal.returns-then-point-ge256
returns-then-point-ge256 c = c.code_in.ensures ∙ greek_is c.args.c c.if-point-ge256.true

pub returns-then-code : goal.returns-then-code
returns-then-code c = coded_none c.args.c c.if-point-ge256.false c.if-code.true

pub returns-else-code : goal.returns-else-code
returns-else-code c = coded_some c.args.c c.if-point-ge256.false c.if-code.false
