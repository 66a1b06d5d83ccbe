use Rattle.sms_page.specs.Escapes.{line}
use Rattle.sms_page.specs.Inside.EscapeRules.{line_rule}
use Rattle.sms_page.proofs.PageLemmas.{Puts-same}
use Rattle.sms_page.proofs.EscapeLemmas.{all_plain}
use Rattle.sms_page.proofs.escape.put_line.Goals as goal

pub returns-then-end-text : goal.returns-then-end-text
returns-then-end-text c = Puts-same (all_plain line line_rule c.args.text.now c.plain_end-end.result c.plain_end-end.ensures.end c.if-end-text.true) c.put.ensures
