use Rattle.sms_page.proofs.PageLemmas.{Puts-then, Puts-same}
use Rattle.sms_page.proofs.EscapeLemmas.{behind_is}
use Rattle.sms_page.proofs.escape.put_behind.Goals as goal

pub returns : goal.returns
returns g c = Puts-same (behind_is g.E.Escaping.rule g.met.E.Escaping.is_rule c.args.text.now c.args.end c.requires.0) (Puts-then _ _ c.put.ensures c.put_parts.ensures)
