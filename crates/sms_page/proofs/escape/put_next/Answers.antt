use Rattle.sms_page.proofs.PageLemmas.{Puts-same}
use Rattle.sms_page.proofs.EscapeLemmas.{piece_is, one_is}
use Rattle.sms_page.proofs.escape.put_next.Goals as goal

pub returns-then-is_plain-clause-put : goal.returns-then-is_plain-clause-put
returns-then-is_plain-clause-put g c =
    Puts-same (piece_is g.E.Escaping.rule g.met.E.Escaping.is_rule c.args.text.now c.args.at c.plain_end-end.result c.plain_end-end.ensures.end) c.put.ensures

pub returns-clause-put : goal.returns-clause-put
returns-clause-put g c = Puts-same (one_is g.E.Escaping.rule c.args.text.now c.args.at c.requires) c.put_escape.ensures
