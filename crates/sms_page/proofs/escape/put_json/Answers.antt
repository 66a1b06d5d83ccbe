use Rattle.std.proofs.Common.{false, List, ℕ, ap}
use Rattle.sms_page.specs.Escapes.{json}
use Rattle.sms_page.specs.Page.{quoted}
use Rattle.sms_page.proofs.PageLemmas.{Puts-same}
use Rattle.sms_page.specs.Inside.EscapeRules.{json_rule}
use Rattle.sms_page.proofs.EscapeLemmas.{all_plain}
use Rattle.sms_page.proofs.escape.put_json.Goals as goal

pub returns-then-end-text : goal.returns-then-end-text
returns-then-end-text c =
    Puts-same (ap (λ (l : List ℕ). quoted c.args.has_comma l false) (all_plain json json_rule c.args.text.now c.plain_end-end.result c.plain_end-end.ensures.end c.if-end-text.true)) c.put_quoted.ensures
