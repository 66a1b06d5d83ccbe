use Rattle.std.proofs.Common.{sym}
use Rattle.std.proofs.lemmas.List.{append-nil}
use Rattle.sms_page.proofs.PageLemmas.{Puts-then, Puts-same}
use Rattle.sms_page.proofs.escape.put_json_behind.Goals as goal

pub returns : goal.returns
returns c = Puts-same (sym (append-nil _)) (Puts-then _ _ (Puts-then _ _ (Puts-then _ _ c.put_wanted.ensures c.put_one.ensures) c.put_behind.ensures) c.put_one-2.ensures)
