use Rattle.sms_page.proofs.PageLemmas.{Puts-then}
use Rattle.sms_page.proofs.page.Page.put_quoted_beyond.Goals as goal

pub returns : goal.returns
returns c = Puts-then _ _ (Puts-then _ _ (Puts-then _ _ (Puts-then _ _ c.put_wanted.ensures c.put.ensures) c.put-2.ensures) c.put-3.ensures) c.put_wanted-2.ensures
