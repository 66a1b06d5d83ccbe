use Rattle.sms_page.proofs.PageLemmas.{Puts-then}
use Rattle.sms_page.proofs.page.Page.put_name_beyond.Goals as goal

pub returns : goal.returns
returns c = Puts-then _ _ c.put.ensures c.put-2.ensures
