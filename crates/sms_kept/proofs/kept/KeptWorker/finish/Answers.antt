use Rattle.sms_feed.specs.Takers.{standing}
use Rattle.sms_kept.specs.Keeping.{keeping}
use Rattle.sms_kept.proofs.Keeping.{ends_put, ends_not_put, on_ok, on_err}
use Rattle.sms_kept.proofs.kept.KeptWorker.finish.Goals as goal

pub returns-clause-ended : goal.returns-clause-ended
returns-clause-ended g c = on_ok c.put.result _ _ (ends_put (keeping g.T.Taker.takes g.T.Taker.ends g.T.Keeper.state g.F.Folder.is_known g.F.Folder.named g.F.Folder.may_leave g.F.Folder.moment g.F.Folder.left_since) (record { taker = c.self.inside.taker; folder = c.self.inside.folder; every = c.self.inside.every; taken = c.self.inside.taken }) c.args.self.now (g.W.Write.contents c.args.output.now) c.args.page.now c.finish.new.self c.finish.new.page (standing c.put.new.self (g.W.Write.contents c.put.new.output) c.put.new.page) c.self.view_is c.in_ok-finish.ensures.ended) c.put.ensures.puts

pub returns-clause-failed : goal.returns-clause-failed
returns-clause-failed g c = on_err c.put.result _ _ (ends_not_put (keeping g.T.Taker.takes g.T.Taker.ends g.T.Keeper.state g.F.Folder.is_known g.F.Folder.named g.F.Folder.may_leave g.F.Folder.moment g.F.Folder.left_since) (record { taker = c.self.inside.taker; folder = c.self.inside.folder; every = c.self.inside.every; taken = c.self.inside.taken }) c.args.self.now (g.W.Write.contents c.args.output.now) c.args.page.now c.finish.new.self c.finish.new.page (standing c.put.new.self (g.W.Write.contents c.put.new.output) c.put.new.page) c.self.view_is c.in_ok-finish.ensures.ended) c.put.ensures.may
