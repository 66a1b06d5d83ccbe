use Rattle.std.proofs.Common.{refl}
use Rattle.sms_script.specs.Lines.{lines}
use Rattle.sms_feed.specs.Takers.{standing}
use Rattle.sms_kept.specs.Keeping.{keeping}
use Rattle.sms_kept.proofs.Keeping.{from_empty, of_err, with_empty}
use Rattle.sms_kept.proofs.taking.take_kept.Goals as goal

pub returns-in-Ok-clause-takes : goal.returns-in-Ok-clause-takes
returns-in-Ok-clause-takes g c = λ octets known.
    with_empty (keeping g.T.Taker.takes g.T.Taker.ends g.T.Keeper.state g.F.Folder.is_known g.F.Folder.named g.F.Folder.may_leave g.F.Folder.moment g.F.Folder.left_since) c.args.kept.now (g.W.Write.contents c.args.output.now) c.new-page.result (lines octets) c.work_through.new.worker (g.W.Write.contents c.work_through.new.output) c.work_through.new.page c.new-page.ensures (c.in-Ok.ensures.works octets known)

pub returns-in_err-map_err-in-Err-clause-early : goal.returns-in_err-map_err-in-Err-clause-early
returns-in_err-map_err-in-Err-clause-early g c = λ octets known. of_err c.from_residual.result _
    (standing c.work_through.new.worker (g.W.Write.contents c.work_through.new.output) c.work_through.new.page, refl, from_empty (keeping g.T.Taker.takes g.T.Taker.ends g.T.Keeper.state g.F.Folder.is_known g.F.Folder.named g.F.Folder.may_leave g.F.Folder.moment g.F.Folder.left_since) c.args.kept.now (g.W.Write.contents c.args.output.now) c.new-page.result (lines octets) (standing c.work_through.new.worker (g.W.Write.contents c.work_through.new.output) c.work_through.new.page) c.new-page.ensures (c.in-Err.ensures.early octets known))

pub returns-clause-early : goal.returns-clause-early
returns-clause-early g c = λ octets known.
    (standing c.work_through.new.worker (g.W.Write.contents c.work_through.new.output) c.work_through.new.page, refl, from_empty (keeping g.T.Taker.takes g.T.Taker.ends g.T.Keeper.state g.F.Folder.is_known g.F.Folder.named g.F.Folder.may_leave g.F.Folder.moment g.F.Folder.left_since) c.args.kept.now (g.W.Write.contents c.args.output.now) c.new-page.result (lines octets) (standing c.work_through.new.worker (g.W.Write.contents c.work_through.new.output) c.work_through.new.page) c.new-page.ensures (c.in-Err.ensures.early octets known))
