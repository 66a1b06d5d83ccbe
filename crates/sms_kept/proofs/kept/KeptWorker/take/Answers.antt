use Rattle.std.proofs.Common.{◌≡◌, false, true, ap, subst, sym, ◌∙◌, option_copied}
use Rattle.sms_feed.specs.Takers.{standing}
use Rattle.sms_kept.specs.Keeping.{is_due, is_passed_over, keeping}
use Rattle.sms_kept.proofs.Keeping.{due, not_due, not_put, on_ok, on_err}
use Rattle.sms_kept.proofs.kept.KeptWorker.take.Goals as goal

pub returns-then-is_due-clause-done : goal.returns-then-is_due-clause-done
returns-then-is_due-clause-done g c = on_ok c.put.result _ _
    (due (keeping g.T.Taker.takes g.T.Taker.ends g.T.Keeper.state g.F.Folder.is_known g.F.Folder.named g.F.Folder.may_leave g.F.Folder.moment g.F.Folder.left_since) (standing c.args.self.now (g.W.Write.contents c.args.output.now) c.args.page.now) c.args.line.number (option_copied c.args.line.octets) (standing c.take_line.new.self (g.W.Write.contents c.take_line.new.output) c.take_line.new.page) (standing c.put.new.self (g.W.Write.contents c.put.new.output) c.put.new.page)
    (subst (λ t. is_passed_over c.args.line.number t ≡ false) (ap (λ v. v.taken) c.self.view_is) (sym c.is_passed_over.ensures ∙ c.if-is_passed_over.false)) c.in_ok-take_line.ensures.takes (subst (λ v. is_due v.taken v.every ≡ true) c.self-2.view_is (sym c.is_due.ensures ∙ c.if-is_due.true)))
    c.put.ensures.puts

pub returns-then-is_due-clause-failed : goal.returns-then-is_due-clause-failed
returns-then-is_due-clause-failed g c = on_err c.put.result _ _
    (not_put (keeping g.T.Taker.takes g.T.Taker.ends g.T.Keeper.state g.F.Folder.is_known g.F.Folder.named g.F.Folder.may_leave g.F.Folder.moment g.F.Folder.left_since) (standing c.args.self.now (g.W.Write.contents c.args.output.now) c.args.page.now) c.args.line.number (option_copied c.args.line.octets) (standing c.take_line.new.self (g.W.Write.contents c.take_line.new.output) c.take_line.new.page) (standing c.put.new.self (g.W.Write.contents c.put.new.output) c.put.new.page) c.in_ok-take_line.ensures.takes)
    c.put.ensures.may

pub returns-clause-done : goal.returns-clause-done
returns-clause-done g c = not_due (keeping g.T.Taker.takes g.T.Taker.ends g.T.Keeper.state g.F.Folder.is_known g.F.Folder.named g.F.Folder.may_leave g.F.Folder.moment g.F.Folder.left_since) (standing c.args.self.now (g.W.Write.contents c.args.output.now) c.args.page.now) c.args.line.number (option_copied c.args.line.octets) (standing c.take_line.new.self (g.W.Write.contents c.take_line.new.output) c.take_line.new.page) (subst (λ t. is_passed_over c.args.line.number t ≡ false) (ap (λ v. v.taken) c.self.view_is) (sym c.is_passed_over.ensures ∙ c.if-is_passed_over.false)) c.in_ok-take_line.ensures.takes (subst (λ v. is_due v.taken v.every ≡ false) c.self-2.view_is (sym c.is_due.ensures ∙ c.if-is_due.false))
