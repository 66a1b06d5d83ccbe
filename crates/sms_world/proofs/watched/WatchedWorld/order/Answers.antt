use Rattle.std.proofs.Common.{sym, ap, subst}
use Rattle.sms_world.specs.Watched.{WatchedValue, IsWatched, OrderIsTold, StoresAreKept}
use Rattle.sms_world.proofs.Followed.{told_in_order, kept_stores}
use Rattle.sms_world.proofs.watched.WatchedWorld.order.Goals as goal

pub returns-clause-comes : goal.returns-clause-comes
returns-clause-comes c = subst (λ (w : WatchedValue). IsWatched w) c.self.view_is c.self.invariant.1

pub returns-clause-told : goal.returns-clause-told
returns-clause-told c =
    subst (λ b. OrderIsTold c.args.self.now b) (sym (ap (λ (w : WatchedValue). w.breach) c.self.view_is)) (told_in_order c.args.self.now)

pub returns-clause-kept : goal.returns-clause-kept
returns-clause-kept c =
    subst (λ b. StoresAreKept c.args.self.now b) (sym (ap (λ (w : WatchedValue). w.breach) c.self.view_is)) (kept_stores c.claims_hold.ensures.whole c.args.self.now)
