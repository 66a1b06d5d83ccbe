use Rattle.std.proofs.Common.{Bool, sym, subst}
use Rattle.sms_centre.specs.Centre.Value.{HoldingsValue}
use Rattle.sms_centre.specs.Centre.Kept.{IsHeldLater}
use Rattle.sms_centre.specs.Inside.Holdings.{ForgetsOne}
use Rattle.sms_centre.proofs.Holdings.{held_left}
use Rattle.sms_centre.proofs.centre.holdings.Holdings.forget.Goals as goal

pub returns-clause-held : goal.returns-clause-held
returns-clause-held c =
    let f = subst (λ (b : Bool). ForgetsOne c.args.now c.loop.self b c.forget_one.new.self) c.loop-test.false c.forget_one.ensures in
    subst (λ (h : HoldingsValue). IsHeldLater c.args.now c.args.self.now.held h.held) (sym f.0) (held_left c.args.now c.args.self.now c.loop.self c.loop.invariant f.1 f.2)
