use Rattle.std.proofs.Common.{◌≡◌, ◌+◌, ◌-◌, ◌^◌, min, true, None, refl, sym, ap, ◌∙◌, subst, arith}
use Rattle.sms_world.specs.Inside.Tables.{tables_in}
use Rattle.sms_world.specs.Watched.{WatchedValue, GoesOnWatched}
use Rattle.sms_world.specs.World.Steps.{event_of}
use Rattle.sms_world.proofs.Followed.{in_order_there, goes_on_watched, stays_watched, none_told, in_order_of}
use Rattle.sms_world.proofs.watched.WatchedWorld.step.Goals as goal

pub happen-told-requires-clause-in_order : goal.happen-told-requires-clause-in_order
happen-told-requires-clause-in_order c = λ t.
    in_order_there c.watching_goes_on.ensures c.self.inside.world c.self.inside.notes c.self.inside.events c.saturating_add-number.result c.self.inside.breach c.self.invariant.1 (event_of c.args.event.now)
    (sym c.breach_after-breach.ensures ∙ none_told c.breach_after-breach.result c.is_none-in_order.result c.is_none-in_order.ensures t)

pub invariant_of-self : goal.invariant_of-self
invariant_of-self c = (
  c.happen-told.ensures.rows,
  stays_watched c.watching_goes_on.ensures c.self.inside.world c.happen-told.new.world c.self.inside.notes c.happen-told.new.notes c.self.inside.events c.saturating_add-number.result c.self.inside.breach c.breach_after-breach.result
      (event_of c.args.event.now) c.happen-told.result c.happen-told.ensures.steps (let d = c.saturating_add-number.ensures in omega (arith, d)) c.breach_after-breach.ensures
      (λ none. c.happen-told.ensures.follows (in_order_of c.breach_after-breach.result c.is_none-in_order.result c.is_none-in_order.ensures none)) c.self.invariant.1,
)

pub returns-clause-goes : goal.returns-clause-goes
returns-clause-goes c =
    let new : WatchedValue = record { world = c.happen-told.new.world; notes = tables_in c.happen-told.new.notes; events = c.saturating_add-number.result; breach = c.breach_after-breach.result } in
    subst (λ (w : WatchedValue). GoesOnWatched (event_of c.args.event.now) w c.happen-told.result new) c.self.view_is
    (goes_on_watched c.watching_goes_on.ensures c.self.inside.world c.happen-told.new.world c.self.inside.notes c.happen-told.new.notes c.self.inside.events c.saturating_add-number.result c.self.inside.breach c.breach_after-breach.result
    (event_of c.args.event.now) c.happen-told.result c.happen-told.ensures.steps (let d = c.saturating_add-number.ensures in omega (arith, d)) c.breach_after-breach.ensures
    (λ none. c.happen-told.ensures.follows (in_order_of c.breach_after-breach.result c.is_none-in_order.result c.is_none-in_order.ensures none)))
