use Rattle.std.proofs.Common.{◌≡◌, ◌+◌, ◌-◌, ◌^◌, min, true, None, refl, sym, ap, ◌∙◌, subst, arith}
use Rattle.sms_world.specs.Inside.TraceValue.{traces_in, trace_tables_in, IsBroughtBy}
use Rattle.sms_world.specs.Inside.TraceFollowed.{doubt_after}
use Rattle.sms_world.specs.Traces.{ground_at}
use Rattle.sms_world.specs.Trusted.{TrustedValue, GoesOnTrusted}
use Rattle.sms_world.specs.World.Steps.{event_of}
use Rattle.sms_world.specs.World.Value.{WorldValue}
use Rattle.sms_world.proofs.Trusting.{goes_trusted, stays_trusted, honest_of}
use Rattle.sms_world.proofs.trusted.TrustedWorld.step.Goals as goal

pub invariant_of-self : goal.invariant_of-self
invariant_of-self c = (
  c.happen-told.ensures.rows,
  stays_trusted c.traces_tell.ensures c.runs_are_determined.ensures c.self.inside.watched c.happen-told.new.watched c.self.inside.notes c.happen-told.new.notes
      c.self.inside.doubt c.doubt_after-doubt.result (event_of c.args.event.now) c.happen-told.result c.brought_by-brought.result
      c.happen-told.ensures.steps c.happen-told.ensures.goes
      (subst (λ (w : WorldValue). IsBroughtBy w (event_of c.args.event.now) c.brought_by-brought.result) c.world.ensures c.brought_by-brought.ensures)
      c.saturating_add-number.result (let d = c.saturating_add-number.ensures in omega (arith, d)) (c.doubt_after-doubt.ensures ∙ ap (λ now. doubt_after c.self.inside.doubt c.saturating_add-number.result (ground_at (traces_in c.self.inside.notes) now (event_of c.args.event.now) c.brought_by-brought.result))
      (c.clock-now.ensures.clock ∙ ap (λ (w : WorldValue). w.clock) c.world-2.ensures))
      (λ none. c.happen-told.ensures.follows (honest_of c.doubt_after-doubt.result c.is_none-is_honest.result c.is_none-is_honest.ensures none)) c.self.invariant.1,
)

pub returns-clause-goes : goal.returns-clause-goes
returns-clause-goes c =
    let new : TrustedValue = record { watched = c.happen-told.new.watched; notes = trace_tables_in c.happen-told.new.notes; doubt = c.doubt_after-doubt.result } in
    subst (λ (w : TrustedValue). GoesOnTrusted (event_of c.args.event.now) w c.happen-told.result new) c.self.view_is
    (goes_trusted c.traces_tell.ensures c.runs_are_determined.ensures c.self.inside.watched c.happen-told.new.watched c.self.inside.notes c.happen-told.new.notes
    c.self.inside.doubt c.doubt_after-doubt.result (event_of c.args.event.now) c.happen-told.result c.brought_by-brought.result
    c.happen-told.ensures.steps c.happen-told.ensures.goes
    (subst (λ (w : WorldValue). IsBroughtBy w (event_of c.args.event.now) c.brought_by-brought.result) c.world.ensures c.brought_by-brought.ensures)
    c.saturating_add-number.result (let d = c.saturating_add-number.ensures in omega (arith, d)) (c.doubt_after-doubt.ensures ∙ ap (λ now. doubt_after c.self.inside.doubt c.saturating_add-number.result (ground_at (traces_in c.self.inside.notes) now (event_of c.args.event.now) c.brought_by-brought.result))
    (c.clock-now.ensures.clock ∙ ap (λ (w : WorldValue). w.clock) c.world-2.ensures))
    (λ none. c.happen-told.ensures.follows (honest_of c.doubt_after-doubt.result c.is_none-is_honest.result c.is_none-is_honest.ensures none)))
