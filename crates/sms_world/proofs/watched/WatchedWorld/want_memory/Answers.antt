use Rattle.std.proofs.Common.{◌≡◌, ◌+◌, ◌-◌, ◌^◌, min, true, Option, Some, None, Err, refl, sym, ap, ◌∙◌, subst, arith}
use Rattle.sms_message.specs.declared.outcome.Dropped.TheVariants.{Memory}
use Rattle.sms_world.specs.declared.fault.WorldFault.TheVariants.{Party}
use Rattle.sms_world.specs.Inside.NotesValue.{ledger_in}
use Rattle.sms_world.specs.Inside.Tables.{tables_in}
use Rattle.sms_world.specs.Watched.{WatchedValue, GoesOnWatched}
use Rattle.sms_world.specs.Inside.Asked.{way_at}
use Rattle.sms_world.specs.Machine.Event.{Event}
use Rattle.sms_world.specs.World.Steps.{event_of, Steps}
use Rattle.sms_world.specs.World.Value.{WorldValue}
use Rattle.sms_world.specs.declared.world.way.Way.{Way}
use Rattle.sms_world.proofs.Alike.{same}
use Rattle.sms_world.proofs.Followed.{goes_on_watched, stays_watched, wants, wanted, in_order_now}
use Rattle.sms_world.proofs.watched.WatchedWorld.want_memory.Goals as goal

-- the way of the event in the world inside
way_inside : (v w : WorldValue) (event : Event) (way : Way) → v ≡ w → way_at w event ≡ Some way → way_at v event ≡ Some way
way_inside v w event way e h = ap (λ (x : WorldValue). way_at x event) e ∙ h

pub invariant_of-self : goal.invariant_of-self
invariant_of-self c = (
  c.self.invariant.0,
  stays_watched c.watching_goes_on.ensures c.self.inside.world c.self.inside.world c.self.inside.notes c.self.inside.notes c.self.inside.events c.saturating_add-number.result c.self.inside.breach c.breach_after-breach.result
      (event_of c.args.event.now) (Err (Party Memory))
      (wanted c.laws_below.ensures c.self.inside.world (event_of c.args.event.now) c.args.way c.typed_texts_are_text.ensures (way_inside c.self.inside.world c.args.self.now.world (event_of c.args.event.now) c.args.way (ap (λ (w : WatchedValue). w.world) c.self.view_is) c.requires))
      (let d = c.saturating_add-number.ensures in omega (arith, d)) c.breach_after-breach.ensures
      (λ none. wants c.laws_below.ensures c.watching_goes_on.ensures c.self.inside.world (ledger_in c.self.inside.notes) (event_of c.args.event.now)
      (in_order_now c.self.inside.world (ledger_in c.self.inside.notes) c.saturating_add-number.result c.self.inside.breach c.breach_after-breach.result (event_of c.args.event.now) c.breach_after-breach.ensures none)
      c.args.way (ledger_in c.self.inside.notes) c.typed_texts_are_text.ensures (way_inside c.self.inside.world c.args.self.now.world (event_of c.args.event.now) c.args.way (ap (λ (w : WatchedValue). w.world) c.self.view_is) c.requires) (same (ledger_in c.self.inside.notes))) c.self.invariant.1,
)

pub returns-clause-steps : goal.returns-clause-steps
returns-clause-steps c =
    subst (λ (w : WorldValue). Steps (event_of c.args.event.now) w (Err (Party Memory)) c.self.inside.world) (ap (λ (w : WatchedValue). w.world) c.self.view_is)
    (wanted c.laws_below.ensures c.self.inside.world (event_of c.args.event.now) c.args.way c.typed_texts_are_text.ensures (way_inside c.self.inside.world c.args.self.now.world (event_of c.args.event.now) c.args.way (ap (λ (w : WatchedValue). w.world) c.self.view_is) c.requires))

pub returns-clause-goes : goal.returns-clause-goes
returns-clause-goes c =
    let new : WatchedValue = record { world = c.self.inside.world; notes = tables_in c.self.inside.notes; events = c.saturating_add-number.result; breach = c.breach_after-breach.result } in
    subst (λ (w : WatchedValue). GoesOnWatched (event_of c.args.event.now) w (Err (Party Memory)) new) c.self.view_is
    (goes_on_watched c.watching_goes_on.ensures c.self.inside.world c.self.inside.world c.self.inside.notes c.self.inside.notes c.self.inside.events c.saturating_add-number.result c.self.inside.breach c.breach_after-breach.result
    (event_of c.args.event.now) (Err (Party Memory))
    (wanted c.laws_below.ensures c.self.inside.world (event_of c.args.event.now) c.args.way c.typed_texts_are_text.ensures (way_inside c.self.inside.world c.args.self.now.world (event_of c.args.event.now) c.args.way (ap (λ (w : WatchedValue). w.world) c.self.view_is) c.requires))
    (let d = c.saturating_add-number.ensures in omega (arith, d)) c.breach_after-breach.ensures
    (λ none. wants c.laws_below.ensures c.watching_goes_on.ensures c.self.inside.world (ledger_in c.self.inside.notes) (event_of c.args.event.now)
    (in_order_now c.self.inside.world (ledger_in c.self.inside.notes) c.saturating_add-number.result c.self.inside.breach c.breach_after-breach.result (event_of c.args.event.now) c.breach_after-breach.ensures none)
    c.args.way (ledger_in c.self.inside.notes) c.typed_texts_are_text.ensures (way_inside c.self.inside.world c.args.self.now.world (event_of c.args.event.now) c.args.way (ap (λ (w : WatchedValue). w.world) c.self.view_is) c.requires) (same (ledger_in c.self.inside.notes))))
