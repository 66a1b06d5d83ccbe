use Rattle.std.proofs.Common.{◌≡◌, ◌≤◌, ◌-◌, ◌^◌, List, length, Ok, Err, refl, sym, ap, ◌∙◌, subst, arith}
use Rattle.sms_message.specs.declared.outcome.Dropped.TheVariants.{Memory}
use Rattle.sms_script.specs.declared.script.limits.Limits.{Limits}
use Rattle.sms_world.specs.declared.fault.WorldFault.TheVariants.{Party}
use Rattle.sms_world.specs.Inside.TraceFollowed.{FollowsTraces}
use Rattle.sms_world.specs.Inside.TraceValue.{traces_in}
use Rattle.sms_world.specs.World.Steps.{event_of}
use Rattle.sms_world.specs.World.Standing.{StandsFor}
use Rattle.sms_world.specs.World.Steps.{Steps}
use Rattle.sms_world.specs.Watched.{GoesOnWatched}
use Rattle.sms_world.specs.World.Value.{WorldValue}
use Rattle.sms_world.proofs.Happening.{fault_is}
use Rattle.sms_world.proofs.Trusting.{follows_fault, follows_noted, is_for, few_new}
use Rattle.sms_world.proofs.trusted.happen_at_phone.Goals as goal

pub returns-then-is_err-clause-follows : goal.returns-then-is_err-clause-follows
returns-then-is_err-clause-follows c =
    follows_fault c.traces_tell.ensures (event_of c.args.event.now) c.args.watched.now.world (traces_in c.args.notes.now) c.want_memory.new.self.world (Party Memory) (traces_in c.make_room.new.self)
    c.make_room.ensures.alike (ap (λ (w : WorldValue). w.packets) c.want_memory.ensures.world)

pub returns-in_err-told-clause-follows : goal.returns-in_err-told-clause-follows
returns-in_err-told-clause-follows c =
    let event = event_of c.args.event.now in
    let is = fault_is c.from_residual.result c.in_err-told.field-0.0 c.from_residual.ensures.1 in
    subst (λ t. FollowsTraces event c.args.watched.now.world (traces_in c.args.notes.now) t c.step.new.self.world (traces_in c.make_room.new.self)) (sym is)
    (follows_fault c.traces_tell.ensures event c.args.watched.now.world (traces_in c.args.notes.now) c.step.new.self.world c.in_err-told.field-0.0 (traces_in c.make_room.new.self)
    c.make_room.ensures.alike c.in_err-told.ensures.kept)

pub note-requires-clause-few : goal.note-requires-clause-few
note-requires-clause-few c =
    let r = c.comes_of_a_run.ensures in
    let few = few_new c.laws_below.ensures c.args.watched.now.world c.step.new.self.world r.machine (event_of c.args.event.now) (Ok c.in_ok-told.told) (subst (λ (w : WorldValue). StandsFor w r.machine) c.world.ensures r.stands) c.in_ok-told.ensures.steps in
    let put = c.saturating_sub-put.ensures in
    let before = c.packet_count-before.ensures ∙ ap (λ (w : WorldValue). length w.packets) c.world-3.ensures in
    let after = c.packet_count.ensures ∙ ap (λ (w : WorldValue). length w.packets) c.world-4.ensures in
    omega (arith, few, put, before, after)

pub note-requires-clause-is_for : goal.note-requires-clause-is_for
note-requires-clause-is_for c =
    let r = c.comes_of_a_run.ensures in
    is_for c.args.watched.now.world r.machine (subst (λ (w : WorldValue). StandsFor w r.machine) c.world.ensures r.stands) (event_of c.args.event.now) c.args.way c.args.brought c.requires.brought c.requires.way

pub returns-clause-follows : goal.returns-clause-follows
returns-clause-follows c =
    let put = c.saturating_sub-put.ensures in
    let before = c.packet_count-before.ensures ∙ ap (λ (w : WorldValue). length w.packets) c.world-3.ensures in
    let after = c.packet_count.ensures ∙ ap (λ (w : WorldValue). length w.packets) c.world-4.ensures in
    follows_noted c.traces_tell.ensures (event_of c.args.event.now) c.args.watched.now.world (traces_in c.args.notes.now) c.step.new.self.world c.laws_below.ensures
    c.limits-limits.result.reject c.in_ok-told.told c.args.brought c.saturating_sub-put.result c.args.way.phone (traces_in c.make_room.new.self) (traces_in c.note.new.self)
    (ap (λ (l : Limits). l.reject) (c.limits-limits.ensures ∙ ap (λ (w : WorldValue). w.limits) c.world-2.ensures)) c.requires.brought (omega (arith, put, before, after)) (omega (arith, after)) c.make_room.ensures.alike c.note.ensures.noted

pub returns-in_err-told-clause-steps : goal.returns-in_err-told-clause-steps
returns-in_err-told-clause-steps c =
    let event = event_of c.args.event.now in
    let is = fault_is c.from_residual.result c.in_err-told.field-0.0 c.from_residual.ensures.1 in
    subst (λ t. Steps event c.args.watched.now.world t c.step.new.self.world) (sym is) c.in_err-told.ensures.steps

pub returns-in_err-told-clause-goes : goal.returns-in_err-told-clause-goes
returns-in_err-told-clause-goes c =
    let event = event_of c.args.event.now in
    let is = fault_is c.from_residual.result c.in_err-told.field-0.0 c.from_residual.ensures.1 in
    subst (λ t. GoesOnWatched event c.args.watched.now t c.step.new.self) (sym is) c.in_err-told.ensures.goes
