use Rattle.std.proofs.Common.{◌≡◌, ℕ, Option, Some, None, Ok, inl, inr, sym, ap, ◌∙◌, subst}
use Rattle.sms_world.specs.World.Steps.{event_of}
use Rattle.sms_world.proofs.TraceNoted.{when_carried, when_typed, when_late, when_pushed, when_quiet}
use Rattle.sms_world.proofs.MayCall.{either}
use Rattle.sms_world.proofs.traces.TraceNotes.note.Goals as goal

pub returns-in-Carry-clause-noted : goal.returns-in-Carry-clause-noted
returns-in-Carry-clause-noted c =
    when_carried _ _ c.args.reject c.args.phone c.args.brought (Ok c.args.told) c.args.put _ _ c.trace_at-trace.result (ap event_of c.in-Carry.is) c.trace_at-trace.ensures c.requires.is_for c.bring.ensures.noted

pub returns-in-Push-clause-noted : goal.returns-in-Push-clause-noted
returns-in-Push-clause-noted c = when_pushed _ _ c.args.reject c.args.phone c.args.brought (Ok c.args.told) c.args.put _ _ (ap event_of c.in-Push.is) c.put_bare.ensures.noted

pub returns-in-Tick-clause-noted : goal.returns-in-Tick-clause-noted
returns-in-Tick-clause-noted c = when_quiet _ c.args.reject c.args.phone c.args.brought (Ok c.args.told) c.args.put _ (inl (_, ap event_of c.in-Tick.is))

pub returns-in-Inject-clause-noted : goal.returns-in-Inject-clause-noted
returns-in-Inject-clause-noted c = when_quiet _ c.args.reject c.args.phone c.args.brought (Ok c.args.told) c.args.put _ (inr (_, _, ap event_of c.in-Inject.is))

pub returns-in-Compose-clause-noted : goal.returns-in-Compose-clause-noted
returns-in-Compose-clause-noted c =
    either c.in-Compose.is
    (λ w. when_typed _ _ c.args.reject c.args.phone c.args.brought (Ok c.args.told) c.args.put _ _ _ _ (ap event_of w.3) c.requires.is_for c.call.ensures.noted)
    (λ w. when_late _ _ c.args.reject c.args.phone c.args.brought (Ok c.args.told) c.args.put _ _ (ap event_of w.1) c.requires.is_for c.call.ensures.noted)
