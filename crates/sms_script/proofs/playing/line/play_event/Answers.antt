use Rattle.std.proofs.Common.{◌≡◌, ◌∙◌, ◌+◌, ap, sym, subst, refl, Some, Err, inl, Result}
use Rattle.std.proofs.lemmas.Result.{err_from_is_err_and}
use Rattle.sms_script.proofs.LineTurns.{event_answered, event_may}
use Rattle.sms_script.specs.Inside.Standing.{at, GoesOn, OpensAt}
use Rattle.sms_script.specs.declared.fault.PlayFault.{PlayFault}
use Rattle.sms_script.proofs.playing.line.play_event.Goals as goal

pub returns-in_err-start-clause-advances : goal.returns-in_err-start-clause-advances
returns-in_err-start-clause-advances g c from line takes few short ls before h =
    let p = err_from_is_err_and c.from_residual.result c.from_residual.ensures.1 in
    subst (λ (r : Result (Unit {0}) PlayFault). GoesOn g.N.Network.conduct ls line (at from c.args.network.now c.args.events.now (g.K.Sink.contents c.args.sink.now)) (at c.args.script.now c.start.new.network c.args.events.now (g.K.Sink.contents c.args.sink.now)) before r)
    (sym (p.1 ∙ ap Err p.2 ∙ ap Err c.in_err-start.ensures.memory))
    (h, event_may from c.args.script.now line c.args.event.now takes)

pub returns-clause-advances : goal.returns-clause-advances
returns-clause-advances g c from line takes few short ls before h =
    let there = c.in_ok-start.ensures.there in
    let same : there.0 ≡ c.in-Some.current = cc (c.in-Some.is, there.1) in
    let opens = subst (λ m. OpensAt g.N.Network.conduct c.args.script.now c.args.network.now m) same there.2 in
    event_answered g.N.Network.conduct ls line from c.args.script.now c.args.network.now (Some c.take_event.new.network) c.args.events.now (c.args.events.now + 1) before (g.K.Sink.contents c.args.sink.now) (g.K.Sink.contents c.take_event.new.sink) (Some c.args.event.now) c.args.event.now c.in-Some.current c.take_event.new.network c.take_event.result (g.K.Sink.has_failed c.take_event.new.sink)
    few short refl h takes refl opens c.take_event.ensures.takes c.take_event.ensures.phones c.take_event.ensures.failed (inl refl)
