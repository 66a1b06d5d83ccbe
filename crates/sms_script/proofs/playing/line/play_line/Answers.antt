use Rattle.std.proofs.Common.{◌∙◌, ◌++◌, ◌∷◌, [], ap, sym, subst, Ok, Err, Option, Result}
use Rattle.std.proofs.lemmas.Result.{err_from_is_err_and, on_ok_weaker}
use Rattle.sms_script.proofs.LineTurns.{nothing_goes_on, take_fails}
use Rattle.sms_script.proofs.RunLemmas.{lines_after}
use Rattle.sms_script.specs.Script.{TakesLine}
use Rattle.sms_script.specs.Script.Settings.{SettingsValue}
use Rattle.sms_script.specs.Inside.Standing.{at, Stands, GoesOn}
use Rattle.sms_script.specs.declared.fault.PlayFault.{PlayFault}
use Rattle.sms_script.specs.declared.meaning.event.Event.{Event}
use Rattle.sms_script.proofs.playing.line.play_line.Goals as goal

pub returns-in_err-event-clause-advances : goal.returns-in_err-event-clause-advances
returns-in_err-event-clause-advances g c ls before h =
    let p = err_from_is_err_and c.from_residual.result c.from_residual.ensures.1 in
    subst (λ (r : Result (Unit {0}) PlayFault). GoesOn g.N.Network.conduct ls c.args.line.now (at c.args.script.now c.args.network.now c.args.events.now (g.K.Sink.contents c.args.sink.now)) (at c.take.new.self c.args.network.now c.args.events.now (g.K.Sink.contents c.args.sink.now)) before r)
    (sym (p.1 ∙ ap Err p.2))
    (take_fails g.N.Network.conduct ls c.args.line.now c.args.script.now c.take.new.self c.args.network.now c.args.network.now c.args.events.now c.args.events.now before (g.K.Sink.contents c.args.sink.now) c.in_err-event.field-0.0 c.requires.lines c.requires.octets h c.in_err-event.ensures.takes)

pub returns-in-None-clause-advances : goal.returns-in-None-clause-advances
returns-in-None-clause-advances g c ls before h =
    let t = c.in_ok-event.ensures.takes in
    subst (λ (s : SettingsValue). Stands g.N.Network.conduct (ls ++ c.args.line.now ∷ []) s c.args.network.now c.args.events.now before (g.K.Sink.contents c.args.sink.now)) (sym t.2)
    (nothing_goes_on g.N.Network.conduct ls c.args.line.now c.args.script.now c.args.network.now c.args.events.now before (g.K.Sink.contents c.args.sink.now) t.0 c.requires.lines c.requires.octets t.1 (sym t.3 ∙ c.in-None.is) h)

pub returns-in-None-clause-lines : goal.returns-in-None-clause-lines
returns-in-None-clause-lines g c =
    let t = c.in_ok-event.ensures.takes in
    ap (λ (s : SettingsValue). s.lines) t.2 ∙ lines_after c.args.script.now t.0

pub returns-in-Some-clause-advances : goal.returns-in-Some-clause-advances
returns-in-Some-clause-advances g c =
    c.play_event.ensures.advances c.args.script.now c.args.line.now
    (subst (λ (o : Option Event). TakesLine c.args.script.now c.take.new.self c.args.line.now (Ok o)) c.in-Some.is c.in_ok-event.ensures.takes)
    c.requires.lines c.requires.octets

pub returns-in-Some-clause-lines : goal.returns-in-Some-clause-lines
returns-in-Some-clause-lines g c =
    let t = c.in_ok-event.ensures.takes in
    on_ok_weaker c.play_event.result (λ _. ap (λ (s : SettingsValue). s.lines) t.2 ∙ lines_after c.args.script.now t.0) c.play_event.ensures.events
