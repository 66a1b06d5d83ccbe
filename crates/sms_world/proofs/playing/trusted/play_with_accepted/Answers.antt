use Rattle.std.proofs.Common.{◌∙◌, ap, sym, subst, Err, Ok, Result, inl, inr}
use Rattle.std.proofs.lemmas.Result.{err_from_is_err_and}
use Rattle.sms_script.specs.declared.fault.PlayFault.{PlayFault}
use Rattle.sms_world.specs.Playing.Trusted.{AreVerdicts, PlaysWithAccepted}
use Rattle.sms_world.specs.Words.Doubts.{verdict_lines}
use Rattle.sms_world.proofs.Judging.{tells, tells_front, tells_nothing}
use Rattle.sms_world.proofs.playing.trusted.play_with_accepted.Goals as goal

pub returns-in_err-verdicts-clause-plays : goal.returns-in_err-verdicts-clause-plays
returns-in_err-verdicts-clause-plays g c =
    let p = err_from_is_err_and c.from_residual.result c.from_residual.ensures.1 in
    subst (λ (r : Result (Unit {0}) PlayFault). PlaysWithAccepted c.args.tells_order (g.S.Source.remaining c.args.source.now) (g.S.Source.remaining c.play_trusted.new.source) (g.K.Sink.contents c.args.sink.now) (g.K.Sink.contents c.play_trusted.new.sink) r)
    (sym (p.1 ∙ ap Err p.2))
    (inl c.in_err-verdicts.ensures.plays)

pub returns-in_err-lines-clause-plays : goal.returns-in_err-lines-clause-plays
returns-in_err-lines-clause-plays g c =
    let p = err_from_is_err_and c.from_residual-in_err-lines.result c.from_residual-in_err-lines.ensures.1 in
    subst (λ (r : Result (Unit {0}) PlayFault). PlaysWithAccepted c.args.tells_order (g.S.Source.remaining c.args.source.now) (g.S.Source.remaining c.play_trusted.new.source) (g.K.Sink.contents c.args.sink.now) (g.K.Sink.contents c.play_trusted.new.sink) r)
    (sym (p.1 ∙ ap Err p.2))
    (inr (tells_nothing AreVerdicts (verdict_lines c.args.tells_order) (g.S.Source.remaining c.args.source.now) (g.S.Source.remaining c.play_trusted.new.source) (g.K.Sink.contents c.args.sink.now) (g.K.Sink.contents c.play_trusted.new.sink) c.play_trusted.new.script c.in_ok-verdicts.verdicts c.in_ok-verdicts.ensures.judges))

pub returns-in-Ok-clause-plays : goal.returns-in-Ok-clause-plays
returns-in-Ok-clause-plays g c =
    tells AreVerdicts (verdict_lines c.args.tells_order) (g.S.Source.remaining c.args.source.now) (g.S.Source.remaining c.play_trusted.new.source) (g.K.Sink.contents c.args.sink.now) (g.K.Sink.contents c.play_trusted.new.sink) c.play_trusted.new.script c.in_ok-verdicts.verdicts c.in_ok-verdicts.ensures.judges
    (g.K.Sink.contents c.write_whole.new.sink) (Ok tt) c.as_bytes.result.now (c.as_bytes.ensures.value ∙ c.in_ok-lines.ensures) c.in-Ok.ensures.ok

pub returns-clause-plays : goal.returns-clause-plays
returns-clause-plays g c =
    inr (tells_front AreVerdicts (verdict_lines c.args.tells_order) (g.S.Source.remaining c.args.source.now) (g.S.Source.remaining c.play_trusted.new.source) (g.K.Sink.contents c.args.sink.now) (g.K.Sink.contents c.play_trusted.new.sink) c.play_trusted.new.script c.in_ok-verdicts.verdicts c.in_ok-verdicts.ensures.judges
    (g.K.Sink.contents c.write_whole.new.sink) c.as_bytes.result.now (c.as_bytes.ensures.value ∙ c.in_ok-lines.ensures) c.in-Err.ensures.front)
