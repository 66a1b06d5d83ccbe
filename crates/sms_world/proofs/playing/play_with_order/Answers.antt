use Rattle.std.proofs.Common.{◌∙◌, ap, sym, subst, Err, Ok, Result, inl, inr}
use Rattle.std.proofs.lemmas.Result.{err_from_is_err_and}
use Rattle.sms_script.specs.declared.fault.PlayFault.{PlayFault}
use Rattle.sms_world.specs.Playing.Order.{IsJudged, PlaysWithOrder}
use Rattle.sms_world.specs.Words.Order.{order_line}
use Rattle.sms_world.proofs.Judging.{tells, tells_front, tells_nothing}
use Rattle.sms_world.proofs.playing.play_with_order.Goals as goal

pub returns-in_err-breach-clause-plays : goal.returns-in_err-breach-clause-plays
returns-in_err-breach-clause-plays g c =
    let p = err_from_is_err_and c.from_residual.result c.from_residual.ensures.1 in
    subst (λ (r : Result (Unit {0}) PlayFault). PlaysWithOrder (g.S.Source.remaining c.args.source.now) (g.S.Source.remaining c.play_watched.new.source) (g.K.Sink.contents c.args.sink.now) (g.K.Sink.contents c.play_watched.new.sink) r)
    (sym (p.1 ∙ ap Err p.2))
    (inl c.in_err-breach.ensures.plays)

pub returns-in_err-line-clause-plays : goal.returns-in_err-line-clause-plays
returns-in_err-line-clause-plays g c =
    let p = err_from_is_err_and c.from_residual-in_err-line.result c.from_residual-in_err-line.ensures.1 in
    subst (λ (r : Result (Unit {0}) PlayFault). PlaysWithOrder (g.S.Source.remaining c.args.source.now) (g.S.Source.remaining c.play_watched.new.source) (g.K.Sink.contents c.args.sink.now) (g.K.Sink.contents c.play_watched.new.sink) r)
    (sym (p.1 ∙ ap Err p.2))
    (inr (tells_nothing IsJudged order_line (g.S.Source.remaining c.args.source.now) (g.S.Source.remaining c.play_watched.new.source) (g.K.Sink.contents c.args.sink.now) (g.K.Sink.contents c.play_watched.new.sink) c.play_watched.new.script c.in_ok-breach.breach c.in_ok-breach.ensures.judges))

pub returns-in-Ok-clause-plays : goal.returns-in-Ok-clause-plays
returns-in-Ok-clause-plays g c =
    tells IsJudged order_line (g.S.Source.remaining c.args.source.now) (g.S.Source.remaining c.play_watched.new.source) (g.K.Sink.contents c.args.sink.now) (g.K.Sink.contents c.play_watched.new.sink) c.play_watched.new.script c.in_ok-breach.breach c.in_ok-breach.ensures.judges
    (g.K.Sink.contents c.write_whole.new.sink) (Ok tt) c.as_bytes.result.now (c.as_bytes.ensures.value ∙ c.in_ok-line.ensures) c.in-Ok.ensures.ok

pub returns-clause-plays : goal.returns-clause-plays
returns-clause-plays g c =
    inr (tells_front IsJudged order_line (g.S.Source.remaining c.args.source.now) (g.S.Source.remaining c.play_watched.new.source) (g.K.Sink.contents c.args.sink.now) (g.K.Sink.contents c.play_watched.new.sink) c.play_watched.new.script c.in_ok-breach.breach c.in_ok-breach.ensures.judges
    (g.K.Sink.contents c.write_whole.new.sink) c.as_bytes.result.now (c.as_bytes.ensures.value ∙ c.in_ok-line.ensures) c.in-Err.ensures.front)
