use Rattle.std.proofs.Common.{◌∙◌, ap, sym, subst, Err, Result, inl, inr}
use Rattle.std.proofs.lemmas.Result.{err_from_is_err_and}
use Rattle.sms_script.proofs.EndTurns.{end_unmade, end_turn, end_left}
use Rattle.sms_script.specs.Play.{Plays}
use Rattle.sms_script.specs.declared.fault.PlayFault.{PlayFault}
use Rattle.sms_script.proofs.playing.play_on.Goals as goal

pub returns-in_err-last-clause-plays : goal.returns-in_err-last-clause-plays
returns-in_err-last-clause-plays g c =
    let p = err_from_is_err_and c.from_residual-in_err-last.result c.from_residual-in_err-last.ensures.1 in
    subst (λ (r : Result (Unit {0}) PlayFault). Plays g.N.Network.conduct (g.S.Source.remaining c.args.source.now) (g.S.Source.remaining c.play_lines.new.source) (g.K.Sink.contents c.args.sink.now) (g.K.Sink.contents c.play_lines.new.sink) r)
    (sym (p.1 ∙ ap Err p.2 ∙ ap Err c.in_err-last.ensures.memory))
    (inr (inl (end_unmade g.N.Network.conduct c.play_lines.new.script c.play_lines.new.network (g.S.Source.remaining c.args.source.now) (g.S.Source.remaining c.play_lines.new.source) (g.K.Sink.contents c.args.sink.now) (g.K.Sink.contents c.play_lines.new.sink) (sym c.take.ensures.value ∙ c.in_err-last.ensures.unbegun) c.in_ok-play_lines.ensures.plays)))

pub returns-clause-plays : goal.returns-clause-plays
returns-clause-plays g c =
    end_turn g.N.Network.conduct c.play_lines.new.script c.play_lines.new.network (g.S.Source.remaining c.args.source.now) (g.S.Source.remaining c.play_lines.new.source) (g.K.Sink.contents c.args.sink.now) (g.K.Sink.contents c.play_lines.new.sink) (g.K.Sink.contents c.put_phones-put.new.sink) c.in_ok-last.last
    c.in_ok-play_lines.ensures.plays (rw c.take.ensures.value at c.in_ok-last.ensures.there) c.put_phones-put.result (g.K.Sink.has_failed c.put_phones-put.new.sink) c.put_phones-put.ensures.puts c.put_phones-put.ensures.failed

pub returns-clause-leaves : goal.returns-clause-leaves
returns-clause-leaves g c =
    end_left g.N.Network.conduct c.play_lines.new.script c.play_lines.new.network (g.S.Source.remaining c.args.source.now) (g.S.Source.remaining c.play_lines.new.source) (g.K.Sink.contents c.args.sink.now) (g.K.Sink.contents c.play_lines.new.sink) (g.K.Sink.contents c.put_phones-put.new.sink) c.in_ok-last.last
    c.in_ok-play_lines.ensures.plays (rw c.take.ensures.value at c.in_ok-last.ensures.there) c.put_phones-put.result c.put_phones-put.ensures.puts
