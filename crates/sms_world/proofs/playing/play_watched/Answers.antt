use Rattle.std.proofs.Common.{◌∙◌, ap, sym, subst, Option, Result, Ok, Err}
use Rattle.std.proofs.lemmas.Result.{err_from_is_err_and}
use Rattle.sms_script.specs.Play.{Plays}
use Rattle.sms_script.specs.declared.fault.PlayFault.{PlayFault}
use Rattle.sms_world.specs.Network.{conduct}
use Rattle.sms_world.specs.declared.order.Breach.{Breach}
use Rattle.sms_world.specs.Playing.Order.{as_played}
use Rattle.sms_world.proofs.Judging.{judges, no_watched}
use Rattle.sms_world.proofs.Transcribing.{transcribes}
use Rattle.sms_world.proofs.WorldPlayed.{plays_watched}
use Rattle.sms_world.proofs.playing.play_watched.Goals as goal

pub returns-in_err-play_on-clause-plays : goal.returns-in_err-play_on-clause-plays
returns-in_err-play_on-clause-plays g c =
    let p = err_from_is_err_and c.from_residual.result c.from_residual.ensures.1 in
    subst (λ (r : Result (Option Breach) PlayFault). Plays conduct (g.S.Source.remaining c.args.source.now) (g.S.Source.remaining c.play_on.new.source) (g.K.Sink.contents c.args.sink.now) (g.K.Sink.contents c.play_on.new.sink) (as_played r))
    (sym (p.1 ∙ ap Err p.2))
    (plays_watched (g.S.Source.remaining c.args.source.now) (g.S.Source.remaining c.play_on.new.source) (g.K.Sink.contents c.args.sink.now) (g.K.Sink.contents c.play_on.new.sink) (Err c.in_err-play_on.field-0.0) c.in_err-play_on.ensures.plays)

pub returns-clause-plays : goal.returns-clause-plays
returns-clause-plays g c =
    plays_watched (g.S.Source.remaining c.args.source.now) (g.S.Source.remaining c.play_on.new.source) (g.K.Sink.contents c.args.sink.now) (g.K.Sink.contents c.play_on.new.sink) (Ok tt) c.in_ok-play_on.ensures.plays

pub returns-clause-transcribes : goal.returns-clause-transcribes
returns-clause-transcribes g c =
    transcribes c.claims_hold.ensures c.deliveries_are_refused_only_where_full.ensures c.told_stores_stand.ensures _ _ _ _ (Ok tt)
    (plays_watched (g.S.Source.remaining c.args.source.now) (g.S.Source.remaining c.play_on.new.source) (g.K.Sink.contents c.args.sink.now) (g.K.Sink.contents c.play_on.new.sink) (Ok tt) c.in_ok-play_on.ensures.plays)

pub returns-clause-judges : goal.returns-clause-judges
returns-clause-judges g c =
    judges c.laws_below.ensures c.claims_hold.ensures c.deliveries_are_refused_only_where_full.ensures c.told_stores_stand.ensures _ _ _ _ c.play_on.new.script c.play_on.new.network c.in-Some.world c.order.result
    c.in-Some.is c.in_ok-play_on.ensures.leaves c.order.ensures.told
