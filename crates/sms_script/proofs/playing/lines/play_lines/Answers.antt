use Rattle.std.proofs.Common.{◌∙◌, ap, sym, subst, arith, rules, Ok, Err, List, ℕ, Result}
use Rattle.std.proofs.lemmas.Result.{err_from_is_err_and}
use Rattle.sms_script.specs.Lines.{lines}
use Rattle.sms_script.specs.Lines.Reading.{ReadsLine}
use Rattle.sms_script.specs.declared.lines.LineEnd.TheVariants as line_ends
use Rattle.sms_script.proofs.LoopTurns.{loop_starts, loop_turn, loop_fails, loop_lasts, loop_ends, loop_unread, not_read}
use Rattle.sms_script.specs.Inside.NextLine.{TakesNext}
use Rattle.sms_script.specs.Script.Settings.{SettingsValue}
use Rattle.sms_script.specs.Inside.Standing.{at, PlaysLines}
use Rattle.sms_script.specs.declared.fault.PlayFault.{PlayFault}
use Rattle.sms_script.proofs.playing.lines.play_lines.Goals as goal

pub loop-line-init : goal.loop-line-init
loop-line-init g c =
    let none = ap (λ (s : SettingsValue). s.lines) c.requires.script in
    record {
      reads = c.requires.reads;
      goes_on = c.requires.begins;
      writes = c.requires.writes;
      few = omega (arith, none);
      events = omega arith;
      stands = loop_starts g.N.Network.conduct c.args.script.now c.args.network.now (g.S.Source.remaining c.args.source.now) (g.K.Sink.contents c.args.sink.now) c.requires.script c.requires.network;
    }

pub returns-in_err-next_line-clause-plays : goal.returns-in_err-next_line-clause-plays
returns-in_err-next_line-clause-plays g c =
    let p = err_from_is_err_and c.from_residual.result c.from_residual.ensures.1 in
    let takes = subst (λ (n : ℕ). TakesNext (g.S.Source.remaining c.loop-line.source) (g.S.Source.remaining c.next_line.new.source) n c.next_line.new.line.items (Err c.in_err-next_line.field-0.0)) c.lines.ensures c.in_err-next_line.ensures.takes in
    subst (λ (r : Result (Unit {0}) PlayFault). PlaysLines g.N.Network.conduct (g.S.Source.remaining c.args.source.now) (g.S.Source.remaining c.next_line.new.source) c.loop-line.script c.loop-line.network (g.K.Sink.contents c.args.sink.now) (g.K.Sink.contents c.loop-line.sink) r)
    (sym (p.1 ∙ ap Err p.2))
    (loop_unread g.N.Network.conduct c.next_line.new.line.items (at c.loop-line.script c.loop-line.network c.loop-line.events (g.K.Sink.contents c.loop-line.sink)) (g.S.Source.remaining c.args.source.now) (g.S.Source.remaining c.loop-line.source) (g.S.Source.remaining c.next_line.new.source) (g.K.Sink.contents c.args.sink.now) c.in_err-next_line.field-0.0 c.loop-line.invariant.stands takes)

pub loop-line-preserved : goal.loop-line-preserved
loop-line-preserved g c =
    let takes = rw (c.in-Line.is, c.lines.ensures) at c.in_ok-next_line.ensures.takes in
    let reads : ReadsLine (g.S.Source.remaining c.loop-line.source) (g.S.Source.remaining c.next_line.new.source) c.deref.result.now (Ok line_ends.LineFeed) =
    subst (λ (l : List ℕ). ReadsLine (g.S.Source.remaining c.loop-line.source) (g.S.Source.remaining c.next_line.new.source) l (Ok line_ends.LineFeed)) (sym c.deref.ensures.value) takes.1 in
    let here = c.loop-line.invariant.stands in
    let some = takes.0 in
    let more = c.in_ok-play_line-in-Line.ensures.lines in
    let events = c.in_ok-play_line-in-Line.ensures.events in
    let few = c.loop-line.invariant.events in
    record {
      reads = search rules;
      goes_on = c.in_ok-next_line.ensures.goes_on (ap Ok c.in-Line.is);
      writes = search rules;
      few = omega (arith, some, more);
      events = omega (arith, events, more, few);
      stands = loop_turn g.N.Network.conduct c.deref.result.now (at c.loop-line.script c.loop-line.network c.loop-line.events (g.K.Sink.contents c.loop-line.sink)) (at c.play_line.new.script c.play_line.new.network c.play_line.new.events (g.K.Sink.contents c.play_line.new.sink)) (g.S.Source.remaining c.args.source.now) (g.S.Source.remaining c.loop-line.source) (g.S.Source.remaining c.next_line.new.source) (g.K.Sink.contents c.args.sink.now) here reads
          (c.in_ok-play_line-in-Line.ensures.advances (lines here.0) (g.K.Sink.contents c.args.sink.now));
    }

pub returns-in_err-play_line-in-Line-clause-plays : goal.returns-in_err-play_line-in-Line-clause-plays
returns-in_err-play_line-in-Line-clause-plays g c =
    let p = err_from_is_err_and c.from_residual-in_err-play_line-in-Line.result c.from_residual-in_err-play_line-in-Line.ensures.1 in
    let takes = rw (c.in-Line.is, c.lines.ensures) at c.in_ok-next_line.ensures.takes in
    let reads : ReadsLine (g.S.Source.remaining c.loop-line.source) (g.S.Source.remaining c.next_line.new.source) c.deref.result.now (Ok line_ends.LineFeed) =
    subst (λ (l : List ℕ). ReadsLine (g.S.Source.remaining c.loop-line.source) (g.S.Source.remaining c.next_line.new.source) l (Ok line_ends.LineFeed)) (sym c.deref.ensures.value) takes.1 in
    let here = c.loop-line.invariant.stands in
    subst (λ (r : Result (Unit {0}) PlayFault). PlaysLines g.N.Network.conduct (g.S.Source.remaining c.args.source.now) (g.S.Source.remaining c.next_line.new.source) c.play_line.new.script c.play_line.new.network (g.K.Sink.contents c.args.sink.now) (g.K.Sink.contents c.play_line.new.sink) r)
    (sym (p.1 ∙ ap Err p.2))
    (loop_fails g.N.Network.conduct c.deref.result.now (at c.loop-line.script c.loop-line.network c.loop-line.events (g.K.Sink.contents c.loop-line.sink)) (at c.play_line.new.script c.play_line.new.network c.play_line.new.events (g.K.Sink.contents c.play_line.new.sink)) (g.S.Source.remaining c.args.source.now) (g.S.Source.remaining c.loop-line.source) (g.S.Source.remaining c.next_line.new.source) (g.K.Sink.contents c.args.sink.now) c.in_err-play_line-in-Line.field-0.0 takes.0 here reads
    (c.in_err-play_line-in-Line.ensures.advances (lines here.0) (g.K.Sink.contents c.args.sink.now)))

pub returns-in_err-play_line-in-Line-clause-read_fails : goal.returns-in_err-play_line-in-Line-clause-read_fails
returns-in_err-play_line-in-Line-clause-read_fails g c e =
    let p = err_from_is_err_and c.from_residual-in_err-play_line-in-Line.result c.from_residual-in_err-play_line-in-Line.ensures.1 in
    let here = c.loop-line.invariant.stands in
    absurd (not_read g.N.Network.conduct (lines here.0) c.deref.result.now (at c.loop-line.script c.loop-line.network c.loop-line.events (g.K.Sink.contents c.loop-line.sink)) (at c.play_line.new.script c.play_line.new.network c.play_line.new.events (g.K.Sink.contents c.play_line.new.sink)) (g.K.Sink.contents c.args.sink.now) (Err c.in_err-play_line-in-Line.field-0.0)
    (c.in_err-play_line-in-Line.ensures.advances (lines here.0) (g.K.Sink.contents c.args.sink.now) here.3) (sym (p.1 ∙ ap Err p.2) ∙ e))

pub returns-in-Last-clause-plays : goal.returns-in-Last-clause-plays
returns-in-Last-clause-plays g c =
    let takes = rw (c.in-Last.is, c.lines.ensures) at c.in_ok-next_line.ensures.takes in
    let here = c.loop-line.invariant.stands in
    let is = c.deref-in-Last.ensures.value in
    let reads : ReadsLine (g.S.Source.remaining c.loop-line.source) (g.S.Source.remaining c.next_line.new.source) c.deref-in-Last.result.now (Ok line_ends.EndOfSource) =
    subst (λ (l : List ℕ). ReadsLine (g.S.Source.remaining c.loop-line.source) (g.S.Source.remaining c.next_line.new.source) l (Ok line_ends.EndOfSource)) (sym is) takes.2 in
    loop_lasts g.N.Network.conduct c.deref-in-Last.result.now (at c.loop-line.script c.loop-line.network c.loop-line.events (g.K.Sink.contents c.loop-line.sink)) (at c.play_line-in-Last.new.script c.play_line-in-Last.new.network c.play_line-in-Last.new.events (g.K.Sink.contents c.play_line-in-Last.new.sink)) (g.S.Source.remaining c.args.source.now) (g.S.Source.remaining c.loop-line.source) (g.S.Source.remaining c.next_line.new.source) (g.K.Sink.contents c.args.sink.now) c.play_line-in-Last.result takes.0 here (λ none. takes.1 (sym is ∙ none)) reads
    (c.play_line-in-Last.ensures.advances (lines here.0) (g.K.Sink.contents c.args.sink.now))

pub returns-in-Last-clause-read_fails : goal.returns-in-Last-clause-read_fails
returns-in-Last-clause-read_fails g c e =
    let here = c.loop-line.invariant.stands in
    absurd (not_read g.N.Network.conduct (lines here.0) c.deref-in-Last.result.now (at c.loop-line.script c.loop-line.network c.loop-line.events (g.K.Sink.contents c.loop-line.sink)) (at c.play_line-in-Last.new.script c.play_line-in-Last.new.network c.play_line-in-Last.new.events (g.K.Sink.contents c.play_line-in-Last.new.sink)) (g.K.Sink.contents c.args.sink.now) c.play_line-in-Last.result
    (c.play_line-in-Last.ensures.advances (lines here.0) (g.K.Sink.contents c.args.sink.now) here.3) e)

pub returns-in-End-clause-plays : goal.returns-in-End-clause-plays
returns-in-End-clause-plays g c =
    let takes = rw c.in-End.is at c.in_ok-next_line.ensures.takes in
    loop_ends g.N.Network.conduct (at c.loop-line.script c.loop-line.network c.loop-line.events (g.K.Sink.contents c.loop-line.sink)) (g.S.Source.remaining c.args.source.now) (g.S.Source.remaining c.loop-line.source) (g.S.Source.remaining c.next_line.new.source) (g.K.Sink.contents c.args.sink.now) c.loop-line.invariant.stands takes.0 takes.1
