use Rattle.std.proofs.Common.{◌≡◌, ◌≤◌, ◌-◌, false}
use Rattle.sms_script.proofs.LoopTurns.{LoopAt}
use Rattle.sms_script.specs.Inside.Standing.{at}
use Rattle.sms_script.specs.Script.{lines_limit}
use Rattle.sms_script.proofs.playing.lines.play_lines.Given as goal

abbrev pub invariant-loop-line : goal.invariant-loop-line
invariant-loop-line g l = record {
  reads : g.S.Source.has_failed l.source ≡ false;
  goes_on : g.S.Source.has_ended l.source ≡ false;
  writes : g.K.Sink.has_failed l.sink ≡ false;
  few : l.script.lines ≤ lines_limit;
  events : l.events ≤ l.script.lines;
  stands : LoopAt g.N.Network.conduct (g.S.Source.remaining l.initial.source) (g.S.Source.remaining l.source) (at l.script l.network l.events (g.K.Sink.contents l.sink)) (g.K.Sink.contents l.initial.sink);
}

abbrev pub decreases-loop-line : goal.decreases-loop-line
decreases-loop-line g l = 100000 - l.script.lines
