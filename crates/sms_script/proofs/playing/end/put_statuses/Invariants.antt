use Rattle.std.proofs.Common.{◌≡◌, ◌+◌, false, drop}
use Rattle.sms_script.proofs.PutLemmas.{Left}
use Rattle.sms_script.specs.Play.Runs.{statuses_at}
use Rattle.sms_script.specs.Transcript.{sent_lines}
use Rattle.sms_script.proofs.playing.end.put_statuses.Given as goal

abbrev pub invariant-loop-place : goal.invariant-loop-place
invariant-loop-place g l = record {
  works : g.K.Sink.has_failed l.sink ≡ false;
  left : Left (g.K.Sink.contents l.initial.sink) (g.K.Sink.contents l.sink)
      (sent_lines l.name 1 (statuses_at (g.N.Network.conduct.ends l.network) l.phone))
      (sent_lines l.name (l.place + 1) (drop l.place (statuses_at (g.N.Network.conduct.ends l.network) l.phone)));
}
