use Rattle.std.proofs.Common.{◌≡◌, false, drop, flat_map}
use Rattle.sms_script.proofs.PutLemmas.{Left}
use Rattle.sms_script.specs.Play.Runs.{store_at}
use Rattle.sms_script.specs.Transcript.Lines.{entry_line}
use Rattle.sms_script.proofs.playing.end.put_entries.Given as goal

abbrev pub invariant-loop-place : goal.invariant-loop-place
invariant-loop-place g l = record {
  works : g.K.Sink.has_failed l.sink ≡ false;
  left : Left (g.K.Sink.contents l.initial.sink) (g.K.Sink.contents l.sink)
      (flat_map entry_line (store_at (g.N.Network.conduct.ends l.network) l.phone))
      (flat_map entry_line (drop l.place (store_at (g.N.Network.conduct.ends l.network) l.phone)));
}
