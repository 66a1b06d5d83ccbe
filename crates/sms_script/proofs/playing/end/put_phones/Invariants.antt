use Rattle.std.proofs.Common.{◌≡◌, false, drop}
use Rattle.sms_script.proofs.PutLemmas.{Left}
use Rattle.sms_script.specs.Transcript.{final_lines}
use Rattle.sms_script.proofs.playing.end.put_phones.Given as goal

abbrev pub invariant-loop-phone : goal.invariant-loop-phone
invariant-loop-phone g l = record {
  works : g.K.Sink.has_failed l.sink ≡ false;
  left : Left (g.K.Sink.contents l.initial.sink) (g.K.Sink.contents l.sink)
      (final_lines l.script.known.names (g.N.Network.conduct.ends l.network))
      (final_lines (drop l.phone l.script.known.names) (drop l.phone (g.N.Network.conduct.ends l.network)));
}
