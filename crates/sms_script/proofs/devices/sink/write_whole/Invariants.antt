use Rattle.std.proofs.Common.{length, ◌-◌, ◌≡◌, ◌≤◌, false, take}
use Rattle.std.specs.Io.KnownBytes.{Appends}
use Rattle.sms_script.proofs.devices.sink.write_whole.Given as goal

abbrev pub invariant-loop-done : goal.invariant-loop-done
invariant-loop-done g l =
    (l.done ≤ length l.octets) × (g.K.Sink.has_failed l.sink ≡ false)
    × Appends (g.K.Sink.contents l.initial.sink) (g.K.Sink.contents l.sink) (take l.done l.octets)

abbrev pub decreases-loop-done : goal.decreases-loop-done
decreases-loop-done g l = length l.octets - l.done
