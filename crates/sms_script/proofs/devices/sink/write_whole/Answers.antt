use Rattle.std.proofs.Common.{rules, arith, ℕ, length-drop}
use Rattle.sms_script.proofs.SinkLemmas.{Appends-add, rest_of}
use Rattle.sms_script.proofs.devices.sink.write_whole.Goals as goal

pub loop-done-preserved : goal.loop-done-preserved
loop-done-preserved g c = (
  omega (arith, length-drop {A = ℕ}, c.in_ok-done.ensures.bound, c.loop-done.invariant.0),
  search rules,
  Appends-add _ _ _ _ _ _ c.loop-done.invariant.2 (rw (rest_of c.loop-done.done c.args.octets.now) at c.in_ok-done.ensures.octets),
)
