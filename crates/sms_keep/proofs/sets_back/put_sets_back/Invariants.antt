use Rattle.std.specs.Vec.Iter.{into_iter_items}
use Rattle.sms_saved.specs.Value.{view_sets}
use Rattle.sms_keep.proofs.SetsBack.{Placed}
use Rattle.sms_keep.proofs.sets_back.put_sets_back.Given as goal

abbrev pub invariant-loop-own : goal.invariant-loop-own
invariant-loop-own l = Placed l.fn.gateway l.gateway (view_sets l.fn.sets.items) (view_sets (into_iter_items l.own-iterator))
