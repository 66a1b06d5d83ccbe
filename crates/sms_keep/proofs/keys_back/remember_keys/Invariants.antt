use Rattle.sms_keep.proofs.KeysBack.{Walked}
use Rattle.sms_keep.proofs.keys_back.remember_keys.Given as goal

abbrev pub invariant-loop-before : goal.invariant-loop-before
invariant-loop-before l = Walked l.fn.gateway l.gateway l.state.keys.items l.before l.last
