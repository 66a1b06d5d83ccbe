use Rattle.sms_keep.proofs.AtOnce.{Going}
use Rattle.sms_keep.proofs.at_once.take_keys.Given as goal

abbrev pub invariant-loop : goal.invariant-loop
invariant-loop l = Going l.fn.recalling l.recalling l.octets l.counter l.rest l.last
