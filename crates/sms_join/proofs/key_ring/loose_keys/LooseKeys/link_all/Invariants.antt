use Rattle.sms_join.proofs.LooseSearch.{Linking}
use Rattle.sms_join.proofs.key_ring.loose_keys.LooseKeys.link_all.Given as goal

abbrev pub invariant-loop : goal.invariant-loop
invariant-loop l = Linking l.fn.self l.self l.counter l.end
