use Rattle.std.proofs.Common.{◌≡◌, ◌++◌, ◌∷◌, ◌+◌, ◌*◌, [], ℕ, List, get_or, arith}
use Rattle.sms_text.proofs.UnitOctets.{one_more_pair, no_pair_left}
use Rattle.sms_text.proofs.ucs2.push_pairs.Goals as goal

pub loop-rest-preserved : goal.loop-rest-preserved
loop-rest-preserved c =
    let octets : List ℕ = c.loop-rest.rest.now in
    let pushed : c.push.new.self.items ≡ c.loop-rest.units.items ++ (256 * get_or octets 0 0 + get_or octets 1 0) ∷ [] = cc (c.in_ok-push.ensures.items) in
    one_more_pair octets c.loop-rest.units.items c.push.new.self.items _ c.in-len2-up.len_at_least pushed c.loop-rest.invariant

pub returns : goal.returns
returns c = no_pair_left c.loop-rest.rest.now c.loop-rest.units.items _ (omega arith) c.loop-rest.invariant
