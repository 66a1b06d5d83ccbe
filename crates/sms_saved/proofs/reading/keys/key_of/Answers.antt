use Rattle.std.proofs.Common.{arith}
use Rattle.sms_saved.proofs.Keys.{key_octets}
use Rattle.sms_saved.proofs.reading.keys.key_of.Goals as goal

pub returns-clause-octets : goal.returns-clause-octets
returns-clause-octets c =
    key_octets c.args.bytes.now c.in_ok-view.rest.now c.to_key.result c.saturating_sub-count.result (λ i. omega (arith, c.type_inv.bytes i))
    (rw c.to_key.ensures c.in_ok-view.ensures.read) c.saturating_sub-count.ensures
