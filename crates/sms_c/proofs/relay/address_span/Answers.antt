use Rattle.std.proofs.Common.{ℕ, drop, subst}
use Rattle.sms_field.specs.Reading.Lies.{TakesOctets}
use Rattle.sms_field.specs.RelayAddress.{relay_address}
use Rattle.sms_c.proofs.relay.address_span.Goals as goal

pub returns-clause-takes : goal.returns-clause-takes
returns-clause-takes c =
    λ _. subst (λ (n : ℕ). TakesOctets relay_address (drop n c.args.octets.now) c.address_after.result.length) c.before_address.ensures c.address_after.ensures.takes
