use Rattle.sms_relay.specs.Carried.InnerSeen.{seen_inner}
use Rattle.sms_message.proofs.Looks.{found_read}
use Rattle.sms_message.proofs.look.Look.message.Goals as goal

pub returns-in_ok-relay-in-Data-clause-read : goal.returns-in_ok-relay-in-Data-clause-read
returns-in_ok-relay-in-Data-clause-read c =
    found_read c.self.inside.octets.now c.args.self.now c.self.inside.glance c.in-Data.flag c.in-Data.tag c.in-Data.relay (seen_inner c.self.inside.inner) c.in_ok-relay-in-Data.relay
    c.self.view_is c.in-Data.is c.self.invariant.found c.in_ok-relay-in-Data.ensures.read
