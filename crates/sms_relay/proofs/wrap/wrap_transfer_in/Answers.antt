use Rattle.std.proofs.Common.{arith}
use Rattle.sms_relay.proofs.Framed.{over_ok, transfer_carried}
use Rattle.sms_relay.proofs.wrap.wrap_transfer_in.Goals as goal

pub returns-clause-carried : goal.returns-clause-carried
returns-clause-carried g c =
    let front = c.in_ok-packet-2.ensures in
    over_ok _ _
    (λ packet added.
    (added.0, added.1, transfer_carried c.args.flag c.args.value c.args.side c.args.reference _ added.0 c.in_ok-packet-2.packet.items packet.items c.requires (omega arith) front.fits added.2 front.begun added.3))
    c.with_unit.result c.with_unit.ensures.added
