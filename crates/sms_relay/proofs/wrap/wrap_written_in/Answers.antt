use Rattle.std.proofs.Common.{arith}
use Rattle.sms_relay.proofs.Framed.{transfer_carried}
use Rattle.sms_relay.proofs.wrap.wrap_written_in.Goals as goal

pub returns-clause-carried : goal.returns-clause-carried
returns-clause-carried c =
    let front = c.in_ok-packet-2.ensures in
    let whole = c.in_ok-with_octets.ensures in
    transfer_carried c.args.flag c.args.value c.args.side c.args.reference _ c.args.octets.now c.in_ok-packet-2.packet.items c.in_ok-with_octets.field-0.items c.requires (omega arith) front.fits whole.octets front.begun whole.added
