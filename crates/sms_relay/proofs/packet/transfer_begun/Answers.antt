use Rattle.sms_relay.proofs.Framed.{begun_few}
use Rattle.sms_relay.proofs.packet.transfer_begun.Goals as goal

pub returns-clause-few : goal.returns-clause-few
returns-clause-few c =
    let added = c.in_ok-put_addresses.ensures in
    begun_few c.args.flag c.args.value _ c.args.reference c.args.side _ c.in_ok-packet.packet.items c.put_addresses.new.out.items added.0 c.in_ok-packet.ensures added.1
