use Rattle.sms_script.proofs.PacketLemmas.{packet_line-is}
use Rattle.sms_script.specs.Transcript.Shown.{shown}
use Rattle.sms_script.proofs.transcript.push_packet_line.Goals as goal

pub returns : goal.returns
returns c =
    rw (c.in_ok-push-4.ensures.items, c.in_ok-push_octets.ensures, c.in_ok-push-3.ensures.items, c.in_ok-push_way.ensures, c.in_ok-push-2.ensures.items, c.in_ok-push_decimal.ensures, c.in_ok-push.ensures.items)
    (packet_line-is c.args.brief c.args.number c.args.name.now (shown c.args.packet) c.args.out.now.items)
