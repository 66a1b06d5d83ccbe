use Rattle.sms_script.proofs.PacketLemmas.{sent_line-is}
use Rattle.sms_script.proofs.transcript.push_sent_line.Goals as goal

pub returns : goal.returns
returns c =
    rw (c.in_ok-push-3.ensures.items, c.in_ok-extend_from_slice-3.ensures.items, c.as_bytes-2.ensures.value, c.in_ok-push-2.ensures.items, c.in_ok-push_decimal.ensures, c.in_ok-push.ensures.items, c.in_ok-extend_from_slice-2.ensures.items, c.as_bytes.ensures.value, c.in_ok-extend_from_slice.ensures.items)
    (sent_line-is c.args.name.now c.args.number c.args.word.now c.args.out.now.items)
