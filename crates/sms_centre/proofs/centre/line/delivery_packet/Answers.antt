use Rattle.std.proofs.Common.{◌≡◌, length, ap, arith, rules}
use Rattle.sms_centre.proofs.centre.line.delivery_packet.Goals as goal

pub wrapped-requires : goal.wrapped-requires
wrapped-requires c = λ e.
    let long = c.wrap_written_in-packet.ensures.too_long.0 e in
    let same : length c.as_slice.result.now ≡ length c.in_ok-octets.octets.items = ap length c.as_slice.ensures.value in
    absurd (omega (arith, long, same, c.in_ok-octets.ensures.few))
