use Rattle.std.proofs.Common.{◌≡◌, length, ap, arith, rules}
use Rattle.std.proofs.lemmas.Result.{IfOk-weaker}
use Rattle.sms_party.proofs.sender.typed_text.submission_packet.Goals as goal

pub wrapped-requires : goal.wrapped-requires
wrapped-requires c = λ e.
    let long = c.wrap_written_in-packet.ensures.too_long.0 e in
    let same : length c.as_slice.result.now ≡ length c.args.octets.items = ap length c.as_slice.ensures.value in
    absurd (omega (arith, long, same, c.requires.few))

pub returns-clause-carries : goal.returns-clause-carries
returns-clause-carries c = λ s spelled. search rules
