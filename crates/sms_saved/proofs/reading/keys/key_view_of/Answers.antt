use Rattle.std.proofs.Common.{option_map, arith}
use Rattle.sms_saved.proofs.InParts.{key_fits_read}
use Rattle.sms_saved.proofs.reading.keys.key_view_of.Goals as goal

pub returns-clause-fits : goal.returns-clause-fits
returns-clause-fits c =
    key_fits_read c.args.bytes.now c.in_ok-origin.origin.now c.in_ok-origin.rest.now (option_map (λ octets. octets.now) c.in_ok-recipient.recipient) c.in_ok-recipient.rest.now c.in_ok-message.message c.in_ok-message.rest.now
    (λ i. omega (arith, c.type_inv.bytes i)) c.in_ok-origin.ensures.read c.in_ok-recipient.ensures.read c.in_ok-message.ensures.read
