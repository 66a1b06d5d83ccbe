use Rattle.std.proofs.Common.{arith}
use Rattle.sms_field.specs.Inside.OctetLists.{octets_are}
use Rattle.sms_tpdu.proofs.BodyFits.{body_fits, no_room}
use Rattle.sms_tpdu.proofs.user_data.view.body_seen.Goals as goal

pub returns-clause-fits : goal.returns-clause-fits
returns-clause-fits c = (tt, body_fits c.args.alphabet 0 c.args.count c.args.octets.now c.requires.few (no_room c.args.alphabet c.args.count) (omega (arith, c.requires.whole)) (octets_are c.args.octets.now (λ i. omega (arith, c.type_inv.octets i))))
