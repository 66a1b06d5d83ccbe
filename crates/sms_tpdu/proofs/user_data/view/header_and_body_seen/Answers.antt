use Rattle.std.proofs.Common.{arith, length, suc, ◌≡◌, ◌+◌}
use Rattle.sms_field.specs.Inside.OctetLists.{octets_are}
use Rattle.sms_tpdu.proofs.BodyFits.{body_fits, header_small}
use Rattle.sms_tpdu.proofs.user_data.view.header_and_body_seen.Goals as goal

pub returns-clause-fits : goal.returns-clause-fits
returns-clause-fits c =
    let size : suc (length c.args.header.now) ≡ length c.args.header.now + 1 = omega arith in
    rw c.new.ensures (
      (header_small c.args.alphabet (length c.args.header.now) c.args.count c.requires.few c.requires.room, octets_are c.args.header.now (λ i. omega (arith, c.type_inv.header i))),
      rw size (body_fits c.args.alphabet (length c.args.header.now + 1) c.args.count c.args.octets.now c.requires.few c.requires.room c.requires.whole (octets_are c.args.octets.now (λ i. omega (arith, c.type_inv.octets i)))),
    )
