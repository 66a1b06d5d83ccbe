use Rattle.std.proofs.Common.{◌∙◌, refl, arith}
use Rattle.sms_field.specs.Inside.OctetLists.{octets_are}
use Rattle.sms_tpdu.proofs.BodyFits.{septets_fit, octets_fit}
use Rattle.sms_tpdu.proofs.user_data.view.body.body_from.Goals as goal

pub returns-in-Some-clause-fits : goal.returns-in-Some-clause-fits
returns-in-Some-clause-fits c =
    let h = rw c.in-Some.is at c.in_ok-septets-in-Gsm7.ensures.exact in
    let few = rw c.in-Gsm7.is at c.requires.few in
    let room = rw c.in-Gsm7.is at c.requires.room in
    rw c.in-Gsm7.is (septets_fit c.args.taken c.fill_bits.result c.args.count _ c.args.octets.now c.new.result room few (rw c.length_of_header.ensures refl) (c.new.ensures ∙ h.0))

pub returns-in_ok-from_slice-in_default : goal.returns-in_ok-from_slice-in_default
returns-in_ok-from_slice-in_default c =
    let h = octets_fit c.args.alphabet c.args.taken c.args.count c.args.octets.now _ c.in_default.not-Gsm7 c.requires.few c.requires.room c.requires.octets (octets_are c.args.octets.now (λ i. omega (arith, c.type_inv.octets i))) c.in_ok-from_slice-in_default.ensures.same in
    record { is = h.0; fits = h.1 }
