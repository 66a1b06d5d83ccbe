use Rattle.std.proofs.Common.{◌∷◌, ◌++◌, refl, rules, append_assoc}
use Rattle.sms_field.specs.Address.{address_octets}
use Rattle.sms_tpdu.specs.Submit.{flags_in}
use Rattle.sms_tpdu.specs.Submit.Flags.{submit_octet}
use Rattle.sms_tpdu.specs.Submit.ValidityPeriod.{validity_octets}
use Rattle.sms_tpdu.proofs.submit.SubmitUnit.write_to.Goals as goal

pub returns : goal.returns
returns c =
    let user = c.in_ok-put_user_data.ensures in (
      submit_octet (flags_in c.args.self.now) ∷ c.args.self.now.reference ∷ (address_octets c.args.self.now.target ++ (c.args.self.now.pid ∷ c.args.self.now.dcs ∷ (validity_octets c.args.self.now.validity ++ user.0))),
      record {
        submittable = search rules;
        written = user.0;
        user = rw (← c.self.view_is) user.1;
        parts = refl;
      },
      rw (user.2, c.in_ok-put_front.ensures) (simp append_assoc),
    )
