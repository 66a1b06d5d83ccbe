use Rattle.std.proofs.Common.{◌∷◌, ◌++◌, refl, rules, append_assoc}
use Rattle.sms_field.specs.Address.{address_octets}
use Rattle.sms_tpdu.specs.Deliver.{flags_in}
use Rattle.sms_tpdu.specs.Deliver.Flags.{deliver_octet}
use Rattle.sms_tpdu.proofs.deliver.DeliverUnit.write_to.Goals as goal

pub returns : goal.returns
returns c =
    let user = c.in_ok-put_user_data.ensures in (
      deliver_octet (flags_in c.args.self.now) ∷ (address_octets c.args.self.now.origin ++ (c.args.self.now.pid ∷ c.args.self.now.dcs ∷ (c.args.self.now.stamp ++ user.0))),
      record {
        deliverable = search rules;
        written = user.0;
        user = rw (← c.self.view_is) user.1;
        parts = refl;
      },
      rw (user.2, c.in_ok-put_front.ensures) (simp append_assoc),
    )
