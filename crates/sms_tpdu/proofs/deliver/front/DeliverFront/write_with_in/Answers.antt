use Rattle.std.proofs.Common.{◌≡◌, ◌∷◌, ◌++◌, [], Bool, List, ℕ, ◌∙◌, append_assoc}
use Rattle.sms_tpdu.specs.Deliver.Flags.{deliver_octet}
use Rattle.sms_tpdu.specs.Deliver.Front.{front_flags}
use Rattle.sms_tpdu.proofs.deliver.front.DeliverFront.write_with_in.Goals as goal

joined : (octet : Bool → ℕ) (there wanted : Bool) (pid dcs : ℕ) (origin stamp written begun front out : List ℕ) → there ≡ wanted → begun ≡ [] → front ≡ begun ++ (octet there ∷ (origin ++ (pid ∷ dcs ∷ stamp))) → out ≡ front ++ written
    → out ≡ octet wanted ∷ (origin ++ (pid ∷ dcs ∷ (stamp ++ written)))
joined octet there wanted pid dcs origin stamp written begun front out same none before all = rw (all, before, none, same) (simp append_assoc)

pub returns : goal.returns
returns c =
    let user = c.in_ok-put_user_data.ensures in
    let front = c.put.ensures.spelled in
    record {
      deliverable = record {
        origin = front.origin;
        pid = front.pid;
        dcs = front.dcs;
        stamp = front.stamp;
        user = c.requires;
      };
      written = user.0;
      user = user.1;
      parts = joined (λ (b : Bool). deliver_octet (front_flags c.args.self.now b)) _ _ _ _ _ _ _ _ _ _ c.is_some.ensures (c.reserve.ensures.items ∙ c.clear.ensures.items) c.in_ok-put.ensures.octets user.2;
    }
