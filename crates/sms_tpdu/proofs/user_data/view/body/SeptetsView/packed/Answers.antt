use Rattle.std.proofs.Common.{◌≡◌, ◌∙◌, ℕ, length, ap, sym, subst, arith}
use Rattle.sms_text.specs.Bits.{unpacked}
use Rattle.sms_text.specs.Inside.PackingLaws.{unpacked_septets}
use Rattle.sms_tpdu.proofs.user_data.view.body.SeptetsView.packed.Goals as goal

pub returns-clause-enough : goal.returns-clause-enough
returns-clause-enough c =
    let h = unpacked_septets c.self.inside.fill c.self.inside.count c.self.inside.octets.now in
    omega (arith, h.1, ap length c.self.view_is, c.self.invariant.1)

pub returns-clause-are : goal.returns-clause-are
returns-clause-are c =
    let h = unpacked_septets c.self.inside.fill c.self.inside.count c.self.inside.octets.now in
    let count : length c.args.self.now ≡ c.self.inside.count = sym (ap length c.self.view_is) ∙ h.1 in
    subst (λ (n : ℕ). unpacked c.self.inside.fill n c.self.inside.octets.now ≡ c.args.self.now) (sym count) c.self.view_is
