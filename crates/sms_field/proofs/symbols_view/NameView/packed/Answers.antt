use Rattle.std.proofs.Common.{◌≡◌, ◌∙◌, ℕ, length, ap, sym, subst, arith}
use Rattle.sms_text.specs.Bits.{unpacked}
use Rattle.sms_text.specs.Inside.PackingLaws.{unpacked_septets}
use Rattle.sms_field.proofs.symbols_view.NameView.packed.Goals as goal

pub returns-clause-enough : goal.returns-clause-enough
returns-clause-enough c = omega (arith, (unpacked_septets 0 c.self.inside.count c.self.inside.octets.now).1, ap length c.self.view_is, c.self.invariant.enough)

pub returns-clause-are : goal.returns-clause-are
returns-clause-are c =
    let count : length c.args.self.now ≡ c.self.inside.count = sym (ap length c.self.view_is) ∙ (unpacked_septets 0 c.self.inside.count c.self.inside.octets.now).1 in
    subst (λ (n : ℕ). unpacked 0 n c.self.inside.octets.now ≡ c.args.self.now) (sym count) c.self.view_is
