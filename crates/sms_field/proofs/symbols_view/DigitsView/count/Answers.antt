use Rattle.std.proofs.Common.{length, sym, ap, ◌∙◌, arith}
use Rattle.sms_field.proofs.DigitsSeen.{length-digits_in}
use Rattle.sms_field.proofs.symbols_view.DigitsView.count.Goals as goal

pub returns-clause-is : goal.returns-clause-is
returns-clause-is c = sym (length-digits_in c.self.inside.count c.self.inside.octets.now) ∙ ap length c.self.view_is

pub returns-clause-few : goal.returns-clause-few
returns-clause-few c = omega (arith, c.self.invariant.digits.few, length-digits_in c.self.inside.count c.self.inside.octets.now)
