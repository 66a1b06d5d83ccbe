use Rattle.std.proofs.Common.{◌≡◌, ◌<◌, ℕ, List, length, get_or, sym, ap, ◌∙◌, arith}
use Rattle.sms_field.specs.Inside.AddressSeen.{digits_in, digit_in}
use Rattle.sms_field.proofs.DigitsSeen.{length-digits_in, digits_in_at, low_at, high_at, digit_below}
use Rattle.sms_field.proofs.symbols_view.DigitsView.digit.Goals as goal

at : (count i digit : ℕ) (octets digits : List ℕ) → digits_in count octets ≡ digits → i < count → digit ≡ digit_in octets i → (i < length digits) × (digit ≡ get_or digits i 0)
at count i digit octets digits are lt is = (
  omega (arith, lt, length-digits_in count octets, ap length are),
  is ∙ sym (digits_in_at count i octets lt) ∙ ap (λ (l : List ℕ). get_or l i 0) are,
)

pub returns-then-index-self-clause-value : goal.returns-then-index-self-clause-value
returns-then-index-self-clause-value c = omega (arith, c.if-index-self.true, length-digits_in c.self.inside.count c.self.inside.octets.now, ap length c.self.view_is)

pub returns-then-index-eq0-clause-value : goal.returns-then-index-eq0-clause-value
returns-then-index-eq0-clause-value c = at c.self.inside.count c.args.index _ c.self.inside.octets.now c.args.self.now c.self.view_is (omega (arith, c.if-index-self.false)) (low_at c.args.index c.from.result c.self.inside.octets.now c.if-index-eq0.true c.from.ensures)

pub returns-then-index-eq0-clause-few : goal.returns-then-index-eq0-clause-few
returns-then-index-eq0-clause-few c = digit_below c.self.inside.count c.args.index _ c.self.inside.octets.now c.self.invariant.digits (omega (arith, c.if-index-self.false)) (low_at c.args.index c.from.result c.self.inside.octets.now c.if-index-eq0.true c.from.ensures)

pub returns-else-index-eq0-clause-value : goal.returns-else-index-eq0-clause-value
returns-else-index-eq0-clause-value c = at c.self.inside.count c.args.index _ c.self.inside.octets.now c.args.self.now c.self.view_is (omega (arith, c.if-index-self.false)) (high_at c.args.index c.from.result c.self.inside.octets.now c.if-index-eq0.false c.from.ensures)

pub returns-else-index-eq0-clause-few : goal.returns-else-index-eq0-clause-few
returns-else-index-eq0-clause-few c = digit_below c.self.inside.count c.args.index _ c.self.inside.octets.now c.self.invariant.digits (omega (arith, c.if-index-self.false)) (high_at c.args.index c.from.result c.self.inside.octets.now c.if-index-eq0.false c.from.ensures)
