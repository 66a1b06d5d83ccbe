use Rattle.std.proofs.Common.{arith, subst}
use Rattle.sms_field.specs.declared.coding.Alphabet.{Alphabet}
use Rattle.sms_tpdu.specs.UserData.{FitsAlphabet}
use Rattle.sms_tpdu.proofs.submit.view.SubmitViewView.read_at.Goals as goal

pub invariant_of-result : goal.invariant_of-result
invariant_of-result c = record {
  validity = c.in_ok-validity.ensures.in_range;
  reference = omega arith;
  target = c.in_ok-target.ensures.fits;
  pid = omega arith;
  dcs = omega arith;
  user = subst (λ (a : Alphabet). FitsAlphabet a c.in_ok-user.user) c.alphabet_of.ensures c.in_ok-user.ensures.fits;
}
