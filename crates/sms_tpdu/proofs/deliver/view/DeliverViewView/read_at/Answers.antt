use Rattle.std.proofs.Common.{arith, subst}
use Rattle.sms_field.specs.declared.coding.Alphabet.{Alphabet}
use Rattle.sms_tpdu.specs.UserData.{FitsAlphabet}
use Rattle.sms_tpdu.proofs.deliver.view.DeliverViewView.read_at.Goals as goal

pub invariant_of-result : goal.invariant_of-result
invariant_of-result c = record {
  origin = c.in_ok-origin.ensures.fits;
  pid = omega arith;
  dcs = omega arith;
  stamp = c.in_ok-stamp.ensures.in_range;
  user = subst (λ (a : Alphabet). FitsAlphabet a c.in_ok-user.user) c.alphabet_of.ensures c.in_ok-user.ensures.fits;
}
