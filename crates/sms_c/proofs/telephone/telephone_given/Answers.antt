use Rattle.std.proofs.Common.{refl}
use Rattle.sms_c.proofs.TelephonesSaid.{given_alone, given_after_plus}
use Rattle.sms_c.proofs.telephone.telephone_given.Goals as goal

pub returns-in_default : goal.returns-in_default
returns-in_default c = given_alone c.args.text.now c.telephone_with.result c.telephone_with.ensures

pub returns-then-first-eq43 : goal.returns-then-first-eq43
returns-then-first-eq43 c = given_after_plus c.args.text.now _ c.telephone_with-then-first-eq43.result c.in-len1-up.len_at_least c.if-first-eq43.true refl c.telephone_with-then-first-eq43.ensures

pub returns-else-first-eq43 : goal.returns-else-first-eq43
returns-else-first-eq43 c = given_alone c.args.text.now c.telephone_with-else-first-eq43.result c.telephone_with-else-first-eq43.ensures
