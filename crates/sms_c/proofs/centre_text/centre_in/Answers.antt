use Rattle.std.proofs.Common.{ℕ, List, sym, subst}
use Rattle.sms_field.specs.Reading.{Reads}
use Rattle.sms_field.specs.RelayAddress.{relay_address}
use Rattle.sms_c.proofs.centre_text.centre_in.Goals as goal

pub returns-in-Ok-clause-exact : goal.returns-in-Ok-clause-exact
returns-in-Ok-clause-exact c = λ address used at. (c.in-Ok.ensures.exact address used (subst (λ (l : List ℕ). Reads relay_address address l used) (sym c.in-Some.ensures.part) at.1)).0

pub returns-in-Err-clause-exact : goal.returns-in-Err-clause-exact
returns-in-Err-clause-exact c = λ address used at. c.in-Err.ensures.exact address used (subst (λ (l : List ℕ). Reads relay_address address l used) (sym c.in-Some.ensures.part) at.1)
