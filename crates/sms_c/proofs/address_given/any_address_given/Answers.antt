use Rattle.std.proofs.Common.{◌≡◌, Result, Ok, MatchResult, inl, refl, subst}
use Rattle.sms_field.specs.Address.Value.{AddressValue}
use Rattle.sms_c.specs.Answered.{Fails}
use Rattle.sms_c.specs.declared.status.Failure.{Failure}
use Rattle.sms_c.specs.declared.status.Failure.TheVariants.{NotUtf8}
use Rattle.sms_c.proofs.Said.{in_utf8, no_utf8}
use Rattle.sms_c.proofs.address_given.any_address_given.Goals as goal

pub returns-in-Ok-clause-given : goal.returns-in-Ok-clause-given
returns-in-Ok-clause-given c =
    subst (λ (k : Result AddressValue Failure). MatchResult c.address_said.result (λ address. k ≡ Ok address) (λ why. Fails k why))
    (in_utf8 c.args.text.now c.in-Ok.text.now c.in-Ok.ensures.cases.0 c.in-Ok.ensures.cases.1) c.address_said.ensures.said

pub returns-in-Err-clause-given : goal.returns-in-Err-clause-given
returns-in-Err-clause-given c = subst (λ (k : Result AddressValue Failure). Fails k NotUtf8) (no_utf8 c.args.text.now c.in-Err.ensures.cases.0) (inl refl)
