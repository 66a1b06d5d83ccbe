use Rattle.std.proofs.Common.{◌∙◌}
use Rattle.sms_field.proofs.relay_address.RpAddress.read.Goals as goal

pub returns-clause-exact : goal.returns-clause-exact
returns-clause-exact c v n r =
    let same = c.in_ok-view.ensures.exact v n r in
    (c.in_ok-some_to_value.ensures.value ∙ same.0, same.1)

pub returns-in_err-view-clause-exact : goal.returns-in_err-view-clause-exact
returns-in_err-view-clause-exact c = λ v n r. absurd (c.in_err-view.ensures.exact v n r)
