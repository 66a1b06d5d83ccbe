use Rattle.std.proofs.Common.{sym, ap, ◌∙◌}
use Rattle.sms_tpdu.specs.UserData.ConcatenationFound.{concat_of_header}
use Rattle.sms_party.proofs.receiver.concat_of.Goals as goal

pub returns-in-Some-clause-is : goal.returns-in-Some-clause-is
returns-in-Some-clause-is c = c.concat.ensures.value ∙ ap concat_of_header (sym c.in-Some.is)
