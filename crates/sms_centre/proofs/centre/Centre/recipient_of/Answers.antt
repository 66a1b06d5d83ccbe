use Rattle.std.proofs.Common.{ap, ◌∙◌}
use Rattle.sms_message.specs.Address.{phone_at}
use Rattle.sms_centre.specs.Centre.Value.{CentreValue, addresses}
use Rattle.sms_centre.proofs.centre.Centre.recipient_of.Goals as goal

pub returns-clause-is : goal.returns-clause-is
returns-clause-is c = c.find.ensures ∙ ap (λ (v : CentreValue). phone_at (addresses v.lines) c.args.target.now) c.self.view_is
