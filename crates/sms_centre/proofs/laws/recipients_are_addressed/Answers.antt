use Rattle.sms_centre.proofs.Recipients.{recipients_are_addressed}
use Rattle.sms_centre.proofs.laws.recipients_are_addressed.Goals as goal

pub returns : goal.returns
returns c = recipients_are_addressed
