use Rattle.sms_join.proofs.WithoutRecipients.{remembers_as_joiner}
use Rattle.sms_join.proofs.recipients.remembers_as_joiner.Goals as goal

pub returns : goal.returns
returns c = remembers_as_joiner
