use Rattle.sms_join.proofs.WithoutRecipients.{answers_alone}
use Rattle.sms_join.proofs.recipients.answers_without_recipient.Goals as goal

pub returns : goal.returns
returns c = answers_alone
