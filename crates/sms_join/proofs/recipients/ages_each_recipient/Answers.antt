use Rattle.sms_join.proofs.OwnParts.{ages_each}
use Rattle.sms_join.proofs.recipients.ages_each_recipient.Goals as goal

pub returns : goal.returns
returns c = ages_each
