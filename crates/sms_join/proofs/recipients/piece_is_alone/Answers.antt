use Rattle.sms_join.proofs.WithoutRecipients.{piece_is_alone}
use Rattle.sms_join.proofs.recipients.piece_is_alone.Goals as goal

pub returns : goal.returns
returns c = piece_is_alone
