use Rattle.sms_join.proofs.Completion.{complete_in_order}
use Rattle.sms_join.proofs.laws.texts_complete_in_order.Goals as goal

pub returns : goal.returns
returns c = complete_in_order
