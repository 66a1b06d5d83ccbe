use Rattle.sms_join.proofs.History.{offers_tell_answers}
use Rattle.sms_join.proofs.laws.offers_tell_answers.Goals as goal

pub returns : goal.returns
returns c = offers_tell_answers
