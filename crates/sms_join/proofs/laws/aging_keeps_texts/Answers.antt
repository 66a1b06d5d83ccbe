use Rattle.sms_join.proofs.Aging.{ages_one}
use Rattle.sms_join.proofs.laws.aging_keeps_texts.Goals as goal

pub returns : goal.returns
returns c = ages_one
