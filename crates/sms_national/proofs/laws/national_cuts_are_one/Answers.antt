use Rattle.sms_national.proofs.OneCut.{has_one_cut}
use Rattle.sms_national.proofs.laws.national_cuts_are_one.Goals as goal

pub returns : goal.returns
returns c = has_one_cut
