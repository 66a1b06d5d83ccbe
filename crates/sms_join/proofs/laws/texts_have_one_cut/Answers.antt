use Rattle.sms_join.proofs.OneCut.{cut_exists, same_cut}
use Rattle.sms_join.proofs.laws.texts_have_one_cut.Goals as goal

pub returns : goal.returns
returns c width text is = let cut = cut_exists width text is in (cut.0, cut.1, λ others other. same_cut width text cut.0 others is cut.1 other)
