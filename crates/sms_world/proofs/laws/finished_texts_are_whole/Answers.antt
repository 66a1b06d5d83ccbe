use Rattle.sms_world.proofs.Finished.{finished_texts}
use Rattle.sms_world.proofs.laws.finished_texts_are_whole.Goals as goal

pub returns : goal.returns
returns c = finished_texts c.laws_below.ensures
