use Rattle.sms_world.proofs.Headline.{open_sets_are_open_texts}
use Rattle.sms_world.proofs.laws.open_sets_are_open_texts.Goals as goal

pub returns : goal.returns
returns c = open_sets_are_open_texts c.laws_below.ensures
