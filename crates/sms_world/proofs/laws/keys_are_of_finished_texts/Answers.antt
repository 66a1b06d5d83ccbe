use Rattle.sms_world.proofs.Headline.{keys_are_of_finished}
use Rattle.sms_world.proofs.laws.keys_are_of_finished_texts.Goals as goal

pub returns : goal.returns
returns c = keys_are_of_finished c.laws_below.ensures
