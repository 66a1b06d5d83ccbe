use Rattle.sms_once.proofs.Sound.{runs_stay_sound}
use Rattle.sms_once.proofs.laws.runs_stay_sound.Goals as goal

pub returns : goal.returns
returns c = runs_stay_sound
