use Rattle.sms_world.proofs.Transcribing.{told_stores}
use Rattle.sms_world.proofs.playing.told_stores_stand.Goals as goal

pub returns : goal.returns
returns c = told_stores c.stores_stand.ensures
