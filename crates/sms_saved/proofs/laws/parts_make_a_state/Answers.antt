use Rattle.sms_saved.proofs.InParts.{parts_made}
use Rattle.sms_saved.proofs.laws.parts_make_a_state.Goals as goal

pub returns : goal.returns
returns c = parts_made
