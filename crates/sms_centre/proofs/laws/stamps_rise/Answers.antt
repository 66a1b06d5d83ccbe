use Rattle.sms_centre.proofs.Stamps.{stamps_rise}
use Rattle.sms_centre.proofs.laws.stamps_rise.Goals as goal

pub returns : goal.returns
returns c = stamps_rise
