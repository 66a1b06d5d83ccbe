use Rattle.sms_text.proofs.FourUnits.{four_of}
use Rattle.sms_text.proofs.four_units.four_spelled.Goals as goal

pub returns-clause-spelled : goal.returns-clause-spelled
returns-clause-spelled c = four_of c.args.units _ _ _ _ c.requires.four c.requires.low.0 c.requires.low.1 c.requires.low.2 c.requires.low.3
