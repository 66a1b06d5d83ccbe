use Rattle.sms_text.proofs.FourUnits.{units_are}
use Rattle.sms_text.proofs.four_units.first_four.Goals as goal

pub returns : goal.returns
returns c = units_are c.args.octets.now c.type_inv.octets c.requires
