use Rattle.std.proofs.Common.{sym}
use Rattle.sms_c.proofs.OpenOnes.{first_is_open}
use Rattle.sms_c.proofs.gateway.telling.reached.Goals as goal

pub shown-requires : goal.shown-requires
shown-requires c = first_is_open c.args.cursor.opening c.args.inside.now.gateway.told c.in-Some.set c.in-Some.ensures.open (sym c.in-Some.ensures.first)
