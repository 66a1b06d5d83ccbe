use Rattle.std.proofs.Common.{None, sym}
use Rattle.sms_c.proofs.OpenOnes.{first_is_open, first_is_for}
use Rattle.sms_c.proofs.joiner.telling.reached.Goals as goal

pub shown-requires-clause-is_open : goal.shown-requires-clause-is_open
shown-requires-clause-is_open c = first_is_open c.args.cursor.opening c.args.inside.now.joiner.told c.in-Some.set c.in-Some.ensures.open (sym c.in-Some.ensures.first)

pub shown-requires-clause-recipient : goal.shown-requires-clause-recipient
shown-requires-clause-recipient c = first_is_for None c.args.cursor.opening c.args.inside.now.joiner.told c.in-Some.set c.in-Some.ensures.recipients (sym c.in-Some.ensures.first)
