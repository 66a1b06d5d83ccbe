use Rattle.sms_world.proofs.Beginning.{parties_begin}
use Rattle.sms_world.proofs.world.parties.Parties.new.Goals as goal

pub returns-clause-stand : goal.returns-clause-stand
returns-clause-stand c = parties_begin c.args.limits c.args.phones.now c.in_ok-new.field-0 c.in_ok-all.all.items c.in_ok-new.ensures.stands c.in_ok-all.ensures.count c.in_ok-all.ensures.new
