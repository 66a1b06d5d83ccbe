use Rattle.std.proofs.Common.{take}
use Rattle.sms_c.specs.Splitting.{AreUsers}
use Rattle.sms_c.proofs.splitting.users_of.Given as goal

abbrev pub invariant-loop-index : goal.invariant-loop-index
invariant-loop-index l = AreUsers l.width l.reference (take l.index l.segments) l.octets.items l.spans.items
