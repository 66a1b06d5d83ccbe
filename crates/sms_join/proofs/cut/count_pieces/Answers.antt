use Rattle.std.proofs.Common.{arith}
use Rattle.sms_join.proofs.TextUnits.{cut_alone}
use Rattle.sms_join.proofs.cut.count_pieces.Goals as goal

pub returns-then-len-room_alone : goal.returns-then-len-room_alone
returns-then-len-room_alone c text is e =
    cut_alone c.args.width text c.args.units.now e (omega (arith, c.len.ensures, c.room_alone.ensures, c.if-len-room_alone.true))
