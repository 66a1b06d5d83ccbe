use Rattle.std.proofs.Common.{arith}
use Rattle.sms_page.proofs.HexReads.{read_whole}
use Rattle.sms_page.proofs.hexadecimal.put_octets.Goals as goal

pub returns-then-put_all : goal.returns-then-put_all
returns-then-put_all c =
    read_whole c.args.has_blanks c.args.digits.now c.put_all.new.octets (omega arith) (omega arith) c.if-put_all.ensures
