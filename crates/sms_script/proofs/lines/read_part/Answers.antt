use Rattle.std.proofs.Common.{arith}
use Rattle.sms_script.proofs.PartLemmas.{part_taken}
use Rattle.sms_script.proofs.lines.read_part.Goals as goal

pub returns-clause-takes : goal.returns-clause-takes
returns-clause-takes g c =
    let read = c.in_ok-given.ensures.octets in
    part_taken _ _ c.args.line.now.items c.end_part.new.line.items c.read_in_line.new.buffer c.in_ok-given.given c.end_part.result c.in_ok-given.ensures.bound (omega arith) (omega arith) read.0 read.1 c.end_part.ensures.ends
