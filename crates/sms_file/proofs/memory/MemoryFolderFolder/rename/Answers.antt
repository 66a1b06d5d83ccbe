use Rattle.std.proofs.Common.{inr, Some}
use Rattle.sms_file.specs.Crash.{octets_of}
use Rattle.sms_file.proofs.Kept.{longer, pushed}
use Rattle.sms_file.proofs.memory.MemoryFolderFolder.rename.Goals as goal

pub returns-in-Ok-keep-clause-time : goal.returns-in-Ok-keep-clause-time
returns-in-Ok-keep-clause-time c = λ known.
    let f = c.in-Ok-keep.ensures.ok in
    let m = c.args.self.now in
    record {
      later = longer m.past.items c.keep.new.past.items f.0 f.2;
      nothing_else = pushed m.past.items c.keep.new.past.items f.0 (octets_of m.disk) (octets_of m.file) (octets_of m.disk) (Some c.in-Ok.next.items) f.2 (inr f.1);
    }
