use Rattle.std.proofs.Common.{inl}
use Rattle.sms_file.specs.Crash.{octets_of}
use Rattle.sms_file.proofs.Kept.{longer, pushed}
use Rattle.sms_file.proofs.memory.MemoryFolderFolder.sync_folder.Goals as goal

pub returns-in-Ok-keep-clause-time : goal.returns-in-Ok-keep-clause-time
returns-in-Ok-keep-clause-time c = λ known.
    let f = c.in-Ok-keep.ensures.ok in
    let m = c.args.self.now in
    record {
      later = longer m.past.items c.keep.new.past.items f.0 f.2;
      nothing_else = pushed m.past.items c.keep.new.past.items f.0 (octets_of m.disk) (octets_of m.file) (octets_of c.in-Ok.next) (octets_of m.file) f.2 (inl f.1);
    }
