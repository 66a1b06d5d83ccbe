use Rattle.std.proofs.Common.{rules}
use Rattle.sms_script.proofs.PartLemmas.{line_goes_on, line_ends}
use Rattle.sms_script.proofs.lines.read_line.Goals as goal

pub loop-source-preserved : goal.loop-source-preserved
loop-source-preserved g c =
    let takes = rw c.in-Ok-More.field-0-is at c.in-Ok-More.ensures.takes in
    let goes = line_goes_on _ _ _ c.loop-source.line.items c.read_part.new.line.items c.loop-source.invariant.no_feed c.loop-source.invariant.taken takes.0 in record {
      works = search rules;
      goes_on = search rules;
      no_feed = goes.0;
      few = takes.0.3;
      room = search rules;
      taken = goes.1;
    }

pub returns-in-Ok-LineFeed-clause-reads : goal.returns-in-Ok-LineFeed-clause-reads
returns-in-Ok-LineFeed-clause-reads g c =
    let takes = rw c.in-Ok-LineFeed.field-0-is at c.in-Ok-LineFeed.ensures.takes in
    line_ends _ _ _ c.loop-source.line.items c.read_part.new.line.items _ c.loop-source.invariant.no_feed c.loop-source.invariant.taken takes c.drop_carriage_return.ensures
