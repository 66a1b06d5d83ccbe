use Rattle.std.proofs.Common.{arith}
use Rattle.sms_told.specs.Sets.{behind_blank}
use Rattle.sms_told.proofs.Composed.{Puts-then, Puts-same}
use Rattle.sms_told.proofs.Sequences.{told_more}
use Rattle.sms_told.proofs.set_parts.put_missing.Goals as goal

pub loop-before-preserved : goal.loop-before-preserved
loop-before-preserved c =
    let kept = c.loop-before.invariant in (
      omega arith,
      kept.1,
      Puts-same (told_more behind_blank c.args.set.now.sequences c.loop-before.before) (Puts-then _ _ kept.2 c.put_where_missing.ensures),
    )
