use Rattle.std.proofs.Common.{arith}
use Rattle.sms_told.specs.Sets.{number_value}
use Rattle.sms_told.proofs.Composed.{Writes-nothing, Writes-then, Writes-same}
use Rattle.sms_told.proofs.Sequences.{told_more}
use Rattle.sms_told.proofs.set_parts.put_missing_values.Goals as goal

pub loop-before-init : goal.loop-before-init
loop-before-init c = (omega arith, c.maximum-maximum.ensures, Writes-nothing _)

pub loop-before-preserved : goal.loop-before-preserved
loop-before-preserved c =
    let kept = c.loop-before.invariant in (
      omega arith,
      kept.1,
      Writes-same (told_more number_value c.args.set.now.sequences c.loop-before.before) (Writes-then _ _ kept.2 c.put_value_where_missing.ensures),
    )
