use Rattle.std.proofs.Common.{List, map, take, subst}
use Rattle.std.specs.Str.{chars}
use Rattle.sms_language.specs.Tables.{default_tables}
use Rattle.sms_national.specs.Choice.{Choice, Under}
use Rattle.sms_national.specs.Inside.Best.{IsBest}
use Rattle.sms_national.proofs.BestLaws.{one_tried_more}
use Rattle.sms_national.proofs.choice.best_under.Goals as goal

pub loop-tables-preserved : goal.loop-tables-preserved
loop-tables-preserved c =
    let order = c.args.order.now in
    let index = c.loop-tables.tables-index in
    subst (λ (l : List Choice). IsBest c.args.width (chars c.args.text.now) l c.in_ok-best.best) (one_tried_more order index default_tables c.loop-tables-test.true)
    (c.in_ok-best.ensures.best (map Under (take index order)) c.loop-tables.invariant)
