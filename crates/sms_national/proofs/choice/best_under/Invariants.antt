use Rattle.std.proofs.Common.{map, take}
use Rattle.std.specs.Str.{chars}
use Rattle.sms_national.specs.Choice.{Under}
use Rattle.sms_national.specs.Inside.Best.{IsBest}
use Rattle.sms_national.proofs.choice.best_under.Given as goal

abbrev pub invariant-loop-tables : goal.invariant-loop-tables
invariant-loop-tables l = IsBest l.width (chars l.text) (map Under (take l.tables-index l.order)) l.best
