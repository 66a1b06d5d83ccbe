use Rattle.std.proofs.Common.{arith, ◌∙◌}
use Rattle.sms_field.proofs.DayLemmas.{read_day, year_cast}
use Rattle.sms_field.proofs.calendar.date_of.Goals as goal

pub overflow_cast-result : goal.overflow_cast-result
overflow_cast-result c =
    let read = read_day c.from_days_since_min-date.result c.args.days c.requires c.from_days_since_min-date.ensures in
    rw (year_cast _ _ _ read) (tt, omega (arith, read.is_day.0.1))

pub returns-clause-date : goal.returns-clause-date
returns-clause-date c =
    let read = read_day c.from_days_since_min-date.result c.args.days c.requires c.from_days_since_min-date.ensures in
    rw (year_cast _ _ _ read) read.is_day

pub returns-clause-value : goal.returns-clause-value
returns-clause-value c =
    let read = read_day c.from_days_since_min-date.result c.args.days c.requires c.from_days_since_min-date.ensures in
    rw (year_cast _ _ _ read) (read.number ∙ omega arith)
