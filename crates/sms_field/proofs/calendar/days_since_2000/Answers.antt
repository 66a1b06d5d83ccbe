use Rattle.std.proofs.Common.{arith, ◌≡◌, ◌≤◌, ◌-◌}
use Rattle.sms_field.specs.Time.Days.{days_before}
use Rattle.sms_field.proofs.DayLemmas.{days_before-date}
use Rattle.sms_field.proofs.calendar.days_since_2000.Goals as goal

number : (c : goal.After-days_since_min) → (4_382_544 ≤ c.days_since_min.result) × (c.days_since_min.result - 4_382_544 ≡ days_before c.args.year c.args.month c.args.day)
number c =
    days_before-date c.in-Ok.date c.args.year c.args.month c.args.day c.days_since_min.result (omega (arith, c.if-year-lt2000.false)) (omega (arith, c.if-year-gt2099.false)) (omega (arith, c.if-month-gt12.false)) (omega (arith, c.if-day-gt31.false)) c.in-Ok.ensures.value c.days_since_min.ensures.value

pub overflow_sub-result : goal.overflow_sub-result
overflow_sub-result c = (number c).0

pub returns-in-Ok-clause-value : goal.returns-in-Ok-clause-value
returns-in-Ok-clause-value c = (number c).1
