use Rattle.std.proofs.Common.{rules, arith, refl}
use Rattle.sms_field.specs.Time.Moment.{MomentIs}
use Rattle.sms_field.proofs.TimeLaws.{moment_is_one}
use Rattle.sms_field.proofs.MomentLaws.{IsLocal, moment_is, offset_of, local_of}
use Rattle.sms_field.proofs.stamp.Stamp.moment.Goals as goal
use Rattle.sms_field.proofs.stamp.Stamp.moment.Goals.{After-seconds_of_day-time}

local : (c : After-seconds_of_day-time) → IsLocal c.args.self.now c.in_ok-days.days c.seconds_of_day-time.result
local c = local_of c.args.self.now c.in_ok-date.date _ _ (c.in_ok-date.ensures.found.0 refl) c.in_ok-date.ensures.value c.in_ok-days.ensures.value c.seconds_of_day-time.ensures

pub overflow_mul-days : goal.overflow_mul-days
overflow_mul-days c = omega (arith, (local c).days_few)

pub overflow_add-days : goal.overflow_add-days
overflow_add-days c = omega (arith, (local c).days_few, (local c).time_few)

pub returns-clause-is : goal.returns-clause-is
returns-clause-is c =
    let is_date = c.in_ok-date.ensures.found.0 refl in
    let here = local_of c.args.self.now c.in_ok-date.date _ _ is_date c.in_ok-date.ensures.value c.in_ok-days.ensures.value c.seconds_of_day-time.ensures in
    let zone = offset_of c.args.self.now c.in_ok-date.date _ is_date c.in_ok-date.ensures.value c.seconds_of_zone.ensures in
    moment_is c.args.self.now _ c.seconds_of_zone.result c.checked_sub_signed.result is_date here.value zone.value zone.low zone.high (omega (arith, here.days_few, here.time_few)) c.checked_sub_signed.ensures

pub returns-clause-value : goal.returns-clause-value
returns-clause-value c = moment_is_one c.args.self.now c.checked_sub_signed.result (returns-clause-is c)

pub returns-in_err-date-clause-value : goal.returns-in_err-date-clause-value
returns-in_err-date-clause-value c =
    let none : MomentIs c.args.self.now c.from_residual.result = search rules in
    moment_is_one c.args.self.now c.from_residual.result none
