use Rattle.std.proofs.Common.{◌≡◌, ◌≤ℤ◌, ◌∙◌, ◌*ℤ◌, ap, subst, arith, pos, negsuc}
use Rattle.std.proofs.lemmas.Int.{ints}
use Rattle.sms_field.specs.Time.Stamping.{IsStampAt}
use Rattle.sms_field.proofs.TimeLaws.{stamp_is_one}
use Rattle.sms_field.proofs.MomentLaws.{stamp_is, same_quarters, local_sum}
use Rattle.sms_field.proofs.stamp.Stamp.at.Goals as goal

pub returns-clause-value : goal.returns-clause-value
returns-clause-value c =
    let same = same_quarters c.args.quarters c.ranges.quarters in
    let west : negsuc 78 ≤ℤ c.args.quarters = grind (arith, ints, same, c.if-quarters-ltminus79.false) in
    let east : c.args.quarters ≤ℤ pos 79 = grind (arith, ints, same, c.if-quarters-gt79.false) in
    let offset : c.seconds_of_zone.result ≡ pos 900 *ℤ c.args.quarters = c.seconds_of_zone.ensures ∙ ap (λ z. pos 900 *ℤ z) same in
    let sum = local_sum c.args.seconds c.in_ok-local.local c.args.quarters c.seconds_of_zone.result west east offset c.in_ok-local.ensures.0 c.in_ok-local.ensures.1 in
    let date = c.date_of-year.result in
    let first = c.octet_of.ensures in
    let second = c.octet_of-2.ensures in
    let third = c.octet_of-3.ensures in
    let fourth = c.octet_of-4.ensures in
    let fifth = c.octet_of-5.ensures in
    let sixth = c.octet_of-6.ensures in
    rw (c.new.ensures.is, c.octet_of_zone.ensures, same) (stamp_is c.args.seconds _ date.0 date.1 date.2 c.args.quarters _ _ _ _ _ _ c.date_of-year.ensures.date (omega arith) first.digits second.digits third.digits fourth.digits fifth.digits sixth.digits first.value second.value third.value fourth.value fifth.value sixth.value west east (omega (arith, ints, sum, c.date_of-year.ensures.value)))

pub returns-clause-octets : goal.returns-clause-octets
returns-clause-octets c = λ east. stamp_is_one c.args.seconds c.new.result c.new.ensures.in_range (subst (λ q. IsStampAt c.args.seconds q c.new.result) east (returns-clause-value c))
