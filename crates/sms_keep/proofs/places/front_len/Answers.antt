use Rattle.std.proofs.Common.{ℕ, length, Option, ap, arith}
use Rattle.sms_saved.specs.Spelling.{eight, optional}
use Rattle.sms_keep.proofs.Lengths.{age_len, front_len}
use Rattle.sms_keep.proofs.places.front_len.Goals as goal

pub returns-in-None-clause-value : goal.returns-in-None-clause-value
returns-in-None-clause-value c =
    λ taken next. let e = front_len c.args.limits taken next in
    let a = ap (λ (x : Option ℕ). length (optional eight x)) c.in-None.is in
    omega (arith, e, a)

pub returns-in-Some-clause-value : goal.returns-in-Some-clause-value
returns-in-Some-clause-value c =
    λ taken next. let e = front_len c.args.limits taken next in
    let a = age_len c.args.limits.age_of_keys c.in-Some.field-0 c.in-Some.is in
    omega (arith, e, a)
