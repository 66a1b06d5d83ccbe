use Rattle.std.proofs.Common.{Ok, Err, ◌≡◌, ◌*◌, ◌+◌, ◌/◌, arith}
use Rattle.std.proofs.lemmas.Result.{err_from_is_err_and}
use Rattle.sms_field.specs.declared.fault.FieldFault.TheVariants.{Short}
use Rattle.sms_field.specs.declared.refusal.Refusal.TheVariants.{At}
use Rattle.sms_field.specs.Inside.AnswerLaws.{sees_by_meaning}
use Rattle.sms_field.specs.Inside.AddressSeen.{digits_in}
use Rattle.sms_field.specs.Address.DigitOctets.{low_digit, both_digits}
use Rattle.sms_field.proofs.DigitLoop.{ends, fails_odd}
use Rattle.sms_field.proofs.DigitsSeen.{seen_start, sees_on, sees_even, sees_odd}
use Rattle.sms_field.proofs.address_view.digits_seen_at.Goals as goal
use Rattle.sms_field.proofs.address_view.digits_seen_at.Goals.{then-count-eq1+in_ok-take_octet_by-2, else-count-eq1}

pub loop-init : goal.loop-init
loop-init c = seen_start _ _ _ _ c.rest-octets.ensures

pub returns-in_err-take_octet_by-clause-read : goal.returns-in_err-take_octet_by-clause-read
returns-in_err-take_octet_by-clause-read c =
    let p = err_from_is_err_and c.from_residual.result c.from_residual.ensures.1 in
    let f = c.in_err-take_octet_by.field-0.0 in
    let two = sees_by_meaning Short _ both_digits c.loop.input c.take_octet_by.new.self (Err f) c.in_err-take_octet_by.ensures (λ o r q. q) in
    rw (p.1, p.2, ← c.rest-octets.ensures) (ends (At f.place f.why) (digits_in (2 * c.loop.counter) c.rest-octets.result.now) c.args.count c.loop.counter c.loop.input.place c.loop.input.rest _ c.loop-test.true two c.loop.invariant.going)

pub loop-preserved : goal.loop-preserved
loop-preserved c =
    let two = sees_by_meaning Short _ both_digits c.loop.input c.take_octet_by.new.self (Ok c.in_ok-take_octet_by.field-0) c.in_ok-take_octet_by.ensures (λ o r q. q) in
    sees_on c.rest-octets.result.now c.args.count c.loop.counter c.loop.input.place c.loop.input.rest c.in_ok-take_octet_by.field-0 c.take_octet_by.new.self.place c.take_octet_by.new.self.rest c.args.input.now.place c.loop-test.true two c.loop.invariant

pub returns-in_err-take_octet_by-2-clause-read : goal.returns-in_err-take_octet_by-2-clause-read
returns-in_err-take_octet_by-2-clause-read c =
    let p = err_from_is_err_and c.from_residual-in_err-take_octet_by-2.result c.from_residual-in_err-take_octet_by-2.ensures.1 in
    let f = c.in_err-take_octet_by-2.field-0.0 in
    let one = sees_by_meaning Short _ low_digit c.loop.input c.take_octet_by-then-count-eq1.new.self (Err f) c.in_err-take_octet_by-2.ensures (λ o r q. q) in
    rw (p.1, p.2, ← c.rest-octets.ensures) (fails_odd (At f.place f.why) (digits_in (2 * c.loop.counter) c.rest-octets.result.now) c.args.count c.loop.counter c.loop.input.place c.loop.input.rest _ c.loop-test.false c.loop.auto.counter-end c.if-count-eq1.true one c.loop.invariant.going)

pub returns-clause-read : goal.returns-clause-read
returns-clause-read c =
    let size : c.div_ceil.result ≡ (c.args.count + 1) / 2 = omega (arith, c.div_ceil.ensures) in
    elim c.if-count-eq1.branch [
      | then-count-eq1+in_ok-take_octet_by-2 w ↦
          let one = sees_by_meaning Short _ low_digit c.loop.input w.take_octet_by-then-count-eq1.new.self (Ok w.in_ok-take_octet_by-2.field-0) w.in_ok-take_octet_by-2.ensures (λ o r q. q) in
          rw (w.input-is, size, ← c.rest-octets.ensures) (sees_odd c.rest-octets.result.now c.args.count c.loop.counter c.loop.input.place c.loop.input.rest w.in_ok-take_octet_by-2.field-0 w.take_octet_by-then-count-eq1.new.self.place w.take_octet_by-then-count-eq1.new.self.rest c.args.input.now.place c.loop-test.false c.loop.auto.counter-end w.if-count-eq1.true one c.loop.invariant).0
      | else-count-eq1 w ↦ rw (w.input-is, size, ← c.rest-octets.ensures) (sees_even c.rest-octets.result.now c.args.count c.loop.counter c.loop.input.place c.loop.input.rest c.args.input.now.place c.loop-test.false c.loop.auto.counter-end w.if-count-eq1.false c.loop.invariant)
    ]
