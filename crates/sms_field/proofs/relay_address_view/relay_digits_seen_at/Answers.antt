use Rattle.std.proofs.Common.{Ok, Err, ◌*◌, arith}
use Rattle.std.proofs.lemmas.Result.{err_from_is_err_and}
use Rattle.sms_field.specs.declared.fault.FieldFault.TheVariants.{Short}
use Rattle.sms_field.specs.declared.refusal.Refusal.TheVariants.{At}
use Rattle.sms_field.specs.Inside.AnswerLaws.{sees_by_meaning}
use Rattle.sms_field.specs.Inside.AddressSeen.{digits_in}
use Rattle.sms_field.specs.Address.DigitOctets.{both_digits}
use Rattle.sms_field.proofs.RelayDigitLoop.{ends, fails_last}
use Rattle.sms_field.proofs.RelayDigitsSeen.{seen_start, sees_on, sees_none, sees_last}
use Rattle.sms_field.proofs.relay_address_view.relay_digits_seen_at.Goals as goal
use Rattle.sms_field.proofs.relay_address_view.relay_digits_seen_at.Goals.{then-count-gt0+in_ok-last_octet_at, else-count-gt0}

pub loop-init : goal.loop-init
loop-init c = seen_start _ _ _ _ c.rest-octets.ensures

pub returns-in_err-take_octet_by-clause-read : goal.returns-in_err-take_octet_by-clause-read
returns-in_err-take_octet_by-clause-read c =
    let p = err_from_is_err_and c.from_residual.result c.from_residual.ensures.1 in
    let f = c.in_err-take_octet_by.field-0.0 in
    let two = sees_by_meaning Short _ both_digits c.loop.input c.take_octet_by.new.self (Err f) c.in_err-take_octet_by.ensures (λ o r q. q) in
    rw (p.1, p.2, ← c.rest-octets.ensures) (ends (At f.place f.why) (digits_in (2 * c.loop.counter) c.rest-octets.result.now) c.args.count c.loop.counter c.loop.input.place c.loop.input.rest _ (omega arith) two c.loop.invariant.going)

pub loop-preserved : goal.loop-preserved
loop-preserved c =
    let two = sees_by_meaning Short _ both_digits c.loop.input c.take_octet_by.new.self (Ok c.in_ok-take_octet_by.field-0) c.in_ok-take_octet_by.ensures (λ o r q. q) in
    sees_on c.rest-octets.result.now c.args.count c.loop.counter c.loop.input.place c.loop.input.rest c.in_ok-take_octet_by.field-0 c.take_octet_by.new.self.place c.take_octet_by.new.self.rest c.args.input.now.place (omega arith) two c.loop.invariant

pub returns-in_err-last_octet_at-clause-read : goal.returns-in_err-last_octet_at-clause-read
returns-in_err-last_octet_at-clause-read c =
    let p = err_from_is_err_and c.from_residual-in_err-last_octet_at.result c.from_residual-in_err-last_octet_at.ensures.1 in
    let f = c.in_err-last_octet_at.field-0.0 in
    rw (p.1, p.2, ← c.rest-octets.ensures) (fails_last (At f.place f.why) (digits_in (2 * c.loop.counter) c.rest-octets.result.now) c.args.count c.loop.counter c.loop.input.place c.loop.input.rest _ c.if-count-gt0.true (omega arith) (omega arith) c.in_err-last_octet_at.ensures c.loop.invariant.going)

pub returns-clause-read : goal.returns-clause-read
returns-clause-read c =
    elim c.if-count-gt0.branch [
      | then-count-gt0+in_ok-last_octet_at w ↦ rw (w.input-is, ← c.rest-octets.ensures) (sees_last c.rest-octets.result.now c.args.count c.loop.counter c.loop.input.place c.loop.input.rest _ w.last_octet_at.new.input.place w.last_octet_at.new.input.rest c.args.input.now.place w.if-count-gt0.true (omega arith) (omega arith) w.in_ok-last_octet_at.ensures c.loop.invariant).0
      | else-count-gt0 w ↦ rw (w.input-is, ← c.rest-octets.ensures) (sees_none c.rest-octets.result.now c.args.count c.loop.counter c.loop.input.place c.loop.input.rest c.args.input.now.place (omega (arith, w.if-count-gt0.false)) (omega arith) c.loop.invariant).0
    ]
