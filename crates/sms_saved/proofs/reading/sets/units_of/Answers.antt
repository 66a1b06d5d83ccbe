use Rattle.std.proofs.lemmas.Result.{err_from_is_err_and}
use Rattle.std.specs.Int.{w16}
use Rattle.sms_saved.specs.Reading.Fields.{items_at, number_at}
use Rattle.sms_saved.proofs.Loop.{goes_on, ends, is_done}
use Rattle.sms_saved.proofs.reading.sets.units_of.Goals as goal

pub returns-in_err-unit : goal.returns-in_err-unit
returns-in_err-unit c =
    let p = err_from_is_err_and c.from_residual-in_err-unit.result c.from_residual-in_err-unit.ensures.1 in
    rw (p.1, p.2) (ends (number_at w16) c.in_err-unit.field-0.0 c.loop.units.items c.args.count c.loop.counter c.loop.rest.now (items_at (number_at w16) c.args.count c.args.bytes.now) c.loop-test.true c.in_err-unit.ensures.read c.loop.invariant)

pub loop-preserved : goal.loop-preserved
loop-preserved c =
    rw c.in_ok-push.ensures.items (goes_on (number_at w16) c.loop.units.items c.args.count c.loop.counter c.loop.rest.now c.in_ok-unit.unit c.in_ok-unit.after.now (items_at (number_at w16) c.args.count c.args.bytes.now) c.loop-test.true c.in_ok-unit.ensures.read c.loop.invariant)

pub returns : goal.returns
returns c = is_done (number_at w16) c.loop.units.items c.args.count c.loop.counter c.loop.rest.now (items_at (number_at w16) c.args.count c.args.bytes.now) c.loop-test.false c.loop.invariant
