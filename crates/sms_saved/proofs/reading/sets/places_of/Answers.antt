use Rattle.std.proofs.Common.{◌≡◌, ◌++◌, ◌∷◌, []}
use Rattle.std.proofs.lemmas.Result.{err_from_is_err_and}
use Rattle.std.proofs.lemmas.List.{map_push}
use Rattle.sms_saved.specs.Value.{view_places, view_place}
use Rattle.sms_saved.specs.Reading.Fields.{items_at}
use Rattle.sms_saved.specs.Reading.Sets.{place_at}
use Rattle.sms_saved.proofs.Loop.{goes_on, ends, is_done}
use Rattle.sms_saved.proofs.reading.sets.places_of.Goals as goal

pub returns-in_err-place : goal.returns-in_err-place
returns-in_err-place c =
    let p = err_from_is_err_and c.from_residual-in_err-place.result c.from_residual-in_err-place.ensures.1 in
    rw (p.1, p.2) (ends place_at c.in_err-place.field-0.0 (view_places c.loop.places.items) c.args.count c.loop.counter c.loop.rest.now (items_at place_at c.args.count c.args.bytes.now) c.loop-test.true c.in_err-place.ensures c.loop.invariant)

pub loop-preserved : goal.loop-preserved
loop-preserved c =
    let n = c.in_ok-place.place in
    let e : view_places c.push.new.self.items ≡ view_places c.loop.places.items ++ view_place n ∷ [] = rw c.in_ok-push.ensures.items (map_push _ c.loop.places.items n) in
    rw e (goes_on place_at (view_places c.loop.places.items) c.args.count c.loop.counter c.loop.rest.now (view_place n) c.in_ok-place.after.now (items_at place_at c.args.count c.args.bytes.now) c.loop-test.true c.in_ok-place.ensures c.loop.invariant)

pub returns : goal.returns
returns c = is_done place_at (view_places c.loop.places.items) c.args.count c.loop.counter c.loop.rest.now (items_at place_at c.args.count c.args.bytes.now) c.loop-test.false c.loop.invariant
