use Rattle.std.proofs.Common.{◌≤◌, length, arith}
use Rattle.sms_join.specs.OpenSets.Places.{filled}
use Rattle.sms_join.proofs.Slots.{filled_few}
use Rattle.sms_join.proofs.slot.Slot.lacks_one.Goals as goal

pub overflow_add-result : goal.overflow_add-result
overflow_add-result c =
    let few : length (filled c.self.inside.places.items) ≤ length c.self.inside.places.items = filled_few c.self.inside.places.items in
    let own = c.self.invariant in
    let room = c.self.inside.places.ok in
    let small = c.self.inside.places.small in
    omega (arith, few, own, room.0, room.1, small)
