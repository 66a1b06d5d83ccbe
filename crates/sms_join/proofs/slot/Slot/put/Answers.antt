use Rattle.std.proofs.Common.{◌≡◌, ◌-◌, ◌≤◌, false, List, length, Option, ap, ◌∙◌, arith, rules}
use Rattle.sms_join.specs.declared.units.Units.{Units}
use Rattle.sms_join.specs.OpenSets.{is_in}
use Rattle.sms_join.specs.OpenSets.Places.{filled, filled_from}
use Rattle.sms_join.specs.Inside.Slots.{SlotValue}
use Rattle.sms_join.proofs.Slots.{filled_few, filled_more}
use Rattle.sms_join.proofs.slot.Slot.put.Goals as goal

pub overflow_add-self : goal.overflow_add-self
overflow_add-self c =
    let few : length (filled c.self.inside.places.items) ≤ length c.self.inside.places.items = filled_few c.self.inside.places.items in
    let own = c.self.invariant in
    let room = c.self.inside.places.ok in
    let small = c.self.inside.places.small in
    omega (arith, few, own, room.0, room.1, small)

pub invariant_of-self : goal.invariant_of-self
invariant_of-self c =
    let ps : List (Option Units) = c.self.inside.places.items in
    let first = c.requires.first in
    let last = c.requires.last in
    let number = c.from.ensures in
    let same : length ps ≡ length c.args.self.now.places = ap (λ (v : SlotValue). length v.places) c.self.view_is in
    let missing : is_in c.args.sequence (filled_from 1 ps) ≡ false =
    ap (λ (v : SlotValue). is_in c.args.sequence (filled_from 1 v.places)) c.self.view_is ∙ c.requires.missing in
    let more = filled_more 1 c.args.sequence ps (c.from.result - 1) c.args.units (omega arith) (omega arith) missing in
    let own = c.self.invariant in
    omega (arith, more, own)

pub returns : goal.returns
returns c = search rules
