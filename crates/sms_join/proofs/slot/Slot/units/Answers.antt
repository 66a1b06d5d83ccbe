use Rattle.std.proofs.Common.{◌≡◌, ℕ, ◌-◌, List, length, Option, None, get_or, sym, ap, ◌∙◌, arith}
use Rattle.std.proofs.lemmas.List.{get_or_default}
use Rattle.sms_join.specs.declared.units.Units.{Units}
use Rattle.sms_join.specs.OpenSets.{units_for}
use Rattle.sms_join.specs.OpenSets.Places.{filled, filled_from}
use Rattle.sms_join.specs.Inside.Slots.{SlotValue}
use Rattle.sms_join.proofs.Slots.{units_place}
use Rattle.sms_join.proofs.slot.Slot.units.Goals as goal

pub returns : goal.returns
returns c =
    let ps : List (Option Units) = c.self.inside.places.items in
    let i : ℕ = c.from.result - 1 in
    let first = c.requires.first in
    let last = c.requires.last in
    let number = c.from.ensures in
    let same : length ps ≡ length c.args.self.now.places = ap (λ (v : SlotValue). length v.places) c.self.view_is in
    let read : c.index.result.now ≡ get_or ps i None = c.index.ensures ∙ get_or_default ps i c.index.result.now None (omega arith) in
    c.as_ref.ensures.value
    ∙ (read
    ∙ (sym (units_place 1 c.args.sequence ps i (omega arith))
    ∙ ap (λ (v : SlotValue). units_for c.args.sequence (filled_from 1 v.places) (filled v.places)) c.self.view_is))
