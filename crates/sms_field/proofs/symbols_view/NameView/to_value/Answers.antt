use Rattle.std.proofs.Common.{◌<◌, ◌∙◌, ap, length, arith}
use Rattle.sms_text.specs.Inside.PackingLaws.{unpacked_septets}
use Rattle.sms_field.proofs.NamesHeld.{none_held, one_more_held}
use Rattle.sms_field.proofs.symbols_view.NameView.to_value.Goals as goal

pub loop-place-init : goal.loop-place-init
loop-place-init c = c.new-septets.ensures ∙ none_held c.self.inside.octets.now

pub push-requires : goal.push-requires
push-requires c =
    let few : length c.loop-place.septets.items < 11 = omega (arith, ap length c.loop-place.invariant, (unpacked_septets 0 c.loop-place.place c.self.inside.octets.now).1, c.loop-place-test.true, c.self.invariant.few) in
    (omega arith, few)

pub loop-place-preserved : goal.loop-place-preserved
loop-place-preserved c = c.push.ensures.items ∙ one_more_held c.loop-place.place c.in-Some.septet c.self.inside.octets.now c.loop-place.septets.items c.loop-place.invariant c.in-Some.ensures

pub of-requires : goal.of-requires
of-requires c =
    let are = unpacked_septets 0 c.loop-place.place c.self.inside.octets.now in
    rw c.loop-place.invariant (record { few = omega (arith, are.1, c.loop-place-test.false, c.loop-place.auto.place-end, c.self.invariant.few); each = are.0 })
