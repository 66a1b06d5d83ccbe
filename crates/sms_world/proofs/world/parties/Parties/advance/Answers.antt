use Rattle.std.proofs.Common.{◌≡◌, suc, ◌≤◌, ◌+◌, length, ap, sym, subst, ◌∙◌, arith}
use Rattle.std.proofs.Math.ListN.{set}
use Rattle.std.proofs.lemmas.List.{with_items_is}
use Rattle.std.proofs.lemmas.Option.{slice_get_read}
use Rattle.sms_party.specs.Phone.{PhoneValue}
use Rattle.sms_world.specs.Inside.Phones.{IsAged}
use Rattle.sms_world.specs.World.Value.{PartiesValue}
use Rattle.sms_world.specs.Inside.Parties.{MovesTo}
use Rattle.sms_world.proofs.Aged.{AreAged, one_more, moves, clock_seen}
use Rattle.sms_world.proofs.world.parties.Parties.advance.Goals as goal

pub loop-phone-preserved : goal.loop-phone-preserved
loop-phone-preserved c =
    let next : suc c.loop-phone.phone-index ≡ c.loop-phone.phone-index + 1 = omega arith in
    subst (λ n. AreAged c.args.now n c.deref_mut-phone-items.result.now (set c.loop-phone.phone-items c.loop-phone.phone-index c.age.new.self)) next
    (one_more c.args.now c.loop-phone.phone-index c.deref_mut-phone-items.result.now c.loop-phone.phone-items c.phone-item.result c.age.new.self
    (slice_get_read c.loop-phone.phone-items (length c.deref_mut-phone-items.result.now) c.loop-phone.phone-index c.phone-item.result (sym c.loop-phone.auto.phone-items) c.loop-phone-test.true c.phone-item.is)
    (subst (λ (z : PhoneValue). IsAged c.args.now z c.age.new.self) (sym c.phone-item.is) (record { sends = c.age.ensures.sender; receives = c.age.ensures.receiver })) c.loop-phone.invariant)

pub returns-clause-moves : goal.returns-clause-moves
returns-clause-moves c =
    let v : PartiesValue = record { centre = c.self.inside.centre; phones = c.self.inside.phones.items } in
    let items = c.loop-phone.phone-items in
    let as_many : length items ≡ length c.self.inside.phones.items = c.loop-phone.auto.phone-items ∙ ap length c.deref_mut-phone-items.ensures.value in
    let all : AreAged c.args.now c.loop-phone.phone-index c.self.inside.phones.items items = subst (λ old. AreAged c.args.now c.loop-phone.phone-index old items) c.deref_mut-phone-items.ensures.value c.loop-phone.invariant in
    let le : length c.self.inside.phones.items ≤ c.loop-phone.phone-index = subst (λ old. length old ≤ c.loop-phone.phone-index) c.deref_mut-phone-items.ensures.value c.loop-phone-test.false in
    clock_seen c.args.now v c.args.self.now _ c.self.view_is
    (subst (λ ps. MovesTo c.args.now v (record { centre = c.advance.new.self; phones = ps })) (sym (with_items_is c.self.inside.phones items (as_many ∙ sym c.self.inside.phones.ok.0)))
    (moves c.args.now c.loop-phone.phone-index v (record { centre = c.advance.new.self; phones = items }) c.advance.ensures.stands as_many le all))
