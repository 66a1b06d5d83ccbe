use Rattle.sms_field.specs.Inside.OctetLists.{octets_are}
use Rattle.std.proofs.Common.{◌<◌, false, ap, sym, subst, ◌∙◌, length, arith}
use Rattle.std.proofs.lemmas.Option.{slice_get_read}
use Rattle.sms_world.specs.World.Value.{PartiesValue}
use Rattle.sms_world.specs.Inside.Parties.{Receives}
use Rattle.sms_world.proofs.Replaced.{with_phone}
use Rattle.sms_world.proofs.Answering.{reaches_phone}
use Rattle.sms_world.proofs.world.parties.Parties.reach_phone.Goals as goal

pub returns-clause-receives : goal.returns-clause-receives
returns-clause-receives c =
    let v : PartiesValue = record { centre = c.self.inside.centre; phones = c.self.inside.phones.items } in
    let within : c.args.phone < c.self.inside.phones.len = subst (λ n. c.args.phone < n) (ap (λ (w : PartiesValue). length w.phones) (sym c.self.view_is) ∙ sym c.self.inside.phones.ok.0) c.requires in
    let there = slice_get_read v.phones c.self.inside.phones.len c.args.phone c.index_mut-phone.result.now c.self.inside.phones.ok.0 within c.index_mut-phone.ensures.value in
    subst (λ (w : PartiesValue). Receives c.args.now false c.args.phone c.args.octets.now w c.receive_with.result (with_phone v c.args.phone c.receive_with.new.self)) c.self.view_is
    (reaches_phone c.args.now c.args.phone c.args.octets.now v c.index_mut-phone.result.now c.receive_with.new.self c.laws_below.ensures there c.receive_with.result c.receive_with.ensures.receives)

pub returns-clause-octets : goal.returns-clause-octets
returns-clause-octets c = octets_are c.args.octets.now (λ i. omega (arith, c.type_inv.octets i))
