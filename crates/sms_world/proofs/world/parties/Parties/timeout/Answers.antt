use Rattle.std.proofs.Common.{◌<◌, ap, sym, subst, ◌∙◌, length}
use Rattle.std.proofs.lemmas.Option.{slice_get_read}
use Rattle.sms_party.specs.Sender.Calls.{times_out}
use Rattle.sms_world.specs.World.Value.{PartiesValue}
use Rattle.sms_world.specs.World.Standing.{PartiesStand}
use Rattle.sms_world.proofs.Answering.{sender_answers}
use Rattle.sms_world.proofs.world.parties.Parties.timeout.Goals as goal

pub returns-clause-steps : goal.returns-clause-steps
returns-clause-steps c = λ m stands.
    let v : PartiesValue = record { centre = c.self.inside.centre; phones = c.self.inside.phones.items } in
    let h : PartiesStand v m = subst (λ (w : PartiesValue). PartiesStand w m) (sym c.self.view_is) stands in
    let within : c.args.phone < c.self.inside.phones.len = subst (λ n. c.args.phone < n) (ap (λ (w : PartiesValue). length w.phones) (sym c.self.view_is) ∙ sym c.self.inside.phones.ok.0) c.requires in
    let there = slice_get_read v.phones c.self.inside.phones.len c.args.phone c.index_mut-phone.result.now c.self.inside.phones.ok.0 within c.index_mut-phone.ensures.value in
    sender_answers v m c.args.phone c.index_mut-phone.result.now c.timeout_with.new.self h there c.timeout_with.ensures.receiver
    (times_out m.senders c.args.phone) (c.laws_below.ensures.few_put.when_late m.senders c.args.phone) (c.laws_below.ensures.dropped.times_out m.senders c.args.phone)
    (λ q s apart k. (c.laws_below.ensures.others q c.args.phone s m.senders apart k).1)
    c.timeout_with.result (c.timeout_with.ensures.steps c.args.phone m.senders (h.senders_stand c.args.phone c.index_mut-phone.result.now there))
