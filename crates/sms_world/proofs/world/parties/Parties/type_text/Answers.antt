use Rattle.std.proofs.Common.{◌<◌, ap, sym, subst, ◌∙◌, length}
use Rattle.std.proofs.lemmas.Option.{slice_get_read}
use Rattle.std.proofs.lemmas.Str.{scalars-chars}
use Rattle.std.specs.Str.{chars}
use Rattle.sms_world.specs.World.Value.{PartiesValue}
use Rattle.sms_world.specs.Inside.Parties.{Types}
use Rattle.sms_world.proofs.Characters.{text_is}
use Rattle.sms_world.proofs.Replaced.{with_phone}
use Rattle.sms_world.proofs.Answering.{types}
use Rattle.sms_world.proofs.world.parties.Parties.type_text.Goals as goal

pub returns-clause-types : goal.returns-clause-types
returns-clause-types c =
    let v : PartiesValue = record { centre = c.self.inside.centre; phones = c.self.inside.phones.items } in
    let text = chars c.args.text.now in
    let within : c.args.phone < c.self.inside.phones.len = subst (λ n. c.args.phone < n) (ap (λ (w : PartiesValue). length w.phones) (sym c.self.view_is) ∙ sym c.self.inside.phones.ok.0) c.requires in
    let there = slice_get_read v.phones c.self.inside.phones.len c.args.phone c.index_mut-phone.result.now c.self.inside.phones.ok.0 within c.index_mut-phone.ensures.value in
    subst (λ (w : PartiesValue). Types c.args.phone c.args.target.now text w c.type_text_with.result (with_phone v c.args.phone c.type_text_with.new.self)) c.self.view_is
    (types v c.args.phone c.index_mut-phone.result.now c.type_text_with.new.self c.args.target.now text c.type_text_with.result c.laws_below.ensures
    (text_is text (scalars-chars c.args.text.now c.utf8.text)) there c.type_text_with.ensures.receiver c.type_text_with.ensures.types)
