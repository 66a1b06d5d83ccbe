use Rattle.std.proofs.Common.{◌<◌, ◌∙◌, length, refl, sym, ap, slice_get, rules}
use Rattle.std.proofs.lemmas.Option.{slice_get_read}
use Rattle.sms_world.proofs.Networks.{entry_at, entry_again}
use Rattle.sms_world.proofs.network.WorldNetwork.entry.Goals as goal

pub returns : goal.returns
returns c =
    let found = c.in_ok-entry.ensures.lookup in
    let within : c.args.place < length c.store.result.now = search (rules, found) in
    entry_at c.args.self.now.parties.phones c.args.phone c.args.place c.in_ok-entry.entry.now _
    (ap (λ s. slice_get s c.args.place) (sym c.store.ensures.store) ∙ slice_get_read c.store.result.now _ c.args.place _ refl within found.1)
    (entry_again c.in_ok-entry.entry.now _ _ _ c.as_str.utf8 c.entry.view_is c.as_str.ensures.value)
