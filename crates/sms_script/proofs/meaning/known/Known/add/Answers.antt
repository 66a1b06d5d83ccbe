use Rattle.std.proofs.Common.{arith, refl}
use Rattle.std.proofs.lemmas.List.{length_push}
use Rattle.sms_script.proofs.KnownLemmas.{name-new, names-more, distinct-more}
use Rattle.sms_script.proofs.meaning.known.Known.add.Goals as goal

pub invariant_of-self-2 : goal.invariant_of-self-2
invariant_of-self-2 c =
    let new = rw (← c.self.view_is) at c.requires in
    let keys = rw (name-new c.into_string.result c.args.phone.name c.self.inside.names.keys c.into_string.ensures new.0) at c.in_ok-insert.ensures.keys in
    let items = rw c.reserve.ensures.items at c.push_reserved.ensures.items in
    let few = new.2 in (
      rw (keys, items) (rw (length_push c.self.inside.names.keys c.into_string.result, length_push c.self.inside.addresses.items c.args.phone.address, c.self.invariant.0) refl),
      rw items (distinct-more c.self.inside.addresses.items c.args.phone.address c.self.invariant.1.0 new.1, omega (arith, length_push c.self.inside.addresses.items c.args.phone.address, few)),
    )

pub returns-clause-ok : goal.returns-clause-ok
returns-clause-ok c =
    let new = rw (← c.self.view_is) at c.requires in
    let keys = rw (name-new c.into_string.result c.args.phone.name c.self.inside.names.keys c.into_string.ensures new.0) at c.in_ok-insert.ensures.keys in
    let items = rw c.reserve.ensures.items at c.push_reserved.ensures.items in
    rw (← c.self.view_is, keys, items, names-more c.self.inside.names.keys c.into_string.result, c.into_string.ensures) refl
