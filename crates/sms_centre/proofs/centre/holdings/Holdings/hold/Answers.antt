use Rattle.std.proofs.Common.{◌≡◌, ◌<◌, ◌≤◌, List, Result, Ok, Err, OnOk, OnErr, length, refl, sym, ap, ◌∙◌, subst}
use Rattle.std.proofs.Math.ListN.{set}
use Rattle.std.proofs.lemmas.Option.{slice_get_read}
use Rattle.sms_centre.specs.Centre.Value.{LineValue, HeldValue, HoldingsValue}
use Rattle.sms_centre.specs.Inside.Kept.{free_at}
use Rattle.sms_centre.specs.Inside.Lines.{accepting_line, ChangesLine}
use Rattle.sms_centre.specs.Inside.Holdings.{AreHeld}
use Rattle.sms_centre.proofs.Lines.{changed_line, free_is, addresses_set, set_same}
use Rattle.sms_centre.proofs.Holdings.{is_new, accepted_held}
use Rattle.sms_centre.proofs.centre.holdings.Holdings.hold.Goals as goal

pub hold-requires-clause-stamp : goal.hold-requires-clause-stamp
hold-requires-clause-stamp c =
    let items = c.self.inside.lines.items in
    let r = c.args.key.recipient in
    let within = subst (λ (v : HoldingsValue). r < length v.lines) (sym c.self.view_is) c.requires.recipient in
    let there = slice_get_read items (length items) r c.index_mut-line.result.now refl within c.index_mut-line.ensures.value in
    subst (λ n. n ≤ c.args.message.stamp) (free_is items r c.index_mut-line.result.now there)
    (subst (λ (v : HoldingsValue). free_at v.lines r ≤ c.args.message.stamp) (sym c.self.view_is) c.requires.stamp)

pub hold-requires-clause-absent : goal.hold-requires-clause-absent
hold-requires-clause-absent c =
    is_new c.self.inside.held.endings c.self.inside.lines.items c.args.key.recipient c.args.message
    (subst (λ (v : HoldingsValue). free_at v.lines c.args.key.recipient ≤ c.args.message.stamp) (sym c.self.view_is) c.requires.stamp) c.self.invariant.0

-- what follows from two facts at `Ok`, and from two others at `Err`
on_either : {T E A B C D P : Type 0} (r : Result T E) → OnOk r A → OnOk r B → OnErr r C → OnErr r D → (A → B → P) → (C → D → P) → P
on_either (Ok x) a b c d f g = f a b
on_either (Err e) a b c d f g = g c d

on_ok : {T E A B : Type 0} (r : Result T E) → OnOk r A → (A → B) → OnOk r B
on_ok (Ok x) a f = f a
on_ok (Err e) a f = tt

on_err : {T E A B C : Type 0} (r : Result T E) → OnErr r A → OnErr r B → (A → B → C) → OnErr r C
on_err (Ok x) a b f = tt
on_err (Err e) a b f = f a b

pub invariant_of-self : goal.invariant_of-self
invariant_of-self c =
    let items = c.self.inside.lines.items in
    let r = c.args.key.recipient in
    let within = subst (λ (v : HoldingsValue). r < length v.lines) (sym c.self.view_is) c.requires.recipient in
    let there = slice_get_read items (length items) r c.index_mut-line.result.now refl within c.index_mut-line.ensures.value in
    on_either c.hold.result c.hold.ensures.held c.hold.ensures.line c.hold.ensures.err_held c.hold.ensures.err_line
    (λ held line. (
      accepted_held r c.args.message c.self.inside.held.endings c.hold.new.held.endings items _
          (subst (λ (v : HoldingsValue). free_at v.lines r ≤ c.args.message.stamp) (sym c.self.view_is) c.requires.stamp)
          held.endings (changed_line items r c.index_mut-line.result.now c.hold.new.line there (λ line after. after ≡ accepting_line line c.args.message) line) c.self.invariant.0,
      c.self.invariant.1 ∙ sym (addresses_set items r c.index_mut-line.result.now c.hold.new.line there (ap (λ (l : LineValue). l.address) line)),
    ))
    (λ held line. (
      subst (λ (h : HeldValue). AreHeld h.endings (set items r c.hold.new.line)) (sym held)
          (subst (λ (l : List LineValue). AreHeld c.self.inside.held.endings l) (sym (ap (set items r) line ∙ set_same items r c.index_mut-line.result.now there)) c.self.invariant.0),
      c.self.invariant.1 ∙ sym (addresses_set items r c.index_mut-line.result.now c.hold.new.line there (ap (λ (l : LineValue). l.address) line)),
    ))

pub returns-clause-line : goal.returns-clause-line
returns-clause-line c =
    let items = c.self.inside.lines.items in
    let r = c.args.key.recipient in
    let within = subst (λ (v : HoldingsValue). r < length v.lines) (sym c.self.view_is) c.requires.recipient in
    let there = slice_get_read items (length items) r c.index_mut-line.result.now refl within c.index_mut-line.ensures.value in
    on_ok c.hold.result c.hold.ensures.line (λ line.
    subst (λ (v : HoldingsValue). ChangesLine r v.lines (set items r c.hold.new.line) (λ line after. after ≡ accepting_line line c.args.message)) c.self.view_is
    (changed_line items r c.index_mut-line.result.now c.hold.new.line there (λ line after. after ≡ accepting_line line c.args.message) line))

pub returns-clause-err : goal.returns-clause-err
returns-clause-err c =
    let items = c.self.inside.lines.items in
    let r = c.args.key.recipient in
    let within = subst (λ (v : HoldingsValue). r < length v.lines) (sym c.self.view_is) c.requires.recipient in
    let there = slice_get_read items (length items) r c.index_mut-line.result.now refl within c.index_mut-line.ensures.value in
    on_err c.hold.result c.hold.ensures.err_held c.hold.ensures.err_line (λ held line.
    ap (λ (h : HeldValue). record { held = h; lines = set items r c.hold.new.line }) held
    ∙ (ap (λ (l : List LineValue). record { held = c.self.inside.held; lines = l }) (ap (set items r) line ∙ set_same items r c.index_mut-line.result.now there)
    ∙ c.self.view_is))
