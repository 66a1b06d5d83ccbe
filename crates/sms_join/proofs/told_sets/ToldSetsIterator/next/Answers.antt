use Rattle.std.proofs.Common.{◌≡◌, ◌+◌, ◌<◌, ◌∷◌, List, drop, length, true, false, sym, ap, ◌∙◌, subst, arith}
use Rattle.sms_join.specs.OpenSets.{SetValue}
use Rattle.sms_join.specs.Inside.Lines.{has_number, lies, walked}
use Rattle.sms_join.specs.Inside.Slots.{sets_of, set_of}
use Rattle.sms_join.proofs.Slots.{sets_some, sets_none, slot_places}
use Rattle.sms_join.proofs.Telling.{got, walk_found}
use Rattle.sms_join.proofs.told_sets.ToldSetsIterator.next.Goals as goal

-- the set of the opening is there
pub returns-in_err-key-clause-steps : goal.returns-in_err-key-clause-steps
returns-in_err-key-clause-steps c =
    let ss : List SetValue = sets_of c.self.inside.slots.now.entries in
    let at = got c.self.inside.line.now.items c.in_ok-place.place c.index.result.now c.in_ok-place.ensures.there c.index.ensures in
    let yes : lies ss c.index.result.now ≡ true = c.in_ok-place.ensures.lies c.index.result.now at in
    let no : lies ss c.index.result.now ≡ false =
    ap (λ r. has_number r c.index.result.now.turn) (sets_none c.self.inside.slots.now.entries c.index.result.now.index (sym c.in_err-key.ensures.entry)) in
    let both : true ≡ false = sym yes ∙ no in
    absurd cc

pub new-requires : goal.new-requires
new-requires c = slot_places c.self.inside.slots.now.entries c.index.result.now.index (c.in_ok-key.key.now, c.in_ok-key.slot.now) c.self.invariant (sym c.in_ok-key.ensures.entry)

pub returns-clause-steps : goal.returns-clause-steps
returns-clause-steps c =
    let ss : List SetValue = sets_of c.self.inside.slots.now.entries in
    let at = got c.self.inside.line.now.items c.in_ok-place.place c.index.result.now c.in_ok-place.ensures.there c.index.ensures in
    sym c.self.view_is
    ∙ (c.in_ok-place.ensures.passed
    ∙ (walk_found ss c.in_ok-place.place c.self.inside.line.now.items c.index.result.now (set_of (c.in_ok-key.key.now, c.in_ok-key.slot.now)) c.in_ok-place.ensures.there c.index.ensures
    (c.in_ok-place.ensures.lies c.index.result.now at)
    (sets_some c.self.inside.slots.now.entries c.index.result.now.index (c.in_ok-key.key.now, c.in_ok-key.slot.now) (sym c.in_ok-key.ensures.entry))
    ∙ ap (λ (s : SetValue). s ∷ walked ss (drop (c.in_ok-place.place + 1) c.self.inside.line.now.items)) (sym c.new.ensures)))

pub returns-clause-goes : goal.returns-clause-goes
returns-clause-goes c =
    let rest : List SetValue = walked (sets_of c.self.inside.slots.now.entries) (drop (c.in_ok-place.place + 1) c.self.inside.line.now.items) in
    let less : length rest < length c.args.self.now = subst (λ (l : List SetValue). length rest < length l) (sym (returns-clause-steps c)) (omega arith) in
    record { on = λ _. (tt, tt, less); keeps = tt; rests = λ _. tt }
