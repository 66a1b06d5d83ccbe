use Rattle.std.proofs.Common.{◌≡◌, List, length, sym, ap, ◌∙◌, subst, arith}
use Rattle.std.specs.List.{filter}
use Rattle.sms_join.specs.declared.line.Opening.{Opening}
use Rattle.sms_join.specs.Inside.Slots.{sets_of}
use Rattle.sms_join.specs.Inside.Lines.{lies, InLine}
use Rattle.sms_join.proofs.InLine.{line_kept, kept_few}
use Rattle.sms_join.proofs.line.tidy.Goals as goal

kept : (c : goal.After-take_seats) → c.shrink_to.new.self.items ≡ filter (lies (sets_of c.args.slots.now.entries)) c.args.line.now.items
kept c = c.shrink_to.ensures.items ∙ c.forget_gone.ensures

in_line : (c : goal.After-take_seats) → (t : _) → InLine t c.args.line.now.items (sets_of c.args.slots.now.entries) → InLine t c.shrink_to.new.self.items (sets_of c.args.slots.now.entries)
in_line c t h =
    subst (λ (os : List Opening). InLine t os (sets_of c.args.slots.now.entries)) (sym (kept c)) (line_kept t c.args.line.now.items (sets_of c.args.slots.now.entries) h)

pub returns-clause-line : goal.returns-clause-line
returns-clause-line c = λ t h. subst (InLine t c.shrink_to.new.self.items) (sym c.take_seats.ensures.sets) (in_line c t h)

pub returns-clause-seats : goal.returns-clause-seats
returns-clause-seats c = λ t h s. c.take_seats.ensures.seats t (in_line c t h)

pub returns-clause-end : goal.returns-clause-end
returns-clause-end c =
    let few = kept_few (lies (sets_of c.args.slots.now.entries)) c.args.line.now.items in
    let same = ap (λ (l : List Opening). length l) (kept c) in
    omega (arith, few, same)
