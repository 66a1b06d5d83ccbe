use Rattle.std.proofs.Common.{◌≡◌, ℕ, ◌-◌, ◌<◌, ◌≤◌, List, length, Option, sym, ap, ◌∙◌, subst}
use Rattle.std.specs.List.{swap_remove}
use Rattle.sms_join.specs.declared.key.Key.{Key}
use Rattle.sms_join.specs.OpenSets.{SetValue}
use Rattle.sms_join.specs.Inside.Slots.{SlotValue, At, AreSlots, sets_of}
use Rattle.sms_join.specs.Inside.Lines.{noted_at}
use Rattle.sms_join.proofs.Seats.{Moves, moves, moved_noted, seats_gone}
use Rattle.sms_join.proofs.Slots.{sets_length, sets_none, sets_some, sets_swapped, slots_swapped, Dropped, dropped}
use Rattle.sms_join.proofs.dropping.drop_at.Goals as goal

within : (es : List (Key × SlotValue)) (i : ℕ) → i < length (sets_of es) → i < length es
within es i l = subst (λ (n : ℕ). i < n) (sets_length es) l

all_swapped : (es fs : List (Key × SlotValue)) (i : ℕ) → Dropped es i fs → At (sets_of es) i (λ s. sets_of fs ≡ swap_remove (sets_of es) i s)
all_swapped es fs i d = λ s there. ap sets_of d.is ∙ sets_swapped es i d.own d.there s there

all_slots : (es fs : List (Key × SlotValue)) (i : ℕ) → AreSlots es → Dropped es i fs → AreSlots fs
all_slots es fs i h d = subst AreSlots (sym d.is) (slots_swapped es i d.own h d.there)

gone : (c : goal.After-seat) → Dropped c.args.slots.now.entries c.args.index c.swap_remove_index-dropped.new.self.entries
gone c =
    dropped c.args.slots.now.entries c.swap_remove_index-dropped.new.self.entries c.args.index c.swap_remove_index-dropped.result
    c.swap_remove_index-dropped.ensures.entry (within c.args.slots.now.entries c.args.index c.requires.there) c.swap_remove_index-dropped.ensures.entries

-- where the set that moves was, and at which seat its opening stands
moved : (c : goal.After-seat) → Moves c.args.front c.args.line.now.items (c.in-Some.field-0-0.now, c.in-Some.moved.now)
moved c =
    moves c.args.front c.args.slots.now.entries c.swap_remove_index-dropped.new.self.entries c.args.index (c.in-Some.field-0-0.now, c.in-Some.moved.now) c.args.line.now.items
    (within c.args.slots.now.entries c.args.index c.requires.there) (gone c) c.requires.seats (sym c.in-Some.ensures.entry)

pub note-requires-clause-there : goal.note-requires-clause-there
note-requires-clause-there c = subst (λ (n : ℕ). n - c.args.front < length c.args.line.now.items) (sym c.seat.ensures) (moved c).within

pub overflow_sub-seat : goal.overflow_sub-seat
overflow_sub-seat c = subst (λ (n : ℕ). c.args.front ≤ n) (sym c.seat.ensures) (moved c).seated.0

pub note-requires-clause-climbs : goal.note-requires-clause-climbs
note-requires-clause-climbs c = c.requires.line.1.climbs

gone-2 : (c : goal.Joined-dropped) → Dropped c.args.slots.now.entries c.args.index c.swap_remove_index-dropped.new.self.entries
gone-2 c =
    dropped c.args.slots.now.entries c.swap_remove_index-dropped.new.self.entries c.args.index c.swap_remove_index-dropped.result
    c.swap_remove_index-dropped.ensures.entry (within c.args.slots.now.entries c.args.index c.requires.there) c.swap_remove_index-dropped.ensures.entries

pub returns-in-Some-clause-slots : goal.returns-in-Some-clause-slots
returns-in-Some-clause-slots c = all_slots c.args.slots.now.entries c.swap_remove_index-dropped.new.self.entries c.args.index c.requires.slots (gone-2 c)

pub returns-in-Some-clause-sets : goal.returns-in-Some-clause-sets
returns-in-Some-clause-sets c = all_swapped c.args.slots.now.entries c.swap_remove_index-dropped.new.self.entries c.args.index (gone-2 c)

pub returns-in-Some-clause-line : goal.returns-in-Some-clause-line
returns-in-Some-clause-line c =
    let m = moves c.args.front c.args.slots.now.entries c.swap_remove_index-dropped.new.self.entries c.args.index (c.in-Some.field-0-0.now, c.in-Some.moved.now) c.args.line.now.items
    (within c.args.slots.now.entries c.args.index c.requires.there) (gone-2 c) c.requires.seats (sym c.in-Some.ensures.entry) in
    moved_noted c.args.front c.args.index c.seat.result c.args.line.now.items c.note.new.line.items (c.in-Some.field-0-0.now, c.in-Some.moved.now) m c.seat.ensures c.note.ensures
    ∙ sym (ap (λ (r : Option SetValue). noted_at r c.args.index c.args.line.now.items)
    (sets_some c.swap_remove_index-dropped.new.self.entries c.args.index (c.in-Some.field-0-0.now, c.in-Some.moved.now) (sym c.in-Some.ensures.entry)))

pub returns-in-Some-clause-seats : goal.returns-in-Some-clause-seats
returns-in-Some-clause-seats c =
    seats_gone c.args.front c.args.slots.now.entries c.swap_remove_index-dropped.new.self.entries c.args.index c.args.line.now.items c.note.new.line.items
    (within c.args.slots.now.entries c.args.index c.requires.there) (gone-2 c) c.requires.line.1.turns.apart (returns-in-Some-clause-line c) c.requires.seats

gone-3 : (c : goal.Joined-dropped-2) → Dropped c.args.slots.now.entries c.args.index c.swap_remove_index-dropped.new.self.entries
gone-3 c =
    dropped c.args.slots.now.entries c.swap_remove_index-dropped.new.self.entries c.args.index c.swap_remove_index-dropped.result
    c.swap_remove_index-dropped.ensures.entry (within c.args.slots.now.entries c.args.index c.requires.there) c.swap_remove_index-dropped.ensures.entries

pub returns-clause-slots : goal.returns-clause-slots
returns-clause-slots c = all_slots c.args.slots.now.entries c.swap_remove_index-dropped.new.self.entries c.args.index c.requires.slots (gone-3 c)

pub returns-clause-sets : goal.returns-clause-sets
returns-clause-sets c = all_swapped c.args.slots.now.entries c.swap_remove_index-dropped.new.self.entries c.args.index (gone-3 c)

pub returns-clause-line : goal.returns-clause-line
returns-clause-line c =
    sym (ap (λ (r : Option SetValue). noted_at r c.args.index c.args.line.now.items)
    (sets_none c.swap_remove_index-dropped.new.self.entries c.args.index (sym c.in_default.ensures.entry)))

pub returns-clause-seats : goal.returns-clause-seats
returns-clause-seats c =
    seats_gone c.args.front c.args.slots.now.entries c.swap_remove_index-dropped.new.self.entries c.args.index c.args.line.now.items c.args.line.now.items
    (within c.args.slots.now.entries c.args.index c.requires.there) (gone-3 c) c.requires.line.1.turns.apart (returns-clause-line c) c.requires.seats
