use Rattle.std.proofs.Common.{◌≡◌, ℕ, ◌≤◌, List, sym, ap, ◌∙◌, subst, arith}
use Rattle.sms_join.specs.OpenSets.{SetValue}
use Rattle.sms_join.specs.Inside.Dropping.{DropsOld}
use Rattle.sms_join.specs.Inside.Lines.{InLine, AreInTime, AreSince, AreSeated}
use Rattle.sms_join.specs.Inside.Slots.{AreSlots, sets_of}
use Rattle.sms_join.proofs.Slots.{sets_length}
use Rattle.sms_join.proofs.Seats.{as_many_sets}
use Rattle.sms_join.specs.Inside.MostSets.{Follows}
use Rattle.sms_join.proofs.Since.{since_many, none_past}
use Rattle.sms_join.proofs.OldDropped.{time_many, fewer_dropped}
use Rattle.sms_join.proofs.open_sets.OpenSets.age.Goals as goal

pub drop_old-self-inside-requires-clause-time : goal.drop_old-self-inside-requires-clause-time
drop_old-self-inside-requires-clause-time c = λ e. (c.self.inside.latest, c.self.invariant.3 e)

pub drop_old-self-inside-requires-clause-line : goal.drop_old-self-inside-requires-clause-line
drop_old-self-inside-requires-clause-line c = (c.self.inside.turns, c.self.invariant.2)

pub give_room_back-self-inside-requires : goal.give_room_back-self-inside-requires
give_room_back-self-inside-requires c =
    subst (λ (n : ℕ). n ≤ c.self.inside.most) (sets_length c.drop_old-self-inside.new.slots.entries)
    (fewer_dropped c.args.age (sets_of c.self.inside.slots.entries) (sets_of c.drop_old-self-inside.new.slots.entries) c.self.inside.most c.drop_old-self-inside.ensures.sets
    (subst (λ (n : ℕ). n ≤ c.self.inside.most) (sym (sets_length c.self.inside.slots.entries)) c.self.invariant.1.as_many))

pub drop_old-self-inside-requires-clause-seats : goal.drop_old-self-inside-requires-clause-seats
drop_old-self-inside-requires-clause-seats c = c.self.invariant.5

pub earliest_left-self-inside-requires-clause-time : goal.earliest_left-self-inside-requires-clause-time
earliest_left-self-inside-requires-clause-time c = λ e. (
  c.self.inside.latest,
  time_many c.args.age c.drop_old-self-inside.ensures.sets.count c.self.inside.latest (sets_of c.self.inside.slots.entries) (sets_of c.drop_old-self-inside.new.slots.entries) c.drop_old-self-inside.ensures.sets.many (c.self.invariant.3 e),
)

pub earliest_left-self-inside-requires-clause-line : goal.earliest_left-self-inside-requires-clause-line
earliest_left-self-inside-requires-clause-line c = (c.self.inside.turns, c.drop_old-self-inside.ensures.line c.self.inside.turns c.self.invariant.2)

given : (c : goal.After-self-4-1) → sets_of c.tidy-self-inside.new.slots.entries ≡ sets_of c.drop_old-self-inside.new.slots.entries
given c = c.tidy-self-inside.ensures.sets ∙ ap sets_of c.give_room_back-self-inside.ensures.entries

pub invariant_of-self : goal.invariant_of-self
invariant_of-self c =
    let room : sets_of c.give_room_back-self-inside.new.slots.entries ≡ sets_of c.drop_old-self-inside.new.slots.entries = ap sets_of c.give_room_back-self-inside.ensures.entries in
    let same = given c in
    let line : InLine c.self.inside.turns c.drop_old-self-inside.new.line.items (sets_of c.give_room_back-self-inside.new.slots.entries) =
    subst (InLine c.self.inside.turns c.drop_old-self-inside.new.line.items) (sym room) (c.drop_old-self-inside.ensures.line c.self.inside.turns c.self.invariant.2) in (
      c.tidy-self-inside.ensures.slots (subst AreSlots (sym c.give_room_back-self-inside.ensures.entries) c.drop_old-self-inside.ensures.slots),
      subst (λ n. Follows n c.give_room_back-self-inside.result) (as_many_sets c.drop_old-self-inside.new.slots.entries c.tidy-self-inside.new.slots.entries (sym same)) c.give_room_back-self-inside.ensures.most,
      c.tidy-self-inside.ensures.line c.self.inside.turns line,
      λ e. subst (AreInTime c.self.inside.latest) (sym same)
          (time_many c.args.age c.drop_old-self-inside.ensures.sets.count c.self.inside.latest (sets_of c.self.inside.slots.entries) (sets_of c.drop_old-self-inside.new.slots.entries) c.drop_old-self-inside.ensures.sets.many (c.self.invariant.3 e)),
      subst (AreSince c.earliest_left-self-inside.result) (sym same)
          (c.earliest_left-self-inside.ensures (since_many c.args.age c.drop_old-self-inside.ensures.sets.count c.self.inside.earliest (sets_of c.self.inside.slots.entries) (sets_of c.drop_old-self-inside.new.slots.entries) c.drop_old-self-inside.ensures.sets.many c.self.invariant.4)),
      c.tidy-self-inside.ensures.seats c.self.inside.turns line
          (subst (AreSeated c.drop_old-self-inside.result c.drop_old-self-inside.new.line.items) (sym c.give_room_back-self-inside.ensures.entries) c.drop_old-self-inside.ensures.seats),
      (let a = c.tidy-self-inside.ensures.end in let b = c.drop_old-self-inside.ensures.end in let d = c.self.invariant.6 in omega arith),
    )

pub returns-then-not-is_past : goal.returns-then-not-is_past
returns-then-not-is_past c =
    none_past c.self.inside.earliest c.args.age c.args.self.now (subst (AreSince c.self.inside.earliest) c.self.view_is c.self.invariant.4) (sym c.is_past.ensures ∙ c.if-not-is_past.true)

pub returns : goal.returns
returns c =
    subst (λ (l : List SetValue). DropsOld c.args.age l (sets_of c.tidy-self-inside.new.slots.entries)) c.self.view_is
    (subst (DropsOld c.args.age (sets_of c.self.inside.slots.entries)) (sym (given c)) c.drop_old-self-inside.ensures.sets)
