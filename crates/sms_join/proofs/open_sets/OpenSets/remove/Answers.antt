use Rattle.std.proofs.Common.{◌≡◌, ℕ, ◌<◌, ◌≤◌, List, length, slice_get, Some, sym, ap, ◌∙◌, subst, arith}
use Rattle.std.specs.List.{swap_remove}
use Rattle.sms_join.specs.OpenSets.{SetValue}
use Rattle.sms_join.specs.Inside.Lines.{InLine, AreInTime, AreSince, AreSeated}
use Rattle.sms_join.specs.Inside.Slots.{At, AreSlots, sets_of}
use Rattle.sms_join.proofs.InLine.{got_there, line_left, time_left}
use Rattle.sms_join.proofs.Few.{fewer_after}
use Rattle.sms_join.proofs.Since.{since_left}
use Rattle.sms_join.proofs.Slots.{sets_length}
use Rattle.sms_join.proofs.Passing.{noted_length}
use Rattle.sms_join.proofs.Seats.{as_many_sets}
use Rattle.sms_join.specs.Inside.MostSets.{Follows}
use Rattle.sms_join.proofs.open_sets.OpenSets.remove.Goals as goal

within : (c : goal.After-self-2-1) → c.args.index < length (sets_of c.self.inside.slots.entries)
within c = subst (λ (l : List SetValue). c.args.index < length l) (sym c.self.view_is) c.requires

own : (c : goal.After-self-2-1) → (s : SetValue) × (slice_get (sets_of c.self.inside.slots.entries) c.args.index ≡ Some s)
own c = got_there (sets_of c.self.inside.slots.entries) c.args.index (within c)

is : (c : goal.After-self-2-1) → sets_of c.drop_at.new.slots.entries ≡ swap_remove (sets_of c.self.inside.slots.entries) c.args.index (own c).0
is c = c.drop_at.ensures.sets (own c).0 (own c).1

pub give_room_back-self-inside-requires : goal.give_room_back-self-inside-requires
give_room_back-self-inside-requires c =
    let es = c.self.inside.slots.entries in
    let l : c.args.index < length (sets_of c.self.inside.slots.entries) = subst (λ (l : List SetValue). c.args.index < length l) (sym c.self.view_is) c.requires in
    let s = got_there (sets_of c.self.inside.slots.entries) c.args.index l in
    subst (λ (n : ℕ). n ≤ c.self.inside.most) (sets_length c.drop_at.new.slots.entries)
    (fewer_after (sets_of c.self.inside.slots.entries) c.args.index (sets_of c.drop_at.new.slots.entries) c.self.inside.most s.1 c.drop_at.ensures.sets
    (subst (λ (n : ℕ). n ≤ c.self.inside.most) (sym (sets_length c.self.inside.slots.entries)) c.self.invariant.1.as_many))

given : (c : goal.After-self-2-1) → sets_of c.give_room_back-self-inside.new.slots.entries ≡ sets_of c.drop_at.new.slots.entries
given c = ap sets_of c.give_room_back-self-inside.ensures.entries

pub invariant_of-self : goal.invariant_of-self
invariant_of-self c =
    let same : sets_of c.tidy-self-inside.new.slots.entries ≡ sets_of c.drop_at.new.slots.entries = c.tidy-self-inside.ensures.sets ∙ given c in
    let line : InLine c.self.inside.turns c.drop_at.new.line.items (sets_of c.give_room_back-self-inside.new.slots.entries) =
    subst (InLine c.self.inside.turns c.drop_at.new.line.items) (sym (given c))
    (line_left c.self.inside.turns (sets_of c.self.inside.slots.entries) (sets_of c.drop_at.new.slots.entries) c.args.index (own c).0 c.self.inside.line.items c.drop_at.new.line.items (own c).1 (is c)
    c.drop_at.ensures.line c.self.invariant.2) in
    let long = noted_length (slice_get (sets_of c.drop_at.new.slots.entries) c.args.index) c.args.index c.self.inside.line.items c.drop_at.new.line.items c.drop_at.ensures.line in (
      c.tidy-self-inside.ensures.slots (subst AreSlots (sym c.give_room_back-self-inside.ensures.entries) c.drop_at.ensures.slots),
      subst (λ n. Follows n c.give_room_back-self-inside.result) (as_many_sets c.drop_at.new.slots.entries c.tidy-self-inside.new.slots.entries (sym same)) c.give_room_back-self-inside.ensures.most,
      c.tidy-self-inside.ensures.line c.self.inside.turns line,
      λ e. subst (AreInTime c.self.inside.latest) (sym same)
          (time_left c.self.inside.latest (sets_of c.self.inside.slots.entries) (sets_of c.drop_at.new.slots.entries) c.args.index (own c).0 (within c) (is c) (c.self.invariant.3 e)),
      subst (AreSince c.self.inside.earliest) (sym same)
          (since_left c.self.inside.earliest (sets_of c.self.inside.slots.entries) (sets_of c.drop_at.new.slots.entries) c.args.index (own c).0 (within c) (is c) c.self.invariant.4),
      c.tidy-self-inside.ensures.seats c.self.inside.turns line
          (subst (AreSeated c.self.inside.front c.drop_at.new.line.items) (sym c.give_room_back-self-inside.ensures.entries) c.drop_at.ensures.seats),
      (let a = c.tidy-self-inside.ensures.end in let b = c.self.invariant.6 in omega arith),
    )

pub returns : goal.returns
returns c =
    subst (λ (l : List SetValue). At l c.args.index (λ s. sets_of c.tidy-self-inside.new.slots.entries ≡ swap_remove l c.args.index s)) c.self.view_is
    (λ s there. c.tidy-self-inside.ensures.sets ∙ (given c ∙ c.drop_at.ensures.sets s there))
