use Rattle.std.proofs.Common.{◌≡◌, ◌-◌, ◌≤◌, false, List, length, slice_get, Some, refl, sym, ap, ◌∙◌, subst}
use Rattle.std.proofs.Math.ListN.{set}
use Rattle.indexmap.specs.IndexMap.{set_value_at}
use Rattle.indexmap.specs.Layout.{length-set_value_at}
use Rattle.sms_join.specs.Inside.MostSets.{Follows}
use Rattle.sms_join.specs.Inside.Lines.{InLine, AreInTime, AreSince}
use Rattle.sms_join.proofs.InLine.{line_put, time_put}
use Rattle.sms_join.proofs.Since.{since_put}
use Rattle.sms_join.proofs.Seats.{seats_put}
use Rattle.sms_join.specs.OpenSets.{SetValue, is_in, with_piece}
use Rattle.sms_join.specs.OpenSets.Places.{filled_from}
use Rattle.sms_join.specs.Inside.Slots.{SlotValue, At, HasPlace, set_of, sets_of}
use Rattle.sms_join.proofs.Slots.{place_in, place_at, missing_at, places_length, slots_stay, set_changes, set_more}
use Rattle.sms_join.proofs.open_sets.OpenSets.put.Goals.{After-self-1}
use Rattle.sms_join.proofs.open_sets.OpenSets.put.Goals as goal

pub index_mut-requires : goal.index_mut-requires
index_mut-requires c =
    place_in c.self.inside.slots.entries c.args.index c.args.sequence
    (subst (λ (l : List SetValue). HasPlace l c.args.index c.args.sequence) (sym c.self.view_is) c.requires.place)

pub put-requires-clause-last : goal.put-requires-clause-last
put-requires-clause-last c =
    place_at c.self.inside.slots.entries c.args.index c.index_mut.result.now c.args.sequence c.self.invariant.0 c.index_mut.ensures.value
    (subst (λ (l : List SetValue). HasPlace l c.args.index c.args.sequence) (sym c.self.view_is) c.requires.place)

pub put-requires-clause-missing : goal.put-requires-clause-missing
put-requires-clause-missing c =
    missing_at c.self.inside.slots.entries c.args.index c.index_mut.result.now c.args.sequence c.self.invariant.0 c.index_mut.ensures.value
    (subst (λ (l : List SetValue). At l c.args.index (λ s. is_in c.args.sequence s.sequences ≡ false)) (sym c.self.view_is) c.requires.missing)

own : (c : After-self-1) → (s : SetValue) × (slice_get (sets_of c.self.inside.slots.entries) c.args.index ≡ Some s)
own c =
    let p : HasPlace (sets_of c.self.inside.slots.entries) c.args.index c.args.sequence =
    subst (λ (l : List SetValue). HasPlace l c.args.index c.args.sequence) (sym c.self.view_is) c.requires.place in
    (p.own, p.there)

change : (c : After-self-1) → At (sets_of c.self.inside.slots.entries) c.args.index (λ s. sets_of (set_value_at c.self.inside.slots.entries c.args.index c.put.new.self)
    ≡ set (sets_of c.self.inside.slots.entries) c.args.index (with_piece s c.args.sequence c.args.units))
change c =
    let last : c.args.sequence ≤ length c.index_mut.result.now.places =
    place_at c.self.inside.slots.entries c.args.index c.index_mut.result.now c.args.sequence c.self.invariant.0 c.index_mut.ensures.value
    (subst (λ (l : List SetValue). HasPlace l c.args.index c.args.sequence) (sym c.self.view_is) c.requires.place) in
    let missing : is_in c.args.sequence (filled_from 1 c.index_mut.result.now.places) ≡ false =
    missing_at c.self.inside.slots.entries c.args.index c.index_mut.result.now c.args.sequence c.self.invariant.0 c.index_mut.ensures.value
    (subst (λ (l : List SetValue). At l c.args.index (λ s. is_in c.args.sequence s.sequences ≡ false)) (sym c.self.view_is) c.requires.missing) in
    set_changes c.self.inside.slots.entries c.args.index c.index_mut.result.now c.put.new.self c.self.invariant.0 c.index_mut.ensures.value
    (λ (s : SetValue). with_piece s c.args.sequence c.args.units)
    (λ k e. ap (λ (w : SlotValue). set_of (k, w)) c.put.ensures
    ∙ set_more k c.index_mut.result.now.opened c.index_mut.result.now.turn c.args.sequence c.index_mut.result.now.places c.args.units c.requires.place.from_one last missing)

changed : (c : After-self-1) → sets_of (set_value_at c.self.inside.slots.entries c.args.index c.put.new.self)
    ≡ set (sets_of c.self.inside.slots.entries) c.args.index (with_piece (own c).0 c.args.sequence c.args.units)
changed c = change c (own c).0 (own c).1

pub invariant_of-self : goal.invariant_of-self
invariant_of-self c = (
  slots_stay c.self.inside.slots.entries c.args.index c.index_mut.result.now c.put.new.self c.self.invariant.0 c.index_mut.ensures.value
      (ap (λ (v : SlotValue). length v.places) c.put.ensures ∙ places_length c.index_mut.result.now.places (c.args.sequence - 1) (Some c.args.units)),
  subst (λ n. Follows n c.self.inside.most) (sym (length-set_value_at c.self.inside.slots.entries c.args.index c.put.new.self)) c.self.invariant.1,
  subst (InLine c.self.inside.turns c.self.inside.line.items) (sym (changed c))
      (line_put c.self.inside.turns c.self.inside.line.items (sets_of c.self.inside.slots.entries) c.args.index (own c).0 (with_piece (own c).0 c.args.sequence c.args.units) (own c).1 refl c.self.invariant.2),
  λ e. subst (AreInTime c.self.inside.latest) (sym (changed c))
      (time_put c.self.inside.latest (sets_of c.self.inside.slots.entries) c.args.index (own c).0 (with_piece (own c).0 c.args.sequence c.args.units) (own c).1 refl refl (c.self.invariant.3 e)),
  subst (AreSince c.self.inside.earliest) (sym (changed c))
      (since_put c.self.inside.earliest (sets_of c.self.inside.slots.entries) c.args.index (own c).0 (with_piece (own c).0 c.args.sequence c.args.units) (own c).1 refl c.self.invariant.4),
  seats_put c.self.inside.front c.self.inside.line.items c.self.inside.slots.entries c.args.index c.index_mut.result.now c.put.new.self c.index_mut.ensures.value
      (ap (λ (v : SlotValue). v.turn) c.put.ensures) (ap (λ (v : SlotValue). v.seat) c.put.ensures) c.self.invariant.5,
  c.self.invariant.6,
)

pub returns : goal.returns
returns c =
    subst (λ (l : List SetValue). At l c.args.index (λ s. sets_of (set_value_at c.self.inside.slots.entries c.args.index c.put.new.self)
    ≡ set l c.args.index (with_piece s c.args.sequence c.args.units))) c.self.view_is (change c)
