-- A piece of a set that is open, or of one that finished lately.
use Rattle.std.proofs.Common.{◌≡◌, ℕ, false, List, ◌∷◌, take, Ok, sym, ap, ◌∙◌, subst}
use Rattle.std.proofs.Math.ListN.{set}
use Rattle.std.proofs.lemmas.Result.{err_from_is_err_and}
use Rattle.std.specs.Str.{chars}
use Rattle.std.specs.String.{string_bytes}
use Rattle.std.specs.Prelude.{option_copied}
use Rattle.sms_join.specs.declared.key.Key.{Key}
use Rattle.sms_join.specs.declared.offer.Offer.TheVariants as offers
use Rattle.sms_join.specs.Piece.{piece_to, key_to, sequence_of}
use Rattle.sms_join.specs.Joiner.Sets.{is_open}
use Rattle.sms_join.specs.Joiner.{Joiner, offered}
use Rattle.sms_join.specs.Joiner.Value.{JoinerValue}
use Rattle.sms_join.specs.Joiner.Same.{IsSame}
use Rattle.sms_join.specs.Inside.LastKeys.{LastKeysValue}
use Rattle.sms_join.specs.Inside.Turns.{arranged}
use Rattle.sms_join.specs.OpenSets.{with_piece}
use Rattle.sms_join.specs.OpenSets.Offered.{without_set, TellsKept}
use Rattle.sms_join.specs.Joiner.Offering.{Says}
use Rattle.sms_join.proofs.SetPieces.{others_closed}
use Rattle.sms_join.proofs.Few.{as_many_after, fewer_after}
use Rattle.sms_join.proofs.Places.{none_found}
use Rattle.sms_join.proofs.Offering.{tells_put, tells_left}
use Rattle.sms_join.proofs.Outcomes.{joiner_of, says_repeat, remembered_repeats}
use Rattle.sms_join.proofs.Same.{same_refl}
use Rattle.sms_join.proofs.Offers.{in_place, says_again, says_keeping, says_text, whole_memory, knows, known_place, known_repeat, missing, known_kept, known_whole, known_finish, known_text}
use Rattle.sms_join.proofs.keeper.Keeper.offer.Goals as goal

pub returns-then-contains-clause-says : goal.returns-then-contains-clause-says
returns-then-contains-clause-says c =
    subst (λ (v : JoinerValue). Says v.open_max v.holds (piece_to c.args.now (option_copied c.args.to) c.args.origin.now c.args.stamp c.args.concat c.args.units) (Ok offers.Repeat)) c.self.view_is
    (says_again c.self.inside.open_max (joiner_of c.self.inside.sets c.self.inside.finished.keys) (piece_to c.args.now (option_copied c.args.to) c.args.origin.now c.args.stamp c.args.concat c.args.units) (says_repeat c.self.inside.open_max c.self.inside.finished.limit (joiner_of c.self.inside.sets c.self.inside.finished.keys) (piece_to c.args.now (option_copied c.args.to) c.args.origin.now c.args.stamp c.args.concat c.args.units) (remembered_repeats (joiner_of c.self.inside.sets c.self.inside.finished.keys) (piece_to c.args.now (option_copied c.args.to) c.args.origin.now c.args.stamp c.args.concat c.args.units) (sym c.contains.ensures ∙ c.if-contains.true))).0)

pub returns-then-contains-clause-holds : goal.returns-then-contains-clause-holds
returns-then-contains-clause-holds c =
    subst (λ (v : JoinerValue). IsSame v.holds (offered v.open_max v.remembered v.holds (piece_to c.args.now (option_copied c.args.to) c.args.origin.now c.args.stamp c.args.concat c.args.units))) c.self.view_is
    (subst (λ (j : Joiner). IsSame (joiner_of c.self.inside.sets c.self.inside.finished.keys) j) (sym (says_repeat c.self.inside.open_max c.self.inside.finished.limit (joiner_of c.self.inside.sets c.self.inside.finished.keys) (piece_to c.args.now (option_copied c.args.to) c.args.origin.now c.args.stamp c.args.concat c.args.units) (remembered_repeats (joiner_of c.self.inside.sets c.self.inside.finished.keys) (piece_to c.args.now (option_copied c.args.to) c.args.origin.now c.args.stamp c.args.concat c.args.units) (sym c.contains.ensures ∙ c.if-contains.true))).1) (same_refl (joiner_of c.self.inside.sets c.self.inside.finished.keys)))

pub begin-requires-clause-closed : goal.begin-requires-clause-closed
begin-requires-clause-closed c =
    subst (λ (v : JoinerValue). is_open v.holds.kept (key_to (option_copied c.args.to) c.args.origin.now c.args.stamp c.args.concat) ≡ false) c.self.view_is
    (others_closed c.self.inside.sets (key_to (option_copied c.args.to) c.args.origin.now c.args.stamp c.args.concat) (none_found c.self.inside.sets (key_to (option_copied c.args.to) c.args.origin.now c.args.stamp c.args.concat) (sym c.find.ensures ∙ c.in_default.is)))

pub has-requires : goal.has-requires
has-requires c =
    known_place c.self.inside.open_max c.self.inside.finished c.self.inside.sets (piece_to c.args.now (option_copied c.args.to) c.args.origin.now c.args.stamp c.args.concat c.args.units) c.in-Some.index c.sequence_of-sequence.result
    (knows c.self.inside.finished c.self.inside.sets (piece_to c.args.now (option_copied c.args.to) c.args.origin.now c.args.stamp c.args.concat c.args.units) c.in-Some.index c.sequence_of-sequence.result c.self.invariant.0
    (in_place c.args.now (option_copied c.args.to) c.args.origin.now c.args.stamp c.args.concat c.args.units c.requires) c.find.result c.in-Some.is c.find.ensures
    c.contains.result c.contains.ensures c.if-contains.false c.sequence_of-sequence.ensures)

pub returns-then-has-clause-says : goal.returns-then-has-clause-says
returns-then-has-clause-says c =
    says_again c.args.self.now.open_max c.args.self.now.holds (piece_to c.args.now (option_copied c.args.to) c.args.origin.now c.args.stamp c.args.concat c.args.units)
    (known_repeat c.self.inside.open_max c.self.inside.finished c.self.inside.sets (piece_to c.args.now (option_copied c.args.to) c.args.origin.now c.args.stamp c.args.concat c.args.units) c.in-Some.index c.sequence_of-sequence.result
    (knows c.self.inside.finished c.self.inside.sets (piece_to c.args.now (option_copied c.args.to) c.args.origin.now c.args.stamp c.args.concat c.args.units) c.in-Some.index c.sequence_of-sequence.result c.self.invariant.0
    (in_place c.args.now (option_copied c.args.to) c.args.origin.now c.args.stamp c.args.concat c.args.units c.requires) c.find.result c.in-Some.is c.find.ensures
    c.contains.result c.contains.ensures c.if-contains.false c.sequence_of-sequence.ensures)
    c.args.self.now c.self.view_is c.has.result c.has.ensures c.if-has.true).0

pub returns-then-has-clause-holds : goal.returns-then-has-clause-holds
returns-then-has-clause-holds c =
    (known_repeat c.self.inside.open_max c.self.inside.finished c.self.inside.sets (piece_to c.args.now (option_copied c.args.to) c.args.origin.now c.args.stamp c.args.concat c.args.units) c.in-Some.index c.sequence_of-sequence.result
    (knows c.self.inside.finished c.self.inside.sets (piece_to c.args.now (option_copied c.args.to) c.args.origin.now c.args.stamp c.args.concat c.args.units) c.in-Some.index c.sequence_of-sequence.result c.self.invariant.0
    (in_place c.args.now (option_copied c.args.to) c.args.origin.now c.args.stamp c.args.concat c.args.units c.requires) c.find.result c.in-Some.is c.find.ensures
    c.contains.result c.contains.ensures c.if-contains.false c.sequence_of-sequence.ensures)
    c.args.self.now c.self.view_is c.has.result c.has.ensures c.if-has.true).1

pub put-requires-clause-place : goal.put-requires-clause-place
put-requires-clause-place c =
    known_place c.self.inside.open_max c.self.inside.finished c.self.inside.sets (piece_to c.args.now (option_copied c.args.to) c.args.origin.now c.args.stamp c.args.concat c.args.units) c.in-Some.index c.sequence_of-sequence.result
    (knows c.self.inside.finished c.self.inside.sets (piece_to c.args.now (option_copied c.args.to) c.args.origin.now c.args.stamp c.args.concat c.args.units) c.in-Some.index c.sequence_of-sequence.result c.self.invariant.0
    (in_place c.args.now (option_copied c.args.to) c.args.origin.now c.args.stamp c.args.concat c.args.units c.requires) c.find.result c.in-Some.is c.find.ensures
    c.contains.result c.contains.ensures c.if-contains.false c.sequence_of-sequence.ensures)

pub put-requires-clause-missing : goal.put-requires-clause-missing
put-requires-clause-missing c =
    missing c.self.inside.open_max c.self.inside.finished c.self.inside.sets (piece_to c.args.now (option_copied c.args.to) c.args.origin.now c.args.stamp c.args.concat c.args.units) c.in-Some.index c.sequence_of-sequence.result
    (knows c.self.inside.finished c.self.inside.sets (piece_to c.args.now (option_copied c.args.to) c.args.origin.now c.args.stamp c.args.concat c.args.units) c.in-Some.index c.sequence_of-sequence.result c.self.invariant.0
    (in_place c.args.now (option_copied c.args.to) c.args.origin.now c.args.stamp c.args.concat c.args.units c.requires) c.find.result c.in-Some.is c.find.ensures
    c.contains.result c.contains.ensures c.if-contains.false c.sequence_of-sequence.ensures)
    c.has.result c.has.ensures c.if-has.false

pub invariant_of-self : goal.invariant_of-self
invariant_of-self c = (
  (known_kept c.self.inside.open_max c.self.inside.finished c.self.inside.sets (piece_to c.args.now (option_copied c.args.to) c.args.origin.now c.args.stamp c.args.concat c.args.units) c.in-Some.index c.sequence_of-sequence.result
      (knows c.self.inside.finished c.self.inside.sets (piece_to c.args.now (option_copied c.args.to) c.args.origin.now c.args.stamp c.args.concat c.args.units) c.in-Some.index c.sequence_of-sequence.result c.self.invariant.0
      (in_place c.args.now (option_copied c.args.to) c.args.origin.now c.args.stamp c.args.concat c.args.units c.requires) c.find.result c.in-Some.is c.find.ensures
      c.contains.result c.contains.ensures c.if-contains.false c.sequence_of-sequence.ensures)
      c.args.self.now c.self.view_is c.has.result c.has.ensures c.if-has.false c.lacks_one.result c.lacks_one.ensures c.if-not-lacks_one.true c.put.new.self c.put.ensures).0,
  as_many_after c.self.inside.sets c.in-Some.index c.put.new.self c.self.inside.open_max _
      (knows c.self.inside.finished c.self.inside.sets (piece_to c.args.now (option_copied c.args.to) c.args.origin.now c.args.stamp c.args.concat c.args.units) c.in-Some.index c.sequence_of-sequence.result c.self.invariant.0
      (in_place c.args.now (option_copied c.args.to) c.args.origin.now c.args.stamp c.args.concat c.args.units c.requires) c.find.result c.in-Some.is c.find.ensures
      c.contains.result c.contains.ensures c.if-contains.false c.sequence_of-sequence.ensures).found.there c.put.ensures c.self.invariant.1,
)

pub returns-then-not-lacks_one-clause-says : goal.returns-then-not-lacks_one-clause-says
returns-then-not-lacks_one-clause-says c =
    says_keeping c.args.self.now.open_max c.args.self.now.holds (piece_to c.args.now (option_copied c.args.to) c.args.origin.now c.args.stamp c.args.concat c.args.units)
    (known_kept c.self.inside.open_max c.self.inside.finished c.self.inside.sets (piece_to c.args.now (option_copied c.args.to) c.args.origin.now c.args.stamp c.args.concat c.args.units) c.in-Some.index c.sequence_of-sequence.result
    (knows c.self.inside.finished c.self.inside.sets (piece_to c.args.now (option_copied c.args.to) c.args.origin.now c.args.stamp c.args.concat c.args.units) c.in-Some.index c.sequence_of-sequence.result c.self.invariant.0
    (in_place c.args.now (option_copied c.args.to) c.args.origin.now c.args.stamp c.args.concat c.args.units c.requires) c.find.result c.in-Some.is c.find.ensures
    c.contains.result c.contains.ensures c.if-contains.false c.sequence_of-sequence.ensures)
    c.args.self.now c.self.view_is c.has.result c.has.ensures c.if-has.false c.lacks_one.result c.lacks_one.ensures c.if-not-lacks_one.true c.put.new.self c.put.ensures).1

pub returns-then-not-lacks_one-clause-holds : goal.returns-then-not-lacks_one-clause-holds
returns-then-not-lacks_one-clause-holds c =
    (known_kept c.self.inside.open_max c.self.inside.finished c.self.inside.sets (piece_to c.args.now (option_copied c.args.to) c.args.origin.now c.args.stamp c.args.concat c.args.units) c.in-Some.index c.sequence_of-sequence.result
    (knows c.self.inside.finished c.self.inside.sets (piece_to c.args.now (option_copied c.args.to) c.args.origin.now c.args.stamp c.args.concat c.args.units) c.in-Some.index c.sequence_of-sequence.result c.self.invariant.0
    (in_place c.args.now (option_copied c.args.to) c.args.origin.now c.args.stamp c.args.concat c.args.units c.requires) c.find.result c.in-Some.is c.find.ensures
    c.contains.result c.contains.ensures c.if-contains.false c.sequence_of-sequence.ensures)
    c.args.self.now c.self.view_is c.has.result c.has.ensures c.if-has.false c.lacks_one.result c.lacks_one.ensures c.if-not-lacks_one.true c.put.new.self c.put.ensures).2

pub returns-in_err-text-clause-says : goal.returns-in_err-text-clause-says
returns-in_err-text-clause-says c =
    let p = err_from_is_err_and c.from_residual.result c.from_residual.ensures.1 in
    rw (p.1, p.2) (whole_memory c.args.self.now.open_max c.args.self.now.holds (piece_to c.args.now (option_copied c.args.to) c.args.origin.now c.args.stamp c.args.concat c.args.units) (with_piece (knows c.self.inside.finished c.self.inside.sets (piece_to c.args.now (option_copied c.args.to) c.args.origin.now c.args.stamp c.args.concat c.args.units) c.in-Some.index c.sequence_of-sequence.result c.self.invariant.0
    (in_place c.args.now (option_copied c.args.to) c.args.origin.now c.args.stamp c.args.concat c.args.units c.requires) c.find.result c.in-Some.is c.find.ensures
    c.contains.result c.contains.ensures c.if-contains.false c.sequence_of-sequence.ensures).own (sequence_of c.args.concat) c.args.units).units
    (known_whole c.self.inside.open_max c.self.inside.finished c.self.inside.sets (piece_to c.args.now (option_copied c.args.to) c.args.origin.now c.args.stamp c.args.concat c.args.units) c.in-Some.index c.sequence_of-sequence.result
    (knows c.self.inside.finished c.self.inside.sets (piece_to c.args.now (option_copied c.args.to) c.args.origin.now c.args.stamp c.args.concat c.args.units) c.in-Some.index c.sequence_of-sequence.result c.self.invariant.0
    (in_place c.args.now (option_copied c.args.to) c.args.origin.now c.args.stamp c.args.concat c.args.units c.requires) c.find.result c.in-Some.is c.find.ensures
    c.contains.result c.contains.ensures c.if-contains.false c.sequence_of-sequence.ensures)
    c.args.self.now c.self.view_is c.has.result c.has.ensures c.if-has.false c.lacks_one.result c.lacks_one.ensures c.if-not-lacks_one.false))

pub invariant_of-self-2 : goal.invariant_of-self-2
invariant_of-self-2 c = (
  (known_finish c.self.inside.open_max c.self.inside.finished c.self.inside.sets (piece_to c.args.now (option_copied c.args.to) c.args.origin.now c.args.stamp c.args.concat c.args.units) c.in-Some.index c.sequence_of-sequence.result
      (knows c.self.inside.finished c.self.inside.sets (piece_to c.args.now (option_copied c.args.to) c.args.origin.now c.args.stamp c.args.concat c.args.units) c.in-Some.index c.sequence_of-sequence.result c.self.invariant.0
      (in_place c.args.now (option_copied c.args.to) c.args.origin.now c.args.stamp c.args.concat c.args.units c.requires) c.find.result c.in-Some.is c.find.ensures
      c.contains.result c.contains.ensures c.if-contains.false c.sequence_of-sequence.ensures)
      c.args.self.now c.self.view_is c.has.result c.has.ensures c.if-has.false c.lacks_one.result c.lacks_one.ensures c.if-not-lacks_one.false c.remove.new.self c.remove.ensures).0,
  fewer_after c.self.inside.sets c.in-Some.index c.remove.new.self c.self.inside.open_max
      (knows c.self.inside.finished c.self.inside.sets (piece_to c.args.now (option_copied c.args.to) c.args.origin.now c.args.stamp c.args.concat c.args.units) c.in-Some.index c.sequence_of-sequence.result c.self.invariant.0
      (in_place c.args.now (option_copied c.args.to) c.args.origin.now c.args.stamp c.args.concat c.args.units c.requires) c.find.result c.in-Some.is c.find.ensures
      c.contains.result c.contains.ensures c.if-contains.false c.sequence_of-sequence.ensures).found.there c.remove.ensures c.self.invariant.1,
)

pub returns-clause-says : goal.returns-clause-says
returns-clause-says c =
    says_text c.args.self.now.open_max c.args.self.now.holds (piece_to c.args.now (option_copied c.args.to) c.args.origin.now c.args.stamp c.args.concat c.args.units) (with_piece (knows c.self.inside.finished c.self.inside.sets (piece_to c.args.now (option_copied c.args.to) c.args.origin.now c.args.stamp c.args.concat c.args.units) c.in-Some.index c.sequence_of-sequence.result c.self.invariant.0
    (in_place c.args.now (option_copied c.args.to) c.args.origin.now c.args.stamp c.args.concat c.args.units c.requires) c.find.result c.in-Some.is c.find.ensures
    c.contains.result c.contains.ensures c.if-contains.false c.sequence_of-sequence.ensures).own (sequence_of c.args.concat) c.args.units).units c.in_ok-text.text
    (known_whole c.self.inside.open_max c.self.inside.finished c.self.inside.sets (piece_to c.args.now (option_copied c.args.to) c.args.origin.now c.args.stamp c.args.concat c.args.units) c.in-Some.index c.sequence_of-sequence.result
    (knows c.self.inside.finished c.self.inside.sets (piece_to c.args.now (option_copied c.args.to) c.args.origin.now c.args.stamp c.args.concat c.args.units) c.in-Some.index c.sequence_of-sequence.result c.self.invariant.0
    (in_place c.args.now (option_copied c.args.to) c.args.origin.now c.args.stamp c.args.concat c.args.units c.requires) c.find.result c.in-Some.is c.find.ensures
    c.contains.result c.contains.ensures c.if-contains.false c.sequence_of-sequence.ensures)
    c.args.self.now c.self.view_is c.has.result c.has.ensures c.if-has.false c.lacks_one.result c.lacks_one.ensures c.if-not-lacks_one.false)
    (known_text c.self.inside.open_max c.self.inside.finished c.self.inside.sets (piece_to c.args.now (option_copied c.args.to) c.args.origin.now c.args.stamp c.args.concat c.args.units) c.in-Some.index c.sequence_of-sequence.result
    (knows c.self.inside.finished c.self.inside.sets (piece_to c.args.now (option_copied c.args.to) c.args.origin.now c.args.stamp c.args.concat c.args.units) c.in-Some.index c.sequence_of-sequence.result c.self.invariant.0
    (in_place c.args.now (option_copied c.args.to) c.args.origin.now c.args.stamp c.args.concat c.args.units c.requires) c.find.result c.in-Some.is c.find.ensures
    c.contains.result c.contains.ensures c.if-contains.false c.sequence_of-sequence.ensures)
    c.args.self.now c.self.view_is c.has.result c.has.ensures c.if-has.false c.lacks_one.result c.lacks_one.ensures c.if-not-lacks_one.false (chars (string_bytes c.in_ok-text.text)) c.in_ok-text.ensures)

pub returns-clause-holds : goal.returns-clause-holds
returns-clause-holds c =
    subst (λ (ks : List Key). IsSame (joiner_of c.remove.new.self ks) (offered c.args.self.now.open_max c.args.self.now.remembered c.args.self.now.holds (piece_to c.args.now (option_copied c.args.to) c.args.origin.now c.args.stamp c.args.concat c.args.units)))
    (sym (ap (λ (l : LastKeysValue). l.keys) c.push.ensures ∙ ap (λ (k : Key). take c.self.inside.finished.limit (k ∷ c.self.inside.finished.keys)) c.of-key.ensures))
    (known_finish c.self.inside.open_max c.self.inside.finished c.self.inside.sets (piece_to c.args.now (option_copied c.args.to) c.args.origin.now c.args.stamp c.args.concat c.args.units) c.in-Some.index c.sequence_of-sequence.result
    (knows c.self.inside.finished c.self.inside.sets (piece_to c.args.now (option_copied c.args.to) c.args.origin.now c.args.stamp c.args.concat c.args.units) c.in-Some.index c.sequence_of-sequence.result c.self.invariant.0
    (in_place c.args.now (option_copied c.args.to) c.args.origin.now c.args.stamp c.args.concat c.args.units c.requires) c.find.result c.in-Some.is c.find.ensures
    c.contains.result c.contains.ensures c.if-contains.false c.sequence_of-sequence.ensures)
    c.args.self.now c.self.view_is c.has.result c.has.ensures c.if-has.false c.lacks_one.result c.lacks_one.ensures c.if-not-lacks_one.false c.remove.new.self c.remove.ensures).1

pub returns-then-not-lacks_one-clause-told : goal.returns-then-not-lacks_one-clause-told
returns-then-not-lacks_one-clause-told c =
    let k = (knows c.self.inside.finished c.self.inside.sets (piece_to c.args.now (option_copied c.args.to) c.args.origin.now c.args.stamp c.args.concat c.args.units) c.in-Some.index c.sequence_of-sequence.result c.self.invariant.0
    (in_place c.args.now (option_copied c.args.to) c.args.origin.now c.args.stamp c.args.concat c.args.units c.requires) c.find.result c.in-Some.is c.find.ensures
    c.contains.result c.contains.ensures c.if-contains.false c.sequence_of-sequence.ensures) in
    subst (λ (v : JoinerValue). TellsKept (arranged v.told) (arranged c.put.new.self) (piece_to c.args.now (option_copied c.args.to) c.args.origin.now c.args.stamp c.args.concat c.args.units)) c.self.view_is
    (tells_put c.self.inside.sets c.put.new.self c.in-Some.index k.own (piece_to c.args.now (option_copied c.args.to) c.args.origin.now c.args.stamp c.args.concat c.args.units) c.self.invariant.0 k.found
    (c.put.ensures k.own k.found.there
    ∙ ap (λ (n : ℕ). set c.self.inside.sets c.in-Some.index (with_piece k.own n c.args.units)) c.sequence_of-sequence.ensures))

pub returns-clause-told : goal.returns-clause-told
returns-clause-told c =
    let k = (knows c.self.inside.finished c.self.inside.sets (piece_to c.args.now (option_copied c.args.to) c.args.origin.now c.args.stamp c.args.concat c.args.units) c.in-Some.index c.sequence_of-sequence.result c.self.invariant.0
    (in_place c.args.now (option_copied c.args.to) c.args.origin.now c.args.stamp c.args.concat c.args.units c.requires) c.find.result c.in-Some.is c.find.ensures
    c.contains.result c.contains.ensures c.if-contains.false c.sequence_of-sequence.ensures) in
    subst (λ (v : JoinerValue). arranged c.remove.new.self ≡ without_set (key_to (option_copied c.args.to) c.args.origin.now c.args.stamp c.args.concat) (arranged v.told)) c.self.view_is
    (tells_left c.self.inside.sets c.remove.new.self c.have_turns.ensures.0 c.in-Some.index k.own (key_to (option_copied c.args.to) c.args.origin.now c.args.stamp c.args.concat) c.self.invariant.0 c.have_turns.ensures.1 k.found
    (c.remove.ensures k.own k.found.there))
