-- A key that is remembered, a set of the key, or none.
use Rattle.std.proofs.Common.{◌≡◌, false, not, [], refl, sym, ap, ◌∙◌, subst}
use Rattle.std.specs.Prelude.{◌==◌, option_copied}
use Rattle.sms_join.specs.declared.units.Units.TheVariants.{Gsm}
use Rattle.sms_join.specs.Piece.{Piece, piece_to, key_to}
use Rattle.sms_join.specs.Joiner.Value.{JoinerValue}
use Rattle.sms_join.specs.Joiner.Finishing.{would_finish}
use Rattle.sms_join.proofs.Places.{none_found}
use Rattle.sms_join.proofs.Outcomes.{joiner_of, remembered_repeats}
use Rattle.sms_join.proofs.Offers.{in_place, size_is, knows, known_place}
use Rattle.sms_join.proofs.Finishing.{repeat_finishes_none, alone_finishes, known_lack, known_come}
use Rattle.sms_join.proofs.keeper.Keeper.would_finish.Goals as goal

pub returns-then-contains : goal.returns-then-contains
returns-then-contains c = λ now units.
    let p : Piece = piece_to now (option_copied c.args.to) c.args.origin.now c.args.stamp c.args.concat units in
    subst (λ (v : JoinerValue). false ≡ would_finish v.holds p) c.self.view_is
    (repeat_finishes_none (joiner_of c.self.inside.sets c.self.inside.finished.keys) p
    (remembered_repeats (joiner_of c.self.inside.sets c.self.inside.finished.keys) p (sym c.contains.ensures ∙ c.if-contains.true)))

pub returns-in_default : goal.returns-in_default
returns-in_default c = λ now units.
    let p : Piece = piece_to now (option_copied c.args.to) c.args.origin.now c.args.stamp c.args.concat units in
    subst (λ (v : JoinerValue). (c.size_of.result == 1) ≡ would_finish v.holds p) c.self.view_is
    (alone_finishes c.self.inside.sets c.self.inside.finished.keys p (in_place now (option_copied c.args.to) c.args.origin.now c.args.stamp c.args.concat units c.requires) c.self.invariant.0
    (sym c.contains.ensures ∙ c.if-contains.false)
    (none_found c.self.inside.sets (key_to (option_copied c.args.to) c.args.origin.now c.args.stamp c.args.concat) (sym c.find.ensures ∙ c.in_default.is))
    c.size_of.result (c.size_of.ensures ∙ size_is (option_copied c.args.to) c.args.origin.now c.args.stamp c.args.concat) _ refl)

pub has-requires : goal.has-requires
has-requires c =
    known_place 0 c.self.inside.finished c.self.inside.sets (piece_to 0 (option_copied c.args.to) c.args.origin.now c.args.stamp c.args.concat (Gsm [])) c.in-Some.index c.sequence_of.result
    (knows c.self.inside.finished c.self.inside.sets (piece_to 0 (option_copied c.args.to) c.args.origin.now c.args.stamp c.args.concat (Gsm [])) c.in-Some.index c.sequence_of.result c.self.invariant.0
    (in_place 0 (option_copied c.args.to) c.args.origin.now c.args.stamp c.args.concat (Gsm []) c.requires) c.find.result c.in-Some.is c.find.ensures
    c.contains.result c.contains.ensures c.if-contains.false c.sequence_of.ensures)

pub returns-then-not-has : goal.returns-then-not-has
returns-then-not-has c = λ now units.
    subst (λ (v : JoinerValue). c.lacks_one.result ≡ would_finish v.holds (piece_to now (option_copied c.args.to) c.args.origin.now c.args.stamp c.args.concat units)) c.self.view_is
    (known_lack 0 c.self.inside.finished c.self.inside.sets (piece_to now (option_copied c.args.to) c.args.origin.now c.args.stamp c.args.concat units) c.in-Some.index c.sequence_of.result
    (knows c.self.inside.finished c.self.inside.sets (piece_to now (option_copied c.args.to) c.args.origin.now c.args.stamp c.args.concat units) c.in-Some.index c.sequence_of.result c.self.invariant.0
    (in_place now (option_copied c.args.to) c.args.origin.now c.args.stamp c.args.concat units c.requires) c.find.result c.in-Some.is c.find.ensures
    c.contains.result c.contains.ensures c.if-contains.false c.sequence_of.ensures) c.has.result c.has.ensures c.lacks_one.result c.lacks_one.ensures c.if-not-has.true)

pub returns-else-not-has : goal.returns-else-not-has
returns-else-not-has c = λ now units.
    subst (λ (v : JoinerValue). not c.has.result ≡ would_finish v.holds (piece_to now (option_copied c.args.to) c.args.origin.now c.args.stamp c.args.concat units)) c.self.view_is
    (ap not c.if-not-has.false ∙ known_come 0 c.self.inside.finished c.self.inside.sets (piece_to now (option_copied c.args.to) c.args.origin.now c.args.stamp c.args.concat units) c.in-Some.index c.sequence_of.result
    (knows c.self.inside.finished c.self.inside.sets (piece_to now (option_copied c.args.to) c.args.origin.now c.args.stamp c.args.concat units) c.in-Some.index c.sequence_of.result c.self.invariant.0
    (in_place now (option_copied c.args.to) c.args.origin.now c.args.stamp c.args.concat units c.requires) c.find.result c.in-Some.is c.find.ensures
    c.contains.result c.contains.ensures c.if-contains.false c.sequence_of.ensures) c.has.result c.has.ensures c.if-not-has.false)
