-- The first piece of a set finishes it alone, opens it, or is refused.
use Rattle.std.proofs.Common.{◌≡◌, ◌<◌, ◌≤◌, List, [], ◌∷◌, take, length, sym, ap, ◌∙◌, subst, arith}
use Rattle.std.proofs.lemmas.Result.{err_from_is_err_and}
use Rattle.std.specs.Prelude.{option_copied}
use Rattle.sms_join.specs.declared.key.Key.{Key}
use Rattle.sms_join.specs.Piece.{piece_to, key_to, sequence_of}
use Rattle.sms_join.specs.Joiner.{offered}
use Rattle.sms_join.specs.Joiner.Same.{IsSame}
use Rattle.sms_join.specs.Inside.LastKeys.{LastKeysValue}
use Rattle.sms_join.specs.Inside.Turns.{arranged}
use Rattle.sms_join.specs.OpenSets.{SetValue, AreOpen, has_set}
use Rattle.sms_join.specs.OpenSets.Offered.{without_set, TellsKept}
use Rattle.sms_join.specs.Joiner.Value.{JoinerValue}
use Rattle.sms_join.specs.Joiner.Sets.{is_open}
use Rattle.sms_join.proofs.Few.{one_more_after}
use Rattle.sms_join.proofs.Places.{none_open}
use Rattle.sms_join.proofs.Offering.{tells_alone, tells_opened}
use Rattle.sms_join.proofs.Outcomes.{joiner_of}
use Rattle.sms_join.proofs.Offers.{in_place, size_is, says_keeping, says_full, kept_memory, whole_memory, says_text, first_alone, first_kept, first_refused, opened_set}
use Rattle.sms_join.proofs.keeper.Keeper.begin.Goals as goal

pub returns-in_err-text-clause-says : goal.returns-in_err-text-clause-says
returns-in_err-text-clause-says c =
    let p = err_from_is_err_and c.from_residual.result c.from_residual.ensures.1 in
    rw (p.1, p.2) (whole_memory c.args.self.now.open_max c.args.self.now.holds (piece_to c.args.now (option_copied c.args.to) c.args.origin.now c.args.stamp c.args.concat c.args.units) (c.args.units ∷ []) (first_alone c.self.inside.open_max c.self.inside.finished c.self.inside.sets c.self.invariant.0 (piece_to c.args.now (option_copied c.args.to) c.args.origin.now c.args.stamp c.args.concat c.args.units) (in_place c.args.now (option_copied c.args.to) c.args.origin.now c.args.stamp c.args.concat c.args.units c.requires.place) c.args.self.now c.self.view_is c.requires.fresh c.requires.closed (let e = size_is (option_copied c.args.to) c.args.origin.now c.args.stamp c.args.concat in sym e ∙ (sym c.size_of.ensures ∙ c.if-size_of-eq1.true))).0)

pub returns-then-size_of-eq1-clause-says : goal.returns-then-size_of-eq1-clause-says
returns-then-size_of-eq1-clause-says c =
    says_text c.args.self.now.open_max c.args.self.now.holds (piece_to c.args.now (option_copied c.args.to) c.args.origin.now c.args.stamp c.args.concat c.args.units) (c.args.units ∷ []) c.in_ok-text.text (first_alone c.self.inside.open_max c.self.inside.finished c.self.inside.sets c.self.invariant.0 (piece_to c.args.now (option_copied c.args.to) c.args.origin.now c.args.stamp c.args.concat c.args.units) (in_place c.args.now (option_copied c.args.to) c.args.origin.now c.args.stamp c.args.concat c.args.units c.requires.place) c.args.self.now c.self.view_is c.requires.fresh c.requires.closed (let e = size_is (option_copied c.args.to) c.args.origin.now c.args.stamp c.args.concat in sym e ∙ (sym c.size_of.ensures ∙ c.if-size_of-eq1.true))).0 c.in_ok-text.ensures

pub returns-then-size_of-eq1-clause-holds : goal.returns-then-size_of-eq1-clause-holds
returns-then-size_of-eq1-clause-holds c =
    subst (λ (ks : List Key). IsSame (joiner_of c.self.inside.sets ks) (offered c.args.self.now.open_max c.args.self.now.remembered c.args.self.now.holds (piece_to c.args.now (option_copied c.args.to) c.args.origin.now c.args.stamp c.args.concat c.args.units)))
    (sym (ap (λ (l : LastKeysValue). l.keys) c.push.ensures ∙ ap (λ (k : Key). take c.self.inside.finished.limit (k ∷ c.self.inside.finished.keys)) c.of-key.ensures))
    (first_alone c.self.inside.open_max c.self.inside.finished c.self.inside.sets c.self.invariant.0 (piece_to c.args.now (option_copied c.args.to) c.args.origin.now c.args.stamp c.args.concat c.args.units) (in_place c.args.now (option_copied c.args.to) c.args.origin.now c.args.stamp c.args.concat c.args.units c.requires.place) c.args.self.now c.self.view_is c.requires.fresh c.requires.closed (let e = size_is (option_copied c.args.to) c.args.origin.now c.args.stamp c.args.concat in sym e ∙ (sym c.size_of.ensures ∙ c.if-size_of-eq1.true))).1

pub returns-then-count-self-clause-says : goal.returns-then-count-self-clause-says
returns-then-count-self-clause-says c =
    let count : c.count.result ≡ length c.self.inside.sets = c.count.ensures in
    let over = c.if-count-self.true in
    let full : c.self.inside.open_max ≤ length c.self.inside.sets = omega arith in
    says_full c.args.self.now.open_max c.args.self.now.holds (piece_to c.args.now (option_copied c.args.to) c.args.origin.now c.args.stamp c.args.concat c.args.units) (first_refused c.self.inside.open_max c.self.inside.finished c.self.inside.sets c.self.invariant.0 (piece_to c.args.now (option_copied c.args.to) c.args.origin.now c.args.stamp c.args.concat c.args.units) (in_place c.args.now (option_copied c.args.to) c.args.origin.now c.args.stamp c.args.concat c.args.units c.requires.place) c.args.self.now c.self.view_is c.requires.fresh c.requires.closed (λ h. let e = size_is (option_copied c.args.to) c.args.origin.now c.args.stamp c.args.concat in c.if-size_of-eq1.false (c.size_of.ensures ∙ (e ∙ sym h))) full)

pub returns-in_err-open-clause-says : goal.returns-in_err-open-clause-says
returns-in_err-open-clause-says c =
    let count : c.count.result ≡ length c.self.inside.sets = c.count.ensures in
    let under = c.if-count-self.false in
    let less : length c.self.inside.sets < c.self.inside.open_max = omega arith in
    let p = err_from_is_err_and c.from_residual-in_err-open.result c.from_residual-in_err-open.ensures.1 in
    rw (p.1, p.2) (kept_memory c.args.self.now.open_max c.args.self.now.holds (piece_to c.args.now (option_copied c.args.to) c.args.origin.now c.args.stamp c.args.concat c.args.units) c.requires.closed (first_kept c.self.inside.open_max c.self.inside.finished c.self.inside.sets c.self.invariant.0 (piece_to c.args.now (option_copied c.args.to) c.args.origin.now c.args.stamp c.args.concat c.args.units) (in_place c.args.now (option_copied c.args.to) c.args.origin.now c.args.stamp c.args.concat c.args.units c.requires.place) 0 c.args.self.now c.self.view_is c.requires.fresh c.requires.closed (λ h. let e = size_is (option_copied c.args.to) c.args.origin.now c.args.stamp c.args.concat in c.if-size_of-eq1.false (c.size_of.ensures ∙ (e ∙ sym h))) less).0)

pub invariant_of-self-2 : goal.invariant_of-self-2
invariant_of-self-2 c =
    let count : c.count.result ≡ length c.self.inside.sets = c.count.ensures in
    let under = c.if-count-self.false in
    let less : length c.self.inside.sets < c.self.inside.open_max = omega arith in
    let list = opened_set c.self.inside.sets c.open.new.self c.of-key-2.result (key_to (option_copied c.args.to) c.args.origin.now c.args.stamp c.args.concat) c.args.now c.in_ok-open.ensures.ok.0 c.sequence_of.result (sequence_of c.args.concat) c.args.units
    c.in_ok-open.ensures.ok.2 c.of-key-2.ensures c.sequence_of.ensures in
    (subst AreOpen (sym list) (first_kept c.self.inside.open_max c.self.inside.finished c.self.inside.sets c.self.invariant.0 (piece_to c.args.now (option_copied c.args.to) c.args.origin.now c.args.stamp c.args.concat c.args.units) (in_place c.args.now (option_copied c.args.to) c.args.origin.now c.args.stamp c.args.concat c.args.units c.requires.place) c.in_ok-open.ensures.ok.0 c.args.self.now c.self.view_is c.requires.fresh c.requires.closed (λ h. let e = size_is (option_copied c.args.to) c.args.origin.now c.args.stamp c.args.concat in c.if-size_of-eq1.false (c.size_of.ensures ∙ (e ∙ sym h))) less).2, one_more_after c.self.inside.sets c.open.new.self _ c.self.inside.open_max list less)

pub returns-clause-says : goal.returns-clause-says
returns-clause-says c =
    let count : c.count.result ≡ length c.self.inside.sets = c.count.ensures in
    let under = c.if-count-self.false in
    let less : length c.self.inside.sets < c.self.inside.open_max = omega arith in
    says_keeping c.args.self.now.open_max c.args.self.now.holds (piece_to c.args.now (option_copied c.args.to) c.args.origin.now c.args.stamp c.args.concat c.args.units) (first_kept c.self.inside.open_max c.self.inside.finished c.self.inside.sets c.self.invariant.0 (piece_to c.args.now (option_copied c.args.to) c.args.origin.now c.args.stamp c.args.concat c.args.units) (in_place c.args.now (option_copied c.args.to) c.args.origin.now c.args.stamp c.args.concat c.args.units c.requires.place) c.in_ok-open.ensures.ok.0 c.args.self.now c.self.view_is c.requires.fresh c.requires.closed (λ h. let e = size_is (option_copied c.args.to) c.args.origin.now c.args.stamp c.args.concat in c.if-size_of-eq1.false (c.size_of.ensures ∙ (e ∙ sym h))) less).0

pub returns-clause-holds : goal.returns-clause-holds
returns-clause-holds c =
    let count : c.count.result ≡ length c.self.inside.sets = c.count.ensures in
    let under = c.if-count-self.false in
    let less : length c.self.inside.sets < c.self.inside.open_max = omega arith in
    let list = opened_set c.self.inside.sets c.open.new.self c.of-key-2.result (key_to (option_copied c.args.to) c.args.origin.now c.args.stamp c.args.concat) c.args.now c.in_ok-open.ensures.ok.0 c.sequence_of.result (sequence_of c.args.concat) c.args.units
    c.in_ok-open.ensures.ok.2 c.of-key-2.ensures c.sequence_of.ensures in
    subst (λ (ss : List SetValue). IsSame (joiner_of ss c.self.inside.finished.keys) (offered c.args.self.now.open_max c.args.self.now.remembered c.args.self.now.holds (piece_to c.args.now (option_copied c.args.to) c.args.origin.now c.args.stamp c.args.concat c.args.units))) (sym list) (first_kept c.self.inside.open_max c.self.inside.finished c.self.inside.sets c.self.invariant.0 (piece_to c.args.now (option_copied c.args.to) c.args.origin.now c.args.stamp c.args.concat c.args.units) (in_place c.args.now (option_copied c.args.to) c.args.origin.now c.args.stamp c.args.concat c.args.units c.requires.place) c.in_ok-open.ensures.ok.0 c.args.self.now c.self.view_is c.requires.fresh c.requires.closed (λ h. let e = size_is (option_copied c.args.to) c.args.origin.now c.args.stamp c.args.concat in c.if-size_of-eq1.false (c.size_of.ensures ∙ (e ∙ sym h))) less).1

pub open-requires-clause-closed : goal.open-requires-clause-closed
open-requires-clause-closed c =
    ap (has_set c.self.inside.sets) c.of-key-2.ensures
    ∙ none_open c.self.inside.sets (key_to (option_copied c.args.to) c.args.origin.now c.args.stamp c.args.concat) c.self.invariant.0
    (ap (λ (v : JoinerValue). is_open v.holds.kept (key_to (option_copied c.args.to) c.args.origin.now c.args.stamp c.args.concat)) c.self.view_is ∙ c.requires.closed)

pub returns-then-size_of-eq1-clause-told : goal.returns-then-size_of-eq1-clause-told
returns-then-size_of-eq1-clause-told c =
    subst (λ (v : JoinerValue). arranged c.self.inside.sets ≡ without_set (key_to (option_copied c.args.to) c.args.origin.now c.args.stamp c.args.concat) (arranged v.told)) c.self.view_is
    (tells_alone c.self.inside.sets (key_to (option_copied c.args.to) c.args.origin.now c.args.stamp c.args.concat)
    (none_open c.self.inside.sets (key_to (option_copied c.args.to) c.args.origin.now c.args.stamp c.args.concat) c.self.invariant.0
    (ap (λ (v : JoinerValue). is_open v.holds.kept (key_to (option_copied c.args.to) c.args.origin.now c.args.stamp c.args.concat)) c.self.view_is ∙ c.requires.closed)))

pub returns-clause-told : goal.returns-clause-told
returns-clause-told c =
    let list = opened_set c.self.inside.sets c.open.new.self c.of-key-2.result (key_to (option_copied c.args.to) c.args.origin.now c.args.stamp c.args.concat) c.args.now c.in_ok-open.ensures.ok.0 c.sequence_of.result (sequence_of c.args.concat) c.args.units
    c.in_ok-open.ensures.ok.2 c.of-key-2.ensures c.sequence_of.ensures in
    subst (λ (v : JoinerValue). TellsKept (arranged v.told) (arranged c.open.new.self) (piece_to c.args.now (option_copied c.args.to) c.args.origin.now c.args.stamp c.args.concat c.args.units)) c.self.view_is
    (tells_opened c.self.inside.sets c.open.new.self c.in_ok-open.ensures.ok.0 (piece_to c.args.now (option_copied c.args.to) c.args.origin.now c.args.stamp c.args.concat c.args.units) c.in_ok-open.ensures.ok.1
    (none_open c.self.inside.sets (key_to (option_copied c.args.to) c.args.origin.now c.args.stamp c.args.concat) c.self.invariant.0
    (ap (λ (v : JoinerValue). is_open v.holds.kept (key_to (option_copied c.args.to) c.args.origin.now c.args.stamp c.args.concat)) c.self.view_is ∙ c.requires.closed)) list)
