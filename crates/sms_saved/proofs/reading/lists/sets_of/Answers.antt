use Rattle.std.proofs.Common.{◌≡◌, ◌++◌, ◌∷◌, ◌+◌, [], Ok, ℕ, sym, ap, subst, ◌∙◌}
use Rattle.std.proofs.lemmas.Result.{err_from_is_err_and}
use Rattle.std.proofs.lemmas.List.{map_push}
use Rattle.sms_saved.specs.Value.{view_sets, view_set}
use Rattle.sms_saved.specs.Reading.Fields.{Fails}
use Rattle.sms_saved.specs.Reading.Sets.{set_at}
use Rattle.sms_saved.specs.Reading.Lists.{unless, judged_at, judge_opening, judge_text, judge_set, first_of, above}
use Rattle.sms_saved.proofs.TakenFields.{ok_is}
use Rattle.sms_saved.proofs.Judged.{unless_ok}
use Rattle.sms_saved.proofs.JudgedLoop.{goes_on, ends, is_done, is_judged}
use Rattle.sms_saved.proofs.Passed.{above_push}
use Rattle.sms_saved.proofs.Noted.{set_judged, set_noted}
use Rattle.sms_saved.proofs.reading.lists.sets_of.Goals as goal

pub returns-in_err-set-clause-read : goal.returns-in_err-set-clause-read
returns-in_err-set-clause-read c =
    let p = err_from_is_err_and c.from_residual-in_err-set.result c.from_residual-in_err-set.ensures.1 in
    rw (p.1, p.2) (ends (judge_set c.args.next) set_at c.in_err-set.field-0.0 (view_sets c.loop.sets.items) c.args.count c.loop.counter c.loop.rest.now (judged_at (judge_set c.args.next) set_at [] c.args.count c.args.bytes.now) c.loop-test.true c.in_err-set.ensures.read c.loop.invariant.read)

pub returns-in_err-low-clause-read : goal.returns-in_err-low-clause-read
returns-in_err-low-clause-read c =
    let p = err_from_is_err_and c.from_residual-in_err-low.result c.from_residual-in_err-low.ensures.1 in
    let s = c.in_ok-set.set in
    let before = view_sets c.loop.sets.items in
    let e = c.in_err-low.field-0.0 in
    let judged = set_judged c.args.next before (view_set s) c.loop.low c.loop.seen c.in_ok-set.key.now c.loop.invariant.low c.loop.invariant.keys c.in_ok-set.ensures.octets in
    let fails : Fails {Y = ℕ} e (unless c.loop.rest.now (judge_set c.args.next before (view_set s)) (Ok (s.opening + 1))) = subst (λ o. Fails {Y = ℕ} e (unless c.loop.rest.now o (Ok (s.opening + 1)))) judged c.in_err-low.ensures.read in
    rw (p.1, p.2) (is_judged (judge_set c.args.next) set_at e (s.opening + 1) before c.args.count c.loop.counter c.loop.rest.now (view_set s) c.in_ok-set.after.now (judged_at (judge_set c.args.next) set_at [] c.args.count c.args.bytes.now) c.loop-test.true c.in_ok-set.ensures.read fails c.loop.invariant.read)

pub loop-preserved : goal.loop-preserved
loop-preserved c =
    let s = c.in_ok-set.set in
    let before = view_sets c.loop.sets.items in
    let pushed : view_sets c.push.new.self.items ≡ before ++ view_set s ∷ [] = rw c.in_ok-push.ensures.items (map_push _ c.loop.sets.items s) in
    let judged = set_judged c.args.next before (view_set s) c.loop.low c.loop.seen c.in_ok-set.key.now c.loop.invariant.low c.loop.invariant.keys c.in_ok-set.ensures.octets in
    let u = unless_ok c.loop.rest.now (first_of (judge_opening c.loop.low c.args.next s.opening) (judge_text c.loop.seen c.in_ok-set.key.now)) (Ok (s.opening + 1)) c.in_ok-low.low c.in_ok-low.ensures.read in
    record {
      read = rw pushed (goes_on (judge_set c.args.next) set_at before c.args.count c.loop.counter c.loop.rest.now (view_set s) c.in_ok-set.after.now (judged_at (judge_set c.args.next) set_at [] c.args.count c.args.bytes.now) c.loop-test.true c.in_ok-set.ensures.read (sym judged ∙ u.0) c.loop.invariant.read);
      low = sym (ok_is (s.opening + 1) c.in_ok-low.low u.1) ∙ sym (above_push 0 before (view_set s)) ∙ ap (above 0) (sym pushed);
      keys = rw pushed (set_noted before (view_set s) c.note_set.new.seen c.loop.seen c.in_ok-set.key.now c.in_ok-low.ensures.seen c.loop.invariant.keys c.in_ok-set.ensures.octets);
    }

pub returns-clause-read : goal.returns-clause-read
returns-clause-read c = is_done (judge_set c.args.next) set_at (view_sets c.loop.sets.items) c.args.count c.loop.counter c.loop.rest.now (judged_at (judge_set c.args.next) set_at [] c.args.count c.args.bytes.now) c.loop-test.false c.loop.invariant.read
