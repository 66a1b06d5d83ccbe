use Rattle.std.proofs.Common.{◌≡◌, ◌++◌, ◌∷◌, [], Result, Ok, ℕ, sym, subst, ◌∙◌}
use Rattle.std.proofs.lemmas.Result.{err_from_is_err_and}
use Rattle.sms_saved.specs.declared.fault.Halt.{Halt}
use Rattle.sms_saved.specs.Reading.Fields.{Fails}
use Rattle.sms_saved.specs.Reading.Sets.{remembered_at}
use Rattle.sms_saved.specs.Reading.Lists.{unless, judged_at, judge_text, judge_key}
use Rattle.sms_saved.proofs.Judged.{unless_ok}
use Rattle.sms_saved.proofs.JudgedLoop.{goes_on, ends, is_done, is_judged}
use Rattle.sms_saved.proofs.Noted.{key_judged, key_noted}
use Rattle.sms_saved.proofs.reading.lists.keys_of.Goals as goal

abbrev zero_ok : Result ℕ Halt
zero_ok = Ok 0

pub returns-in_err-remembered : goal.returns-in_err-remembered
returns-in_err-remembered c =
    let p = err_from_is_err_and c.from_residual.result c.from_residual.ensures.1 in
    let judge = judge_key c.args.seen.now in
    rw (p.1, p.2) (ends judge remembered_at c.in_err-remembered.field-0.0 c.loop.keys.items c.args.count c.loop.counter c.loop.rest.now (judged_at judge remembered_at [] c.args.count c.args.bytes.now) c.loop-test.true c.in_err-remembered.ensures.read c.loop.invariant.read)

pub loop-preserved : goal.loop-preserved
loop-preserved c =
    let judge = judge_key c.args.seen.now in
    let r = c.in_ok-remembered.remembered in
    let before = c.loop.keys.items in
    let pushed : c.push.new.self.items ≡ before ++ r ∷ [] = c.in_ok-push.ensures.items in
    let judged = key_judged c.args.seen.now before r c.loop.seen c.in_ok-remembered.key.now c.loop.invariant.seen_keys c.in_ok-remembered.ensures.octets in
    let u = unless_ok c.loop.rest.now (judge_text c.loop.seen c.in_ok-remembered.key.now) zero_ok 0 c.in_ok-note_new.ensures.read in
    record {
      read = rw pushed (goes_on judge remembered_at before c.args.count c.loop.counter c.loop.rest.now r c.in_ok-remembered.after.now (judged_at judge remembered_at [] c.args.count c.args.bytes.now) c.loop-test.true c.in_ok-remembered.ensures.read (sym judged ∙ u.0) c.loop.invariant.read);
      seen_keys = rw pushed (key_noted c.args.seen.now before r c.note_new.new.seen c.loop.seen c.in_ok-remembered.key.now c.in_ok-note_new.ensures.seen c.loop.invariant.seen_keys c.in_ok-remembered.ensures.octets);
    }

pub returns-in_err-note_new : goal.returns-in_err-note_new
returns-in_err-note_new c =
    let p = err_from_is_err_and c.from_residual-in_err-note_new.result c.from_residual-in_err-note_new.ensures.1 in
    let judge = judge_key c.args.seen.now in
    let r = c.in_ok-remembered.remembered in
    let before = c.loop.keys.items in
    let e = c.in_err-note_new.field-0.0 in
    let judged = key_judged c.args.seen.now before r c.loop.seen c.in_ok-remembered.key.now c.loop.invariant.seen_keys c.in_ok-remembered.ensures.octets in
    let fails : Fails {Y = ℕ} e (unless c.loop.rest.now (judge before r) zero_ok) = subst (λ o. Fails {Y = ℕ} e (unless c.loop.rest.now o zero_ok)) judged c.in_err-note_new.ensures.read in
    rw (p.1, p.2) (is_judged judge remembered_at e 0 before c.args.count c.loop.counter c.loop.rest.now r c.in_ok-remembered.after.now (judged_at judge remembered_at [] c.args.count c.args.bytes.now) c.loop-test.true c.in_ok-remembered.ensures.read fails c.loop.invariant.read)

pub returns : goal.returns
returns c = is_done (judge_key c.args.seen.now) remembered_at c.loop.keys.items c.args.count c.loop.counter c.loop.rest.now (judged_at (judge_key c.args.seen.now) remembered_at [] c.args.count c.args.bytes.now) c.loop-test.false c.loop.invariant.read
