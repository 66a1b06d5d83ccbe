use Rattle.std.proofs.Common.{◌≡◌, ◌<◌, ℕ, zero, suc, List, [], ◌∷◌, length, get_or, slice_get, Some, sym, ap, ◌∙◌, arith}
use Rattle.sms_join.specs.declared.line.Opening.{Opening}
use Rattle.sms_join.specs.Inside.Lines.{lies}
use Rattle.sms_join.specs.Inside.Slots.{sets_of}
use Rattle.sms_join.proofs.Telling.{walk_passed, walk_none}
use Rattle.sms_join.proofs.line.first_place.Goals as goal

pub loop-at-preserved : goal.loop-at-preserved
loop-at-preserved c =
    c.loop-at.invariant
    ∙ walk_passed (sets_of c.args.slots.now.entries) c.loop-at.at c.args.line.now.items c.index.result.now
    (omega (arith, c.loop-at-test.true, c.len-at-end.ensures, c.args.line.now.ok.0)) c.index.ensures (sym c.lies.ensures ∙ c.if-lies.false)

-- what is read at one place
same : (os : List Opening) (i : ℕ) (o p : Opening) → i < length os → o ≡ get_or os i o → slice_get os i ≡ Some p → o ≡ p
same [] i o p l e f = absurd (omega arith)
same (x ∷ os) zero o p l e f = let g : x ≡ p = cc in e ∙ g
same (x ∷ os) (suc i) o p l e f = same os i o p (omega arith) e f

pub returns-then-lies-clause-there : goal.returns-then-lies-clause-there
returns-then-lies-clause-there c = omega (arith, c.loop-at-test.true, c.len-at-end.ensures, c.args.line.now.ok.0)

pub returns-then-lies-clause-lies : goal.returns-then-lies-clause-lies
returns-then-lies-clause-lies c opening there =
    let within : c.loop-at.at < length c.args.line.now.items = omega (arith, c.loop-at-test.true, c.len-at-end.ensures, c.args.line.now.ok.0) in
    ap (lies (sets_of c.args.slots.now.entries)) (sym (same c.args.line.now.items c.loop-at.at c.index.result.now opening within c.index.ensures there))
    ∙ (sym c.lies.ensures ∙ c.if-lies.true)

pub returns-clause-passed : goal.returns-clause-passed
returns-clause-passed c =
    c.loop-at.invariant
    ∙ walk_none (sets_of c.args.slots.now.entries) c.loop-at.at c.args.line.now.items (omega (arith, c.loop-at-test.false, c.len-at-end.ensures, c.args.line.now.ok.0))
