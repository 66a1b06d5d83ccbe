use Rattle.std.proofs.Common.{◌++◌, ◌∷◌, [], ℕ, List, take, ap, ◌∙◌, arith}
use Rattle.sms_script.proofs.PartLemmas.{front_of, none_but, front_read, front_kept}
use Rattle.sms_script.proofs.lines.end_part.Goals as goal

pub returns-then-last-eq10-clause-ends : goal.returns-then-last-eq10-clause-ends
returns-then-last-eq10-clause-ends c =
    let read : List ℕ = take c.args.given c.args.part.now in
    let is = c.in-Some.ensures.cases.0 in
    let front : List ℕ = c.in-Some.front.now in
    (front, front_of read front c.in-Some.last.now is (front_read c.args.part.now c.args.given c.requires.given c.requires.line), is ∙ ap (λ (last : ℕ). front ++ last ∷ []) c.if-last-eq10.true, front_kept c.args.part.now front _ _ c.args.given c.in-Some.last.now c.requires.given is c.push_front.ensures.items)

pub returns-clause-ends : goal.returns-clause-ends
returns-clause-ends c =
    let read : List ℕ = take c.args.given c.args.part.now in
    let is = c.in-Some.ensures.cases in
    (none_but read c.in-Some.front.now c.in-Some.last.now is.0 (front_read c.args.part.now c.args.given c.requires.given c.requires.line) c.if-last-eq10.false, c.push_front-2.ensures.items, omega (arith, is.1))
