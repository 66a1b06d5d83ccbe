use Rattle.std.proofs.Common.{sym, subst, take}
use Rattle.std.specs.Prelude.{codes}
use Rattle.std.specs.List.{flat_map}
use Rattle.sms_page.specs.Page.{PageValue, Puts}
use Rattle.sms_told.specs.Sets.{set_text}
use Rattle.sms_told.proofs.Composed.{OnErr-always}
use Rattle.sms_told.proofs.Walked.{told_next, told_all}
use Rattle.sms_told.proofs.open_sets.put_open_sets.Goals as goal

pub returns-in_err-put_open-clause-refused : goal.returns-in_err-put_open-clause-refused
returns-in_err-put_open-clause-refused c =
    let kept = c.loop-set.invariant in
    OnErr-always c.from_residual.result (
      kept.0,
      subst (λ (p : PageValue). Puts c.args.page.now p (flat_map (set_text c.args.form (codes "open")) (take kept.0 c.args.gateway.now.told)))
          (sym c.in_err-put_open.ensures.refused) kept.2,
    )

pub loop-set-preserved : goal.loop-set-preserved
loop-set-preserved c =
    let kept = c.loop-set.invariant in
    told_next (set_text c.args.form (codes "open")) c.args.gateway.now.told c.loop-set.set-iterator c.next.new.self c.in-Some.set kept.0 c.args.page.now c.loop-set.page c.put_open.new.page
    c.in-Some.ensures.steps kept.1 kept.2 c.in_ok-put_open.ensures.put

pub returns-clause-put : goal.returns-clause-put
returns-clause-put c =
    let kept = c.loop-set.invariant in
    told_all (set_text c.args.form (codes "open")) c.args.gateway.now.told c.loop-set.set-iterator kept.0 c.args.page.now c.loop-set.page c.in-None.ensures.steps.0 kept.1 kept.2
