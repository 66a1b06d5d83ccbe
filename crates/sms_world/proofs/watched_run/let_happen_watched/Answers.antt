use Rattle.std.proofs.Common.{◌+◌, length, ap, subst, ◌∙◌, refl, arith}
use Rattle.std.proofs.lemmas.List.{length_push, take_all}
use Rattle.std.proofs.lemmas.Option.{slice_get_read}
use Rattle.sms_world.specs.Inside.Watching.{AllGoOnWatched}
use Rattle.sms_world.proofs.OneAfterAnother.{watched_on, watched_at_first}
use Rattle.sms_world.proofs.watched_run.let_happen_watched.Goals as goal

pub loop-event-init : goal.loop-event-init
loop-event-init c =
    (ap length c.in_ok-answers.ensures.items, watched_at_first c.args.events.now c.in_ok-answers.answers.items c.args.world.now c.in_ok-answers.ensures.items, refl, c.in_ok-answers.ensures.len, c.in_ok-answers.ensures.exact)

pub push_reserved-requires : goal.push_reserved-requires
push_reserved-requires c = omega (arith, c.loop-event-test.true, c.loop-event.invariant.3, c.loop-event.invariant.4)

pub loop-event-preserved : goal.loop-event-preserved
loop-event-preserved c =
    let inv = c.loop-event.invariant in
    let n = c.loop-event.event-index in
    let there = slice_get_read c.args.events.now (length c.args.events.now) n c.event-item.result refl c.loop-event-test.true c.event-item.is in (
      rw c.push_reserved.ensures.items (length_push c.loop-event.answers.items c.step.result ∙ ap (λ k. k + 1) inv.0),
      rw c.push_reserved.ensures.items (λ limits phones begins. watched_on limits phones c.args.events.now n c.event-item.result c.loop-event.answers.items c.step.result c.loop-event.world c.step.new.self there inv.0 c.step.ensures.goes (inv.1 limits phones begins)),
      c.step.ensures.phones ∙ inv.2,
      omega (arith, c.push_reserved.ensures.len, inv.3),
      c.push_reserved.ensures.capacity ∙ inv.4,
    )

pub returns-clause-goes : goal.returns-clause-goes
returns-clause-goes c =
    subst (λ es. AllGoOnWatched es c.loop-event.answers.items c.args.world.now c.loop-event.world) (take_all c.loop-event.event-index c.args.events.now c.loop-event-test.false) c.loop-event.invariant.1
