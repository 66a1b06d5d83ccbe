use Rattle.std.proofs.Common.{◌≡◌, suc, ◌-◌, ◌+◌, ◌<◌, ◌^◌, ◌++◌, drop, refl, subst, arith}
use Rattle.std.specs.List.{AllByRecursion}
use Rattle.sms_keep.specs.Inside.Saving.{KeyIsSound}
use Rattle.sms_saved.specs.Spelling.{eight}
use Rattle.sms_keep.specs.Saved.{saved_key}
use Rattle.sms_keep.proofs.Spelled.{key_sound, key_written, keys_written}
use Rattle.sms_keep.proofs.saving.put_keys.Goals as goal

pub loop-done-preserved : goal.loop-done-preserved
loop-done-preserved c =
    let i : suc (c.remembered_count-count.result - 1 - c.loop-done.done) ≡ c.remembered_count-count.result - c.loop-done.done = omega (arith, c.loop-done-test.true) in
    let j : c.remembered_count-count.result - 1 - c.loop-done.done ≡ c.remembered_count-count.result - (c.loop-done.done + 1) = omega (arith, c.loop-done-test.true) in (
      key_written c.args.gateway.now.holds.finished c.args.gateway.now.finishings c.remembered_count-count.result c.loop-done.done
          (c.args.writer.now ++ eight c.remembered_count-count.result) c.loop-done.writer c.put_finished.new.writer
          (record { key = saved_key c.in-Some.own.key.now; moment = c.in-Some.own.moment })
          c.in-Some.own.key.now c.in-Some.own.moment
          c.loop-done-test.true c.in-Some.ensures.0 c.in-Some.ensures.1
          refl
          c.in_ok-put_finished-in-Some.ensures.value c.loop-done.invariant.0,
      key_sound KeyIsSound c.args.gateway.now.holds.finished (c.remembered_count-count.result - 1 - c.loop-done.done) _ _ c.in-Some.own.key.now c.in-Some.ensures.0 i j
          c.in_ok-put_finished-in-Some.ensures.sound c.loop-done.invariant.1,
      key_sound (λ m. m < 2 ^ 64) c.args.gateway.now.finishings (c.remembered_count-count.result - 1 - c.loop-done.done) _ _ c.in-Some.own.moment c.in-Some.ensures.1 i j
          c.in_ok-put_finished-in-Some.ensures.fits c.loop-done.invariant.2,
    )

pub returns-clause-value : goal.returns-clause-value
returns-clause-value c =
    keys_written c.args.gateway.now.holds.finished c.args.gateway.now.finishings c.remembered_count-count.result c.loop-done.done c.args.writer.now c.loop-done.writer
    (omega (arith, c.loop-done-test.false)) c.remembered_count-count.ensures.count c.remembered_count-count.ensures.moments c.loop-done.invariant.0

pub returns-clause-sound : goal.returns-clause-sound
returns-clause-sound c =
    let none : c.remembered_count-count.result - c.loop-done.done ≡ 0 = omega (arith, c.loop-done-test.false) in
    subst (λ n. AllByRecursion KeyIsSound (drop n c.args.gateway.now.holds.finished)) none c.loop-done.invariant.1

pub returns-clause-moments : goal.returns-clause-moments
returns-clause-moments c =
    let none : c.remembered_count-count.result - c.loop-done.done ≡ 0 = omega (arith, c.loop-done-test.false) in
    subst (λ n. AllByRecursion (λ m. m < 2 ^ 64) (drop n c.args.gateway.now.finishings)) none c.loop-done.invariant.2
