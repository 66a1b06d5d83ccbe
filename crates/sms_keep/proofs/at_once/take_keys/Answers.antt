use Rattle.std.proofs.Common.{refl, arith}
use Rattle.sms_saved.specs.Views.{seen_key, seen_remembered}
use Rattle.sms_keep.specs.Inside.AtOnce.{IsNext}
use Rattle.sms_keep.specs.Inside.Restoring.{IsSavedAs}
use Rattle.sms_keep.proofs.AtOnce.{going_room, one_going}
use Rattle.sms_keep.proofs.at_once.take_keys.Goals as goal

pub loop-preserved : goal.loop-preserved
loop-preserved c =
    let own = c.in-Some.own in
    let key : IsSavedAs (seen_key own.key) c.in-Some-2.key = rw c.in-Some-2.is at c.in_ok-key.ensures in
    let next : IsNext c.loop.last c.loop.rest.now c.in-Some-2.key own.moment c.in-Some.after.now =
    record {
      saved = seen_remembered own;
      moment_is = refl;
      parts = c.in-Some.ensures.found.0;
      fits = c.in-Some.ensures.found.1;
      can = record { key = key; in_time = c.if-own-last.false };
    } in
    one_going c.args.recalling.now c.loop.recalling c.remember.new.self c.args.octets.now c.loop.counter c.loop.rest.now c.loop.last c.in-Some-2.key own.moment c.in-Some.after.now
    c.loop.invariant next (omega (arith, c.loop-test.true, c.requires.few)) c.remember.ensures

pub remember-requires : goal.remember-requires
remember-requires c =
    going_room c.args.recalling.now c.loop.recalling c.args.octets.now c.loop.counter c.loop.rest.now c.loop.last c.loop.invariant
    (omega (arith, c.loop-test.true, c.requires.few))
