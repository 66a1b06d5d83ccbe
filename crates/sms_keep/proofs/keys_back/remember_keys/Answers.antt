use Rattle.std.proofs.Common.{◌≡◌, ◌<◌, List, get_or, length, subst}
use Rattle.sms_saved.specs.declared.state.Remembered.{Remembered}
use Rattle.sms_saved.specs.Value.{view}
use Rattle.sms_keep.proofs.KeysBack.{one_walked, walked_fresh, bad_key}
use Rattle.sms_keep.proofs.keys_back.remember_keys.Goals as goal

pub remember-requires-clause-fresh : goal.remember-requires-clause-fresh
remember-requires-clause-fresh c =
    walked_fresh c.args.gateway.now c.loop-before.gateway (view c.args.state.now).sets c.args.state.now.keys.items c.loop-before.before c.loop-before.last c.index-keys-before.result c.in-Ok.key
    c.loop-before.invariant (subst (λ (xs : List Remembered). c.loop-before.before < length xs) c.as_slice-keys.ensures.value c.loop-before-test.true)
    (subst (λ (xs : List Remembered). c.index-keys-before.result ≡ get_or xs c.loop-before.before c.index-keys-before.result) c.as_slice-keys.ensures.value c.index-keys-before.is)
    (rw c.in-Ok.is at c.in_ok-key.ensures) c.requires.fits.apart

pub loop-before-preserved : goal.loop-before-preserved
loop-before-preserved c =
    one_walked c.args.gateway.now c.loop-before.gateway c.remember.new.self c.args.state.now.keys.items c.loop-before.before c.loop-before.last c.index-keys-before.result c.in-Ok.key
    c.loop-before.invariant (subst (λ (xs : List Remembered). c.loop-before.before < length xs) c.as_slice-keys.ensures.value c.loop-before-test.true)
    (subst (λ (xs : List Remembered). c.index-keys-before.result ≡ get_or xs c.loop-before.before c.index-keys-before.result) c.as_slice-keys.ensures.value c.index-keys-before.is)
    (rw c.in-Ok.is at c.in_ok-key.ensures) c.requires.few c.remember.ensures

pub returns-in-Err-clause-bad : goal.returns-in-Err-clause-bad
returns-in-Err-clause-bad c =
    bad_key (view c.args.state.now) c.args.gateway.now c.loop-before.gateway c.loop-before.before c.loop-before.last c.place_of_key-place.result c.index-keys-before.result c.in-Err.why
    c.requires.sets c.loop-before.invariant (subst (λ (xs : List Remembered). c.loop-before.before < length xs) c.as_slice-keys.ensures.value c.loop-before-test.true)
    (subst (λ (xs : List Remembered). c.index-keys-before.result ≡ get_or xs c.loop-before.before c.index-keys-before.result) c.as_slice-keys.ensures.value c.index-keys-before.is)
    (rw c.in-Err.is at c.in_ok-key.ensures) c.place_of_key-place.ensures
