use Rattle.std.proofs.Common.{[], ◌++◌, sym, subst}
use Rattle.sms_saved.specs.Fits.{AreApart, set_keys, remembered_keys}
use Rattle.sms_saved.specs.Value.{view_sets}
use Rattle.sms_keep.specs.Inside.Restoring.{Remembers}
use Rattle.sms_keep.specs.Inside.SetsBack.{OneIsHindered}
use Rattle.sms_keep.proofs.Apart.{apart_front}
use Rattle.sms_keep.proofs.SetsBack.{none_hindered}
use Rattle.sms_keep.proofs.restoring.hold.Goals as goal

pub put_sets_back-requires-clause-apart : goal.put_sets_back-requires-clause-apart
put_sets_back-requires-clause-apart c =
    apart_front [] (set_keys (view_sets c.args.state.sets.items)) (remembered_keys c.args.state.keys.items) c.requires.fits.apart

pub unreachable-requires : goal.unreachable-requires
unreachable-requires c =
    let g = c.remember_keys.new.gateway in
    let sets = view_sets c.args.state.sets.items in
    let own : Remembers g c.args.state.keys.items = c.in_ok-remember_keys.ensures.keys in
    let one : OneIsHindered g sets = rw c.if-not-branch.true at c.in_ok-put_sets_back.ensures in
    none_hindered g sets own.moments c.in_ok-check_sets.ensures.good
    (subst (λ qs. AreApart [] (set_keys sets ++ remembered_keys qs)) (sym own.keys) c.requires.fits.apart) one
