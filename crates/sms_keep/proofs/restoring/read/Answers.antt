use Rattle.std.proofs.Common.{◌≡◌, Ok, refl, sym, ap, subst, ◌∙◌}
use Rattle.sms_saved.specs.Value.{StateValue, view}
use Rattle.sms_keep.specs.Saved.{saved, saved_limits}
use Rattle.sms_keep.specs.Held.{CanHold}
use Rattle.sms_keep.specs.Restored.{HoldsRestored}
use Rattle.sms_keep.specs.Inside.AtOnce.{IsReadAs}
use Rattle.sms_keep.proofs.AtOnce.{one_state}
use Rattle.sms_keep.proofs.ReadBack.{alike, can_hold_saved, one_ok, only_memory}
use Rattle.sms_keep.proofs.restoring.read.Goals as goal

pub returns-in-Ok-hold-clause-again : goal.returns-in-Ok-hold-clause-again
returns-in-Ok-hold-clause-again c =
    λ g taken can limits spelled.
    let e : saved g taken ≡ view c.in-Ok.state = one_ok (saved g taken) (view c.in-Ok.state) (Ok (saved g taken)) refl (c.in-Ok.ensures.only (saved g taken) can.fits (ap saved_limits limits ∙ sym c.limits_of-own.ensures.value) spelled) in
    alike g taken (view c.in-Ok.state) (record { gateway = c.in-Ok-hold.gateway; taken = c.in-Ok.state.taken }) can e (refl, c.in-Ok-hold.ensures.1)

pub returns-in-Err-hold-clause-only : goal.returns-in-Err-hold-clause-only
returns-in-Err-hold-clause-only c =
    λ s fits limits can spelled.
    let e : s ≡ view c.in-Ok.state = one_ok s (view c.in-Ok.state) (Ok s) refl (c.in-Ok.ensures.only s fits (limits ∙ sym c.limits_of-own.ensures.value) spelled) in
    only_memory (view c.in-Ok.state) c.in-Err-hold.fault (subst CanHold e can) c.in-Err-hold.ensures

pub returns-in-Err-hold-clause-again : goal.returns-in-Err-hold-clause-again
returns-in-Err-hold-clause-again c =
    λ g taken can limits spelled.
    let e : saved g taken ≡ view c.in-Ok.state = one_ok (saved g taken) (view c.in-Ok.state) (Ok (saved g taken)) refl (c.in-Ok.ensures.only (saved g taken) can.fits (ap saved_limits limits ∙ sym c.limits_of-own.ensures.value) spelled) in
    only_memory (view c.in-Ok.state) c.in-Err-hold.fault (subst CanHold e (can_hold_saved g taken can.is_joiner)) c.in-Err-hold.ensures

pub returns-in-Some-clause-only : goal.returns-in-Some-clause-only
returns-in-Some-clause-only c =
    λ s fits limits can spelled.
    let r = c.in-Some.restored in
    let own = c.limits_of-own.result in
    let is : IsReadAs own c.args.octets.now r = rw c.in-Some.is at c.in_ok-restored.ensures in
    subst (λ (t : StateValue). HoldsRestored t r) (sym (one_state c.states_have_own_octets.ensures own c.args.octets.now r is s fits spelled)) is.holds

pub returns-in-Some-clause-again : goal.returns-in-Some-clause-again
returns-in-Some-clause-again c =
    λ g taken can limits spelled.
    let r = c.in-Some.restored in
    let own = c.limits_of-own.result in
    let is : IsReadAs own c.args.octets.now r = rw c.in-Some.is at c.in_ok-restored.ensures in
    alike g taken is.state r can (one_state c.states_have_own_octets.ensures own c.args.octets.now r is (saved g taken) can.fits spelled) is.holds
