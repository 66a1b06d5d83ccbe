-- What a call that fails leaves.
use Rattle.std.proofs.Common.{◌≡◌, ℕ, ◌≤◌, List, Result, Ok, Err, OnErr, sym, subst}
use Rattle.sms_field.specs.Address.Value.{AddressValue}
use Rattle.sms_message.specs.declared.outcome.Outcome.TheVariants.{Pushed}
use Rattle.sms_centre.specs.Centre.State.{CentreState}
use Rattle.sms_centre.specs.Centre.Pushes.{centre_pushes}
use Rattle.sms_centre.specs.Centre.Value.{CentreValue, HoldingsValue}
use Rattle.sms_centre.specs.Centre.Kept.{IsLater}
use Rattle.sms_centre.specs.Centre.Standing.{StandsFor}
use Rattle.sms_centre.specs.Centre.Calls.{IsPushed}

-- the holdings are as they were at the moment
pub later_same : {T E : Type 0} (now : ℕ) (old : CentreValue) (limit : ℕ) (v w : HoldingsValue) (r : Result T E) → OnErr r (w ≡ v) → IsLater now old (record { limit = limit; held = v.held; lines = v.lines })
    → OnErr r (IsLater now old (record { limit = limit; held = w.held; lines = w.lines }))
later_same now old limit v w (Ok x) same later = tt
later_same now old limit v w (Err e) same later = subst (λ (h : HoldingsValue). IsLater now old (record { limit = limit; held = h.held; lines = h.lines })) (sym same) later

-- the value is as it was at the moment
pub later_as : {T E : Type 0} (now : ℕ) (old mid new : CentreValue) (r : Result T E) → OnErr r (new ≡ mid) → IsLater now old mid → OnErr r (IsLater now old new)
later_as now old mid new (Ok x) same later = tt
later_as now old mid new (Err e) same later = subst (λ (v : CentreValue). IsLater now old v) (sym same) later

-- where it fails, whatever the state, a message waits
pub always_waits : {T E : Type 0} (now phone : ℕ) (old : CentreValue) (r : Result T E)
    → ((limit : ℕ) (phones : List AddressValue) (clock : ℕ) (c : CentreState) → clock ≤ now → StandsFor limit phones clock old c → OnErr r ((centre_pushes phones c now phone).answer ≡ Ok Pushed))
    → OnErr r (IsPushed now phone old)
always_waits now phone old (Ok x) h = tt
always_waits now phone old (Err e) h = λ limit phones clock c le s. h limit phones clock c le s
