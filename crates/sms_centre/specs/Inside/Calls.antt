-- A reader may pass this by: contracts of private functions, and proofs, alone cite it.
use Rattle.std.specs.Prelude.{◌≡◌, ℕ, ◌<◌, max, List, Option, Result}
use Rattle.sms_field.specs.Address.Value.{AddressValue}
use Rattle.sms_tpdu.specs.Submit.{Submission}
use Rattle.sms_message.specs.Message.{Origin}
use Rattle.sms_message.specs.Does.{Does}
use Rattle.sms_centre.specs.Centre.State.{CentreState}
use Rattle.sms_centre.specs.Centre.Submissions.{checked}
use Rattle.sms_centre.specs.Centre.Value.{CentreValue}
use Rattle.sms_centre.specs.Centre.Standing.{StandsFor}
use Rattle.sms_centre.specs.Inside.Kept.{free_at}
use Rattle.sms_message.specs.declared.message.Tag.{Tag}
use Rattle.sms_centre.specs.declared.centre.check.Check.{Check}
use Rattle.sms_centre.specs.declared.centre.check.Check.TheVariants.{Refuse, Accept}
use Rattle.sms_message.specs.declared.outcome.Step.{Step}
use Rattle.sms_message.specs.declared.outcome.Dropped.{Dropped}
use Rattle.sms_centre.specs.Centre.Calls.{CentreAnswers}

-- what was accepted has the next stamp of its recipient
abbrev pub IsCheckIn : ℕ → ℕ → Submission → Check → CentreValue → Type 0
IsCheckIn now phone s (Refuse cause failure) v = Unit {0}
IsCheckIn now phone s (Accept recipient ends stamp) v =
    (stamp ≡ max (free_at v.lines recipient) now) × (now < ends)

-- the same for a call that begins at its moment, with what is done in a state
abbrev pub Steps : ℕ → (ℕ → List AddressValue → CentreState → Option Origin → Does CentreState)
    → CentreValue → Result Step Dropped → CentreValue → Type 0
Steps now does old result new =
    (limit : ℕ) (phones : List AddressValue) (c : CentreState) (origin : Option Origin)
    → StandsFor limit phones now old c
    → CentreAnswers limit phones now c (does limit phones c origin) result new

-- a submission is answered as it was checked
abbrev pub SettlesAs : ℕ → ℕ → Tag → Submission → Check → CentreValue → Result Step Dropped
    → CentreValue → Type 0
SettlesAs now phone tag s check old result new =
    IsCheckIn now phone s check old
    → Steps now (λ limit phones c origin. checked c now phone tag s origin check) old result new
