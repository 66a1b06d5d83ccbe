-- The stamps that the centre gives. Calls and acceptances have the newest first.
use Rattle.std.specs.Prelude.{◌≡◌, ℕ, ◌<◌, List, [], ◌∷◌, Option}
use Rattle.sms_field.specs.Address.Value.{AddressValue}
use Rattle.sms_message.specs.declared.message.Message.{Message}
use Rattle.sms_message.specs.Message.{Origin}
use Rattle.sms_centre.specs.Centre.{centre_receives}
use Rattle.sms_centre.specs.Centre.State.{Acceptance, CentreState, new_centre}
use Rattle.sms_centre.specs.Centre.Pushes.{centre_pushes}

pub data Call : Type 0 where
  Receive : (now : ℕ) → (phone : ℕ) → Message → Option Origin → Call
  Push : (now : ℕ) → (phone : ℕ) → Call

abbrev pub called : ℕ → List AddressValue → CentreState → Call → CentreState
called limit phones c (Receive now phone message origin) =
    (centre_receives limit phones c now phone message origin).after
called limit phones c (Push now phone) = (centre_pushes phones c now phone).after

-- the centre after a list of calls, the last first
abbrev pub called_all : ℕ → List AddressValue → List Call → CentreState
called_all limit phones [] = new_centre
called_all limit phones (call ∷ past) = called limit phones (called_all limit phones past) call

-- those of the list to this recipient have lower stamps
abbrev pub AreBelow : List Acceptance → ℕ → ℕ → Type 0
AreBelow [] recipient stamp = Unit {0}
AreBelow (a ∷ past) recipient stamp =
    (a.recipient ≡ recipient → a.stamp < stamp) × AreBelow past recipient stamp

-- the stamps given to one recipient rise
abbrev pub IsRising : List Acceptance → Type 0
IsRising [] = Unit {0}
IsRising (a ∷ past) = AreBelow past a.recipient a.stamp × IsRising past

abbrev pub StampsRise : Type 0
StampsRise =
    (limit : ℕ) (phones : List AddressValue) (calls : List Call)
    → IsRising (called_all limit phones calls).accepted
