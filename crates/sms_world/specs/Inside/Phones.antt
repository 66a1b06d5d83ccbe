-- A reader may pass this by: contracts of private functions, and proofs, alone cite it.
use Rattle.std.specs.Prelude.{◌≡◌, ℕ, List, Option, Some, slice_get}
use Rattle.sms_party.specs.Receiver.State.{limits_of}
use Rattle.sms_party.specs.Phone.{PhoneValue}
use Rattle.sms_party.specs.Sender.Texts.{width_of}
use Rattle.sms_party.specs.Sender.Stands.{IsNewSender, TellsStatus}
use Rattle.sms_party.specs.declared.sender.Status.{Status}
use Rattle.sms_party.specs.Receiver.Standing.{IsNew, AgesTo}
use Rattle.sms_script.specs.declared.script.limits.Limits.{Limits}

-- The phone has typed nothing, and its store is empty.
pub record IsNewPhone (limits : Limits) (phone : PhoneValue) : Type 0 where
  pub sends : IsNewSender (width_of limits.wide) limits.reject phone.sender
  pub receives : IsNew (limits_of limits.open_max limits.remembered limits.store) phone.receiver

-- The clock has moved for the phone.
pub record IsAged (now : ℕ) (old new : PhoneValue) : Type 0 where
  pub sends : new.sender ≡ old.sender
  pub receives : AgesTo now old.receiver new.receiver

-- the answer of `status`, in each state that the phone stands for
abbrev pub TellsStatusAt : List PhoneValue → ℕ → ℕ → Option Status → Type 0
TellsStatusAt phones p number told =
    (phone : PhoneValue) → slice_get phones p ≡ Some phone → TellsStatus phone.sender number told
