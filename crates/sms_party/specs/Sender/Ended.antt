-- How a text has ended is told by its number. Calls have the newest first.
use Rattle.std.specs.Prelude.{◌≡◌, ℕ, suc, Bool, List, [], ◌∷◌, length, Some}
use Rattle.sms_field.specs.Address.Value.{AddressValue}
use Rattle.sms_join.specs.declared.units.Units.{Units}
use Rattle.sms_message.specs.declared.message.Message.{Message}
use Rattle.sms_party.specs.Sent.{nth}
use Rattle.sms_party.specs.Sender.Texts.{Text, SenderState, new_senders, number_of}
use Rattle.sms_party.specs.Sender.Calls.{composes, times_out}
use Rattle.sms_party.specs.Sender.Answers.{sender_takes}
use Rattle.sms_party.specs.Sender.Stands.{status_if, status_of}

pub data Call : Type 0 where
  Compose : (phone : ℕ) → (target : AddressValue) → (characters : List ℕ) → (pieces : List Units)
      → Call
  TimeOut : (phone : ℕ) → Call
  Take : (phone : ℕ) → Message → Call

abbrev pub called : SenderState → Call → SenderState
called x (Compose phone target characters pieces) =
    (composes x phone target characters pieces).after
called x (TimeOut phone) = (times_out x phone).after
called x (Take phone message) = (sender_takes x phone message).after

-- the senders after a list of calls, the last first
abbrev pub called_all : Bool → Bool → List Call → SenderState
called_all wide reject [] = new_senders wide reject
called_all wide reject (call ∷ past) = called (called_all wide reject past) call

-- of these texts, and whether they were accepted, the status of each by its number at the phone is
-- how it ended
abbrev pub AreTold : SenderState → ℕ → List (ℕ × Bool) → Type 0
AreTold x phone [] = Unit {0}
AreTold x phone (e ∷ ended) =
    (status_of x phone (number_of (nth x.texts e.0)) ≡ Some (status_if e.1)) × AreTold x phone ended

-- Whatever was typed and came to whichever phones, each text that has ended is told so.
abbrev pub EndedAreTold : Type 0
EndedAreTold =
    (wide reject : Bool) (calls : List Call) (phone : ℕ)
    → AreTold (called_all wide reject calls) phone
    ((called_all wide reject calls).sender phone).ended

-- text n was typed at the phone, as the one of this number there
pub record IsTypedAt (texts : List Text) (phone number n : ℕ) : Type 0 where
  pub text : Text
  pub typed : nth texts n ≡ Some text
  pub own : text.phone ≡ phone
  pub numbered : text.number ≡ number

-- these texts, the last first, were typed at the phone, as the first ones there
abbrev pub AreTyped : List Text → ℕ → List (ℕ × Bool) → Type 0
AreTyped texts phone [] = Unit {0}
AreTyped texts phone (e ∷ ended) =
    IsTypedAt texts phone (suc (length ended)) e.0 × AreTyped texts phone ended

-- Whatever was typed and came to whichever phones, the texts that have ended at a phone are the
-- first that were typed there, in the order of typing.
abbrev pub EndedAreTyped : Type 0
EndedAreTyped =
    (wide reject : Bool) (calls : List Call) (phone : ℕ)
    → AreTyped (called_all wide reject calls).texts phone
    ((called_all wide reject calls).sender phone).ended
