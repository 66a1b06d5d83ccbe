-- The open messages of a joiner for many recipients, as C goes through them.
use Rattle.std.specs.Prelude.{◌≡◌, ℕ, List, length, Option, Some, is_some, option_and_then}
use Rattle.sms_field.specs.Address.Text.{address_text}
use Rattle.sms_field.specs.Address.Value.{AddressValue}
use Rattle.sms_join.specs.Gateway.WithoutRecipient.{key_alone}
use Rattle.sms_join.specs.Key.{recipient_of}
use Rattle.sms_join.specs.OpenSets.{SetValue, IsOpen}
use Rattle.sms_join.specs.OpenSets.Told.{first_from}
use Rattle.sms_join.specs.declared.key.Key.{Key}
use Rattle.sms_c.specs.HandedOut.{OfText}
use Rattle.sms_c.specs.OpenMessages.{opened_as, ShowsKey, ShowsSequences}
use Rattle.sms_c.specs.Parts.{bit}
use Rattle.sms_c.specs.declared.gateway.telling.MessageTo.{MessageTo}
use Rattle.sms_c.specs.declared.joiner.telling.OpenMessage.{OpenMessage}

-- ---- one of them

-- the set with this key, without its recipient
pub record ShowsAs (shared : Key) (set : SetValue) (seen : OpenMessage) : Type 0 where
  pub seconds : seen.seconds ≡ set.opened
  pub opening : seen.opening ≡ set.turn
  pub key : ShowsKey shared seen
  pub count : seen.count ≡ length set.sequences
  pub come : ShowsSequences set.sequences seen.come

-- some of its segments have come, and some not; and this is what is told of it
pub record ShowsSetTo (set : SetValue) (seen : MessageTo) : Type 0 where
  pub is_open : IsOpen set
  pub message : ShowsAs (key_alone set.key) set seen.message
  pub recipient : seen.has_recipient ≡ bit (is_some (recipient_of set.key))

-- the first of these sets whose number of opening is this one or above
pub record ShowsFirstTo (opening : ℕ) (told : List SetValue) (seen : MessageTo) : Type 0 where
  pub set : SetValue
  pub first : first_from opening told ≡ Some set
  pub shows : ShowsSetTo set seen

-- ---- for whom one of them is

-- the recipient of the set of this number of opening
abbrev pub recipient_as : ℕ → List SetValue → Option AddressValue
recipient_as opening told = option_and_then (λ s. recipient_of s.key) (opened_as opening told)

-- what becomes of its text
pub record OfRecipient (opening : ℕ) (told : List SetValue) (Out : List ℕ → Type 0) : Type 0 where
  pub recipient : AddressValue
  pub there : recipient_as opening told ≡ Some recipient
  pub spelled : OfText (address_text recipient) Out
