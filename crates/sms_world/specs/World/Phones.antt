-- Lists of phones, as the code has them.
use Rattle.std.specs.Prelude.{ℕ, List, [], Option, Some, None, slice_get}
use Rattle.sms_party.specs.Receiver.State.{Entry}
use Rattle.sms_party.specs.Phone.{PhoneValue}
use Rattle.sms_party.specs.Sender.Value.{statuses_in}
use Rattle.sms_party.specs.declared.sender.Status.{Status}

-- the store of a phone; of one that there is not, an empty one
abbrev pub store_of : Option PhoneValue → List Entry
store_of None = []
store_of (Some phone) = phone.receiver.store

abbrev pub store_in : List PhoneValue → ℕ → List Entry
store_in phones p = store_of (slice_get phones p)

-- how the texts of a phone stand, the first typed first; of one that there is not, none
abbrev pub statuses_of_phone : Option PhoneValue → List Status
statuses_of_phone None = []
statuses_of_phone (Some phone) = statuses_in phone.sender

abbrev pub statuses_at : List PhoneValue → ℕ → List Status
statuses_at phones p = statuses_of_phone (slice_get phones p)
