-- By what a phone tells the deliveries of one-piece messages. Calls and acceptances have the newest
-- first.
use Rattle.std.specs.Prelude.{◌≡◌, ℕ, false, List, [], ◌∷◌, None}
use Rattle.sms_field.specs.Address.Value.{AddressValue}
use Rattle.sms_tpdu.specs.Deliver.{Delivery}
use Rattle.sms_tpdu.specs.UserData.ConcatenationFound.{concat_of_header}
use Rattle.sms_join.specs.declared.key.Key.{Key}
use Rattle.sms_join.specs.Piece.{key_of}
use Rattle.sms_join.specs.Key.{same_key}
use Rattle.sms_centre.specs.Centre.State.{Acceptance}
use Rattle.sms_centre.specs.Centre.Pushes.{delivery}
use Rattle.sms_centre.specs.Centre.Stamps.{Call, called_all}

-- the key of the piece that a delivery brings
abbrev pub key_in : Delivery → Key
key_in d = key_of d.origin d.stamp (concat_of_header d.user.header)

-- it is no segment of a longer message
abbrev pub IsOnePiece : Acceptance → Type 0
IsOnePiece a = concat_of_header a.submission.user.header ≡ None

-- Its deliveries have other keys than those of each message of the list to the same recipient,
-- where both are one piece; whether others wait makes no difference.
abbrev pub HasOwnKey : List AddressValue → Acceptance → List Acceptance → Type 0
HasOwnKey phones a [] = Unit {0}
HasOwnKey phones a (b ∷ past) =
    (b.recipient ≡ a.recipient → IsOnePiece a → IsOnePiece b
    → same_key (key_in (delivery phones a false)) (key_in (delivery phones b false)) ≡ false)
    × HasOwnKey phones a past

abbrev pub HaveOwnKeys : List AddressValue → List Acceptance → Type 0
HaveOwnKeys phones [] = Unit {0}
HaveOwnKeys phones (a ∷ past) = HasOwnKey phones a past × HaveOwnKeys phones past

-- Of all that the centre has ever accepted, deliveries of different one-piece messages to one phone
-- have different keys.
abbrev pub DeliveriesHaveOwnKeys : Type 0
DeliveriesHaveOwnKeys =
    (limit : ℕ) (phones : List AddressValue) (calls : List Call)
    → HaveOwnKeys phones (called_all limit phones calls).accepted
