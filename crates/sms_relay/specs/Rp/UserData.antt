-- RP-User data: a length octet and as many octets as it says, at most 233 (3GPP TS 24.011,
-- 8.2.5.3).
use Rattle.std.specs.Prelude.{◌≡◌, ℕ, ◌≤◌, List, [], ◌∷◌, length, Option, Some, None}
use Rattle.sms_text.specs.Octets.{IsOctets}
use Rattle.sms_field.specs.Field.{Field, ◌>>=◌, octet_by, octets_of, up_to}
use Rattle.sms_field.specs.Field.Optional.{tagged}
use Rattle.sms_relay.specs.declared.user.TheConstants.{USER_DATA_MAX}
use Rattle.sms_relay.specs.declared.fault.RelayFault.{RelayFault}
use Rattle.sms_relay.specs.declared.fault.RelayFault.TheVariants.{Short, DataTooLong}

unfoldable pub user_data : Field (List ℕ) RelayFault
user_data = do
  -- the length of RP-User data; more than 233: DataTooLong
  count ← octet_by Short (up_to USER_DATA_MAX DataTooLong)
  -- the transfer unit (TPDU)
  octets_of Short count

-- after its information element identifier (IEI), 41 hexadecimal, or not there
abbrev pub user_data_tag : ℕ
user_data_tag = 65

abbrev pub optional_user_data : Field (Option (List ℕ)) RelayFault
optional_user_data = tagged user_data_tag user_data

abbrev pub user_octets : List ℕ → List ℕ
user_octets user = length user ∷ user

abbrev pub optional_user_octets : Option (List ℕ) → List ℕ
optional_user_octets None = []
optional_user_octets (Some user) = user_data_tag ∷ user_octets user

-- what has a spelling
abbrev pub IsUserData : List ℕ → Type 0
IsUserData user = (length user ≤ USER_DATA_MAX) × IsOctets user

abbrev pub IsOptionalUserData : Option (List ℕ) → Type 0
IsOptionalUserData None = Unit {0}
IsOptionalUserData (Some user) = IsUserData user

-- how user data are written
abbrev pub SpellsUserData : List ℕ → List ℕ → Type 0
SpellsUserData user octets = IsUserData user × (octets ≡ user_octets user)

-- how user data that may be left out are written
abbrev pub SpellsOptionalUserData : Option (List ℕ) → List ℕ → Type 0
SpellsOptionalUserData user octets = IsOptionalUserData user × (octets ≡ optional_user_octets user)
