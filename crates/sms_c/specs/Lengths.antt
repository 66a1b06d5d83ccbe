-- The octets that are always enough for an answer, as the numbers of sms.h.
use Rattle.std.specs.Prelude.{◌≡◌, ◌≤◌, ℕ, List, length}
use Rattle.std.specs.Str.{chars, IsUtf8}
use Rattle.sms_field.specs.Address.Text.{address_text}
use Rattle.sms_field.specs.Address.Value.{AddressValue, HasSpelling}
use Rattle.sms_text.specs.Octets.{IsOctets}
use Rattle.sms_tpdu.specs.Deliver.{SpellsDeliver}
use Rattle.sms_tpdu.specs.Report.{SpellsDeliverAck, SpellsDeliverError, SpellsSubmitAck, SpellsSubmitError}
use Rattle.sms_tpdu.specs.Sizes.{IsWithin}
use Rattle.sms_tpdu.specs.StatusReport.{SpellsStatusReport}
use Rattle.sms_tpdu.specs.Submit.{SpellsSubmit}
use Rattle.sms_relay.specs.Cp.{SpellsCp}
use Rattle.sms_c.specs.Parts.{user_chars}
use Rattle.sms_c.specs.declared.parts.UserSeen.{UserSeen}

-- in UTF-8 a text has at most so many octets
abbrev pub IsShortText : ℕ → List ℕ → Type 0
IsShortText limit text =
    (octets : List ℕ) → IsUtf8 octets → chars octets ≡ text → length octets ≤ limit

-- SMS_TEXT_MAX, for user data of at most 160 septets, or 140 octets (3GPP TS 23.040, 9.2.3.16)
abbrev pub TextsFit : Type 0
TextsFit =
    (octets : List ℕ) (user : UserSeen)
    → user.count ≤ 160 → user.body.length ≤ 140 → IsOctets octets
    → IsShortText 480 (user_chars octets user)

-- SMS_UNIT_MAX, for a message that is written
abbrev pub UnitsFit : Type 0
UnitsFit = IsWithin 192 SpellsSubmit × IsWithin 192 SpellsDeliver

-- and for a report
abbrev pub ReportsFit : Type 0
ReportsFit =
    IsWithin 192 SpellsDeliverAck × IsWithin 192 SpellsDeliverError
    × IsWithin 192 SpellsSubmitAck × IsWithin 192 SpellsSubmitError
    × IsWithin 192 SpellsStatusReport

-- SMS_PACKET_MAX, for a message of the connection
abbrev pub PacketsFit : Type 0
PacketsFit = IsWithin 258 SpellsCp

-- SMS_ADDRESS_TEXT_MAX
abbrev pub AddressTextsFit : Type 0
AddressTextsFit =
    (address : AddressValue) → HasSpelling address → IsShortText 33 (address_text address)
