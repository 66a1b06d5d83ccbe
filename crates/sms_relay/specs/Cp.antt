-- CP messages in octets (3GPP TS 24.011, 7.2 and 8.1).
pub mod Kind
pub mod Seen
pub mod Value
use Rattle.std.specs.Prelude.{◌≡◌, ℕ, List, [], ◌∷◌, length}
use Rattle.sms_field.specs.Field.{Field, ◌>>=◌, always, octet, octet_by, octets_of}
use Rattle.sms_relay.specs.Transaction.{transaction, transaction_octet}
use Rattle.sms_relay.specs.Cp.Kind.{cp_kind, kind_octet}
use Rattle.sms_relay.specs.Cp.Value.{CpValue, IsCpMessage}
use Rattle.sms_relay.specs.declared.cp.CpBody.{CpBody}
use Rattle.sms_relay.specs.declared.cp.CpBody.TheVariants as body
use Rattle.sms_relay.specs.declared.cp_kind.CpKind.{CpKind}
use Rattle.sms_relay.specs.declared.cp_kind.CpKind.TheVariants as kind
use Rattle.sms_relay.specs.declared.fault.RelayFault.{RelayFault}
use Rattle.sms_relay.specs.declared.fault.RelayFault.TheVariants.{Short}

-- CP-DATA has a length octet and as many octets as it says, CP-ACK nothing, CP-ERROR its cause
unfoldable pub cp_body : CpKind → Field CpBody RelayFault
cp_body kind.Data = do
  -- CP-User Data: their length, and the octets
  count ← octet Short
  octets ← octets_of Short count
  always (body.Transfer octets)
cp_body kind.Ack = always body.Ack
cp_body kind.Error = do
  -- CP-Cause
  cause ← octet Short
  always (body.Fail cause)

unfoldable pub cp_message : Field CpValue RelayFault
cp_message = do
  -- protocol discriminator and transaction identifier; another protocol: NotSms; a reserved value:
  -- BadTransaction
  named ← octet_by Short transaction
  -- message type; another type: UnknownType
  kind ← octet_by Short cp_kind
  -- CP-User Data, or CP-Cause
  content ← cp_body kind
  always (record { flag = named.flag; value = named.value; body = content })

abbrev pub kind_of : CpBody → CpKind
kind_of (body.Transfer octets) = kind.Data
kind_of body.Ack = kind.Ack
kind_of (body.Fail cause) = kind.Error

abbrev pub cp_body_octets : CpBody → List ℕ
cp_body_octets (body.Transfer octets) = length octets ∷ octets
cp_body_octets body.Ack = []
cp_body_octets (body.Fail cause) = cause ∷ []

abbrev pub cp_octets : CpValue → List ℕ
cp_octets m =
    transaction_octet (record { flag = m.flag; value = m.value })
    ∷ kind_octet (kind_of m.body) ∷ cp_body_octets m.body

-- how a CP message is written
abbrev pub SpellsCp : CpValue → List ℕ → Type 0
SpellsCp m octets = IsCpMessage m × (octets ≡ cp_octets m)
