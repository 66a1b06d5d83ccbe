-- What is read from octets has octets: the user data of messages.
use Rattle.std.specs.Prelude.{ℕ, List}
use Rattle.sms_text.specs.Octets.{IsOctets}
use Rattle.sms_field.specs.Reading.{Reads}
use Rattle.sms_field.specs.Reading.Values.{AreOptionalOctets}
use Rattle.sms_relay.specs.Cp.Value.{CpValue}
use Rattle.sms_relay.specs.Cp.{cp_message}
use Rattle.sms_relay.specs.Rp.Value.{RpValue}
use Rattle.sms_relay.specs.Rp.{rp_message}
use Rattle.sms_relay.specs.declared.cp.CpBody.{CpBody}
use Rattle.sms_relay.specs.declared.cp.CpBody.TheVariants as cp
use Rattle.sms_relay.specs.declared.rp.RpBody.{RpBody}
use Rattle.sms_relay.specs.declared.rp.RpBody.TheVariants as rp

abbrev pub HasCpOctets : CpBody → Type 0
HasCpOctets (cp.Transfer octets) = IsOctets octets
HasCpOctets cp.Ack = Unit {0}
HasCpOctets (cp.Fail cause) = Unit {0}

abbrev pub HasRpOctets : RpBody → Type 0
HasRpOctets (rp.Transfer address user) = IsOctets user
HasRpOctets (rp.Ack user) = AreOptionalOctets user
HasRpOctets (rp.Fail cause added user) = AreOptionalOctets user

abbrev pub CpOctetsAre : Type 0
CpOctetsAre =
    (m : CpValue) (input : List ℕ) (used : ℕ) → IsOctets input → Reads cp_message m input used
    → HasCpOctets m.body

abbrev pub RpOctetsAre : Type 0
RpOctetsAre =
    (m : RpValue) (input : List ℕ) (used : ℕ) → IsOctets input → Reads rp_message m input used
    → HasRpOctets m.body
