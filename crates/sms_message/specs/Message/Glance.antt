-- What is known of a message at a glance: all but its unit and its report.
use Rattle.std.specs.Prelude.{◌≡◌, ◌<◌, ℕ, Bool, false, List}
use Rattle.sms_relay.specs.declared.side.Side.{Side}
use Rattle.sms_relay.specs.declared.inner.Inner.{Inner}
use Rattle.sms_relay.specs.declared.inner.Inner.TheVariants as inner
use Rattle.sms_relay.specs.declared.rp.RpBody.{RpBody}
use Rattle.sms_relay.specs.declared.rp.RpBody.TheVariants as rp
use Rattle.sms_message.specs.declared.glance.Glance.{Glance}
use Rattle.sms_message.specs.declared.glance.Glance.TheVariants as glance
use Rattle.sms_message.specs.declared.glance.RelayGlance.{RelayGlance}
use Rattle.sms_message.specs.declared.glance.RelayGlance.TheVariants as relay
use Rattle.sms_message.specs.declared.message.Relay.{Relay}
use Rattle.sms_message.specs.declared.message.Relay.TheVariants.{Transfer, Answer, UnknownType, Unreadable}
use Rattle.sms_message.specs.declared.message.Message.{Message}
use Rattle.sms_message.specs.declared.message.Message.TheVariants.{NotCp, Note, Tiny, Data}
use Rattle.sms_message.specs.Message.Reading.{ReadsAs}

abbrev pub relay_glance : Relay → RelayGlance
relay_glance (Transfer side unit) = relay.Transfer side
relay_glance (Answer side cause report) = relay.Answer side
relay_glance UnknownType = relay.NoRelay
relay_glance Unreadable = relay.NoRelay

abbrev pub glance_of : Message → Glance
glance_of NotCp = glance.NotCp
glance_of (Note flag value) = glance.Note flag value
glance_of (Tiny flag value) = glance.Tiny flag value
glance_of (Data flag tag r) = glance.Data flag tag (relay_glance r)

-- Octets are this at a glance: so is the message as which they are read.
abbrev pub IsSeenAs : List ℕ → Glance → Type 0
IsSeenAs octets seen = (message : Message) → ReadsAs octets message → glance_of message ≡ seen

-- the flag of the transaction
abbrev pub flag_of : Glance → Bool
flag_of glance.NotCp = false
flag_of (glance.Note flag value) = flag
flag_of (glance.Tiny flag value) = flag
flag_of (glance.Data flag tag r) = flag

-- the transaction value of what was seen
abbrev pub HasGlanceTag : Glance → Type 0
HasGlanceTag glance.NotCp = Unit {0}
HasGlanceTag (glance.Note flag value) = value < 7
HasGlanceTag (glance.Tiny flag value) = value < 7
HasGlanceTag (glance.Data flag tag r) = tag.value < 7

-- ---- what is found in a CP-DATA

abbrev pub body_glance : Side → RpBody → RelayGlance
body_glance side (rp.Transfer address user) = relay.Transfer side
body_glance side (rp.Ack user) = relay.Answer side
body_glance side (rp.Fail cause diagnostic user) = relay.Answer side

abbrev pub glance_in : Inner → RelayGlance
glance_in inner.Empty = relay.NoRelay
glance_in (inner.Relay message) = body_glance message.side message.body
glance_in (inner.Bad place why) = relay.NoRelay
