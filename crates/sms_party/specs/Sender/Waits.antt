-- What a sender waits for, and when it puts out what is late.
use Rattle.std.specs.Prelude.{◌⊎◌, ◌<◌, Bool, true, false, ◌&&◌, length}
use Rattle.sms_relay.specs.declared.side.Side.TheVariants.{ToPhone}
use Rattle.sms_message.specs.declared.glance.Glance.{Glance}
use Rattle.sms_message.specs.declared.glance.Glance.TheVariants.{Data}
use Rattle.sms_message.specs.declared.glance.RelayGlance.TheVariants.{Answer}
use Rattle.sms_message.specs.Message.{same_tag}
use Rattle.sms_message.specs.More.{is_more}
use Rattle.sms_party.specs.Sender.Value.{SenderValue}

-- While a text waits, an RP-ACK or RP-ERROR to the phone, in a transaction that the phone has
-- opened, with the tag of its latest putting out.
abbrev pub waits_for : SenderValue → Glance → Bool
waits_for v (Data true tag (Answer ToPhone)) = is_more v.pending && same_tag tag v.latest
waits_for v _ = false

-- A segment is put out when the answer has not come in time: the waiting one once more, or after
-- three repeats the first one of the next text.
abbrev pub PutsOutLate : SenderValue → Type 0
PutsOutLate v = ((0 < length v.pending) × (v.repeats < 3)) ⊎ (1 < length v.pending)
