-- What a packet and an entry that are lent stand for.
use Rattle.sms_script.specs.Transcript.Lines.{PacketValue, EntryValue}
use Rattle.sms_script.specs.declared.transcript.Packet.{Packet}
use Rattle.sms_script.specs.declared.transcript.Entry.{Entry}

abbrev pub shown : Packet → PacketValue
shown p = record { is_up = p.up; phone = p.phone; octets = p.octets.now }

abbrev pub stored : Entry → EntryValue
stored e = record { origin = e.origin.now; text = e.text.now }
