-- A reader may pass this by: contracts of private functions, and proofs, alone cite it.
--
-- One event of a script, and its lines.
use Rattle.std.specs.Prelude.{◌≡◌, ℕ, ◌+◌, List, ◌++◌, length, drop, Option, Result}
use Rattle.sms_script.specs.Play.Network.{Conduct}
use Rattle.sms_script.specs.Play.Puts.{PutsAtOnce}
use Rattle.sms_script.specs.Script.Settings.{SettingsValue}
use Rattle.sms_script.specs.Transcript.{packet_lines}
use Rattle.sms_script.specs.Transcript.Lines.{PacketValue, event_line}
use Rattle.sms_script.specs.declared.fault.PlayFault.{PlayFault}
use Rattle.sms_script.specs.declared.meaning.event.Event.{Event}

-- the line of an event, and those of the packets that it put out
abbrev pub event_text : SettingsValue → ℕ → List ℕ → ℕ → List PacketValue → List ℕ
event_text s number words first put =
    event_line number words ++ packet_lines s.is_brief s.known.names first put

-- the lines of the packets that were put out after the first ones
abbrev pub new_packet_lines : SettingsValue → ℕ → List PacketValue → List ℕ
new_packet_lines s first packets =
    packet_lines s.is_brief s.known.names (first + 1) (drop first packets)

-- the event changed the network as it may, and its lines went into the sink
abbrev pub TakesEvent : {N : Type 0} → Conduct N → N → Event → N → SettingsValue → ℕ
    → (old new : Option (List ℕ)) → Result (Unit {0}) PlayFault → Type 0
TakesEvent c n event next s number old new result =
    (words : List ℕ) × (put : List PacketValue) × c.Steps n event words next
    × (c.put_out next ≡ c.put_out n ++ put)
    × PutsAtOnce old new (event_text s number words (length (c.put_out n) + 1) put) result
