-- The transcript of a script: what its events answered and put out, and what stands at the phones
-- in the end.
pub mod Appended
pub mod Escapes
pub mod Lines
pub mod Shown
use Rattle.std.specs.Prelude.{ℕ, ◌+◌, List, [], ◌∷◌, ◌++◌, length, Bool, flat_map}
use Rattle.sms_script.specs.Meaning.Known.{name_of}
use Rattle.sms_script.specs.Transcript.Lines.{PacketValue, EntryValue, event_line, packet_line, sent_line, store_line, entry_line}

-- what an event answered, in words, and the packets that it put out
pub record Happened : Type 0 where
  pub words : List ℕ
  pub put : List PacketValue

-- what stands at a phone in the end: what became of its texts, a word for each, in order of their
-- numbers; and its store
pub record Ended : Type 0 where
  pub statuses : List (List ℕ)
  pub store : List EntryValue

-- the lines of packets, the first of which has this number
abbrev pub packet_lines : Bool → List (List ℕ) → ℕ → List PacketValue → List ℕ
packet_lines brief names number [] = []
packet_lines brief names number (packet ∷ more) =
    packet_line brief number (name_of names packet.phone) packet
    ++ packet_lines brief names (number + 1) more

-- The lines of events: for each its own, then those of the packets that it put out. Events and
-- packets are numbered from 1.
unfoldable pub event_lines : Bool → List (List ℕ) → ℕ → ℕ → List Happened → List ℕ
event_lines brief names event packet [] = []
event_lines brief names event packet (h ∷ more) =
    event_line event h.words
    ++ packet_lines brief names packet h.put
    ++ event_lines brief names (event + 1) (packet + length h.put) more

-- the lines of the texts of a phone, the first of which has this number
abbrev pub sent_lines : List ℕ → ℕ → List (List ℕ) → List ℕ
sent_lines name number [] = []
sent_lines name number (word ∷ more) =
    sent_line name number word ++ sent_lines name (number + 1) more

-- a phone in the end
abbrev pub phone_lines : List ℕ → Ended → List ℕ
phone_lines name ended =
    sent_lines name 1 ended.statuses ++ store_line name (length ended.store)
    ++ flat_map entry_line ended.store

-- each phone in the end, in their order
unfoldable pub final_lines : List (List ℕ) → List Ended → List ℕ
final_lines [] ends = []
final_lines (name ∷ names) [] = []
final_lines (name ∷ names) (ended ∷ ends) = phone_lines name ended ++ final_lines names ends

-- the whole transcript
abbrev pub transcript : Bool → List (List ℕ) → List Happened → List Ended → List ℕ
transcript brief names happened ends =
    event_lines brief names 1 1 happened ++ final_lines names ends
