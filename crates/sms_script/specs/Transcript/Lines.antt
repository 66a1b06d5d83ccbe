-- The lines of a transcript.
use Rattle.std.specs.Prelude.{ℕ, List, [], ◌∷◌, length, ◌==◌, Bool, codes, decimal, if◌then◌else◌}
use Rattle.std.specs.Str.{encode_utf8_all}
use Rattle.hex.specs.Hex.{encode_upper}
use Rattle.sms_field.specs.Address.Text.{address_text}
use Rattle.sms_field.specs.Address.Value.{AddressValue}
use Rattle.sms_script.specs.Transcript.Escapes.{escaped}
use Rattle.sms_script.specs.Transcript.Appended.{◌⊕◌}

-- a packet: from a phone up to the centre, or from the centre down to the phone
pub record PacketValue : Type 0 where
  pub is_up : Bool
  pub phone : ℕ
  pub octets : List ℕ

-- a text in a store: whom it is from, and its octets in UTF-8
pub record EntryValue : Type 0 where
  pub origin : AddressValue
  pub text : List ℕ

abbrev pub line_end : List ℕ
line_end = 10 ∷ []

-- the number of an event, and what it answered in words
abbrev pub event_line : ℕ → List ℕ → List ℕ
event_line number words = decimal number ⊕ codes " " ⊕ words ⊕ line_end

-- octets in hexadecimal, none as `-`; where packets are brief, how many they are
abbrev pub octets_text : Bool → List ℕ → List ℕ
octets_text brief octets =
    if brief then decimal (length octets)
    else if length octets == 0 then codes "-"
    else encode_upper octets

-- from whom, and to whom, by the name of the packet's phone
abbrev pub packet_line : Bool → ℕ → List ℕ → PacketValue → List ℕ
packet_line brief number name packet =
    if packet.is_up
    then codes "#" ⊕ decimal number ⊕ codes " " ⊕ name ⊕ codes ">centre "
    ⊕ octets_text brief packet.octets ⊕ line_end
    else codes "#" ⊕ decimal number ⊕ codes " centre>" ⊕ name ⊕ codes " "
    ⊕ octets_text brief packet.octets ⊕ line_end

-- what became of a text, in a word
abbrev pub sent_line : List ℕ → ℕ → List ℕ → List ℕ
sent_line name number word =
    codes "sent " ⊕ name ⊕ codes " " ⊕ decimal number ⊕ codes " " ⊕ word ⊕ line_end

abbrev pub store_line : List ℕ → ℕ → List ℕ
store_line name count = codes "store " ⊕ name ⊕ codes " " ⊕ decimal count ⊕ line_end

-- the origin and the text, both escaped
abbrev pub entry_line : EntryValue → List ℕ
entry_line entry =
    escaped (encode_utf8_all (address_text entry.origin)) ⊕ codes " " ⊕ escaped entry.text
    ⊕ line_end
