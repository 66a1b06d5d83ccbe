-- A reader may pass this by: contracts of private functions, and proofs, alone cite it.
use Rattle.std.specs.Prelude.{ℕ, zero, suc, ◌-◌, true, nat_lt, if◌then◌else◌, length, Option, Some, None, slice_get}
use Rattle.std.specs.Option.{option_map, unwrap_or}
use Rattle.sms_centre.specs.Centre.Latest.{latest_at}
use Rattle.sms_field.specs.Address.Value.{AddressValue}
use Rattle.sms_message.specs.Address.{phone_at}
use Rattle.sms_message.specs.declared.outcome.Outcome.{Outcome}
use Rattle.sms_message.specs.declared.outcome.Outcome.TheVariants.{Typed}
use Rattle.sms_centre.specs.Centre.Value.{phones_of}
use Rattle.sms_script.specs.Transcript.Lines.{PacketValue}
use Rattle.sms_world.specs.declared.world.way.Way.{Way}
use Rattle.sms_world.specs.Ledger.{TextNote}
use Rattle.sms_world.specs.Noted.{Facts}
use Rattle.sms_world.specs.Machine.Event.{Event, Compose, Carry, Timeout, Push, Tick, Inject}
use Rattle.sms_world.specs.World.Parties.{place_at}
use Rattle.sms_world.specs.World.Value.{WorldValue}
use Rattle.sms_world.specs.World.Asked.{newest_at}

-- ---- what is told after an event

-- of no text
abbrev pub no_text : ℕ → TextNote
no_text phone = record { phone = phone; number = 0; recipient = None; size = 0; reference = 0 }

-- of a text that was typed at a phone, as the one of this number there, to an address
abbrev pub text_typed : WorldValue → ℕ → AddressValue → ℕ → TextNote
text_typed v phone target number =
    let newest = unwrap_or (newest_at v.parties.phones phone) (0, 0) in
    record {
      phone = phone;
      number = number;
      recipient = phone_at (phones_of v.parties.centre) target;
      size = newest.0;
      reference = newest.1;
    }

-- where one was typed
abbrev pub text_typed_to : WorldValue → ℕ → AddressValue → Outcome → TextNote
text_typed_to v phone target (Typed number) = text_typed v phone target number
text_typed_to v phone target _ = no_text phone

abbrev pub text_after : WorldValue → ℕ → Event → Outcome → TextNote
text_after v phone (Compose p target characters) told = text_typed_to v phone target told
text_after v phone _ told = no_text phone

abbrev pub facts_after : WorldValue → WorldValue → Way → Event → Outcome → Facts
facts_after old new way event told =
    record {
      put = length new.packets - length old.packets;
      text = text_after new way.phone event told;
      stamp = unwrap_or (latest_at new.parties.centre.lines way.phone) 0;
      to = place_at way.up way.phone;
    }

-- ---- the way of an event

abbrev pub way_at_phone : WorldValue → ℕ → Option Way
way_at_phone v phone =
    if nat_lt phone (length v.parties.phones)
    then Some (record { up = true; phone = phone })
    else None

abbrev pub packet_of : WorldValue → ℕ → Option PacketValue
packet_of v zero = None
packet_of v (suc k) = slice_get v.packets k

abbrev pub way_of_packet : WorldValue → ℕ → Option Way
way_of_packet v k =
    option_map (λ p. record { up = p.is_up; phone = p.phone }) (packet_of v k)

-- of one that is for a phone or a packet that there is
abbrev pub way_at : WorldValue → Event → Option Way
way_at v (Compose phone target characters) = way_at_phone v phone
way_at v (Carry k) = way_of_packet v k
way_at v (Timeout phone) = way_at_phone v phone
way_at v (Push phone) = way_at_phone v phone
way_at v (Tick seconds) = None
way_at v (Inject place octets) = None
