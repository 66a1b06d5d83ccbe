-- The world as the network of a script.
use Rattle.std.specs.Prelude.{◌≡◌, ℕ, List, map}
use Rattle.std.specs.Str.{encode_utf8_all}
use Rattle.sms_field.specs.Address.Value.{AddressValue}
use Rattle.sms_party.specs.Phone.{PhoneValue}
use Rattle.sms_party.specs.Receiver.State.{Entry}
use Rattle.sms_party.specs.Sender.Value.{statuses_in}
use Rattle.sms_script.specs.Play.Network.{Conduct}
use Rattle.sms_script.specs.Transcript.{Ended}
use Rattle.sms_script.specs.Transcript.Lines.{EntryValue}
use Rattle.sms_script.specs.declared.meaning.event.Event as given
use Rattle.sms_script.specs.declared.script.limits.Limits.{Limits}
use Rattle.sms_world.specs.Machine.{start}
use Rattle.sms_world.specs.Machine.Event.{Event}
use Rattle.sms_world.specs.Told.{Told}
use Rattle.sms_world.specs.Words.{told_text, status_text}
use Rattle.sms_world.specs.World.Standing.{StandsFor}
use Rattle.sms_world.specs.World.Steps.{event_of, Steps}
use Rattle.sms_world.specs.World.Value.{WorldValue}

-- a text in a store, its characters in UTF-8
abbrev pub entry_of : Entry → EntryValue
entry_of e = record { origin = e.origin; text = encode_utf8_all e.characters }

-- what stands at a phone: what became of its texts, and its store
abbrev pub ended_of : PhoneValue → Ended
ended_of phone =
    record {
      statuses = map status_text (statuses_in phone.sender);
      store = map entry_of phone.receiver.store;
    }

abbrev pub ends_of : WorldValue → List Ended
ends_of world = map ended_of world.parties.phones

-- the first state of the machine
abbrev pub Begins : Limits → List AddressValue → WorldValue → Type 0
Begins limits phones world = StandsFor world (start limits phones)

-- a step of the machine, and the words for what was answered
abbrev pub StepsInWords : WorldValue → given.Event → List ℕ → WorldValue → Type 0
StepsInWords old event words new =
    (told : Told) × (words ≡ told_text told) × Steps (event_of event) old told new

abbrev pub conduct : Conduct WorldValue
conduct =
    record {
      Begins = Begins;
      Steps = StepsInWords;
      put_out = λ world. world.packets;
      ends = ends_of;
    }

-- A network that has a world: an event is a step of its world, of which more is told, and the words
-- for what was answered.
abbrev pub conduct_with : {N : Type 0} → (N → WorldValue)
    → (Limits → List AddressValue → N → Type 0) → (Event → N → Told → N → Type 0) → Conduct N
conduct_with world_of BeginsWith GoesOnWith =
    record {
      Begins = BeginsWith;
      Steps = λ old event words new.
          (told : Told) × (words ≡ told_text told)
          × Steps (event_of event) (world_of old) told (world_of new)
          × GoesOnWith (event_of event) old told new;
      put_out = λ n. (world_of n).packets;
      ends = λ n. ends_of (world_of n);
    }
