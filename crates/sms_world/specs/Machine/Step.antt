-- What may come of an event, and runs: lists of events with what was answered to each. Runs have
-- the newest event first.
use Rattle.std.specs.Prelude.{◌≡◌, ◌⊎◌, Bool, true, false, nat_lt, List, [], ◌∷◌, length, is_some, Err}
use Rattle.sms_message.specs.declared.outcome.Dropped.TheVariants as dropped
use Rattle.sms_party.specs.Sent.{Sent}
use Rattle.sms_world.specs.declared.fault.WorldFault.TheVariants.{Party}
use Rattle.sms_world.specs.Told.{Told}
use Rattle.sms_party.specs.Sender.Texts.{width_of}
use Rattle.sms_world.specs.Machine.{Machine}
use Rattle.sms_world.specs.Machine.Event.{Event, Act, TypesText, MovesPacket, EndsWait, HandsOver, MovesClock, SlipsIn, IsMetAs}
use Rattle.sms_world.specs.Machine.Next.{next, packet, phone_of}

-- An event takes memory where it is for a packet or a phone that there is. A tick takes none.
unfoldable pub takes_memory : Machine → Act → Bool
takes_memory m (TypesText phone target characters pieces) = nat_lt phone (length m.phones)
takes_memory m (MovesPacket k) = is_some (packet m k)
takes_memory m (EndsWait phone) = nat_lt phone (length m.phones)
takes_memory m (HandsOver phone) = nat_lt phone (length m.phones)
takes_memory m (MovesClock seconds) = false
takes_memory m (SlipsIn place message) = nat_lt (phone_of place) (length m.phones)

abbrev pub no_memory : Told
no_memory = Err (Party dropped.Memory)

-- The machine does what it does where memory is ample; or, where the event takes memory, there is
-- none, and nothing changes.
abbrev pub Acts : Machine → Act → Told → List Sent → Machine → Type 0
Acts old act told put new =
    ((next old act).answer ≡ told × (next old act).put ≡ put × (next old act).after ≡ new)
    ⊎ (takes_memory old act ≡ true × no_memory ≡ told × [] ≡ put × old ≡ new)

-- The event was answered so, and this was put out, the first packet first.
abbrev pub Step : Machine → Event → Told → List Sent → Machine → Type 0
Step old event told put new =
    (act : Act) × IsMetAs (width_of old.senders.wide) event act × Acts old act told put new

-- A run from the first state to the last, in which the condition holds at each event, of the
-- machine as it is when the event comes.
abbrev pub RunWith : (Machine → Event → Type 0) → Machine → List (Event × Told) → Machine → Type 0
RunWith Keeps first [] last = first ≡ last
RunWith Keeps first (e ∷ past) last =
    (old : Machine) × RunWith Keeps first past old × Keeps old e.0
    × ((put : List Sent) × Step old e.0 e.1 put last)

-- any run
abbrev pub Run : Machine → List (Event × Told) → Machine → Type 0
Run first past last = RunWith (λ old event. Unit {0}) first past last
