-- A reader may pass this by: lemmas, for the proofs of this crate and of those above it.
--
-- Worked runs: lists of acts, and of events with their acts, the first first.
use Rattle.std.specs.Prelude.{Bool, true, ◌&&◌, List, [], ◌∷◌}
use Rattle.sms_world.specs.Told.{Told}
use Rattle.sms_world.specs.Machine.{Machine}
use Rattle.sms_party.specs.Sender.Texts.{width_of}
use Rattle.sms_world.specs.Machine.Event.{Event, Act, MovesPacket, IsMetAs}
use Rattle.sms_world.specs.Machine.Next.{next, packet}
use Rattle.sms_world.specs.OrderTests.{sent_in_order}

abbrev pub last_after : Machine → List Act → Machine
last_after m [] = m
last_after m (e ∷ es) = last_after (next m e).after es

abbrev pub answers_after : Machine → List Act → List Told
answers_after m [] = []
answers_after m (e ∷ es) = (next m e).answer ∷ answers_after (next m e).after es

-- what comes keeps all rules
abbrev pub all_orderly : Machine → List Act → Bool
all_orderly m [] = true
all_orderly m (MovesPacket k ∷ es) =
    sent_in_order m (packet m k) && all_orderly (next m (MovesPacket k)).after es
all_orderly m (e ∷ es) = all_orderly (next m e).after es

-- Each event is the act beside it, in the machine as it is when the event comes.
abbrev pub AreActs : Machine → List (Event × Act) → Type 0
AreActs m [] = Unit {0}
AreActs m (e ∷ es) = IsMetAs (width_of m.senders.wide) e.0 e.1 × AreActs (next m e.1).after es

-- these events with what is answered to each, the newest first, after those before
abbrev pub told_after : Machine → List (Event × Act) → List (Event × Told) → List (Event × Told)
told_after m [] past = past
told_after m (e ∷ es) past = told_after (next m e.1).after es ((e.0, (next m e.1).answer) ∷ past)

abbrev pub acts_of : List (Event × Act) → List Act
acts_of [] = []
acts_of (e ∷ es) = e.1 ∷ acts_of es
