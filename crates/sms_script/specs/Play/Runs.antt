-- Runs of a network.
use Rattle.std.specs.Prelude.{◌≡◌, ℕ, List, [], ◌∷◌, ◌++◌, slice_index_or, Option, Some, None, Result, Ok, Err}
use Rattle.sms_script.specs.Play.Network.{Conduct}
use Rattle.sms_script.specs.Script.Settings.{SettingsValue}
use Rattle.sms_script.specs.Transcript.{Ended, Happened}
use Rattle.sms_script.specs.Transcript.Lines.{EntryValue, PacketValue}
use Rattle.sms_script.specs.declared.meaning.event.Event.{Event}
use Rattle.sms_script.specs.declared.meaning.event.Event.TheVariants.{Tick}

abbrev pub IsTick : Event → Type 0
IsTick (Tick n) = Unit {0}
IsTick _ = ⊥

abbrev pub nothing_ended : Ended
nothing_ended = record { statuses = []; store = [] }

-- what stands at a phone
abbrev pub ended_at : List Ended → ℕ → Ended
ended_at ends phone = slice_index_or ends phone nothing_ended

abbrev pub statuses_at : List Ended → ℕ → List (List ℕ)
statuses_at ends phone = (ended_at ends phone).statuses

abbrev pub store_at : List Ended → ℕ → List EntryValue
store_at ends phone = (ended_at ends phone).store

-- the network put out some more packets, and keeps those that it had put out
abbrev pub PutsOut : {N : Type 0} → Conduct N → N → N → Type 0
PutsOut c old new = (put : List PacketValue) × (c.put_out new ≡ c.put_out old ++ put)

-- what was answered in words was written, unless memory ran out for it
abbrev pub AreWords : {E : Type 0} → List ℕ → List ℕ → Result (Unit {0}) E → Type 0
AreWords words written (Ok done) = written ≡ words
AreWords words written (Err fault) = Unit {0}

-- an event led from one network to another, and this was written of what it answered
abbrev pub Answers : {N E : Type 0} → Conduct N → N → Event → N → List ℕ → Result (Unit {0}) E
    → Type 0
Answers c n event next written answer =
    (words : List ℕ) × c.Steps n event words next × AreWords words written answer

-- from one network to another by these events, with what each answered and the packets that it put
-- out
abbrev pub Ran : {N : Type 0} → Conduct N → N → List Event → List Happened → N → Type 0
Ran c n [] [] last = last ≡ n
Ran {N} c n (event ∷ events) (h ∷ hs) last =
    (next : N) × c.Steps n event h.words next × (c.put_out next ≡ c.put_out n ++ h.put)
    × Ran c next events hs last
Ran c n _ _ last = ⊥

-- where the clock starts is a tick, which is neither counted nor printed
abbrev pub Clocked : {N : Type 0} → Conduct N → Option ℕ → N → N → Type 0
Clocked c None first n = n ≡ first
Clocked c (Some seconds) first n = (words : List ℕ) × c.Steps first (Tick seconds) words n

-- a network before the first event of a script
abbrev pub Starts : {N : Type 0} → Conduct N → SettingsValue → N → Type 0
Starts {N} c s n =
    (first : N) × c.Begins s.limits s.known.addresses first × Clocked c s.clock first n
