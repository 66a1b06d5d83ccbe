-- A reader may pass this by: contracts of private functions, and proofs, alone cite it.
--
-- Honest events, as the code follows them: what it has noted stays right.
use Rattle.std.specs.Prelude.{◌≡◌, ℕ, true, List, ◌++◌, length, Option, Some, None}
use Rattle.sms_field.specs.Address.Value.{AddressValue}
use Rattle.sms_message.specs.Address.{are_distinct}
use Rattle.sms_party.specs.Sent.{Sent}
use Rattle.sms_script.specs.Transcript.Lines.{PacketValue}
use Rattle.sms_script.specs.declared.script.limits.Limits.{Limits}
use Rattle.sms_world.specs.declared.doubt.Doubt.{Doubt}
use Rattle.sms_world.specs.declared.doubt.Ground.{Ground}
use Rattle.sms_world.specs.declared.traces.TraceNotes.{TraceNotes}
use Rattle.sms_world.specs.Doubts.{IsHonest, HonestRun}
use Rattle.sms_world.specs.Machine.{Machine, start}
use Rattle.sms_world.specs.Machine.Event.{Event}
use Rattle.sms_world.specs.Machine.Step.{Step}
use Rattle.sms_world.specs.Told.{Told}
use Rattle.sms_world.specs.Traces.{Traces, AreTracesOf}
use Rattle.sms_world.specs.World.Standing.{ArePacketsOf, StandsFor}
use Rattle.sms_world.specs.World.Value.{WorldValue}

-- there is a row for each phone of the world
pub record AreTraceRows (n : TraceNotes) (world : WorldValue) : Type 0 where
  pub senders : length n.senders.items ≡ length world.parties.phones
  pub outs : length n.outs.items ≡ length world.parties.phones

-- the doubt after an event, the number of which is this
abbrev pub doubt_after : Option Doubt → ℕ → Option Ground → Option Doubt
doubt_after (Some d) number why = Some d
doubt_after None number None = None
doubt_after None number (Some why) = Some (record { event = number; why = why })

-- An honest run to a state that the old world stands for, an event that meets the conditions there,
-- and the step of the world at it.
pub record HonestStep (event : Event) (old : WorldValue) (t : Traces) (told : Told)
    (new : WorldValue) (n : Machine) : Type 0 where
  pub limits : Limits
  pub phones : List AddressValue
  pub past : List (Event × Told)
  pub before : Machine
  pub distinct : are_distinct phones ≡ true
  pub run : HonestRun (start limits phones) past before
  pub reject : before.senders.reject ≡ before.limits.reject
  pub right : AreTracesOf t before
  pub honest : IsHonest before event
  pub stands : StandsFor old before
  pub put : List Sent
  pub step : Step before event told put n
  pub after : StandsFor new n
  pub packets : List PacketValue
  pub more : new.packets ≡ old.packets ++ packets
  pub are : ArePacketsOf packets put

-- Right notes have become right notes.
abbrev pub FollowsTraces : Event → WorldValue → Traces → Told → WorldValue → Traces → Type 0
FollowsTraces event old t told new u =
    (n : Machine) → HonestStep event old t told new n → AreTracesOf u n
