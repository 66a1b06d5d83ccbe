-- A reader may pass this by: contracts of private functions, and proofs, alone cite it.
use Rattle.std.specs.Prelude.{◌≡◌, ℕ, ◌≤◌, Bool, true, false, not, List, [], ◌∷◌, length, Option, Result, Ok, Err}
use Rattle.sms_field.specs.Address.Value.{AddressValue}
use Rattle.sms_join.specs.declared.units.Units.{Units}
use Rattle.sms_join.specs.Cut.{IsCut}
use Rattle.sms_message.specs.Does.{packets_of}
use Rattle.sms_message.specs.Message.{Origin}
use Rattle.sms_message.specs.Message.Reading.{ReadsAs}
use Rattle.sms_party.specs.Sender.Texts.{width_of}
use Rattle.sms_party.specs.Sender.Calls.{composes, times_out}
use Rattle.sms_centre.specs.Centre.Pushes.{centre_pushes}
use Rattle.sms_message.specs.declared.message.Message.{Message}
use Rattle.sms_message.specs.declared.outcome.Step.{Step}
use Rattle.sms_message.specs.declared.outcome.Dropped.{Dropped}
use Rattle.sms_message.specs.declared.outcome.Dropped.TheVariants as dropped
use Rattle.sms_script.specs.Transcript.Lines.{PacketValue}
use Rattle.sms_world.specs.declared.fault.WorldFault.TheVariants.{Party}
use Rattle.sms_world.specs.Machine.{Machine}
use Rattle.sms_world.specs.Machine.Next.{Next, by_sender, by_centre, pushed, comes, ticked}
use Rattle.sms_world.specs.World.Value.{PartiesValue}
use Rattle.sms_world.specs.World.Standing.{PartiesStand, ArePacketsOf}
use Rattle.sms_world.specs.World.Parties.{place_at}

-- packets of one way
abbrev pub on_way : Bool → ℕ → List (List ℕ) → List PacketValue
on_way up phone [] = []
on_way up phone (octets ∷ packets) =
    record { is_up = up; phone = phone; octets = octets } ∷ on_way up phone packets

-- The parties did this, and put out packets of this way, two at most. Or they dropped what came,
-- for this reason; or memory ran out, and they stand for what they stood for.
abbrev pub Answers : Bool → ℕ → Machine → Next → Result Step Dropped → PartiesValue → Type 0
Answers up phone m d (Ok step) new =
    (d.answer ≡ Ok step.outcome) × (length (packets_of step) ≤ 2)
    × ArePacketsOf (on_way up phone (packets_of step)) d.put × PartiesStand new d.after
Answers up phone m d (Err dropped.Memory) new = PartiesStand new m
Answers up phone m d (Err why) new =
    (d.answer ≡ Err (Party why)) × (d.put ≡ []) × PartiesStand new d.after

-- A text is typed at a phone: it has a cut, and the sender takes its pieces.
abbrev pub Types : ℕ → AddressValue → List ℕ → PartiesValue → Result Step Dropped → PartiesValue
    → Type 0
Types phone target text old result new =
    (m : Machine) → PartiesStand old m
    → (pieces : List Units) × IsCut (width_of m.senders.wide) text pieces
    × Answers true phone m (by_sender m (composes m.senders phone target text pieces)) result new

abbrev pub TimesOut : ℕ → PartiesValue → Result Step Dropped → PartiesValue → Type 0
TimesOut phone old result new =
    (m : Machine) → PartiesStand old m
    → Answers true phone m (by_sender m (times_out m.senders phone)) result new

abbrev pub Pushes : ℕ → ℕ → PartiesValue → Result Step Dropped → PartiesValue → Type 0
Pushes now phone old result new =
    (m : Machine) → PartiesStand old m → m.clock ≡ now
    → Answers false phone m
    (by_centre m (pushed phone (centre_pushes m.phones m.centre m.clock phone))) result new

-- Octets come to the centre from a phone, or to a phone: they are read as a message, and it does
-- what it does with the message, whatever segment the message is of and whichever putting out it
-- answers.
abbrev pub Receives : ℕ → Bool → ℕ → List ℕ → PartiesValue → Result Step Dropped → PartiesValue
    → Type 0
Receives now up phone octets old (Err dropped.Memory) new =
    (m : Machine) → PartiesStand old m → m.clock ≡ now → PartiesStand new m
Receives now up phone octets old result new =
    (message : Message) × ReadsAs octets message
    × ((m : Machine) (origin : Option Origin) (putting : Option ℕ)
    → PartiesStand old m → m.clock ≡ now
    → Answers (not up) phone m
    (comes m (place_at up phone) message origin putting) result new)

-- The clock moves on.
abbrev pub MovesTo : ℕ → PartiesValue → PartiesValue → Type 0
MovesTo now old new =
    (m : Machine) → PartiesStand old m → m.clock ≤ now → PartiesStand new (ticked m now)
