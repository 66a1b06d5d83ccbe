-- What a party does when it is called; and what it means that a call of the code did this.
use Rattle.std.specs.Prelude.{◌≡◌, ℕ, List, [], ◌∷◌, map, Option, Some, None, Result, Ok, Err}
use Rattle.sms_relay.specs.declared.side.Side.{Side}
use Rattle.sms_message.specs.Message.Carrying.{Carries}
use Rattle.sms_message.specs.Message.Answers.{answers}
use Rattle.sms_message.specs.declared.message.Tag.{Tag}
use Rattle.sms_message.specs.declared.message.Report.{Report}
use Rattle.sms_message.specs.declared.message.Message.{Message}
use Rattle.sms_message.specs.declared.outcome.Outcome.{Outcome}
use Rattle.sms_message.specs.declared.outcome.Outcome.TheVariants.{Refused, Noted}
use Rattle.sms_message.specs.declared.outcome.Dropped.{Dropped}
use Rattle.sms_message.specs.declared.outcome.Dropped.TheVariants as dropped
use Rattle.sms_message.specs.declared.outcome.Step.{Step}
use Rattle.sms_message.specs.declared.request.NotTaken.{NotTaken}
use Rattle.sms_message.specs.declared.request.NotTaken.TheVariants as untaken

-- The answer of a call, what is put out, the first first, and the state of the party afterwards.
pub record Does (S : Type 0) : Type 0 where
  pub answer : Result Outcome Dropped
  pub put : List Message
  pub after : S

-- Nothing comes of it.
abbrev pub drops : {S : Type 0} → S → Dropped → Does S
drops s why = record { answer = Err why; put = []; after = s }

-- A CP-ACK or CP-ERROR came.
abbrev pub notes : {S : Type 0} → S → Does S
notes s = record { answer = Ok Noted; put = []; after = s }

-- An RP-ERROR with this cause, and a report with this failure cause, if there is one.
abbrev pub refuses_with : {S : Type 0} → S → Side → Tag → ℕ → Option ℕ → Option Report → Does S
refuses_with s side tag cause failure report =
    record {
      answer = Ok (Refused cause failure);
      put = answers side tag (Some cause) report;
      after = s;
    }

-- What is not taken is dropped, or refused: with the report for its failure cause, if it has one.
abbrev pub turns_away : {S : Type 0} → S → Side → Tag → (ℕ → Report) → NotTaken → Does S
turns_away s side tag report untaken.Unmatched = drops s dropped.Unmatched
turns_away s side tag report (untaken.Refused cause None) = refuses_with s side tag cause None None
turns_away s side tag report (untaken.Refused cause (Some failure)) =
    refuses_with s side tag cause (Some failure) (Some (report failure))

-- ---- a call of the code

abbrev pub packets_of : Step → List (List ℕ)
packets_of step = map (λ packet. packet.items) step.packets.items

-- Each packet carries its message.
abbrev pub CarriesEach : List (List ℕ) → List Message → Type 0
CarriesEach [] [] = Unit {0}
CarriesEach (packet ∷ packets) (m ∷ ms) = Carries packet m × CarriesEach packets ms
CarriesEach _ _ = ⊥

-- It answered so, with packets that carry these messages, or memory ran out.
abbrev pub Puts : Outcome → List Message → Result Step Dropped → Type 0
Puts outcome messages (Ok step) = (step.outcome ≡ outcome) × CarriesEach (packets_of step) messages
Puts outcome messages (Err why) = why ≡ dropped.Memory

-- The call did this in a state: it answered so, its packets carry what was put out, and the value
-- stands for the state afterwards. Or memory ran out, and the value stands for the state that was.
-- Or it dropped what came, for this reason.
abbrev pub Answered : {S : Type 0} → (S → Type 0) → S → Does S → Result Step Dropped → Type 0
Answered Stands s d (Ok step) =
    (d.answer ≡ Ok step.outcome) × CarriesEach (packets_of step) d.put × Stands d.after
Answered Stands s d (Err dropped.Memory) = Stands s
Answered Stands s d (Err why) = (d.answer ≡ Err why) × Stands d.after
