-- What C sees of an SMS-COMMAND that was read.
use Rattle.std.specs.Prelude.{◌≡◌, ℕ, List}
use Rattle.sms_tpdu.specs.Command.{CommandValue}
use Rattle.sms_tpdu.specs.Command.Spans.{CommandLies}
use Rattle.sms_tpdu.specs.declared.command.spans.CommandSpans.{CommandSpans}
use Rattle.sms_c.specs.Parts.{bit, span_at, span_if}
use Rattle.sms_c.specs.declared.reading.command.CommandSeen.{CommandSeen}

-- an SMS-COMMAND that was read at the front of the octets, with the address and the command data
-- where they lie
pub record ShowsCommand (value : CommandValue) (octets : List ℕ) (seen : CommandSeen) : Type 0 where
  pub has_header : seen.has_header ≡ bit value.has_header
  pub report : seen.report ≡ bit value.report
  pub reference : seen.reference ≡ value.reference
  pub pid : seen.pid ≡ value.pid
  pub kind : seen.kind ≡ value.kind
  pub message : seen.message ≡ value.message
  pub target_kind : seen.target.type_of_number ≡ value.target.kind
  pub target_plan : seen.target.plan ≡ value.target.plan
  pub spans : CommandSpans
  pub lie : CommandLies value octets seen.used spans
  pub target : seen.target.octets ≡ span_at spans.target
  pub «data» : seen.«data» ≡ span_at spans.«data».octets
  pub header : seen.header ≡ span_if spans.«data».header
